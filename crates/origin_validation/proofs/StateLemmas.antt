-- States by the parts of a look-up, one part after another.
use Rattle.std.proofs.Common.{◌≡◌, ℕ, true, List, [], ◌∷◌, refl, sym, ap, subst, ◌∙◌, ◌⊎◌, inl, inr, true≢false}
use Rattle.std.specs.declared.option.Option.{Option}
use Rattle.path_model.specs.Prefix.{Subnet}
use Rattle.origin_model.specs.declared.origin_state.OriginState.{OriginState}
use Rattle.origin_model.specs.declared.origin_state.OriginState.TheVariants.{Valid, Invalid, NotFound}
use Rattle.origin_model.specs.declared.prefix_filter.PrefixFilter.{PrefixFilter}
use Rattle.origin_model.specs.Covering.{Covers}
use Rattle.origin_model.specs.Current.{IsGiven}
use Rattle.origin_model.specs.OriginState.{HasState, better}
use Rattle.origin_model.specs.Vrp.{Payload}
use Rattle.origin_model.specs.VrpSet.{has}
use Rattle.origin_model.proofs.PayloadLemmas.{first_has, has_first}
use Rattle.origin_model.proofs.StateLemmas.{Goes, better_assoc, better_none, has_like, has_none, has_or}
use Rattle.origin_validation.specs.Records.{IsGivenUnhit, IsUnhit}

-- ---- a loop that takes one part after another

-- with the state by what is left, the state so far makes the state by all; and Valid makes it alone
pub record Folds (All Rest : Payload → Type 0) (prefix : Subnet) (origin : Option ℕ) (state : OriginState) : Type 0 where
  pub within : Goes prefix Rest All
  pub met : state ≡ Valid → HasState All prefix origin Valid
  pub each : (t : OriginState) → HasState Rest prefix origin t → HasState All prefix origin (better state t)

module _ (prefix : Subnet) (origin : Option ℕ) (All : Payload → Type 0) where
  pub folds_start : (Rest : Payload → Type 0) → Goes prefix Rest All → Goes prefix All Rest → Folds All Rest prefix origin NotFound
  folds_start Rest to from = record { within = to; met = λ e. absurd cc; each = λ t h. has_like prefix origin Rest All t to from h }

  -- what one part of them makes Valid, all do
  met_by : (One : Payload → Type 0) (s u : OriginState) → Goes prefix One All → (s ≡ Valid → HasState All prefix origin Valid) → HasState One prefix origin u → better s u ≡ Valid
      → HasState All prefix origin Valid
  met_by One Valid u to met one e = met refl
  met_by One Invalid Valid to met one e = record { payload = one.payload; is = to one.payload one.matches.covers one.is; matches = one.matches }
  met_by One Invalid Invalid to met one e = absurd cc
  met_by One Invalid NotFound to met one e = absurd cc
  met_by One NotFound Valid to met one e = record { payload = one.payload; is = to one.payload one.matches.covers one.is; matches = one.matches }
  met_by One NotFound Invalid to met one e = absurd cc
  met_by One NotFound NotFound to met one e = absurd cc

  pub folds_next : (Rest One More : Payload → Type 0) (s u : OriginState) → Folds All Rest prefix origin s → HasState One prefix origin u
      → Goes prefix Rest (λ v. One v ⊎ More v) → Goes prefix (λ v. One v ⊎ More v) Rest → Folds All More prefix origin (better s u)
  folds_next Rest One More s u f one split join = record {
    within = λ v covers a. f.within v covers (join v covers (inr a));
    met = met_by One s u (λ v covers a. f.within v covers (join v covers (inl a))) f.met one;
    each = λ t h. subst (HasState All prefix origin) (sym (better_assoc s u t))
        (f.each (better u t) (has_like prefix origin (λ v. One v ⊎ More v) Rest (better u t) join split (has_or prefix origin One More u t one h)));
  }

  pub folds_end : (Rest : Payload → Type 0) (s : OriginState) → Folds All Rest prefix origin s → ((v : Payload) → Covers v.prefix prefix → Rest v → ⊥) → HasState All prefix origin s
  folds_end Rest s f none = subst (HasState All prefix origin) (better_none s) (f.each NotFound (has_none prefix origin Rest none))

-- ---- payloads of one list

module _ (prefix : Subnet) (origin : Option ℕ) (P : Payload → Type 0) where
  abbrev pub Among : List Payload → Payload → Type 0
  Among ws v = (has ws v ≡ true) × P v

  pub among_next : (All : Payload → Type 0) (all ws : List Payload) (w : Payload) (s u : OriginState) → all ≡ w ∷ ws → Folds All (Among all) prefix origin s
      → HasState (λ v. (v ≡ w) × P v) prefix origin u → Folds All (Among ws) prefix origin (better s u)
  among_next All all ws w s u is f one = folds_next prefix origin All (Among all) (λ v. (v ≡ w) × P v) (Among ws) s u f one
      (λ v covers a. elim (has_first v w ws (ap (λ (vs : List Payload). has vs v) (sym is) ∙ a.0)) [ inl e ↦ inl (e, a.1) | inr later ↦ inr (later, a.1) ])
      (λ v covers a. elim a [
        | inl b ↦ (ap (λ (vs : List Payload). has vs v) is ∙ first_has v w ws (inl b.0), b.1)
        | inr b ↦ (ap (λ (vs : List Payload). has vs v) is ∙ first_has v w ws (inr b.0), b.1)
      ])

  pub among_end : (All : Payload → Type 0) (all : List Payload) (s : OriginState) → all ≡ [] → Folds All (Among all) prefix origin s → HasState All prefix origin s
  among_end All all s none f = folds_end prefix origin All (Among all) s f (λ v covers a. true≢false (sym a.0 ∙ ap (λ (vs : List Payload). has vs v) none))

-- ---- payloads of sources

module _ (prefix : Subnet) (origin : Option ℕ) (filters : List PrefixFilter) where
  abbrev pub Given : List (List ℕ × List Payload) → Payload → Type 0
  Given sources v = IsGivenUnhit sources filters v

  pub sources_next : (All : Payload → Type 0) (all more : List (List ℕ × List Payload)) (source : List ℕ × List Payload) (s u : OriginState) → all ≡ source ∷ more → Folds All (Given all) prefix origin s
      → HasState (IsUnhit source.1 filters) prefix origin u → Folds All (Given more) prefix origin (better s u)
  sources_next All all more source s u is f one = folds_next prefix origin All (Given all) (IsUnhit source.1 filters) (Given more) s u f one
      (λ v covers a. elim (subst (λ (ss : List (List ℕ × List Payload)). IsGiven ss v) is a.0) [ inl here ↦ inl (here, a.1) | inr later ↦ inr (later, a.1) ])
      (λ v covers a. elim a [
        | inl b ↦ (subst (λ (ss : List (List ℕ × List Payload)). IsGiven ss v) (sym is) (inl b.0), b.1)
        | inr b ↦ (subst (λ (ss : List (List ℕ × List Payload)). IsGiven ss v) (sym is) (inr b.0), b.1)
      ])

  pub sources_end : (All : Payload → Type 0) (all : List (List ℕ × List Payload)) (s : OriginState) → all ≡ [] → Folds All (Given all) prefix origin s → HasState All prefix origin s
  sources_end All all s none f = folds_end prefix origin All (Given all) s f (λ v covers a. subst (λ (ss : List (List ℕ × List Payload)). IsGiven ss v) none a.0)

-- ---- no payloads

pub none_there : (prefix : Subnet) (origin : Option ℕ) (payloads : List Payload) (filters : List PrefixFilter) → payloads ≡ [] → HasState (IsUnhit payloads filters) prefix origin NotFound
none_there prefix origin payloads filters none =
    has_none prefix origin (IsUnhit payloads filters) (λ v covers a. true≢false (sym a.0 ∙ ap (λ (vs : List Payload). has vs v) none))
