-- Passes over payloads and over filters, each of which forgets what one of them may concern.
use Rattle.std.proofs.Common.{◌≡◌, true, List, ◌∷◌, Some, sym, ap, subst, ◌∙◌, ◌⊎◌, inl, inr}
use Rattle.std.specs.declared.option.Option.{Option}
use Rattle.path_model.specs.Prefix.{Subnet}
use Rattle.origin_model.specs.declared.prefix_filter.PrefixFilter.{PrefixFilter}
use Rattle.origin_model.specs.Covering.{Covers}
use Rattle.origin_model.specs.PrefixFilter.{AgreesInPrefix, IsHit}
use Rattle.origin_model.specs.Vrp.{Payload}
use Rattle.origin_model.specs.VrpSet.{has}
use Rattle.origin_model.proofs.CoverLemmas.{covers_through}
use Rattle.origin_model.proofs.PayloadLemmas.{has_first}
use Rattle.origin_validation.specs.Held.{Pair, Entries, IsAmongCovering, IsApart, IsUnhitBy, Keeps}
use Rattle.origin_validation.proofs.HeldLemmas.{keeps_then, keeps_weaker}

-- ---- payloads

-- what covers the pair and is one of all is among others, or it is left
abbrev pub Unless : List Payload → List Payload → List Payload → Pair → Type 0
Unless all others rest p = (v : Payload) → Covers v.prefix p.0 → has all v ≡ true → (has others v ≡ true) ⊎ (has rest v ≡ true)

module _ (all others : List Payload) where
  pub payloads_next : (rest more : List Payload) (w : Payload) (es fs gs : Entries) → rest ≡ w ∷ more → Keeps (Unless all others rest) es fs → Keeps (IsAmongCovering others w) fs gs
      → Keeps (Unless all others more) es gs
  payloads_next rest more w es fs gs is f g =
      keeps_weaker (λ p. Unless all others rest p × IsAmongCovering others w p) (Unless all others more) es gs
      (λ p both v covers h. elim (both.0 v covers h) [
        | inl among ↦ inl among
        | inr left ↦ elim (has_first v w more (ap (λ (vs : List Payload). has vs v) (sym is) ∙ left)) [
          | inl e ↦ inl (subst (λ (u : Payload). has others u ≡ true) (sym e) (both.1 (subst (λ (u : Payload). Covers u.prefix p.0) e covers)))
          | inr later ↦ inr later
        ]
      ])
      (keeps_then (Unless all others rest) (IsAmongCovering others w) es fs gs f g)

-- ---- filters

-- what one of all hits, and covers the pair, one that is left hits
abbrev pub HitLater : List PrefixFilter → List PrefixFilter → Pair → Type 0
HitLater all rest p = (v : Payload) → Covers v.prefix p.0 → IsHit all v → IsHit rest v

-- what a filter hits lies under its prefix, and so does what that covers
pub apart_unhit : (f : PrefixFilter) (prefix : Subnet) (es fs : Entries) → f.prefix ≡ Some prefix → Keeps (IsApart prefix) es fs → Keeps (IsUnhitBy f) es fs
apart_unhit f prefix es fs is k = keeps_weaker (IsApart prefix) (IsUnhitBy f) es fs
    (λ p apart v covers hits. apart (covers_through prefix v.prefix p.0 (subst (λ (o : Option Subnet). AgreesInPrefix o v) is hits.prefix) covers)) k
