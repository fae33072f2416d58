-- The chain of ASes that are gone through from the last one on.
use Rattle.std.proofs.Common.{◌≡◌, ℕ, zero, suc, ◌+◌, ◌*◌, ◌<◌, ◌≤◌, List, [], ◌∷◌, ◌++◌, length, slice_index_or, Some, None, refl, sym, ap, subst, ◌∙◌, append_assoc, arith}
use Rattle.std.specs.declared.option.Option.{Option}
use Rattle.std.specs.Int.{w32, from_be_bytes}
use Rattle.std.proofs.lemmas.List.{append-nil}
use Rattle.path_model.specs.Trail.{IsChain, chain_of}
use Rattle.path_model.proofs.TrailLemmas.{IsChain-chain_of}
use Rattle.bgp_attrs.specs.Parts.{AreWhole, head_of}
use Rattle.bgp_attrs.specs.Segments.{numbers_4}

numbers-append : (count : ℕ) (front last : List ℕ) → length front ≡ 4 * count → numbers_4 (front ++ last) ≡ numbers_4 front ++ numbers_4 last
numbers-append count [] last e = refl
numbers-append count (a ∷ []) last e = absurd (omega (arith, e))
numbers-append count (a ∷ b ∷ []) last e = absurd (omega (arith, e))
numbers-append count (a ∷ b ∷ c ∷ []) last e = absurd (omega (arith, e))
numbers-append zero (a ∷ b ∷ c ∷ d ∷ front) last e = absurd (omega (arith, e))
numbers-append (suc count) (a ∷ b ∷ c ∷ d ∷ front) last e = ap (λ (xs : List ℕ). from_be_bytes w32 (a ∷ b ∷ c ∷ d ∷ []) ∷ xs) (numbers-append count front last (omega (arith, e)))

-- the number that four bytes spell
abbrev pub number_of : List ℕ → ℕ
number_of last = from_be_bytes w32 (slice_index_or last 0 0 ∷ slice_index_or last 1 0 ∷ slice_index_or last 2 0 ∷ slice_index_or last 3 0 ∷ [])

four_bytes : (last : List ℕ) → length last ≡ 4 → numbers_4 last ≡ number_of last ∷ []
four_bytes [] e = absurd (omega (arith, e))
four_bytes (a ∷ []) e = absurd (omega (arith, e))
four_bytes (a ∷ b ∷ []) e = absurd (omega (arith, e))
four_bytes (a ∷ b ∷ c ∷ []) e = absurd (omega (arith, e))
four_bytes (a ∷ b ∷ c ∷ d ∷ []) e = refl
four_bytes (a ∷ b ∷ c ∷ d ∷ x ∷ xs) e = absurd (omega (arith, e))

-- the last number is that of the last four bytes
pub numbers_last : (bytes front last : List ℕ) → front ++ last ≡ bytes → length last ≡ 4 → AreWhole front → numbers_4 bytes ≡ numbers_4 front ++ number_of last ∷ []
numbers_last bytes front last e four whole =
    ap numbers_4 (sym e) ∙ numbers-append whole.0 front last whole.1 ∙ ap (λ (xs : List ℕ). numbers_4 front ++ xs) (four_bytes last four)

-- ASes were gone through from the last one on, up to a rest
pub record IsGathered (bytes rest chain : List ℕ) (last : Option ℕ) : Type 0 where
  pub behind : List ℕ
  pub all : numbers_4 bytes ≡ numbers_4 rest ++ behind
  pub made : chain ≡ chain_of behind
  pub first : last ≡ head_of behind
  pub whole : AreWhole rest

pub gathered_none : (bytes chain : List ℕ) → chain ≡ [] → AreWhole bytes → IsGathered bytes bytes chain None
gathered_none bytes chain e whole = record { behind = []; all = sym (append-nil (numbers_4 bytes)); made = e; first = refl; whole = whole }

whole_front : (count : ℕ) (rest front : List ℕ) → length rest ≡ 4 * count → length rest ≡ length front + 4 → AreWhole front
whole_front zero rest front e more = absurd (omega (arith, e, more))
whole_front (suc count) rest front e more = (count, omega (arith, e, more))

pub gathered_more : (bytes rest front before after : List ℕ) (last : Option ℕ) (asn : ℕ) → length rest ≡ length front + 4 → (AreWhole front → numbers_4 rest ≡ numbers_4 front ++ asn ∷ [])
    → ((behind : List ℕ) → last ≡ head_of behind → before ≡ chain_of behind → after ≡ chain_of (asn ∷ behind)) → IsGathered bytes rest before last → IsGathered bytes front after (Some asn)
gathered_more bytes rest front before after last asn shorter spelled put gathered =
    let whole = whole_front gathered.whole.0 rest front gathered.whole.1 shorter in
    record {
      behind = asn ∷ gathered.behind;
      all = gathered.all ∙ ap (λ (xs : List ℕ). xs ++ gathered.behind) (spelled whole) ∙ append_assoc (numbers_4 front) (asn ∷ []) gathered.behind;
      made = put gathered.behind gathered.first gathered.made;
      first = refl;
      whole = whole;
    }

none_left : (count : ℕ) (rest : List ℕ) → length rest < 4 → length rest ≡ 4 * count → numbers_4 rest ≡ []
none_left count [] few e = refl
none_left zero (a ∷ rest) few e = absurd (omega (arith, e))
none_left (suc count) (a ∷ rest) few e = absurd (omega (arith, e))

-- all were gone through
pub gathered_all : (bytes rest chain : List ℕ) (last : Option ℕ) → length rest < 4 → IsGathered bytes rest chain last → chain ≡ chain_of (numbers_4 bytes)
gathered_all bytes rest chain last few gathered =
    gathered.made ∙ ap chain_of (sym (gathered.all ∙ ap (λ (xs : List ℕ). xs ++ gathered.behind) (none_left gathered.whole.0 rest few gathered.whole.1)))

pub gathered_chain : (bytes rest chain : List ℕ) (last : Option ℕ) → length rest < 4 → length (numbers_4 bytes) ≤ 65535 → IsGathered bytes rest chain last → IsChain chain
gathered_chain bytes rest chain last few short gathered =
    subst (λ (c : List ℕ). IsChain c) (sym (gathered_all bytes rest chain last few gathered)) (IsChain-chain_of (numbers_4 bytes) short)
