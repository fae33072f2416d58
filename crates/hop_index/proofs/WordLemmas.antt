-- Where the chain of each case begins tells what all of them are.
use Rattle.std.proofs.Common.{◌≡◌, ◌≢◌, ℕ, nat_eq, ◌+◌, ◌≤◌, ◌<◌, Bool, true, false, cond, List, [], ◌∷◌, ◌++◌, length, take, drop, get_or, set, refl, ap, sym, ◌∙◌, arith, inl, inr}
use Rattle.std.proofs.lemmas.Bool.{cases_lt, eqb-false}
use Rattle.std.proofs.lemmas.List.{length-append, get_or_append_left, get_or-set_other, get_or-set_same, get_or_past, get_or_push}
use Rattle.std.proofs.lemmas.Map.Views.{exact_unsigned_eq}
use Rattle.std.proofs.Math.ListN.{get_or-map}
use Rattle.hop_index.specs.Loose.{SetsChain, chain_at}
use Rattle.hop_index.specs.Words.{AreWithin, IsWithin, chain_in, chains_in, no_place}

-- behind the end is none
pub none_in : (words : List ℕ) → length words ≤ no_place → chain_in words no_place ≡ []
none_in words few = ap (λ (n : ℕ). take n (drop (no_place + 1) words)) (get_or_past words no_place 0 few)

chain_is : (words begins : List ℕ) → length words ≤ no_place → (n : ℕ) → chain_at (chains_in words begins) n ≡ chain_in words (get_or begins n no_place)
chain_is words begins few n =
    ap (get_or (chains_in words begins) n) (sym (none_in words few)) ∙ get_or-map (chain_in words) begins n no_place

-- where one begins anew, the others are what they were
abbrev pub Begins : List ℕ → ℕ → ℕ → List ℕ → Type 0
Begins before case begin after = (n : ℕ) → get_or after n no_place ≡ cond (nat_eq n case) begin (get_or before n no_place)

pub begins_set : (begins : List ℕ) (case begin : ℕ) → case < length begins → Begins begins case begin (set begins case begin)
begins_set begins case begin below n = by_test (nat_eq n case) refl where
  by_test : (b : Bool) → nat_eq n case ≡ b → get_or (set begins case begin) n no_place ≡ cond b begin (get_or begins n no_place)
  by_test true is =
      ap (λ (k : ℕ). get_or (set begins case begin) k no_place) (exact_unsigned_eq n case is) ∙ get_or-set_same begins case begin no_place below
  by_test false is = get_or-set_other begins case n begin no_place (eqb-false n case is)

pub begins_push : (begins : List ℕ) (case begin : ℕ) → case ≡ length begins → Begins begins case begin (begins ++ begin ∷ [])
begins_push begins case begin at n = by_test (nat_eq n case) refl where
  by_test : (b : Bool) → nat_eq n case ≡ b → get_or (begins ++ begin ∷ []) n no_place ≡ cond b begin (get_or begins n no_place)
  by_test true is = get_or_push begins begin no_place n (omega (arith, at, exact_unsigned_eq n case is))
  by_test false is = elim (cases_lt n (length begins)) [
    | inl below ↦ get_or_append_left begins (begin ∷ []) no_place n below
    | inr past ↦
        let ne : n ≢ case = eqb-false n case is in
        get_or_past (begins ++ begin ∷ []) n no_place (omega (arith, past, ne, at, length-append begins (begin ∷ [])))
        ∙ sym (get_or_past begins n no_place past)
  ]

-- a case that has had no chain begins nowhere, as it did
pub begins_none : (begins : List ℕ) (case : ℕ) → length begins ≤ case → Begins begins case no_place begins
begins_none begins case past n = by_test (nat_eq n case) refl where
  by_test : (b : Bool) → nat_eq n case ≡ b → get_or begins n no_place ≡ cond b no_place (get_or begins n no_place)
  by_test true is = get_or_past begins n no_place (omega (arith, past, exact_unsigned_eq n case is))
  by_test false is = refl

abbrev Stays : List ℕ → List ℕ → Type 0
Stays words words' = (begin : ℕ) → IsWithin words begin → chain_in words' begin ≡ chain_in words begin

module _ (words words' begins begins' chain : List ℕ) (case begin : ℕ) (are : AreWithin words begins) (few : length words' ≤ no_place) (anew : Begins begins case begin begins') where
  pub sets_anew : Stays words words' → chain_in words' begin ≡ chain → SetsChain (chains_in words begins) case chain (chains_in words' begins')
  sets_anew same is n = chain_is words' begins' few n ∙ ap (chain_in words') (anew n) ∙ by_test (nat_eq n case) where
    by_test : (b : Bool) → chain_in words' (cond b begin (get_or begins n no_place)) ≡ cond b chain (chain_at (chains_in words begins) n)
    by_test true = is
    by_test false = same (get_or begins n no_place) (are.each n) ∙ sym (chain_is words begins are.few n)
