-- Records, of which some are read as prefix assertions.
use Rattle.std.proofs.Common.{◌≡◌, ℕ, ◌+◌, ◌<◌, ◌≤◌, List, [], ◌∷◌, ◌++◌, length, get_or, take, map, refl, ap, ◌∙◌, subst}
use Rattle.json_fields.specs.Each.{Each}
use Rattle.json_fields.proofs.EachLemmas.{each_grown, each_whole}
use Rattle.slurm_rules.specs.Form.{PrefixAssertionText, prefix_assertion_view}
use Rattle.slurm_rules.specs.declared.draft.DraftPrefixAssertion.{DraftPrefixAssertion}
use Rattle.validated.specs.Content.{Asserts}
use Rattle.validated.specs.Form.{roa_view}
use Rattle.validated.specs.declared.draft.DraftRoa.{DraftRoa}

-- the first records are these assertions
abbrev pub Asserting : List DraftRoa → ℕ → List DraftPrefixAssertion → Type 0
Asserting roas i assertions = Each Asserts (map roa_view (take i roas)) (map prefix_assertion_view assertions)

viewed_push : (xs : List DraftPrefixAssertion) (x : DraftPrefixAssertion)
    → map prefix_assertion_view (xs ++ x ∷ []) ≡ map prefix_assertion_view xs ++ prefix_assertion_view x ∷ []
viewed_push [] x = refl
viewed_push (y ∷ xs) x = ap (λ (zs : List PrefixAssertionText). prefix_assertion_view y ∷ zs) (viewed_push xs x)

pub asserting_next : (roas : List DraftRoa) (i j : ℕ) (roa : DraftRoa) (old new : List DraftPrefixAssertion) (a : DraftPrefixAssertion) → i < length roas
    → roa ≡ get_or roas i roa → Asserting roas i old → Asserts (roa_view roa) (prefix_assertion_view a) → new ≡ old ++ a ∷ [] → i + 1 ≡ j → Asserting roas j new
asserting_next roas i j roa old new a h at each is grown next =
    subst (λ (k : ℕ). Asserting roas k new) next
    (each_grown Asserts roa_view roas i roa (map prefix_assertion_view old) (map prefix_assertion_view new) (prefix_assertion_view a) h at each is
    (ap (map prefix_assertion_view) grown ∙ viewed_push old a))

pub asserting_end : (roas : List DraftRoa) (i : ℕ) (assertions : List DraftPrefixAssertion) → length roas ≤ i → Asserting roas i assertions
    → Each Asserts (map roa_view roas) (map prefix_assertion_view assertions)
asserting_end roas i assertions all each = each_whole Asserts roa_view roas i (map prefix_assertion_view assertions) all each
