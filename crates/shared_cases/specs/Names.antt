-- The order of the names of cases. Private contracts alone cite it.
use Rattle.std.specs.Prelude.{ℕ, ◌+◌, ◌*◌, ◌%◌, ◌^◌, List, [], ◌∷◌, if◌then◌else◌}
use Rattle.std.specs.Ordering.{nat_cmp}
use Rattle.std.specs.declared.cmp.Ordering.{Ordering}
use Rattle.std.specs.Cmp.Lexicographic.{slice_cmp}
use Rattle.path_model.specs.Trail.{Path}
use Rattle.shared_cases.specs.declared.case_name.CaseName.{CaseName}

-- the word with these numbers mixed into it, one after another
abbrev pub mixed_into : ℕ → List ℕ → ℕ
mixed_into word [] = word
mixed_into word (x ∷ xs) = mixed_into ((word * 11400714819323198485 % 2 ^ 64 + x) % 2 ^ 64) xs

-- the word of an AS and a path
unfoldable pub word_of : ℕ → Path → ℕ
word_of asn path = mixed_into (asn * 2 + (if path.set then 1 else 0)) path.chain

-- the name of the case of an AS and a path
abbrev pub name_of : ℕ → Path → CaseName
name_of asn path = record { word = word_of asn path; asn = asn; trail = path }

-- a name as one list of numbers
abbrev pub numbers_of : CaseName → List ℕ
numbers_of a = a.word ∷ a.asn ∷ (if a.trail.set then 1 else 0) ∷ a.trail.chain

abbrev pub name_cmp : CaseName → CaseName → Ordering
name_cmp a b = slice_cmp nat_cmp (numbers_of a) (numbers_of b)
