-- Words that must be ASes.
use Rattle.std.proofs.Common.{◌≡◌, ℕ, suc, List, [], ◌∷◌, ◌++◌, length, map, decimal, slice_get, Some, refl, sym, ap, ◌∙◌}
use Rattle.av_text.specs.Number.{IsNoNumber}
use Rattle.script_lines.specs.Forms.{SomeNoAs}

get_behind_map : (numbers : List ℕ) (word : List ℕ) (more : List (List ℕ)) → slice_get (map decimal numbers ++ word ∷ more) (length numbers) ≡ Some word
get_behind_map [] word more = refl
get_behind_map (n ∷ ns) word more = get_behind_map ns word more

-- the first word that isn't a number, behind some that are
pub no_as_behind : (words : List (List ℕ)) (numbers : List ℕ) (word : List ℕ) (more : List (List ℕ)) → map decimal numbers ++ word ∷ more ≡ words → IsNoNumber word → SomeNoAs words
no_as_behind words numbers word more whole no_number = record { word = word; place = length numbers; among = ap (λ (ws : List (List ℕ)). slice_get ws (length numbers)) (sym whole) ∙ get_behind_map numbers word more; no_number = no_number }

pub no_as_first : (word : List ℕ) (more : List (List ℕ)) → IsNoNumber word → SomeNoAs (word ∷ more)
no_as_first word more no_number = record { word = word; place = 0; among = refl; no_number = no_number }

pub no_as_later : (word : List ℕ) (more : List (List ℕ)) → SomeNoAs more → SomeNoAs (word ∷ more)
no_as_later word more some = record { word = some.word; place = suc some.place; among = some.among; no_number = some.no_number }
