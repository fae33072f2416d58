-- A file is one tree, or none.
use Rattle.std.proofs.Common.{◌≡◌, ℕ, inl, inr, Bool, true, false, List, Option, Some, None, refl}
use Rattle.std.specs.Str.{is_utf8}
use Rattle.std.proofs.lemmas.Str.{IsUtf8-from_is_utf8, is_utf8-from_IsUtf8}
use Rattle.serde_json.specs.Data.{Data}
use Rattle.serde_json.specs.Read.{read}
use Rattle.json_fields.specs.Tree.{IsTree}
use Rattle.json_fields.proofs.FoundLemmas.{SomeOrNone, clash, none_found, same_some}

pub one_tree : (bytes : List ℕ) (t u : Data) → IsTree bytes t → IsTree bytes u → t ≡ u
one_tree bytes t u h k = same_some (read bytes) t u h.1 k.1

tree_by : (bytes : List ℕ) (b : Bool) (o : Option Data) → is_utf8 bytes ≡ b → read bytes ≡ o → SomeOrNone (IsTree bytes)
tree_by bytes false o e f = inr (λ t h. clash _ (is_utf8-from_IsUtf8 bytes h.0) e)
tree_by bytes true None e f = inr (λ t h. none_found (read bytes) t f h.1)
tree_by bytes true (Some t) e f = inl (t, (IsUtf8-from_is_utf8 bytes e, f))

pub tree_or_none : (bytes : List ℕ) → SomeOrNone (IsTree bytes)
tree_or_none bytes = tree_by bytes (is_utf8 bytes) (read bytes) refl refl
