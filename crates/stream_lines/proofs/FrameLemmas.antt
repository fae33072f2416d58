-- What a call on a shelf leaves of the other files.
use Rattle.std.proofs.Common.{◌≡◌, ◌≢◌, ℕ, ◌<◌, List, [], ◌∷◌, ◌++◌, zero, suc, None, Some, IfSome, length, drop, refl, sym, ◌∙◌, subst, arith}
use Rattle.std.specs.Prelude.{slice_get}
use Rattle.std.specs.Option.{option_map}
use Rattle.std.specs.declared.option.Option.{Option}
use Rattle.av_base.specs.Files.{Files, Opens, closes, left_of, reads, opens}
use Rattle.av_base.proofs.FilesLemmas.{left_of-closes_other, named-closes}
use Rattle.av_base.proofs.PlacesLemmas.{get-change_other}
use Rattle.stream_lines.specs.Frames.{names_of, Leaves}

pub Leaves-refl : (P : ℕ → Type 0) (files : Option Files) → Leaves P files files
Leaves-refl P files = record { names = refl; files = λ file other. refl }

pub Leaves-trans : {P : ℕ → Type 0} {old mid new : Option Files} → Leaves P old mid → Leaves P mid new → Leaves P old new
Leaves-trans {P} {old} {mid} {new} a b = record { names = b.names ∙ a.names; files = λ file p. b.files file p ∙ a.files file p }

pub Leaves-weaker : {P Q : ℕ → Type 0} {old new : Option Files} → Leaves P old new → ((file : ℕ) → Q file → P file) → Leaves Q old new
Leaves-weaker {P} {Q} {old} {new} a weaker = record { names = a.names; files = λ file q. a.files file (weaker file q) }

reads_names : (file n : ℕ) (old : Option Files) → names_of (option_map (reads file n) old) ≡ names_of old
reads_names file n None = refl
reads_names file n (Some told) = refl

reads_others : (file n : ℕ) (old : Option Files) (other : ℕ) → other ≢ file → left_of (option_map (reads file n) old) other ≡ left_of old other
reads_others file n None other differ = refl
reads_others file n (Some told) other differ = get-change_other (drop n) file other told.left differ

closes_others : (file : ℕ) (old : Option Files) (other : ℕ) → other ≢ file → left_of (option_map (closes file) old) other ≡ left_of old other
closes_others file old other differ = left_of-closes_other old file other differ

closes_names : (file : ℕ) (old : Option Files) → names_of (option_map (closes file) old) ≡ names_of old
closes_names file old = named-closes old file

-- a file that is let go leaves all others
pub Leaves-closes : (file : ℕ) (old new : Option Files) → new ≡ option_map (closes file) old → Leaves (λ other. other ≢ file) old new
Leaves-closes file old new is =
    subst (λ (files : Option Files). Leaves (λ other. other ≢ file) old files) (sym is) (record { names = closes_names file old; files = closes_others file old })

-- a read leaves all but its own file
pub Leaves-reads : (file n : ℕ) (old new : Option Files) → new ≡ option_map (reads file n) old → Leaves (λ other. other ≢ file) old new
Leaves-reads file n old new is =
    subst (λ (files : Option Files). Leaves (λ other. other ≢ file) old files) (sym is) (record { names = reads_names file n old; files = reads_others file n old })

before_last : (xs : List (List ℕ)) (x : List ℕ) (k : ℕ) → k < length xs → slice_get (xs ++ x ∷ []) k ≡ slice_get xs k
before_last [] x k below = absurd (omega (arith, below))
before_last (y ∷ ys) x zero below = refl
before_last (y ∷ ys) x (suc k) below = before_last ys x k (omega (arith, below))

opens_leaves : (old : Option Files) (bytes : List ℕ) (before : ℕ) → IfSome old (λ files. length files.left ≡ before) → Leaves (λ other. other < before) old (option_map (opens bytes) old)
opens_leaves None bytes before count = record { names = refl; files = λ other below. refl }
opens_leaves (Some files) bytes before count = record { names = refl; files = λ other below. before_last files.left bytes other (omega (arith, below, count)) }

-- an opening leaves all files that were opened before
pub Leaves-opens : (old new : Option Files) (before after : ℕ) (name : List ℕ) (file : ℕ) → Opens old new before after name file
    → IfSome old (λ files. length files.left ≡ before) → Leaves (λ other. other < before) old new
Leaves-opens old new before after name file opened count =
    subst (λ (files : Option Files). Leaves (λ other. other < before) old files) (sym opened.told) (opens_leaves old opened.bytes before count)
