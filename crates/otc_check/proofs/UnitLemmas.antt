-- The notes of one list of changes, and then those of another one.
use Rattle.std.proofs.Common.{◌≡◌, ℕ, List, [], ◌∷◌, ◌++◌, length, drop, refl, ap, sym, ◌∙◌, arith}
use Rattle.std.proofs.Math.Seq.{drop-append_seam}
use Rattle.path_model.specs.declared.change.Change.{Change}
use Rattle.path_model.specs.declared.change.Change.TheVariants.{Remove, Announce, RemovePeer}
use Rattle.path_model.specs.declared.otc.Otc.{Otc}
use Rattle.path_model.specs.Notes.{announced_of}
use Rattle.otc_check.specs.Marks.{Marked, marked_at, noted_by, without_peer}
use Rattle.otc_check.proofs.NotingLemmas.{noted_append}
use Rattle.std.specs.FinMap as fin

-- changes take no more notes than they have announcements
own_notes : (changes : List Change) (notes others : List Otc) (marks : Marked) → length notes ≡ announced_of changes
    → noted_by changes (notes ++ others) marks ≡ noted_by changes notes marks
own_notes [] notes others marks fits = refl
own_notes (Remove key ∷ more) notes others marks fits = own_notes more notes others (fin.remove marks key) fits
own_notes (RemovePeer peer ∷ more) notes others marks fits = own_notes more notes others (without_peer peer marks) fits
own_notes (Announce key path ∷ more) [] others marks fits = absurd (let never : ⊥ = omega (arith, fits) in never)
own_notes (Announce key path ∷ more) (note ∷ notes) others marks fits = own_notes more notes others (marked_at key note marks) (omega (arith, fits))

pub marks_go_on : (changes more : List Change) (notes others : List Otc) (marks : Marked) → length notes ≡ announced_of changes
    → noted_by (changes ++ more) (notes ++ others) marks ≡ noted_by more others (noted_by changes notes marks)
marks_go_on changes more notes others marks fits =
    let rest : drop (announced_of changes) (notes ++ others) ≡ others = ap (λ (n : ℕ). drop n (notes ++ others)) (sym fits) ∙ drop-append_seam notes others in
    noted_append changes more (notes ++ others) marks
    ∙ ap (λ (ns : List Otc). noted_by more ns (noted_by changes (notes ++ others) marks)) rest
    ∙ ap (noted_by more others) (own_notes changes notes others marks fits)
