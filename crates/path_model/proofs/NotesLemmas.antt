-- Notes in front without the attribute, and the others behind them.
use Rattle.std.proofs.Common.{◌≡◌, sym, ap, ◌∙◌, ℕ, zero, suc, refl, ◌+◌, List, [], ◌++◌, replicate}
use Rattle.std.proofs.lemmas.List.{append-nil, replicate-append-replicate}
use Rattle.std.specs.List.{list_all}
use Rattle.path_model.specs.declared.otc.Otc.{Otc}
use Rattle.path_model.specs.declared.otc.Otc.TheVariants.{Absent}
use Rattle.path_model.specs.Notes.{is_absent}

pub more_absent : (n m : ℕ) (otc : Otc) (rest : List Otc) → rest ≡ [] → replicate (n + m) otc ++ rest ≡ (replicate n otc ++ rest) ++ replicate m otc
more_absent n m otc rest none =
    ap (λ r. replicate (n + m) otc ++ r) none
    ∙ append-nil (replicate (n + m) otc)
    ∙ sym (replicate-append-replicate n m otc)
    ∙ ap (λ l. l ++ replicate m otc) (sym (append-nil (replicate n otc)))
    ∙ ap (λ r. (replicate n otc ++ r) ++ replicate m otc) (sym none)

pub absent_before : (n : ℕ) (rest : List Otc) → list_all is_absent (replicate n Absent ++ rest) ≡ list_all is_absent rest
absent_before zero rest = refl
absent_before (suc n) rest = absent_before n rest
