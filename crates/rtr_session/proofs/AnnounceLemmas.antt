-- An announcement as the code performs it.
use Rattle.std.proofs.Common.{◌≡◌, ℕ, List, refl, sym, ap, subst, ◌∙◌}
use Rattle.std.specs.declared.option.Option.{Option}
use Rattle.std.specs.declared.option.Option.TheVariants.{Some}
use Rattle.std.specs.FinMap as map
use Rattle.path_model.specs.Rows.{RowMap, PatchMap, SetsRow, SetsPatch}
use Rattle.path_model.specs.Sets.{IsSetOf}
use Rattle.rtr_session.specs.declared.act.Act.TheVariants.{Nothing}
use Rattle.rtr_session.specs.State.{State}
use Rattle.rtr_session.specs.Client.{Announces, without_zero}
use Rattle.rtr_session.proofs.SetLemmas.{row_given}

-- both maps get the set of one list
pub sets_both : (old : State) (rows : RowMap) (changes : PatchMap) (customer : ℕ) (providers list copied : List ℕ) → list ≡ without_zero providers → copied ≡ list
    → SetsRow old.rows customer list rows → SetsPatch old.changes customer (Some copied) changes → Announces customer providers old Nothing (record old { rows = rows; changes = changes })
sets_both old rows changes customer providers list copied is same row patch =
    let is_set : IsSetOf (without_zero providers) row.row = subst (λ (l : List ℕ). IsSetOf l row.row) is row.is_set in
    let given : patch.row ≡ Some row.row = row_given copied row.row patch.row (subst (λ (l : List ℕ). IsSetOf l row.row) (sym same) row.is_set) patch.is_row in
    record {
      row = row.row;
      is_set = is_set;
      goes = record { act_is = refl; new_is = λ i. record old { rows = row.whole i; changes = (patch.whole ∙ ap (λ (o : Option (List ℕ)). map.insert old.changes customer o) given) i } };
    }
