use Rattle.std.proofs.Common.{Option, Vec, option_map, sym, subst}
use Rattle.std.proofs.lemmas.Result.{err_from_is_err_and}
use Rattle.std.specs.declared.alloc.Global.{Global}
use Rattle.std.specs.declared.result.Result.TheVariants.{Err}
use Rattle.json_fields.specs.Tokens.{items_view}
use Rattle.validated.specs.Content.{RecordsAre}
use Rattle.validated.specs.Form.{roa_view}
use Rattle.validated.specs.declared.draft.DraftRoa.{DraftRoa}
use Rattle.validated.proofs.AnswerLemmas.{records_missed}
use Rattle.validated.proofs.records.read_records.Goals as goal

pub returns-in_err-payloads : goal.returns-in_err-payloads
returns-in_err-payloads c =
    let p = err_from_is_err_and c.from_residual.result c.from_residual.ensures.1 in
    rw (p.1, p.2) (subst (λ (o : Option (Vec DraftRoa Global)). RecordsAre (option_map (items_view roa_view) o) (Err c.in_err-payloads.field-0.0)) (sym c.in-Some.is)
    (records_missed ((items_view roa_view) c.in-Some.roas) _ c.in_err-payloads.ensures))
