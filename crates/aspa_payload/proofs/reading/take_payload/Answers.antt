use Rattle.std.proofs.lemmas.Result.{err_from_is_err_and}
use Rattle.aspa_payload.proofs.ReadingLemmas.{unit_refused}
use Rattle.aspa_payload.proofs.reading.take_payload.Goals as goal

pub returns-in_err-payload : goal.returns-in_err-payload
returns-in_err-payload c =
    let p = err_from_is_err_and c.from_residual-in_err-payload.result c.from_residual-in_err-payload.ensures.1 in
    rw (p.1, p.2) (unit_refused c.args.bytes.now c.in_ok-content.content.now c.in_ok-content.rest.now c.in_ok-content.ensures.spelled _ c.in_err-payload.ensures)
