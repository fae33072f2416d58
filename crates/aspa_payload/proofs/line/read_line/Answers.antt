use Rattle.std.proofs.lemmas.Result.{err_from_is_err_and}
use Rattle.aspa_payload.proofs.LineLemmas.{line_refused}
use Rattle.aspa_payload.proofs.line.read_line.Goals as goal

pub returns-in_err-payload : goal.returns-in_err-payload
returns-in_err-payload c =
    let p = err_from_is_err_and c.from_residual-in_err-payload.result c.from_residual-in_err-payload.ensures.1 in
    rw (p.1, p.2) (line_refused c.args.line.now _ _ c.in_ok-until.until _ c.split.ensures.text c.split.ensures.word c.in_ok-until.ensures.end c.in_err-payload.ensures)
