use Rattle.origin_validation.proofs.PassLemmas.{apart_unhit}
use Rattle.origin_validation.proofs.held.forget_hit_by.Goals as goal

pub returns-in-Some : goal.returns-in-Some
returns-in-Some c = apart_unhit c.args.f.now c.in-Some.prefix c.args.held.now.entries c.forget_under.new.held.entries c.in-Some.is c.forget_under.ensures
