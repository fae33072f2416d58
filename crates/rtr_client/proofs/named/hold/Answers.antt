use Rattle.std.proofs.Common.{None, refl}
use Rattle.rtr_client.proofs.NamedLemmas.{puts_at}
use Rattle.rtr_client.proofs.named.hold.Goals as goal

pub returns-in-Some-clause-now : goal.returns-in-Some-clause-now
returns-in-Some-clause-now c = puts_at _ _ c.in_ok-key.key c.args.name.now None None c.in_ok-key.ensures refl c.in_ok-slot.ensures.updates.0

pub returns-in-None-clause-now : goal.returns-in-None-clause-now
returns-in-None-clause-now c = puts_at _ _ c.in_ok-key.key c.args.name.now None None c.in_ok-key.ensures refl c.in_ok-slot.ensures.updates.0
