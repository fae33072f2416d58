use Rattle.std.proofs.Common.{None, refl, subst}
use Rattle.std.specs.Option.{IsSome}
use Rattle.rtr_client.proofs.NamedLemmas.{puts_at}
use Rattle.rtr_client.proofs.named.lend.Goals as goal

pub returns-in-Some-clause-now : goal.returns-in-Some-clause-now
returns-in-Some-clause-now c =
    puts_at _ _ c.args.name.now c.args.name.now c.replace.new.dest None refl c.replace.ensures.after
    ((c.get_mut.follows.holds c.replace.new.dest).3 (subst (λ o. IsSome o) c.in-Some.ensures.value refl)).0
