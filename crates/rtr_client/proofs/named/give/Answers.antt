use Rattle.std.proofs.Common.{refl, subst}
use Rattle.std.specs.Option.{IsSome}
use Rattle.rtr_client.proofs.NamedLemmas.{puts_at}
use Rattle.rtr_client.proofs.named.give.Goals as goal

pub returns-in-Some : goal.returns-in-Some
returns-in-Some c =
    puts_at _ _ c.args.name.now c.args.name.now c.args.slot c.args.slot refl refl
    ((c.get_mut.follows.holds c.args.slot).3 (subst (λ o. IsSome o) c.in-Some.ensures.value refl)).0
