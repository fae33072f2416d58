use Rattle.std.proofs.Common.{◌≡◌, ◌++◌, drop}
use Rattle.rtr_session.specs.Client.{without_zero}
use Rattle.rtr_session.proofs.providers.without_zero.Given as goal

abbrev pub invariant-loop-provider : goal.invariant-loop-provider
invariant-loop-provider l = l.list ++ without_zero (drop l.provider-index l.provider-items) ≡ without_zero l.providers
