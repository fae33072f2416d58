use Rattle.std.proofs.Common.{◌≡◌}
use Rattle.origin_validation.specs.Held.{AreAllRight, IsRightBeside}
use Rattle.origin_validation.proofs.walk.Walk.step_to.Given as goal

abbrev pub invariant-loop : goal.invariant-loop
invariant-loop l = record {
  same : l.self-inside.origins.now ≡ l.fn.self;
  beside : IsRightBeside l.fn.self l.self-inside.beside;
  behind : AreAllRight l.fn.self l.self-inside.behind;
}
