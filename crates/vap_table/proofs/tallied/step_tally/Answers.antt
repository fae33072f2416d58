use Rattle.std.proofs.Common.{◌≡◌, Bool, true, false, refl, ◌∙◌}
use Rattle.std.proofs.lemmas.Map.Keys.{non_decreasing_from_sorted}
use Rattle.vap_table.specs.Stepping.{one}
use Rattle.vap_table.proofs.CountingLemmas.{steps_of_row}
use Rattle.vap_table.proofs.tallied.step_tally.Goals as goal
use mir.Val.{bool_byte}

as_one : (b : Bool) → bool_byte b ≡ one b
as_one true = refl
as_one false = refl

pub step_rows-requires-clause-rising : goal.step_rows-requires-clause-rising
step_rows-requires-clause-rising c = non_decreasing_from_sorted c.args.row.now c.requires.rising

pub returns-clause-stepped : goal.returns-clause-stepped
returns-clause-stepped c = steps_of_row c.args.step c.from.result c.args.is_other c.args.row.now c.args.tally c.in_ok-next.next (c.from.ensures ∙ as_one c.args.is_other) c.requires.rising c.in_ok-next.ensures.stepped
