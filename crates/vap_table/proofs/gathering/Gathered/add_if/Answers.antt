use Rattle.std.proofs.Common.{◌++◌, List, ℕ, ap, ◌∙◌}
use Rattle.vap_table.proofs.TurningLemmas.{not_gathered, one_gathered}
use Rattle.vap_table.proofs.gathering.Gathered.add_if.Goals as goal

pub returns-then-not-is_one : goal.returns-then-not-is_one
returns-then-not-is_one c = not_gathered c.args.is_one c.args.row.now c.args.self.now.numbers.items c.args.self.now.rows c.if-not-is_one.true

pub returns : goal.returns
returns c = one_gathered c.args.is_one c.args.row.now c.args.self.now.numbers.items c.extend_from_slice.new.self.items c.args.self.now.rows c.in_ok-rows.rows c.if-not-is_one.false c.requires
    c.in_ok-rows.ensures
    (c.in_ok-extend_from_slice.ensures.items ∙ ap (λ (row : List ℕ). c.args.self.now.numbers.items ++ row) c.as_slice.ensures)
