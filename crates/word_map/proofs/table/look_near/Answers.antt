use Rattle.std.proofs.Common.{ℕ, ◌-◌, Some, ap, ◌∙◌, arith}
use Rattle.word_map.proofs.WholeLemmas.{number_in_slot}
use Rattle.word_map.proofs.table.look_near.Goals as goal

pub returns-else-held-eq0 : goal.returns-else-held-eq0
returns-else-held-eq0 c =
    let its = c.held_near-held.ensures (omega (arith, c.if-held-eq0.false)) in
    number_in_slot c.args.slots.now c.args.over.now.entries c.args.word its.0 c.requires its.1 ∙ ap (λ (held : ℕ). Some (held - 1)) its.2
