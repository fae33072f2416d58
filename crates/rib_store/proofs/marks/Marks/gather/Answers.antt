use Rattle.std.proofs.Common.{◌∙◌}
use Rattle.rib_store.proofs.MarksLemmas.{notes_cover, notes_tell}
use Rattle.rib_store.proofs.marks.Marks.gather.Goals as goal

pub returns-clause-told : goal.returns-clause-told
returns-clause-told c = notes_tell c.in_ok-keys.keys c.args.routes.now c.args.cases.now c.requires.of_peers c.in_ok-keys.ensures c.settle.new.self c.args.self.now.notes c.note_each.new.notes c.in_ok-note_each.ensures

pub returns-clause-covered : goal.returns-clause-covered
returns-clause-covered c = λ q n here is differed.
    notes_cover c.in_ok-keys.keys c.args.routes.now c.args.cases.now c.requires.of_peers c.in_ok-keys.ensures c.settle.new.self c.args.self.now.notes c.note_each.new.notes c.in_ok-note_each.ensures
    q n here (c.in_ok-settle.ensures.members n ∙ is) differed
