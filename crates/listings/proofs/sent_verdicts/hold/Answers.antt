use Rattle.listings.proofs.SentStepLemmas.{holds_one}
use Rattle.listings.proofs.sent_verdicts.hold.Goals as goal

pub returns-clause-held : goal.returns-clause-held
returns-clause-held g c =
    holds_one c.args.store.now c.args.role c.args.ases.now c.args.number c.args.verdicts.now.items c.make_room.new.verdicts.items c.in_ok-verdict.verdict
    c.in_ok-make_room.ensures.room c.in_ok-make_room.ensures.same c.in_ok-make_room.ensures.counted c.requires.free
    c.in-Some.case c.case.result c.in-Some.is c.case.ensures c.table.result.now c.table.ensures c.in_ok-verdict.ensures.right
