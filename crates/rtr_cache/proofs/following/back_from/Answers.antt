use Rattle.attestations.specs.ComputedTable.{table_of}
use Rattle.rtr_cache.proofs.FollowingLemmas.{leads_back}
use Rattle.rtr_cache.proofs.following.back_from.Goals as goal

pub returns : goal.returns
returns c = leads_back c.args.rows.now (table_of c.args.table.now) c.new-back.result c.note_held.new.back c.note_new.new.back c.new-back.ensures c.in_ok-note_held.ensures c.in_ok-note_new.ensures
