use Rattle.std.proofs.Common.{◌∙◌}
use Rattle.std.specs.Ordering.{nat_cmp}
use Rattle.attestations.specs.ComputedTable.{table_of}
use Rattle.rib_store.specs.Pairs.{paired}
use Rattle.listings.specs.SilentSteps.{IsNotedFor}
use Rattle.listings.specs.TallySteps.{IsAmong}
use Rattle.listings.proofs.SilentLemmas.{set_of_pair, set_sorted, silent_add, silent_room}
use Rattle.listings.proofs.TallyAddLemmas.{ok_adds_as}
use Rattle.listings.proofs.asked_about.note.Goals as goal

pub add_all-requires-clause-ascending : goal.add_all-requires-clause-ascending
add_all-requires-clause-ascending c =
    let table = table_of c.args.table.now in
    let p = paired c.args.pair.now in
    let is_set = set_of_pair (table_of c.args.table.now) (paired c.args.pair.now) _ c.asked_of-asked.result.now c.as_slice.result.now _ c.as_slice-in-Unknown.result.now c.direction.result
    c.in_ok-without_row-in-Unknown.ensures c.asked_of-asked.ensures c.direction.ensures (c.as_slice.ensures ∙ c.chain.ensures.chain) c.as_slice-in-Unknown.ensures c.into_set-silent.ensures in
    set_sorted table p c.as_slice-in-Unknown.result.now c.args.pair.now.routes c.in-Unknown.is is_set

pub add_all-requires-clause-room : goal.add_all-requires-clause-room
add_all-requires-clause-room c =
    let table = table_of c.args.table.now in
    let p = paired c.args.pair.now in
    let is_set = set_of_pair (table_of c.args.table.now) (paired c.args.pair.now) _ c.asked_of-asked.result.now c.as_slice.result.now _ c.as_slice-in-Unknown.result.now c.direction.result
    c.in_ok-without_row-in-Unknown.ensures c.asked_of-asked.ensures c.direction.ensures (c.as_slice.ensures ∙ c.chain.ensures.chain) c.as_slice-in-Unknown.ensures c.into_set-silent.ensures in
    silent_room table p c.as_slice-in-Unknown.result.now c.args.pair.now.routes c.in-Unknown.is is_set c.args.found.now c.requires

pub returns-in_ok-without_row-in-Unknown : goal.returns-in_ok-without_row-in-Unknown
returns-in_ok-without_row-in-Unknown c =
    let table = table_of c.args.table.now in
    let p = paired c.args.pair.now in
    let is_set = set_of_pair (table_of c.args.table.now) (paired c.args.pair.now) _ c.asked_of-asked.result.now c.as_slice.result.now _ c.as_slice-in-Unknown.result.now c.direction.result
    c.in_ok-without_row-in-Unknown.ensures c.asked_of-asked.ensures c.direction.ensures (c.as_slice.ensures ∙ c.chain.ensures.chain) c.as_slice-in-Unknown.ensures c.into_set-silent.ensures in
    ok_adds_as c.add_all.result nat_cmp (IsAmong nat_cmp c.as_slice-in-Unknown.result.now) (IsNotedFor table p) c.args.pair.now.routes c.args.found.now c.add_all.new.self
    c.add_all.ensures (silent_add table p c.as_slice-in-Unknown.result.now c.args.pair.now.routes c.in-Unknown.is is_set c.args.found.now c.add_all.new.self)
