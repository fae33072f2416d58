use Rattle.std.proofs.Common.{◌↔◌, ◌∙◌}
use Rattle.std.specs.Prelude.{Contains}
use Rattle.attestations.specs.ComputedTable.{table_of}
use Rattle.path_model.specs.Labelling.{direction_of}
use Rattle.rib_store.specs.Pairs.{paired}
use Rattle.valleys.specs.declared.valley.Valley.{Valley}
use Rattle.valleys.specs.Order.{valley_cmp}
use Rattle.valleys.specs.Valleys.{HasValley}
use Rattle.listings.specs.SuspectSteps.{IsBlocked, IsNoted}
use Rattle.listings.specs.TallySteps.{IsAmong}
use Rattle.listings.proofs.SuspectLemmas.{exact_at, is_blocked, valleys_add, valleys_room}
use Rattle.listings.proofs.TallyAddLemmas.{ok_adds_as}
use Rattle.listings.proofs.suspected_valleys.note.Goals as goal

pub add_all-requires-clause-room : goal.add_all-requires-clause-room
add_all-requires-clause-room c =
    let table = table_of c.args.table.now in
    let p = paired c.args.pair.now in
    let blocked = is_blocked c.args.pair.now.witness c.in-Blocked.first c.in-Blocked.last c.in-Blocked.is in
    let exact = exact_at (table_of c.args.table.now) (paired c.args.pair.now) _ c.as_slice-in-Blocked.result.now c.as_slice.result.now (c.as_slice.ensures ∙ c.chain.ensures.chain)
    c.as_slice-in-Blocked.ensures.value c.in_ok-valleys-in-Blocked.ensures.exact in
    valleys_room table p c.as_slice-in-Blocked.result.now c.args.pair.now.routes blocked exact c.args.found.now c.requires

pub returns-in_ok-valleys-in-Blocked : goal.returns-in_ok-valleys-in-Blocked
returns-in_ok-valleys-in-Blocked c =
    let table = table_of c.args.table.now in
    let p = paired c.args.pair.now in
    let blocked = is_blocked c.args.pair.now.witness c.in-Blocked.first c.in-Blocked.last c.in-Blocked.is in
    let exact = exact_at (table_of c.args.table.now) (paired c.args.pair.now) _ c.as_slice-in-Blocked.result.now c.as_slice.result.now (c.as_slice.ensures ∙ c.chain.ensures.chain)
    c.as_slice-in-Blocked.ensures.value c.in_ok-valleys-in-Blocked.ensures.exact in
    ok_adds_as c.add_all.result valley_cmp (IsAmong valley_cmp c.as_slice-in-Blocked.result.now) (IsNoted table p) c.args.pair.now.routes c.args.found.now c.add_all.new.self
    c.add_all.ensures (valleys_add table p c.as_slice-in-Blocked.result.now c.args.pair.now.routes blocked exact c.args.found.now c.add_all.new.self)
