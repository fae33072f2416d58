use Rattle.std.proofs.Common.{List, ◌∷◌, [], sym, subst}
use Rattle.attestations.specs.ComputedTable.{table_of}
use Rattle.attestations.specs.CurrentTable.{Parts}
use Rattle.rib_store.specs.Pairs.{Paired, paired, pairs_left}
use Rattle.valleys.specs.Order.{valley_cmp}
use Rattle.listings.specs.SuspectSteps.{IsNoted}
use Rattle.listings.specs.TallySteps.{AddsTo, HasRoomFor}
use Rattle.listings.proofs.SuspectLemmas.{are_suspects, noted_next, noted_room, test}
use Rattle.listings.proofs.TallyGatherLemmas.{Gathered}
use Rattle.listings.proofs.suspected_valleys.suspects.Goals as goal

pub note-requires : goal.note-requires
note-requires c =
    let state = c.args.store.now.state in
    let gathered : Gathered valley_cmp (test (table_of c.args.store.now.state.parts)) c.args.store.now.state (paired c.in-Some.pair ∷ pairs_left c.next.new.self) c.loop-pair.found =
    subst (λ (ps : List Paired). Gathered valley_cmp (test (table_of c.args.store.now.state.parts)) c.args.store.now.state ps c.loop-pair.found) c.in-Some.ensures.steps c.loop-pair.invariant.gathered in
    subst (λ (parts : Parts). HasRoomFor valley_cmp (IsNoted (table_of parts) (paired c.in-Some.pair)) c.in-Some.pair.routes c.loop-pair.found)
    (sym c.table-table.ensures) (noted_room state (paired c.in-Some.pair) (pairs_left c.next.new.self) c.loop-pair.found gathered)

pub loop-pair-preserved : goal.loop-pair-preserved
loop-pair-preserved c =
    let state = c.args.store.now.state in
    let gathered : Gathered valley_cmp (test (table_of c.args.store.now.state.parts)) c.args.store.now.state (paired c.in-Some.pair ∷ pairs_left c.next.new.self) c.loop-pair.found =
    subst (λ (ps : List Paired). Gathered valley_cmp (test (table_of c.args.store.now.state.parts)) c.args.store.now.state ps c.loop-pair.found) c.in-Some.ensures.steps c.loop-pair.invariant.gathered in
    let adds : AddsTo valley_cmp (IsNoted (table_of c.args.store.now.state.parts) (paired c.in-Some.pair)) c.in-Some.pair.routes c.loop-pair.found c.note.new.found =
    subst (λ (parts : Parts). AddsTo valley_cmp (IsNoted (table_of parts) (paired c.in-Some.pair)) c.in-Some.pair.routes c.loop-pair.found c.note.new.found) c.table-table.ensures c.in_ok-note.ensures in
    record { can = tt; finite = tt; gathered = noted_next state (paired c.in-Some.pair) (pairs_left c.next.new.self) c.loop-pair.found gathered c.note.new.found adds }

pub returns : goal.returns
returns c =
    let gathered : Gathered valley_cmp (test (table_of c.args.store.now.state.parts)) c.args.store.now.state [] c.loop-pair.found =
    subst (λ (ps : List Paired). Gathered valley_cmp (test (table_of c.args.store.now.state.parts)) c.args.store.now.state ps c.loop-pair.found) c.in-None.ensures.steps.0 c.loop-pair.invariant.gathered in
    are_suspects c.args.store.now.state c.loop-pair.found gathered c.len-length.ensures.ascending
