use Rattle.std.proofs.Common.{List, ◌∷◌, [], sym, subst}
use Rattle.attestations.specs.ComputedTable.{table_of}
use Rattle.attestations.specs.CurrentTable.{Parts}
use Rattle.rib_store.specs.Pairs.{Paired, paired, pairs_left}
use Rattle.std.specs.Ordering.{nat_cmp}
use Rattle.listings.specs.SilentSteps.{IsNotedFor}
use Rattle.listings.specs.TallySteps.{AddsTo, HasRoomFor}
use Rattle.listings.proofs.SilentLemmas.{are_silent, noted_next, noted_room, test}
use Rattle.listings.proofs.TallyGatherLemmas.{Gathered}
use Rattle.listings.proofs.asked_about.silent_ases.Goals as goal

pub note-requires : goal.note-requires
note-requires c =
    let state = c.args.store.now.state in
    let gathered : Gathered nat_cmp (test (table_of c.args.store.now.state.parts)) c.args.store.now.state (paired c.in-Some.pair ∷ pairs_left c.next.new.self) c.loop-pair.found =
    subst (λ (ps : List Paired). Gathered nat_cmp (test (table_of c.args.store.now.state.parts)) c.args.store.now.state ps c.loop-pair.found) c.in-Some.ensures.steps c.loop-pair.invariant.gathered in
    subst (λ (parts : Parts). HasRoomFor nat_cmp (IsNotedFor (table_of parts) (paired c.in-Some.pair)) c.in-Some.pair.routes c.loop-pair.found)
    (sym c.table-table.ensures) (noted_room state (paired c.in-Some.pair) (pairs_left c.next.new.self) c.loop-pair.found gathered)

pub loop-pair-preserved : goal.loop-pair-preserved
loop-pair-preserved c =
    let state = c.args.store.now.state in
    let gathered : Gathered nat_cmp (test (table_of c.args.store.now.state.parts)) c.args.store.now.state (paired c.in-Some.pair ∷ pairs_left c.next.new.self) c.loop-pair.found =
    subst (λ (ps : List Paired). Gathered nat_cmp (test (table_of c.args.store.now.state.parts)) c.args.store.now.state ps c.loop-pair.found) c.in-Some.ensures.steps c.loop-pair.invariant.gathered in
    let adds : AddsTo nat_cmp (IsNotedFor (table_of c.args.store.now.state.parts) (paired c.in-Some.pair)) c.in-Some.pair.routes c.loop-pair.found c.note.new.found =
    subst (λ (parts : Parts). AddsTo nat_cmp (IsNotedFor (table_of parts) (paired c.in-Some.pair)) c.in-Some.pair.routes c.loop-pair.found c.note.new.found) c.table-table.ensures c.in_ok-note.ensures in
    record { can = tt; finite = tt; gathered = noted_next state (paired c.in-Some.pair) (pairs_left c.next.new.self) c.loop-pair.found gathered c.note.new.found adds }

pub returns : goal.returns
returns c =
    let gathered : Gathered nat_cmp (test (table_of c.args.store.now.state.parts)) c.args.store.now.state [] c.loop-pair.found =
    subst (λ (ps : List Paired). Gathered nat_cmp (test (table_of c.args.store.now.state.parts)) c.args.store.now.state ps c.loop-pair.found) c.in-None.ensures.steps.0 c.loop-pair.invariant.gathered in
    are_silent c.args.store.now.state c.loop-pair.found gathered c.len-length.ensures.ascending
