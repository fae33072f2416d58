use Rattle.std.proofs.Common.{◌≡◌, ℕ, true, is_some, not, sym, ap, refl, subst, ◌∙◌, arith, true≢false}
use Rattle.path_model.specs.declared.key.Key.{Key}
use Rattle.path_model.specs.Roles.{Relations, role_of}
use Rattle.rib_store.specs.Numbered.{numbered_left}
use Rattle.listings.specs.EachSent.{verdict_at, IsHeld}
use Rattle.listings.specs.Sent.{goes_up, is_sent}
use Rattle.listings.proofs.SentCountLemmas.{most_held}
use Rattle.listings.proofs.SentStepLemmas.{all_held, covers_more, covers_still, held_here, next_number, seen_more, sent_case}
use Rattle.listings.proofs.sent_verdicts.sent_verdicts.Goals.{else-goes_up-via-then-goes_up+else-is_none, else-goes_up-via-else-goes_up}
use Rattle.listings.proofs.sent_verdicts.sent_verdicts.Goals as goal

pub returns-in_err-hold-clause-most : goal.returns-in_err-hold-clause-most
returns-in_err-hold-clause-most g c =
    most_held c.args.store.now c.args.role c.args.ases.now c.loop-key.verdicts.items c.args.steps.now c.loop-key.steps c.hold.new.steps
    c.cases_are_those_of_the_routes.ensures c.loop-key.invariant.seen c.loop-key.invariant.ticked c.in_err-hold.ensures.none

pub loop-key-preserved-then-is_none : goal.loop-key-preserved-then-is_none
loop-key-preserved-then-is_none g c =
    let stored = c.args.store.now in
    let n : ℕ = c.in-Some.number in
    let e : Key × ℕ = (c.in-Some.key, n) in
    let old = c.loop-key.verdicts.items in
    let new = c.hold.new.verdicts.items in
    let left = numbered_left c.loop-key.key-iterator in
    let more = numbered_left c.next.new.self in
    let holds = c.in_ok-hold.ensures.held in
    let number = next_number stored old left more e c.in-Some.ensures.steps c.loop-key.invariant.covers in
    let up : is_sent stored.state.roles c.in-Some.key.peer.asn ≡ true =
    ap (λ (r : Relations). goes_up (role_of r c.in-Some.key.peer.asn)) (sym c.roles.ensures) ∙ ap goes_up (sym c.of.ensures) ∙ sym c.goes_up.ensures ∙ c.if-goes_up.true in
    record {
      seen = seen_more stored c.args.role c.args.ases.now n old new holds (sent_case stored e number up) c.loop-key.invariant.seen;
      covers = covers_more stored new left more e c.in-Some.ensures.steps
          (covers_still stored c.args.role c.args.ases.now n old new holds left c.loop-key.invariant.covers) (held_here stored c.args.role c.args.ases.now n old new holds c.in-Some.key);
      ticked = omega (arith, c.loop-key.invariant.ticked, c.in_ok-hold.ensures.ticked, holds.counted);
    }

pub loop-key-preserved : goal.loop-key-preserved
loop-key-preserved g c =
    let stored = c.args.store.now in
    let e : Key × ℕ = (c.in-Some.key, c.in-Some.number) in
    let verdicts = c.loop-key.verdicts.items in
    let goes : is_sent stored.state.roles c.in-Some.key.peer.asn ≡ c.goes_up.result =
    ap (λ (r : Relations). goes_up (role_of r c.in-Some.key.peer.asn)) (sym c.roles.ensures) ∙ ap goes_up (sym c.of.ensures) ∙ sym c.goes_up.ensures in
    let held : IsHeld stored verdicts e = elim c.else-goes_up.branch [
      | else-goes_up-via-then-goes_up+else-is_none w ↦ λ up. ap is_some (ap (λ vs. verdict_at vs c.in-Some.number) (sym w.deref.ensures.value) ∙ sym w.held_at.ensures) ∙ w.is_none.ensures ∙ ap not w.if-is_none.false
      | else-goes_up-via-else-goes_up w ↦ λ up. absurd (true≢false (sym up ∙ goes ∙ w.if-goes_up.false))
    ] in
    record {
      seen = c.loop-key.invariant.seen;
      covers = covers_more stored verdicts (numbered_left c.loop-key.key-iterator) (numbered_left c.next.new.self) e c.in-Some.ensures.steps c.loop-key.invariant.covers held;
      ticked = c.loop-key.invariant.ticked;
    }

pub returns-clause-held : goal.returns-clause-held
returns-clause-held g c =
    all_held c.args.store.now c.cases_are_those_of_the_routes.ensures.apart c.loop-key.verdicts.items (numbered_left c.loop-key.key-iterator) c.in-None.ensures.steps.0
    c.loop-key.invariant.covers

pub returns-clause-most : goal.returns-clause-most
returns-clause-most g c =
    most_held c.args.store.now c.args.role c.args.ases.now c.loop-key.verdicts.items c.args.steps.now c.loop-key.steps c.loop-key.steps
    c.cases_are_those_of_the_routes.ensures c.loop-key.invariant.seen c.loop-key.invariant.ticked refl
