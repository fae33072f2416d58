use Rattle.std.proofs.Common.{sym, subst}
use Rattle.rib_store.specs.State.{State as Analysis}
use Rattle.origin_model.specs.Current.{Parts}
use Rattle.analyser.specs.declared.event.Event.TheVariants.{Table}
use Rattle.analyser.specs.Events.{Happens}
use Rattle.analyser.specs.Touched.{TicksWithin}
use Rattle.rtr_client.specs.Feeds.{ChangesPayloads}
use Rattle.rtr_client.specs.Steps.{made, made_in}
use Rattle.rtr_client.proofs.CountingLemmas.{change_passes, event_fails, records_fail, stays_passes}
use Rattle.rtr_client.proofs.changing.follow.Goals as goal

pub returns-in-None-clause-follows : goal.returns-in-None-clause-follows
returns-in-None-clause-follows g c = λ old slot from parts. rw c.in-None.is (stays_passes c.args.steps.now (made_in c.args.progress.now) old slot from parts)

pub returns-in_ok-change_payloads-in-Some-clause-follows : goal.returns-in_ok-change_payloads-in-Some-clause-follows
returns-in_ok-change_payloads-in-Some-clause-follows g c = λ old slot from parts.
    rw c.in-Some.is
    (change_passes c.args.steps.now c.apply.new.steps c.in-Some.change old slot
    (subst (λ (s : Analysis). TicksWithin s (Table c.in-Some.change.rows) c.args.steps.now c.apply.new.steps) (sym from) c.apply.ensures.ticks)
    (made c.apply.new.self c.change_payloads.new.origins)
    (subst (λ (s : Analysis). Happens s (Table c.in-Some.change.rows) c.apply.new.self) (sym from) c.in_ok-apply-in-Some.ensures.state)
    (subst (λ (p : Parts). ChangesPayloads c.in-Some.change.name c.in-Some.change.payloads p c.change_payloads.new.origins) (sym parts) c.in_ok-change_payloads-in-Some.ensures))

-- ---- for want of memory

pub returns-in_err-change_payloads-in-Some-clause-follows : goal.returns-in_err-change_payloads-in-Some-clause-follows
returns-in_err-change_payloads-in-Some-clause-follows g c = λ old slot from parts.
    rw c.in-Some.is
    (records_fail c.args.steps.now c.apply.new.steps c.in-Some.change old slot
    (subst (λ (s : Analysis). TicksWithin s (Table c.in-Some.change.rows) c.args.steps.now c.apply.new.steps) (sym from) c.apply.ensures.ticks)
    c.from_residual-in_err-change_payloads-in-Some.result (made c.apply.new.self c.change_payloads.new.origins) c.apply.new.self c.from_residual-in_err-change_payloads-in-Some.ensures.0
    (subst (λ (s : Analysis). Happens s (Table c.in-Some.change.rows) c.apply.new.self) (sym from) c.in_ok-apply-in-Some.ensures.state))

pub returns-in_err-apply-in-Some-clause-follows : goal.returns-in_err-apply-in-Some-clause-follows
returns-in_err-apply-in-Some-clause-follows g c = λ old slot from parts.
    rw c.in-Some.is
    (event_fails c.args.steps.now c.apply.new.steps c.in-Some.change old slot
    (subst (λ (s : Analysis). TicksWithin s (Table c.in-Some.change.rows) c.args.steps.now c.apply.new.steps) (sym from) c.apply.ensures.ticks)
    c.from_residual.result (made c.apply.new.self c.args.progress.now.origins) c.from_residual.ensures.0)
