use Rattle.std.proofs.Common.{subst}
use Rattle.rtr_session.specs.declared.act.Act.TheVariants.{Nothing}
use Rattle.rtr_session.specs.State.{State}
use Rattle.rtr_session.specs.Client.{Announces}
use Rattle.rtr_session.proofs.AnnounceLemmas.{sets_both}
use Rattle.rtr_session.proofs.session.Session.announce.Goals as goal

pub returns : goal.returns
returns c =
    let before : State = record { phase = c.self.inside.phase; session = c.self.inside.session; serial = c.self.inside.serial; rows = c.self.inside.rows; changes = c.self.inside.changes; payloads = c.self.inside.payloads; payload_changes = c.self.inside.payload_changes } in
    subst (λ (old : State). Announces c.args.customer c.args.providers.now old Nothing (record before { rows = c.set-2.new.self; changes = c.set.new.self })) c.self.view_is
    (sets_both before c.set-2.new.self c.set.new.self c.args.customer c.args.providers.now c.in_ok-row.row c.in_ok-copy.field-0 c.in_ok-row.ensures c.in_ok-copy.ensures c.in_ok-set-2.ensures.ok c.in_ok-set.ensures.ok)
