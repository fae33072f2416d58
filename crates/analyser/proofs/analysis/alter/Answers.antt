use Rattle.std.proofs.Common.{ap, refl}
use Rattle.rib_store.specs.Stored.{Stored}
use Rattle.analyser.proofs.EventLemmas.{happens_too}
use Rattle.analyser.proofs.TouchedLemmas.{within_too, table_within, role_within, default_within}
use Rattle.analyser.proofs.analysis.alter.Goals as goal

pub returns-in_ok-store-in-Table-clause-state : goal.returns-in_ok-store-in-Table-clause-state
returns-in_ok-store-in-Table-clause-state g c =
    happens_too _ _ _ _ c.in_ok-store-in-Table.field-0 _ (ap (λ (s : Stored). s.state) c.taken.ensures) c.in-Table.is refl c.in_ok-store-in-Table.ensures.state

pub returns-in_ok-store-in-Table-clause-ticks : goal.returns-in_ok-store-in-Table-clause-ticks
returns-in_ok-store-in-Table-clause-ticks g c = within_too _ _ _ _ _ _ _ (ap (λ (s : Stored). s.state) c.taken.ensures) c.in-Table.is refl
    (table_within c.taken.result.state c.in-Table.change c.args.steps.now c.apply_table.new.steps c.apply_table.ensures.ticks)

pub returns-in_err-store-in-Table-clause-ticks : goal.returns-in_err-store-in-Table-clause-ticks
returns-in_err-store-in-Table-clause-ticks g c = within_too _ _ _ _ _ _ _ (ap (λ (s : Stored). s.state) c.taken.ensures) c.in-Table.is refl
    (table_within c.taken.result.state c.in-Table.change c.args.steps.now c.apply_table.new.steps c.apply_table.ensures.ticks)

pub returns-in_ok-store-in-Role-clause-ticks : goal.returns-in_ok-store-in-Role-clause-ticks
returns-in_ok-store-in-Role-clause-ticks g c = within_too _ _ _ _ _ _ _ (ap (λ (s : Stored). s.state) c.taken-in-Role.ensures) c.in-Role.is refl
    (role_within c.taken-in-Role.result.state c.in-Role.asn c.in-Role.role c.args.steps.now c.set_role.new.steps c.set_role.ensures.ticks)

pub returns-in_err-store-in-Role-clause-ticks : goal.returns-in_err-store-in-Role-clause-ticks
returns-in_err-store-in-Role-clause-ticks g c = within_too _ _ _ _ _ _ _ (ap (λ (s : Stored). s.state) c.taken-in-Role.ensures) c.in-Role.is refl
    (role_within c.taken-in-Role.result.state c.in-Role.asn c.in-Role.role c.args.steps.now c.set_role.new.steps c.set_role.ensures.ticks)

pub returns-in_ok-store-in-DefaultRole-clause-ticks : goal.returns-in_ok-store-in-DefaultRole-clause-ticks
returns-in_ok-store-in-DefaultRole-clause-ticks g c = within_too _ _ _ _ _ _ _ (ap (λ (s : Stored). s.state) c.taken-in-DefaultRole.ensures) c.in-DefaultRole.is refl
    (default_within c.taken-in-DefaultRole.result.state c.in-DefaultRole.role c.args.steps.now c.set_default.new.steps c.set_default.ensures.ticks)

pub returns-in_err-store-in-DefaultRole-clause-ticks : goal.returns-in_err-store-in-DefaultRole-clause-ticks
returns-in_err-store-in-DefaultRole-clause-ticks g c = within_too _ _ _ _ _ _ _ (ap (λ (s : Stored). s.state) c.taken-in-DefaultRole.ensures) c.in-DefaultRole.is refl
    (default_within c.taken-in-DefaultRole.result.state c.in-DefaultRole.role c.args.steps.now c.set_default.new.steps c.set_default.ensures.ticks)
