use Rattle.std.proofs.Common.{◌≡◌, ℕ, true, false, List, ◌-◌, subst, arith}
use Rattle.hop_index.specs.Index.{has as hops_have}
use Rattle.shared_cases.specs.Cases.{Slots, at}
use Rattle.shared_cases.specs.Grounds.{lent, IsRightCase}
use Rattle.shared_cases.specs.Kept.{AreIndexed}
use Rattle.shared_cases.specs.Numbers.{has}
use Rattle.shared_cases.proofs.FollowLemmas.{role_followed, role_others, role_only, roles_touch}
use Rattle.shared_cases.proofs.OwnLemmas.{differed_through, newly_through, same_through}
use Rattle.shared_cases.proofs.cases.SharedCases.follow_role.Goals as goal

pub returns-in_err-cases-clause-ticks : goal.returns-in_err-cases-clause-ticks
returns-in_err-cases-clause-ticks g c = λ old move.
    roles_touch c.args.self c.args.self c.self.inside.kept.names c.self.inside.kept.index c.self.inside.kept.peers.members
    (subst (λ (cases : Slots). AreIndexed cases c.self.inside.kept.names (hops_have c.self.inside.kept.index) c.self.inside.kept.peers.members) c.self.view_is c.self.invariant.0.indexed)
    c.in_ok-touched.touched.items (g.T.Table.rows c.args.on.now.table.now) old c.args.on.now.roles.now
    (role_only c.self.inside.kept.peers.members c.args.asn c.in_ok-touched.touched.items c.args.before c.of.result old c.args.on.now.roles.now move c.of.ensures c.in_ok-touched.ensures.only)
    (c.rejudge.new.steps - c.args.steps.now) c.in_ok-touched.ensures.rising (omega (arith, c.rejudge.ensures.ticks))

pub returns-clause-same : goal.returns-clause-same
returns-clause-same g c = same_through c.args.asn c.args.self c.set_own.new.self c.in_ok-cases.cases c.set_own.ensures c.in_ok-cases.ensures.same

pub returns-clause-judged : goal.returns-clause-judged
returns-clause-judged g c = λ old move.
    role_followed c.args.self c.in_ok-cases.cases c.self.inside.kept.names c.self.inside.kept.index c.self.inside.kept.peers.members
    (subst (λ (cases : Slots). AreIndexed cases c.self.inside.kept.names (hops_have c.self.inside.kept.index) c.self.inside.kept.peers.members) c.self.view_is c.self.invariant.0.indexed)
    c.in_ok-touched.touched.items (g.T.Table.rows c.args.on.now.table.now) c.args.asn c.args.before old c.args.on.now.roles.now move
    (role_others c.self.inside.kept.peers.members c.args.asn c.in_ok-touched.touched.items c.args.before c.of.result old c.args.on.now.roles.now move c.of.ensures c.in_ok-touched.ensures.others)
    c.set_own.new.self c.set_own.ensures (subst (λ (xs : List ℕ). (n : ℕ) → has xs n ≡ true → IsRightCase (lent g.T.Table.rows c.args.on.now) (at c.in_ok-cases.cases n)) c.as_slice.ensures.value c.in_ok-cases.ensures.judged) (subst (λ (xs : List ℕ). (n : ℕ) → has xs n ≡ false → at c.in_ok-cases.cases n ≡ at c.set_own.new.self n) c.as_slice.ensures.value c.in_ok-cases.ensures.others) c.in_ok-cases.ensures.same c.in_ok-cases.ensures.own

pub returns-clause-differed : goal.returns-clause-differed
returns-clause-differed g c = differed_through c.args.asn c.args.self c.set_own.new.self c.in_ok-cases.cases c.set_own.ensures c.in_ok-cases.ensures.differed

pub returns-clause-newly : goal.returns-clause-newly
returns-clause-newly g c = newly_through c.args.asn c.args.self c.set_own.new.self c.in_ok-cases.cases c.set_own.ensures c.in_ok-cases.newly c.in_ok-cases.ensures.newly

pub returns-clause-ticks : goal.returns-clause-ticks
returns-clause-ticks g c = λ old move.
    roles_touch c.args.self c.args.self c.self.inside.kept.names c.self.inside.kept.index c.self.inside.kept.peers.members
    (subst (λ (cases : Slots). AreIndexed cases c.self.inside.kept.names (hops_have c.self.inside.kept.index) c.self.inside.kept.peers.members) c.self.view_is c.self.invariant.0.indexed)
    c.in_ok-touched.touched.items (g.T.Table.rows c.args.on.now.table.now) old c.args.on.now.roles.now
    (role_only c.self.inside.kept.peers.members c.args.asn c.in_ok-touched.touched.items c.args.before c.of.result old c.args.on.now.roles.now move c.of.ensures c.in_ok-touched.ensures.only)
    (c.rejudge.new.steps - c.args.steps.now) c.in_ok-touched.ensures.rising (omega (arith, c.rejudge.ensures.ticks))
