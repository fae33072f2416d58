use Rattle.std.proofs.Common.{◌≡◌, ℕ, true, false, List, ◌-◌, subst, arith}
use Rattle.hop_index.specs.Index.{has as hops_have}
use Rattle.shared_cases.specs.Cases.{Slots, at}
use Rattle.shared_cases.specs.Grounds.{lent, IsRightCase}
use Rattle.shared_cases.specs.Kept.{AreIndexed}
use Rattle.shared_cases.specs.Numbers.{has}
use Rattle.shared_cases.proofs.FollowLemmas.{table_followed, table_touches}
use Rattle.shared_cases.proofs.cases.SharedCases.follow_listed.Goals as goal

pub returns-in_err-cases-clause-ticks : goal.returns-in_err-cases-clause-ticks
returns-in_err-cases-clause-ticks g c = λ before are.
    table_touches c.args.self c.args.self c.self.inside.kept.names c.self.inside.kept.index c.self.inside.kept.peers.members
    (subst (λ (cases : Slots). AreIndexed cases c.self.inside.kept.names (hops_have c.self.inside.kept.index) c.self.inside.kept.peers.members) c.self.view_is c.self.invariant.0.indexed)
    c.in_ok-touched.touched.items before (g.T.Table.rows c.args.on.now.table.now) c.args.on.now.roles.now c.args.moves.now are c.in_ok-touched.ensures.touched
    (c.rejudge.new.steps - c.args.steps.now) c.in_ok-touched.ensures.rising (omega (arith, c.rejudge.ensures.ticks))

pub returns-clause-judged : goal.returns-clause-judged
returns-clause-judged g c = λ before are.
    table_followed c.args.self c.in_ok-cases.cases c.self.inside.kept.names c.self.inside.kept.index c.self.inside.kept.peers.members
    (subst (λ (cases : Slots). AreIndexed cases c.self.inside.kept.names (hops_have c.self.inside.kept.index) c.self.inside.kept.peers.members) c.self.view_is c.self.invariant.0.indexed)
    c.in_ok-touched.touched.items before (g.T.Table.rows c.args.on.now.table.now) c.args.on.now.roles.now c.args.moves.now are c.in_ok-touched.ensures.touched (subst (λ (xs : List ℕ). (n : ℕ) → has xs n ≡ true → IsRightCase (lent g.T.Table.rows c.args.on.now) (at c.in_ok-cases.cases n)) c.as_slice.ensures.value c.in_ok-cases.ensures.judged) (subst (λ (xs : List ℕ). (n : ℕ) → has xs n ≡ false → at c.in_ok-cases.cases n ≡ at c.args.self n) c.as_slice.ensures.value c.in_ok-cases.ensures.others)
    c.in_ok-cases.ensures.same c.in_ok-cases.ensures.own

pub returns-clause-ticks : goal.returns-clause-ticks
returns-clause-ticks g c = λ before are.
    table_touches c.args.self c.args.self c.self.inside.kept.names c.self.inside.kept.index c.self.inside.kept.peers.members
    (subst (λ (cases : Slots). AreIndexed cases c.self.inside.kept.names (hops_have c.self.inside.kept.index) c.self.inside.kept.peers.members) c.self.view_is c.self.invariant.0.indexed)
    c.in_ok-touched.touched.items before (g.T.Table.rows c.args.on.now.table.now) c.args.on.now.roles.now c.args.moves.now are c.in_ok-touched.ensures.touched
    (c.rejudge.new.steps - c.args.steps.now) c.in_ok-touched.ensures.rising (omega (arith, c.rejudge.ensures.ticks))
