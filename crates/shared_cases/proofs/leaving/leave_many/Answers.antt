use Rattle.std.proofs.Common.{◌≡◌, ℕ, true, List, subst, sym, arith}
use Rattle.std.specs.declared.option.Option.{Option}
use Rattle.hop_index.specs.Hops.{has_hop}
use Rattle.hop_index.specs.Index.{Entries, LetsGo}
use Rattle.shared_cases.specs.declared.case.StoredCase.{StoredCase}
use Rattle.shared_cases.specs.Cases.{at, Rewrites}
use Rattle.shared_cases.specs.Kept.{staying, without_chain, FitBy}
use Rattle.shared_cases.proofs.FitLemmas.{fit_lowered, fit_same, whole_chain}
use Rattle.shared_cases.proofs.LeavingLemmas.{left_all, left_by}
use Rattle.shared_cases.proofs.leaving.leave_many.Goals as goal

pub returns-then-users-count-clause-fit : goal.returns-then-users-count-clause-fit
returns-then-users-count-clause-fit c =
    fit_lowered (staying c.args.kept.now.index c.args.gone.now) c.args.slab.now.slots c.lower_by-less.new.slab.slots c.args.number c.args.count c.args.kept.now
    c.minus-kept.result c.lower_by-less.result
    c.lower_by-less.ensures.lowered (omega (arith, c.if-users-count.true, c.users.ensures)) c.lower_by-less.ensures.less c.minus-kept.ensures c.requires.fit

pub returns-then-users-count-clause-left : goal.returns-then-users-count-clause-left
returns-then-users-count-clause-left c =
    subst (λ (v : Option StoredCase). Rewrites c.args.slab.now.slots c.lower_by-less.new.slab.slots c.args.number v)
    (left_by c.args.count (at c.args.slab.now.slots c.args.number) (omega (arith, c.if-users-count.true, c.users.ensures))) c.lower_by-less.ensures.lowered

pub let_go-requires-clause-whole : goal.let_go-requires-clause-whole
let_go-requires-clause-whole c =
    subst (λ (index : Entries). (x y : ℕ) → staying index c.args.gone.now x y c.args.number ≡ true → has_hop c.chain.result.now x y ≡ true) (sym c.take_out.ensures.index)
    (subst (λ (chain : List ℕ). (x y : ℕ) → staying c.args.kept.now.index c.args.gone.now x y c.args.number ≡ true → has_hop chain x y ≡ true) (sym c.chain.ensures.chain)
    (whole_chain c.take_out.new.slab.slots (staying c.args.kept.now.index c.args.gone.now) c.args.number c.in-Some.trail.chain
    (c.in-Some.ensures.fit (staying c.args.kept.now.index c.args.gone.now) c.requires.fit).0.indexed.indexed c.take_out.ensures.gone.here))

pub returns-in_ok-let_go-clause-fit : goal.returns-in_ok-let_go-clause-fit
returns-in_ok-let_go-clause-fit c =
    fit_same (without_chain (staying c.args.kept.now.index c.args.gone.now) c.args.number c.in-Some.trail.chain) (staying c.let_go.new.self c.let_go.new.gone)
    c.take_out.new.slab.slots c.take_out.new.kept
    (subst (λ (index : Entries). LetsGo index c.args.gone.now c.args.number c.in-Some.trail.chain c.let_go.new.self c.let_go.new.gone) c.take_out.ensures.index
    (subst (λ (chain : List ℕ). LetsGo c.take_out.new.kept.index c.args.gone.now c.args.number chain c.let_go.new.self c.let_go.new.gone) c.chain.ensures.chain c.in_ok-let_go.ensures.gone))
    (c.in-Some.ensures.fit (staying c.args.kept.now.index c.args.gone.now) c.requires.fit)

pub returns-in_ok-let_go-clause-left : goal.returns-in_ok-let_go-clause-left
returns-in_ok-let_go-clause-left c =
    subst (λ (v : Option StoredCase). Rewrites c.args.slab.now.slots c.take_out.new.slab.slots c.args.number v)
    (left_all c.args.count (at c.args.slab.now.slots c.args.number) c.requires.some (omega (arith, c.if-users-count.false, c.users.ensures))) c.take_out.ensures.gone

pub returns-in_default-clause-fit : goal.returns-in_default-clause-fit
returns-in_default-clause-fit c =
    subst (λ (index : Entries). FitBy (staying index c.args.gone.now) c.take_out.new.slab.slots c.take_out.new.kept) (sym c.take_out.ensures.index)
    (c.in_default.ensures.none (staying c.args.kept.now.index c.args.gone.now) c.requires.fit)

pub returns-in_default-clause-left : goal.returns-in_default-clause-left
returns-in_default-clause-left c =
    subst (λ (v : Option StoredCase). Rewrites c.args.slab.now.slots c.take_out.new.slab.slots c.args.number v)
    (left_all c.args.count (at c.args.slab.now.slots c.args.number) c.requires.some (omega (arith, c.if-users-count.false, c.users.ensures))) c.take_out.ensures.gone
