use Rattle.std.proofs.Common.{◌≡◌, ℕ, ◌-◌, List, [], ◌∷◌, ◌++◌, length, ap, ◌∙◌, arith}
use Rattle.shared_cases.proofs.LeavingLemmas.{takes_both, takes_last, takes_none}
use Rattle.shared_cases.proofs.leaving.ahead_of.Goals as goal

pub loop-last-init : goal.loop-last-init
loop-last-init c = record { taken = takes_none c.args.list.now c.args.number (length c.args.list.now - length c.args.list.now) (omega arith); fewer = omega arith }

pub loop-last-preserved : goal.loop-last-preserved
loop-last-preserved c =
    let list : List ℕ = c.args.list.now in
    let left : List ℕ = c.loop-last.left.now in
    let front : List ℕ = c.in-Some.front.now in
    let split : left ≡ front ++ c.args.number ∷ [] = c.in-Some.ensures.cases.0 ∙ ap (λ (x : ℕ). front ++ x ∷ []) c.if-last-number.false in
    record {
      taken = takes_both list left front c.args.number (length list - length left) 1 (length list - length front) c.loop-last.invariant.taken (takes_last left front c.args.number split)
          (omega (arith, c.in-Some.ensures.cases.1, c.loop-last.invariant.fewer));
      fewer = omega (arith, c.in-Some.ensures.cases.1, c.loop-last.invariant.fewer);
    }
