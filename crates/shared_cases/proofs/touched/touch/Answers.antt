use Rattle.std.proofs.Common.{◌≡◌, [], rules}
use Rattle.hop_index.specs.Through.{ends_left}
use Rattle.shared_cases.specs.Numbers.{has}
use Rattle.shared_cases.proofs.MoveLemmas.{touch_none}
use Rattle.shared_cases.proofs.touched.touch.Goals as goal

pub returns-then-is_none : goal.returns-then-is_none
returns-then-is_none c = λ n.
    let none : ends_left c.through-ends.result ≡ [] = search rules in
    touch_none c.args.index.now c.args.row_move.now n (ends_left c.through-ends.result) (has c.args.touched.now n) (λ y. c.through-ends.ensures.exact y n) none
