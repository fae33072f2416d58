use Rattle.std.proofs.Common.{◌≡◌, ℕ, ◌||◌, ap, ◌∙◌, rules}
use Rattle.hop_index.specs.Index.{has as hops_have}
use Rattle.shared_cases.specs.Numbers.{has}
use Rattle.shared_cases.specs.Touching.{asks}
use Rattle.shared_cases.proofs.MoveLemmas.{neighbours_told}
use Rattle.shared_cases.proofs.touched.touch_ends.Goals as goal

pub returns : goal.returns
returns c = λ n.
    let told : has c.loop-provider.touched n ≡ (has c.args.touched.now n || asks c.args.index.now c.args.rows.now n c.neighbours-provider-items.result) = search rules in
    neighbours_told c.args.index.now c.args.rows.now n c.neighbours-provider-items.result (has c.args.touched.now n) (has c.loop-provider.touched n)
    (λ y hop other. c.neighbours-provider-items.ensures.whole y n (ap (λ (x : ℕ). hops_have c.args.index.now x y n) c.customer.ensures ∙ hop)) told
