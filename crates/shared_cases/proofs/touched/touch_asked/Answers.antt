use Rattle.std.proofs.Common.{◌≡◌, ℕ, ◌||◌, List, ap, sym, ◌∙◌}
use Rattle.std.proofs.Math.Bool.{or-false}
use Rattle.std.proofs.Math.ListN.{drop_of_length-le}
use Rattle.shared_cases.specs.Numbers.{has}
use Rattle.shared_cases.specs.Touching.{asks}
use Rattle.shared_cases.proofs.MoveLemmas.{asked_told}
use Rattle.shared_cases.proofs.touched.touch_asked.Goals as goal

pub returns : goal.returns
returns c = λ n.
    let told : has c.loop-provider.touched n ≡ (has c.args.touched.now n || asks c.args.index.now c.args.rows.now n c.args.asked.now) =
    sym (or-false (has c.loop-provider.touched n))
    ∙ ap (λ (ys : List ℕ). has c.loop-provider.touched n || asks c.args.index.now c.args.rows.now n ys) (sym (drop_of_length-le c.args.asked.now c.loop-provider-test.false))
    ∙ c.loop-provider.invariant n in
    asked_told c.args.index.now c.args.rows.now n c.args.asked.now (has c.args.touched.now n) (has c.loop-provider.touched n) c.requires told
