use Rattle.std.proofs.Common.{◌≡◌, ◌≤◌, ◌+◌, ◌-◌, ℕ, List, ◌++◌, length, take, drop, refl, sym, ap, subst, ◌∙◌, arith}
use Rattle.std.proofs.Math.Seq.{take-add}
use Rattle.std.proofs.lemmas.List.{drop-drop, drop-take, take-take, length-drop, length-take-le}
use Rattle.held_bytes.specs.Held.{Held}
use Rattle.held_bytes.proofs.held.HeldBytes.take.Goals as goal

-- where the taken bytes end before the kept ones do, the buffer lends what these would
lent : (bytes : List ℕ) (from count end : ℕ) → from ≤ end → end ≤ length bytes → count ≤ length (drop from (take end bytes)) → take (from + count - from) (drop from bytes) ≡ take count (drop from (take end bytes))
lent bytes from count end order within some =
    ap (λ (n : ℕ). take n (drop from bytes)) (omega arith) ∙ sym (drop-take from count bytes) ∙ ap (drop from) (sym (take-take (from + count) end bytes before)) ∙ drop-take from count (take end bytes)
  where
    before : from + count ≤ end
    before = omega (arith, order, some, length-drop from (take end bytes), length-take-le end bytes within)

pub returns : goal.returns
returns c =
    let kept = c.self.inside in
    let held = take kept.end kept.bytes.items in
    let some = subst (λ (held : Held). c.args.count ≤ length held.left) (sym c.self.view_is) c.requires in (
      (
        refl,
        λ _. tt,
        (
          take-add kept.at c.args.count held ∙ ap (λ (held : Held). held.taken ++ take c.args.count held.left) c.self.view_is,
          sym (drop-drop c.args.count kept.at held) ∙ ap (λ (held : Held). drop c.args.count held.left) c.self.view_is,
        ),
      ),
      record {
        lends = ap (λ (l : List ℕ). take (kept.at + c.args.count - kept.at) (drop kept.at l)) c.deref.ensures.value
            ∙ lent kept.bytes.items kept.at c.args.count kept.end c.self.invariant.0 c.self.invariant.1 some ∙ ap (λ (held : Held). take c.args.count held.left) c.self.view_is;
        takes = tt;
      },
    )
