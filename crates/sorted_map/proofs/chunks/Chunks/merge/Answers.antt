use Rattle.std.proofs.Common.{arith, ap, sym, subst, ◌∙◌, ◌≡◌, ◌+◌, ◌<◌, get_or, set, length}
use Rattle.std.specs.List.{remove}
use Rattle.sorted_map.specs.Joined.{joined, AreFirsts}
use Rattle.sorted_map.proofs.FirstLemmas.{as_many, merged_firsts, merged_joined, put_back}
use Rattle.sorted_map.proofs.chunks.Chunks.merge.Goals as goal

pub remove-requires-then-take_over : goal.remove-requires-then-take_over
remove-requires-then-take_over g c = omega (arith, c.requires, c.self.inside.firsts.ok, as_many c.self.inside.firsts.items c.self.inside.list.items c.self.invariant, ap length c.self.view_is)

pub invariant_of-self : goal.invariant_of-self
invariant_of-self g c =
    let cs = c.self.inside.list.items in
    let there = subst (λ d. d ≡ get_or cs (c.args.at + 1) d) (sym c.replace-upper.ensures.value) c.index_mut.ensures.value in
    subst (λ ks. AreFirsts ks c.remove.new.self.items) (sym c.remove-then-take_over.ensures.items)
    (subst (AreFirsts (remove c.self.inside.firsts.items (c.args.at + 1))) (sym c.remove.ensures.items)
    (merged_firsts c.self.inside.firsts.items cs c.args.at (c.args.at + 1) c.replace-upper.new.dest c.index_mut-2.result.now c.replace-upper.result c.take_over.new.self (omega arith) there c.index_mut-2.ensures.value
    c.self.invariant (c.take_over.ensures.moved c.if-take_over.true)))

pub returns-then-take_over : goal.returns-then-take_over
returns-then-take_over g c =
    let cs = c.self.inside.list.items in
    let there = subst (λ d. d ≡ get_or cs (c.args.at + 1) d) (sym c.replace-upper.ensures.value) c.index_mut.ensures.value in
    ap joined c.remove.ensures.items
    ∙ merged_joined c.self.inside.firsts.items cs c.args.at (c.args.at + 1) c.replace-upper.new.dest c.index_mut-2.result.now c.replace-upper.result c.take_over.new.self (omega arith) there c.index_mut-2.ensures.value
    (subst (λ bs. c.args.at + 1 < length bs) (sym c.self.view_is) c.requires) (c.take_over.ensures.moved c.if-take_over.true)
    ∙ ap joined c.self.view_is

pub invariant_of-self-else-take_over : goal.invariant_of-self-else-take_over
invariant_of-self-else-take_over g c =
    let cs = c.self.inside.list.items in
    let kept = c.take_over.ensures.kept c.if-take_over.false in
    let there = subst (λ d. d ≡ get_or cs (c.args.at + 1) d) (sym (kept.1 ∙ c.replace-upper.ensures.value)) c.index_mut.ensures.value in
    let here = subst (λ d. d ≡ get_or (set cs (c.args.at + 1) c.replace-upper.new.dest) c.args.at d) (sym kept.0) c.index_mut-2.ensures.value in
    subst (AreFirsts c.self.inside.firsts.items)
    (sym (put_back c.self.inside.firsts.items cs c.args.at (c.args.at + 1) c.replace-upper.new.dest c.take_over.new.self c.take_over.new.upper c.take_over.new.self (omega arith) there here)) c.self.invariant

pub returns-else-take_over : goal.returns-else-take_over
returns-else-take_over g c =
    let cs = c.self.inside.list.items in
    let kept = c.take_over.ensures.kept c.if-take_over.false in
    let there = subst (λ d. d ≡ get_or cs (c.args.at + 1) d) (sym (kept.1 ∙ c.replace-upper.ensures.value)) c.index_mut.ensures.value in
    let here = subst (λ d. d ≡ get_or (set cs (c.args.at + 1) c.replace-upper.new.dest) c.args.at d) (sym kept.0) c.index_mut-2.ensures.value in
    ap joined (put_back c.self.inside.firsts.items cs c.args.at (c.args.at + 1) c.replace-upper.new.dest c.take_over.new.self c.take_over.new.upper c.take_over.new.self (omega arith) there here
    ∙ c.self.view_is)
