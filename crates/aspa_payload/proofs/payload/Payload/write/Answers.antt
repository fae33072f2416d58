use Rattle.std.proofs.Common.{List, ℕ, ap, ◌∙◌, ◌++◌, ◌∷◌, []}
use Rattle.std.proofs.lemmas.Result.{on_ok_weaker}
use Rattle.aspa_payload.proofs.WritingLemmas.{puts_all}
use Rattle.aspa_payload.proofs.payload.Payload.write.Goals as goal

pub returns-clause-ok : goal.returns-clause-ok
returns-clause-ok c =
    on_ok_weaker c.put_value-2.result
    (puts_all c.args.out.now.items c.put_value-2.new.out.items c.new-list.result.items c.put_integers.new.out.items c.deref.result.now c.as_slice.result.now c.extend_from_slice.new.self.items c.put_u32.new.out.items
    c.put_value.new.out.items c.deref-2.result.now c.customer.result c.args.self.now c.providers.ensures.fit
    c.new-list.ensures.items (c.as_slice.ensures ∙ c.providers.ensures.providers) c.in_ok-put_integers.ensures
    (c.in_ok-extend_from_slice.ensures.items ∙ ap (λ (s : List ℕ). s ++ 160 ∷ 3 ∷ 2 ∷ 1 ∷ 1 ∷ []) c.new-content.ensures.items) c.customer.ensures c.in_ok-put_u32.ensures.ok
    c.deref.ensures.value c.in_ok-put_value.ensures.ok c.deref-2.ensures.value)
    c.put_value-2.ensures.ok
