use Rattle.std.proofs.Common.{BTreeMap, ◌≡◌, ℕ, List, ◌++◌, Option, Some, None, IsSome, OnOk, OnErr, ap, sym, ◌∙◌, refl}
use Rattle.std.specs.declared.result.Result.{Result}
use Rattle.std.specs.declared.result.Result.TheVariants.{Ok, Err}
use Rattle.std.specs.Map.{set_value}
use Rattle.std.specs.BTreeMap.{is_at}
use Rattle.std.specs.Ordering.{nat_cmp}
use Rattle.std.specs.FinMap as map
use Rattle.std.proofs.lemmas.Map.Steps.{set_value_same}
use Rattle.path_model.specs.Rows.{row_or_empty}
use Rattle.path_model.proofs.MapLemmas.{get_rows, row_inserted}
use Rattle.path_model.proofs.gathered.Gathered.gather.Goals as goal

on_ok : {T E P Q : Type 0} (r : Result T E) → (P → Q) → OnOk r P → OnOk r Q
on_ok (Ok x) f p = f p
on_ok (Err e) f p = tt

on_err : {T E P Q : Type 0} (r : Result T E) → (P → Q) → OnErr r P → OnErr r Q
on_err (Ok x) f p = tt
on_err (Err e) f p = f p

some_is : {X : Type 0} (o : Option X) (x : X) → Some x ≡ o → IsSome o
some_is None x e = cc
some_is (Some y) x e = refl

pub returns-in-Some-clause-ok : goal.returns-in-Some-clause-ok
returns-in-Some-clause-ok c =
    let h = c.get_mut.follows.holds c.extend.new.self in
    let u = h.3 (some_is _ c.in-Some.list.now c.in-Some.ensures.value) in
    on_ok c.extend.result (λ e.
    row_inserted c.self.inside.lists.entries (c.get_mut.follows.lender c.extend.new.self).entries c.args.customer c.extend.new.self u.0
    ∙ ap (λ m. map.insert m c.args.customer c.extend.new.self) c.self.view_is
    ∙ ap (map.insert c.args.self.now c.args.customer) (e ∙ ap (λ (o : Option (List ℕ)). row_or_empty o ++ c.args.providers.now) (c.in-Some.ensures.value ∙ sym (get_rows c.self.inside.lists.entries c.args.customer) ∙ ap (λ m. map.get m c.args.customer) c.self.view_is)))
    c.extend.ensures.ok

pub returns-in-Some-clause-err : goal.returns-in-Some-clause-err
returns-in-Some-clause-err c =
    let h = c.get_mut.follows.holds c.extend.new.self in
    on_err c.extend.result (λ e.
    ap (λ es. map.from_entries {R = nat_cmp} es) (h.0 ∙ ap (set_value (is_at (nat_cmp c.args.customer)) c.self.inside.lists.entries) e ∙ set_value_same (is_at (nat_cmp c.args.customer)) c.self.inside.lists.entries c.in-Some.list.now (sym c.in-Some.ensures.value))
    ∙ c.self.view_is)
    c.extend.ensures.err

pub returns-in-None-clause-ok : goal.returns-in-None-clause-ok
returns-in-None-clause-ok c =
    on_ok c.begin.result (λ e.
    e ∙ ap (λ (m : BTreeMap ℕ (List ℕ)). map.insert (map.from_entries {R = nat_cmp} m.entries) c.args.customer c.args.providers.now) c.get_mut.follows.holds-at-none
    ∙ ap (λ m. map.insert m c.args.customer c.args.providers.now) c.self.view_is
    ∙ ap (λ (o : Option (List ℕ)). map.insert c.args.self.now c.args.customer (row_or_empty o ++ c.args.providers.now)) (c.in-None.ensures.value ∙ sym (get_rows c.self.inside.lists.entries c.args.customer) ∙ ap (λ m. map.get m c.args.customer) c.self.view_is))
    c.begin.ensures.ok
