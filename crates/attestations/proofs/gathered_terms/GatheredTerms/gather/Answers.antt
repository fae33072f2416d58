use Rattle.std.proofs.Common.{BTreeMap, ◌≡◌, ℕ, List, [], ◌∷◌, ◌++◌, Some, None, IsSome, OnOk, OnErr, ap, sym, ◌∙◌, refl}
use Rattle.std.specs.declared.option.Option.{Option}
use Rattle.std.specs.declared.result.Result.{Result}
use Rattle.std.specs.declared.result.Result.TheVariants.{Ok, Err}
use Rattle.std.specs.Map.{lookup, set_value}
use Rattle.std.specs.BTreeMap.{is_at}
use Rattle.std.specs.Ordering.{nat_cmp}
use Rattle.std.proofs.lemmas.Map.Steps.{set_value_same}
use Rattle.attestations.specs.declared.term.Term.{Term}
use Rattle.attestations.specs.Gathered.{list_or_none}
use Rattle.attestations.specs.Held.{gathered}
use Rattle.attestations.proofs.GatheredLemmas.{appended, begun}
use Rattle.attestations.proofs.gathered_terms.GatheredTerms.gather.Goals as goal

on_ok : {T E P Q : Type 0} (r : Result T E) → (P → Q) → OnOk r P → OnOk r Q
on_ok (Ok x) f p = f p
on_ok (Err e) f p = tt

on_err : {T E P Q : Type 0} (r : Result T E) → (P → Q) → OnErr r P → OnErr r Q
on_err (Ok x) f p = tt
on_err (Err e) f p = f p

some_is : {X : Type 0} (o : Option X) (x : X) → Some x ≡ o → IsSome o
some_is None x e = cc
some_is (Some y) x e = refl

pub returns-in-Some-clause-ok : goal.returns-in-Some-clause-ok
returns-in-Some-clause-ok c =
    let h = c.get_mut.follows.holds c.push.new.self in
    let u = h.3 (some_is _ c.in-Some.list.now c.in-Some.ensures.value) in
    on_ok c.push.result (λ e.
    appended c.self.inside.firsts c.self.inside.others.entries (c.get_mut.follows.lender c.push.new.self).entries c.args.customer (record { providers = c.args.providers.now; until = c.args.until })
    c.in-Some.list.now c.push.new.self c.args.self.now u.0
    (e ∙ ap (λ (ps : List ℕ). c.in-Some.list.now ++ (record { providers = ps; until = c.args.until }) ∷ []) c.in_ok-from_slice.ensures)
    (ap list_or_none (sym c.in-Some.ensures.value)) c.self.view_is)
    c.push.ensures.ok

pub returns-in-Some-clause-err : goal.returns-in-Some-clause-err
returns-in-Some-clause-err c =
    let h = c.get_mut.follows.holds c.push.new.self in
    on_err c.push.result (λ e.
    ap (λ (es : List (ℕ × List Term)). gathered c.self.inside.firsts es) (h.0 ∙ ap (set_value (is_at (nat_cmp c.args.customer)) c.self.inside.others.entries) e
    ∙ set_value_same (is_at (nat_cmp c.args.customer)) c.self.inside.others.entries c.in-Some.list.now (sym c.in-Some.ensures.value))
    ∙ c.self.view_is)
    c.push.ensures.err

pub returns-in_ok-insert-in-Some-of_customer-clause-ok : goal.returns-in_ok-insert-in-Some-of_customer-clause-ok
returns-in_ok-insert-in-Some-of_customer-clause-ok c =
    appended c.self.inside.firsts c.get_mut.follows.lender-at-none.entries c.insert.new.self.entries c.args.customer (record { providers = c.args.providers.now; until = c.args.until })
    [] c.in_ok-list-in-Some-of_customer.list c.args.self.now c.in_ok-insert-in-Some-of_customer.ensures.updates.0
    (c.in_ok-list-in-Some-of_customer.ensures ∙ ap (λ (ps : List ℕ). (record { providers = ps; until = c.args.until }) ∷ []) c.in_ok-from_slice.ensures)
    (ap (λ (m : BTreeMap ℕ (List Term)). list_or_none (lookup (is_at (nat_cmp c.args.customer)) m.entries)) c.get_mut.follows.holds-at-none ∙ ap list_or_none (sym c.in-None.ensures.value))
    (ap (λ (m : BTreeMap ℕ (List Term)). gathered c.self.inside.firsts m.entries) c.get_mut.follows.holds-at-none ∙ c.self.view_is)

pub returns-in-None-of_customer-clause-ok : goal.returns-in-None-of_customer-clause-ok
returns-in-None-of_customer-clause-ok c = on_ok c.set_only.result (λ e.
    ap (λ (m : BTreeMap ℕ (List Term)). gathered c.set_only.new.self m.entries) c.get_mut.follows.holds-at-none
    ∙ begun c.self.inside.firsts c.set_only.new.self c.self.inside.others.entries c.args.customer (record { providers = c.args.providers.now; until = c.args.until })
    (record { providers = c.in_ok-from_slice.field-0; until = c.args.until }) c.args.self.now (sym c.in-None-of_customer.ensures.given) (sym c.in-None.ensures.value)
    e (ap (λ (ps : List ℕ). record { providers = ps; until = c.args.until }) c.in_ok-from_slice.ensures) c.self.view_is)
    c.set_only.ensures.ok
