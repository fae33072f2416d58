use Rattle.std.proofs.Common.{ℕ, List, OnOk, ap, ◌∙◌, subst}
use Rattle.std.specs.declared.result.Result.{Result}
use Rattle.std.specs.declared.result.Result.TheVariants.{Ok, Err}
use Rattle.std.specs.FinMap as map
use Rattle.path_model.specs.Sets.{IsSetOf}
use Rattle.attestations.specs.declared.term.Term.{Term}
use Rattle.attestations.specs.Held.{with_list}
use Rattle.attestations.specs.Terms.{terms_or_none}
use Rattle.attestations.proofs.TermLemmas.{united}
use Rattle.attestations.proofs.terms.Terms.unite.Goals as goal

on_ok : {T E P Q : Type 0} (r : Result T E) → (P → Q) → OnOk r P → OnOk r Q
on_ok (Ok x) f p = f p
on_ok (Err e) f p = tt

pub returns-clause-ok : goal.returns-clause-ok
returns-clause-ok c = on_ok c.unite_list.result (λ is. record {
  row = c.into_set-providers.result;
  is_set = subst (λ (xs : List ℕ). IsSetOf xs c.into_set-providers.result) c.in_ok-from_slice.ensures c.into_set-providers.ensures;
  whole = is
      ∙ ap (λ (list : List Term). with_list c.args.self.now c.args.customer list) c.in_ok-list.ensures
      ∙ ap (map.insert c.args.self.now c.args.customer) (united (terms_or_none (map.get c.args.self.now c.args.customer)) (record { providers = c.into_set-providers.result; until = c.args.until }));
}) c.unite_list.ensures.ok
