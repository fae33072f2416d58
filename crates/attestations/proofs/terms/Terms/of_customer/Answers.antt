use Rattle.std.proofs.Common.{ℕ, List, [], ◌∷◌, Some, ap, sym, ◌∙◌, subst}
use Rattle.std.specs.declared.option.Option.{Option}
use Rattle.std.specs.Ordering.{nat_cmp}
use Rattle.std.specs.FinMap as map
use Rattle.attestations.specs.declared.term.Term.{Term}
use Rattle.attestations.specs.Terms.{SetOfTerms, TermMap, HaveSetsOfProviders, lasting, members, set_of, terms_or_none}
use Rattle.attestations.proofs.HeldLemmas.{found, get-held, lent, of_three}
use Rattle.attestations.proofs.TermLemmas.{members_empty, one_rises, set_of_members}
use Rattle.attestations.proofs.terms.Terms.of_customer.Goals as goal

-- ---- a row

pub returns-in-Some-clause-given : goal.returns-in-Some-clause-given
returns-in-Some-clause-given c =
    ap (λ (o : Option (List ℕ)). of_three o (map.find nat_cmp c.args.customer c.self.inside.single.entries) (map.find nat_cmp c.args.customer c.self.inside.many.entries)) c.in-Some.ensures.row
    ∙ sym (get-held c.self.inside.rows c.self.inside.single.entries c.self.inside.many.entries c.args.customer)
    ∙ ap (λ (m : TermMap). map.get m c.args.customer) c.self.view_is

pub returns-in-Some-clause-whole : goal.returns-in-Some-clause-whole
returns-in-Some-clause-whole c = lent (lasting c.in-Some.row.now ∷ []) (map.get c.args.self.now c.args.customer) (one_rises (lasting c.in-Some.row.now)) (returns-in-Some-clause-given c)

-- ---- one attestation with an end

pub returns-in-Some-get-clause-given : goal.returns-in-Some-get-clause-given
returns-in-Some-get-clause-given c =
    ap (λ (ts : List Term). Some (set_of ts)) c.from_ref.ensures.value
    ∙ (λ i. of_three (c.in-None.ensures.row i) ((c.in-Some-get.ensures.value ∙ sym (found c.self.inside.single.entries c.args.customer)) i) (map.find nat_cmp c.args.customer c.self.inside.many.entries))
    ∙ sym (get-held c.self.inside.rows c.self.inside.single.entries c.self.inside.many.entries c.args.customer)
    ∙ ap (λ (m : TermMap). map.get m c.args.customer) c.self.view_is

pub returns-in-Some-get-clause-whole : goal.returns-in-Some-get-clause-whole
returns-in-Some-get-clause-whole c = c.from_ref.ensures.value
    ∙ lent (c.in-Some-get.term.now ∷ []) (map.get c.args.self.now c.args.customer) (one_rises c.in-Some-get.term.now)
    (ap (λ (ts : List Term). Some (set_of ts)) (sym c.from_ref.ensures.value) ∙ returns-in-Some-get-clause-given c)

pub returns-in-Some-get-clause-sets : goal.returns-in-Some-get-clause-sets
returns-in-Some-get-clause-sets c = subst HaveSetsOfProviders (sym (returns-in-Some-get-clause-whole c))
    (subst (λ (m : TermMap). HaveSetsOfProviders (members (terms_or_none (map.get m c.args.customer)))) c.self.view_is (c.self.invariant.sets c.args.customer))

-- ---- several

pub returns-in-Some-get-2-clause-whole : goal.returns-in-Some-get-2-clause-whole
returns-in-Some-get-2-clause-whole c = c.as_slice.ensures
    ∙ ap (λ (o : Option SetOfTerms). members (terms_or_none o))
    ((λ i. of_three (c.in-None.ensures.row i) ((c.in-None-get.ensures.value ∙ sym (found c.self.inside.single.entries c.args.customer)) i)
    ((c.in-Some-get-2.ensures.value ∙ sym (found c.self.inside.many.entries c.args.customer)) i))
    ∙ sym (get-held c.self.inside.rows c.self.inside.single.entries c.self.inside.many.entries c.args.customer)
    ∙ ap (λ (m : TermMap). map.get m c.args.customer) c.self.view_is)

pub returns-in-Some-get-2-clause-given : goal.returns-in-Some-get-2-clause-given
returns-in-Some-get-2-clause-given c =
    ap (λ (ts : List Term). Some (set_of ts)) c.as_slice.ensures
    ∙ ap Some (set_of_members c.in-Some-get-2.terms.now)
    ∙ (λ i. of_three (c.in-None.ensures.row i) ((c.in-None-get.ensures.value ∙ sym (found c.self.inside.single.entries c.args.customer)) i)
    ((c.in-Some-get-2.ensures.value ∙ sym (found c.self.inside.many.entries c.args.customer)) i))
    ∙ sym (get-held c.self.inside.rows c.self.inside.single.entries c.self.inside.many.entries c.args.customer)
    ∙ ap (λ (m : TermMap). map.get m c.args.customer) c.self.view_is

pub returns-in-Some-get-2-clause-sets : goal.returns-in-Some-get-2-clause-sets
returns-in-Some-get-2-clause-sets c = subst HaveSetsOfProviders (sym (returns-in-Some-get-2-clause-whole c))
    (subst (λ (m : TermMap). HaveSetsOfProviders (members (terms_or_none (map.get m c.args.customer)))) c.self.view_is (c.self.invariant.sets c.args.customer))

-- ---- none

pub returns-in-None-get-2-clause-given : goal.returns-in-None-get-2-clause-given
returns-in-None-get-2-clause-given c =
    (λ i. of_three (c.in-None.ensures.row i) ((c.in-None-get.ensures.value ∙ sym (found c.self.inside.single.entries c.args.customer)) i)
    ((c.in-None-get-2.ensures.value ∙ sym (found c.self.inside.many.entries c.args.customer)) i))
    ∙ sym (get-held c.self.inside.rows c.self.inside.single.entries c.self.inside.many.entries c.args.customer)
    ∙ ap (λ (m : TermMap). map.get m c.args.customer) c.self.view_is

pub returns-in-None-get-2-clause-whole : goal.returns-in-None-get-2-clause-whole
returns-in-None-get-2-clause-whole c = sym members_empty ∙ ap (λ (o : Option SetOfTerms). members (terms_or_none o)) (returns-in-None-get-2-clause-given c)
