use Rattle.std.proofs.Common.{ℕ, nat_eq, List, sym, subst}
use Rattle.std.specs.List.{IsDistinct}
use Rattle.std.specs.Map.{keys_of}
use Rattle.attestations.specs.declared.term.Term.{Term}
use Rattle.attestations.specs.Entries.{AreEntriesOf}
use Rattle.attestations.specs.Terms.{SetOfTerms, TermMap}
use Rattle.attestations.proofs.HeldLemmas.{entries_whole, entries_once, three_entries}
use Rattle.attestations.proofs.terms.Terms.entries.Goals as goal

pub returns-clause-whole : goal.returns-clause-whole
returns-clause-whole c = subst (λ (es : List (ℕ × Term)). AreEntriesOf c.args.self.now (three_entries c.entries.result.inner es c.iter-2.result)) (sym c.iter.ensures.rest)
    (subst (λ (es : List (ℕ × SetOfTerms)). AreEntriesOf c.args.self.now (three_entries c.entries.result.inner c.self.inside.single.entries es)) (sym c.iter-2.ensures.rest)
    (subst (λ (m : TermMap). AreEntriesOf m (three_entries c.entries.result.inner c.self.inside.single.entries c.self.inside.many.entries)) c.self.view_is
    (entries_whole c.self.inside.rows c.entries.result.inner c.self.inside.single.entries c.self.inside.many.entries c.entries.ensures.whole)))

pub returns-clause-once : goal.returns-clause-once
returns-clause-once c =
    let of_maps = entries_once c.self.inside.rows c.entries.result.inner c.self.inside.single.entries c.self.inside.many.entries c.entries.ensures.whole c.self.invariant
    c.entries.ensures.rising c.iter.ensures.ordered c.iter-2.ensures.ordered in
    subst (λ (es : List (ℕ × Term)). IsDistinct nat_eq (keys_of (three_entries c.entries.result.inner es c.iter-2.result))) (sym c.iter.ensures.rest)
    (subst (λ (es : List (ℕ × SetOfTerms)). IsDistinct nat_eq (keys_of (three_entries c.entries.result.inner c.self.inside.single.entries es))) (sym c.iter-2.ensures.rest) of_maps)
