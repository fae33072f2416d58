use Rattle.std.proofs.Common.{◌≡◌, List, [], ◌∷◌, ap, sym, subst}
use Rattle.std.specs.Prelude.{MatchOption}
use Rattle.std.specs.List.{filter_map}
use Rattle.rib_store.specs.declared.journal.ChangedKey.{ChangedKey}
use Rattle.rib_store.specs.declared.journal.Left.{Left}
use Rattle.rib_store.specs.ChangesLeft.{changed, changes_of, row_change}
use Rattle.rib_store.specs.Merge.{merged_left}
use Rattle.rib_store.proofs.journal.JournalIterator.next.Goals as goal

pub returns-in-OfAll-clause-steps : goal.returns-in-OfAll-clause-steps
returns-in-OfAll-clause-steps c =
    let rest : List ChangedKey = filter_map (row_change c.args.self.now.is_marked c.args.self.now.cases.now) (merged_left c.next_row.new.merged) in
    subst (λ (first : List ChangedKey). MatchOption c.next_row.result ((first ≡ []) × (rest ≡ [])) (λ x. first ≡ x ∷ rest))
    (sym (ap (λ (left : Left). changes_of left c.args.self.now.is_marked c.args.self.now.routes.now c.args.self.now.cases.now) c.in-OfAll.is)) c.next_row.ensures

pub returns-in-OfNotes-clause-steps : goal.returns-in-OfNotes-clause-steps
returns-in-OfNotes-clause-steps c =
    let rest : List ChangedKey = filter_map (changed c.args.self.now.routes.now c.args.self.now.cases.now) c.next_changed.new.notes in
    subst (λ (first : List ChangedKey). MatchOption c.next_changed.result ((first ≡ []) × (rest ≡ [])) (λ x. first ≡ x ∷ rest))
    (sym (ap (λ (left : Left). changes_of left c.args.self.now.is_marked c.args.self.now.routes.now c.args.self.now.cases.now) c.in-OfNotes.is)) c.next_changed.ensures
