use Rattle.std.proofs.Common.{None, cond, nat_cmp, ap, sym, subst, ◌∙◌}
use Rattle.std.specs.BTreeMap.{is_at}
use Rattle.std.specs.FinMap as map
use Rattle.vap_table.specs.Quick.{Places, Quick, AreHeld, quick_row}
use Rattle.vap_table.proofs.QuickLemmas.{removed_row, removed_held}
use Rattle.vap_table.proofs.quick_rows.QuickRows.remove.Goals as goal

pub invariant_of-self : goal.invariant_of-self
invariant_of-self c =
    subst (λ (places : Places). AreHeld places c.self.inside.words.items c.self.inside.filter.words.items) (sym (c.remove-before.ensures.removed ∙ ap (map.remove c.self.inside.places) c.from.ensures))
    (removed_held c.self.inside.places c.self.inside.words.items c.self.inside.filter.words.items c.args.customer c.self.invariant)

pub returns : goal.returns
returns c = λ q.
    ap (λ (quick : Quick). quick_row quick q) c.count_gone.ensures
    ∙ ap (λ (places : Places). quick_row (places, c.self.inside.words.items) q) (c.remove-before.ensures.removed ∙ ap (map.remove c.self.inside.places) c.from.ensures)
    ∙ removed_row c.self.inside.places c.self.inside.words.items c.args.customer q
    ∙ ap (λ (quick : Quick). cond (is_at (nat_cmp c.args.customer) q) None (quick_row quick q)) c.self.view_is
