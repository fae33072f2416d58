use Rattle.std.proofs.Common.{◌≡◌, ℕ, Some, cond, List, [], ◌∷◌, ◌++◌, length, nat_cmp, ap, sym, subst, ◌∙◌, append_assoc, arith}
use Rattle.std.specs.BTreeMap.{is_at}
use Rattle.std.specs.FinMap as map
use Rattle.vap_table.specs.Quick.{Quick, AreHeld, quick_row}
use Rattle.vap_table.proofs.QuickLemmas.{all_held, all_put, all_put_held}
use Rattle.vap_table.proofs.quick_rows.QuickRows.put.Goals as goal

pub invariant_of-self-in_err-extend_from_slice : goal.invariant_of-self-in_err-extend_from_slice
invariant_of-self-in_err-extend_from_slice c =
    rw (c.in_err-extend_from_slice.ensures.items, c.in_ok-push.ensures.items)
    (all_held c.self.inside.places c.self.inside.words.items (c.in-Ok-try_from.len ∷ []) c.self.inside.filter.words.items c.put.new.self.words.items c.put.ensures.kept c.self.invariant)

pub invariant_of-self-in_err-before : goal.invariant_of-self-in_err-before
invariant_of-self-in_err-before c =
    let words : List ℕ = c.self.inside.words.items in
    subst (λ (quick : Quick). AreHeld quick.0 quick.1 c.put.new.self.words.items)
    (λ i. (sym c.in_err-before.ensures.err i, sym (c.in_ok-extend_from_slice.ensures.items ∙ ap (λ (xs : List ℕ). xs ++ c.args.row.now) c.in_ok-push.ensures.items ∙ append_assoc words (c.in-Ok-try_from.len ∷ []) c.args.row.now) i))
    (all_held c.self.inside.places words (c.in-Ok-try_from.len ∷ c.args.row.now) c.self.inside.filter.words.items c.put.new.self.words.items c.put.ensures.kept c.self.invariant)

pub invariant_of-self-2 : goal.invariant_of-self-2
invariant_of-self-2 c =
    let at_end : c.in-Ok.place ≡ length c.self.inside.words.items = omega (arith, c.in-Ok.ensures.1, c.len.ensures, c.self.inside.words.ok.0) in
    let counted : c.in-Ok-try_from.len ≡ length c.args.row.now = omega (arith, c.in-Ok-try_from.ensures.1) in
    all_put_held c.self.inside.places c.set.new.self c.self.inside.words.items c.extend_from_slice.new.self.items c.args.row.now c.args.customer c.in-Ok.place c.in-Ok-try_from.len c.self.invariant.within at_end counted
    (c.in_ok-before.ensures.ok ∙ ap (λ (x : ℕ). map.insert c.self.inside.places x c.in-Ok.place) c.from.ensures)
    (c.in_ok-extend_from_slice.ensures.items ∙ ap (λ (xs : List ℕ). xs ++ c.args.row.now) c.in_ok-push.ensures.items)
    c.put.new.self.words.items (λ x place there. c.put.ensures.kept x (c.self.invariant.marked x place there)) c.in_ok-put.ensures.put

pub returns : goal.returns
returns c = λ q.
    let at_end : c.in-Ok.place ≡ length c.self.inside.words.items = omega (arith, c.in-Ok.ensures.1, c.len.ensures, c.self.inside.words.ok.0) in
    let counted : c.in-Ok-try_from.len ≡ length c.args.row.now = omega (arith, c.in-Ok-try_from.ensures.1) in
    ap (λ (quick : Quick). quick_row quick q) c.count_gone.ensures
    ∙ all_put c.self.inside.places c.set.new.self c.self.inside.words.items c.extend_from_slice.new.self.items c.args.row.now c.args.customer c.in-Ok.place c.in-Ok-try_from.len c.self.invariant.within at_end counted
    (c.in_ok-before.ensures.ok ∙ ap (λ (x : ℕ). map.insert c.self.inside.places x c.in-Ok.place) c.from.ensures)
    (c.in_ok-extend_from_slice.ensures.items ∙ ap (λ (xs : List ℕ). xs ++ c.args.row.now) c.in_ok-push.ensures.items) q
    ∙ ap (λ (quick : Quick). cond (is_at (nat_cmp c.args.customer) q) (Some c.args.row.now) (quick_row quick q)) c.self.view_is
