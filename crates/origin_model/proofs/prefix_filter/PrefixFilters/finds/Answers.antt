use Rattle.std.proofs.Common.{None, ap, sym, ◌∙◌, inl, inr, true≢false}
use Rattle.origin_model.specs.FilterIndex.{has_either}
use Rattle.origin_model.proofs.FilterLemmas.{any_hits, hits_by, within_hits}
use Rattle.origin_model.proofs.prefix_filter.PrefixFilters.finds.Goals as goal

pub returns-then-has_either : goal.returns-then-has_either
returns-then-has_either c =
    let is = c.has_either.ensures ∙ ap (has_either c.args.self.now None) c.asn.ensures in
    (λ t. any_hits c.args.self.now c.args.v.now (sym is ∙ c.if-has_either.true), λ hit. c.if-has_either.true)

pub returns-else-has_either : goal.returns-else-has_either
returns-else-has_either c =
    let is = c.has_either.ensures ∙ ap (has_either c.args.self.now None) c.asn.ensures in (
      λ t. within_hits c.args.self.now c.args.v.now (c.has_within.ensures.0 t),
      λ hit. elim (hits_by c.args.self.now c.args.v.now hit) [
        | inl any ↦ absurd (true≢false (sym any ∙ sym is ∙ c.if-has_either.false))
        | inr within ↦ c.has_within.ensures.1 within
      ],
    )
