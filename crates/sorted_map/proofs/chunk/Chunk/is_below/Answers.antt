use Rattle.std.proofs.Common.{ap, sym, subst, ◌∙◌, ◌≡◌}
use Rattle.std.specs.declared.cmp.Ordering.TheVariants.{Greater}
use Rattle.std.specs.List.{AllByRecursion}
use Rattle.std.specs.Ordering.{is_gt}
use Rattle.sorted_map.proofs.BlockLemmas.{of_keys}
use Rattle.sorted_map.proofs.ChunkLemmas.{sorted_keys, keys_are}
use Rattle.sorted_map.proofs.SearchLemmas.{below_by_last_key}
use Rattle.sorted_map.proofs.chunk.Chunk.is_below.Goals as goal

pub returns-in-Some : goal.returns-in-Some
returns-in-Some g c = λ told.
    let sorted = sorted_keys g.K.Ord.cmp c.args.key.now c.self.inside.keys.items c.self.inside.values.items c.args.self.now c.self.view_is c.self.invariant c.deref.result.now c.deref.ensures.value c.requires in
    let above = below_by_last_key g.met.K.Ord.total c.args.key.now c.deref.result.now c.in-Some.last.now sorted (sym c.in-Some.ensures.value) (sym (ap is_gt c.cmp.ensures) ∙ sym c.is_gt.ensures ∙ told) in
    of_keys (λ y. g.K.Ord.cmp c.args.key.now y ≡ Greater) c.args.self.now
    (subst (AllByRecursion (λ y. g.K.Ord.cmp c.args.key.now y ≡ Greater)) (c.deref.ensures.value ∙ sym (keys_are c.self.inside.keys.items c.self.inside.values.items c.args.self.now c.self.view_is c.self.invariant)) above)
