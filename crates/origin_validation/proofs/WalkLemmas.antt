-- What a range of the states that are held gives.
use Rattle.std.specs.BTreeMap.{BTreeMap}
use Rattle.std.specs.BTreeMap.Range.{IsEntryInRange}
use Rattle.std.specs.List.{All, slice_index_or}
use Rattle.std.specs.declared.ops.Bound.{Bound}
use Rattle.std.proofs.lemmas.List.Elements.{recursion_from_All}
use Rattle.origin_model.specs.declared.origin_state.OriginState.{OriginState}
use Rattle.origin_model.specs.Current.{Parts}
use Rattle.origin_validation.specs.Held.{AreAllRight, AreRight, Entries, IsRight, Pair, pair_cmp}

-- each state of a range is its pair's
pub range_right : (parts : Parts) (held : BTreeMap Pair OriginState) (entries : Entries) (from to : Bound Pair) → AreRight parts held.entries → All (IsEntryInRange pair_cmp from to held) entries
    → AreAllRight parts entries
range_right parts held entries from to right all = recursion_from_All (λ e. IsRight parts e.0 e.1) entries (λ k d within. let e = slice_index_or entries k d in right.each e.0 e.1 (all k d within).1)
