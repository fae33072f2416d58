use Rattle.std.proofs.Common.{◌+◌, ◌||◌, ℕ, List, drop, ap, sym, ◌∙◌}
use Rattle.std.proofs.lemmas.List.{drop_more}
use Rattle.std.specs.declared.option.Option.{Option}
use Rattle.std.specs.BTreeMap.{is_at}
use Rattle.std.specs.Map.{lookup}
use Rattle.path_model.specs.declared.key.Key.{Key}
use Rattle.path_model.specs.declared.verdict.Verdict.{Verdict}
use Rattle.path_model.specs.Key.{key_cmp}
use Rattle.route_map.specs.Keys.{has_key}
use Rattle.rib_store.specs.Steps.{or_noted}
use Rattle.rib_store.proofs.MarksLemmas.{key_first}
use Rattle.rib_store.proofs.marks.note_all.Goals as goal

pub loop-key-preserved : goal.loop-key-preserved
loop-key-preserved c q =
    let keys : List Key = c.args.keys.now in
    let i : ℕ = c.loop-key.key-index in
    let k : Key = c.key-item.result in
    let rest : List Key = drop (i + 1) keys in
    let old : Option (Option Verdict) = lookup (is_at (key_cmp q)) c.loop-key.notes in
    ap (λ (o : Option (Option Verdict)). or_noted o (has_key rest q) c.args.marked) (c.in_ok-note_first.ensures q)
    ∙ key_first old (is_at (key_cmp k) q) (has_key rest q) c.args.marked
    ∙ ap (λ (x : Key). or_noted old (is_at (key_cmp x) q || has_key rest q) c.args.marked) c.key-item.is
    ∙ sym (ap (λ (ks : List Key). or_noted old (has_key ks q) c.args.marked) (drop_more keys i k c.loop-key-test.true))
    ∙ c.loop-key.invariant q
