use Rattle.std.proofs.Common.{rules, tests, ℕ, List, Bor, ◌∙◌}
use Rattle.std.specs.Str.{bytes_eq}
use Rattle.std.proofs.lemmas.Iterator.{YieldsList-from_slice}
use Rattle.std.proofs.lemmas.Iterator.Search.{any_from_yields_List}
use Rattle.json_fields.proofs.ObjectLemmas.{list_any-map}
use Rattle.json_fields.proofs.names.is_among.Goals as goal

pub returns : goal.returns
returns c =
    any_from_yields_List (λ (o : Bor (List ℕ)). bytes_eq o.now c.args.name.now) _ _ _ c.any.ensures.ran (YieldsList-from_slice c.args.names.now c.iter.ensures.rest) (λ x b q k. search (rules, tests))
    ∙ list_any-map (λ (o : List ℕ). bytes_eq o c.args.name.now) (λ (o : Bor (List ℕ)). o.now) c.args.names.now
