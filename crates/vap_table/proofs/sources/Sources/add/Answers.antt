use Rattle.std.proofs.Common.{◌∷◌, [], ◌++◌, ℕ, Some, List, cond, nat_cmp, ap, sym, subst, ◌∙◌}
use Rattle.std.specs.BTreeMap.{is_at}
use Rattle.std.specs.Map.{lookup}
use Rattle.std.specs.Cmp.Lexicographic.{slice_cmp}
use Rattle.attestations.specs.Terms.{TermMap}
use Rattle.vap_table.specs.Sources.{ArePlaces, position_of}
use Rattle.vap_table.proofs.PlacesLemmas.{comes_last, places_added}
use Rattle.vap_table.proofs.sources.Sources.add.Goals as goal

pub invariant_of-self-2 : goal.invariant_of-self-2
invariant_of-self-2 c =
    let held : List (List ℕ × TermMap) = c.self.inside.named.items in
    let places : List (List ℕ × ℕ) = c.self.inside.places.entries in
    subst (λ (sources : List (List ℕ × TermMap)). ArePlaces sources c.insert.new.self.entries)
    (sym (c.push_reserved.ensures.items ∙ ap (λ (sources : List (List ℕ × TermMap)). sources ++ (c.args.name, c.args.terms) ∷ []) c.in_ok-reserve.ensures.items))
    (places_added held places c.insert.new.self.entries c.args.name c.args.terms c.len-place.result
    (ap (λ (sources : List (List ℕ × TermMap)). position_of sources c.args.name) c.self.view_is ∙ c.requires) (c.len-place.ensures ∙ c.self.inside.named.ok.0)
    (λ q. c.in_ok-insert.ensures.updates.0 q
    ∙ ap (λ (name : List ℕ). cond (is_at (slice_cmp nat_cmp name) q) (Some c.len-place.result) (lookup (is_at (slice_cmp nat_cmp q)) places)) c.in_ok-copy.ensures)
    c.self.invariant)

pub returns : goal.returns
returns c = c.push_reserved.ensures.items ∙ ap (λ (sources : List (List ℕ × TermMap)). sources ++ (c.args.name, c.args.terms) ∷ []) (c.in_ok-reserve.ensures.items ∙ c.self.view_is)
    ∙ sym (comes_last c.args.self.now c.args.name c.args.terms c.requires)
