use Rattle.std.proofs.Common.{◌≡◌, ◌≤◌, ℕ, List, Some, None, length, nat_eq, slice_index_or, arith, ap, sym, subst, ◌∙◌}
use Rattle.std.specs.Map.{lookup}
use Rattle.std.specs.Cmp.Lexicographic.{pointwise}
use Rattle.attestations.specs.Terms.{TermMap}
use Rattle.vap_table.specs.Sources.{position_of}
use Rattle.vap_table.proofs.PlacesLemmas.{place_within, taken_there, not_found}
use Rattle.vap_table.proofs.sources.Sources.terms.Goals as goal

pub returns-in_err-place : goal.returns-in_err-place
returns-in_err-place c =
    let missing : lookup (pointwise nat_eq c.args.name.now) c.args.self.now ≡ None = not_found c.args.self.now c.args.name.now (sym c.place.ensures ∙ c.in_err-place.was) in
    cc c.from_residual.ensures

pub returns-in-Some : goal.returns-in-Some
returns-in-Some c =
    let there : position_of c.args.self.now c.args.name.now ≡ Some c.in_ok-place.place = sym c.place.ensures ∙ c.in_ok-place.was in
    taken_there c.args.self.now c.args.name.now c.in_ok-place.place c.in-Some.source.now there
    (c.in-Some.ensures.lookup.1 ∙ ap (λ (l : List (List ℕ × TermMap)). slice_index_or l c.in_ok-place.place c.in-Some.source.now) (c.deref.ensures.value ∙ c.self.view_is))

pub returns-in-None : goal.returns-in-None
returns-in-None c =
    let within = place_within c.args.self.now c.args.name.now c.in_ok-place.place (sym c.place.ensures ∙ c.in_ok-place.was) in
    let past : length c.args.self.now ≤ c.in_ok-place.place = subst (λ (l : List (List ℕ × TermMap)). length l ≤ c.in_ok-place.place) (c.deref.ensures.value ∙ c.self.view_is) c.in-None.ensures.lookup.3 in
    absurd (omega (arith, within, past))
