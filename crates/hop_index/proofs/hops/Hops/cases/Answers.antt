use Rattle.std.proofs.Common.{ℕ, List, [], Some, ap, sym, ◌∙◌, arith}
use Rattle.std.specs.FinMap.{get}
use Rattle.std.proofs.lemmas.List.{get_or_read}
use Rattle.hop_index.specs.declared.pair.Pair.{Pair}
use Rattle.hop_index.specs.Lists.{Lists, at}
use Rattle.hop_index.proofs.PlaceLemmas.{place_within, place_found, place_absent}
use Rattle.hop_index.proofs.hops.Hops.cases.Goals as goal

pub returns-in-None : goal.returns-in-None
returns-in-None c =
    let absent = place_absent c.self.inside.by_pair c.self.inside.hops.items c.self.invariant c.args.pair c.word.ensures.small
    (ap (get c.self.inside.by_pair) (sym c.word.ensures.same) ∙ sym c.get.ensures ∙ c.in-None.is) in
    sym (ap (λ (hops : Lists). at hops c.args.pair) (sym c.self.view_is) ∙ absent)

pub index-requires : goal.index-requires
index-requires c =
    omega (
      arith,
      c.self.inside.hops.ok.0,
      place_within c.self.inside.by_pair c.self.inside.hops.items c.self.invariant c.args.pair c.word.ensures.small c.in-Some.place
          (ap (get c.self.inside.by_pair) (sym c.word.ensures.same) ∙ sym c.get.ensures ∙ c.in-Some.is),
    )

pub returns-in-Some : goal.returns-in-Some
returns-in-Some c =
    let there = ap (get c.self.inside.by_pair) (sym c.word.ensures.same) ∙ sym c.get.ensures ∙ c.in-Some.is in
    let hops : Lists = c.self.inside.hops.items in
    let within = place_within c.self.inside.by_pair hops c.self.invariant c.args.pair c.word.ensures.small c.in-Some.place there in
    let found = place_found c.self.inside.by_pair hops c.self.invariant c.args.pair c.word.ensures.small c.in-Some.place there in
    let is = get_or_read hops c.in-Some.place c.index.result.now within c.index.ensures (record { low = 0; high = 0 }, []) in
    ap (λ (hop : Pair × List ℕ). Some (hop.1)) is ∙ sym found ∙ ap (λ (es : Lists). at es c.args.pair) c.self.view_is
