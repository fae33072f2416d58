use Rattle.std.proofs.Common.{Err, List, ℕ, refl, sym, ap, subst, ◌∙◌, arith}
use Rattle.std.specs.Option.{IsSome}
use Rattle.av_text.specs.Spellings.{IsInLine}
use Rattle.av_text.proofs.AnySpellingLemmas.{names_in_line}
use Rattle.rtr_client.proofs.NamedLemmas.{at_name}
use Rattle.aspa_top.proofs.DidLemmas.{did_err}
use Rattle.aspa_top.proofs.KeepLemmas.{keeps_both}
use Rattle.aspa_top.proofs.OpenLemmas.{open_done, open_stopped}
use Rattle.aspa_top.proofs.dumps.take_open.Goals as goal

pub take-requires-clause-given : goal.take-requires-clause-given
take-requires-clause-given g c = (c.requires.begun.sound.given c.args.name.now c.in-Some.dump.now (sym c.in-Some.ensures.value)).0

pub take-requires-clause-few_taken : goal.take-requires-clause-few_taken
take-requires-clause-few_taken g c =
    let here = c.requires.begun.sound.given c.args.name.now c.in-Some.dump.now (sym c.in-Some.ensures.value) in
    omega (arith, here.1, c.requires.begun.few)

pub returns : goal.returns
returns g c = record {
  keeps = record { lent = refl; keeps = keeps_both _ _ _ _ _ _ _ _ c.take.ensures.others.names c.take.ensures.shelf_faults c.take.ensures.grows c.take.ensures.sink_faults };
  did = open_done c.args.working c.args.name.now c.in-Some.dump.now c.take.new.dump _ _ _ _ _ _ _ _ _ c.requires.begun (sym c.in-Some.ensures.value)
      c.take.ensures.others (λ i. record { line = c.args.working.lines; name = c.text.ensures.text i })
      (c.take.ensures.reports (subst (λ (name : List ℕ). IsInLine name) (sym c.text.ensures.text) (names_in_line _ c.text.ensures.is_name)))
      c.args.until c.args.count c.requires.may c.take.ensures.ticks _ c.take.new.progress c.in_ok-take.ensures.took
      (λ q. ((c.get_mut.follows.holds c.take.new.dump).3 (subst (λ o. IsSome o) c.in-Some.ensures.value refl)).0 q ∙ at_name c.args.name.now q _ _) refl
      c.take.ensures.opened c.take.ensures.file c.in_ok-take.ensures.few;
}

pub returns-in_err-take : goal.returns-in_err-take
returns-in_err-take g c = record {
  keeps = record { lent = refl; keeps = keeps_both _ _ _ _ _ _ _ _ c.take.ensures.others.names c.take.ensures.shelf_faults c.take.ensures.grows c.take.ensures.sink_faults };
  did = did_err c.args.working _ _ _ c.from_residual.result _ c.from_residual.ensures.1
      (open_stopped c.args.working c.args.name.now c.in-Some.dump.now c.take.new.dump _ _ _ _ _ _ _ _ _ c.requires.begun (sym c.in-Some.ensures.value)
      c.take.ensures.others (λ i. record { line = c.args.working.lines; name = c.text.ensures.text i })
      (c.take.ensures.reports (subst (λ (name : List ℕ). IsInLine name) (sym c.text.ensures.text) (names_in_line _ c.text.ensures.is_name)))
      c.args.until c.args.count c.requires.may c.take.ensures.ticks c.in_err-take.field-0.0 c.take.ensures.some (λ same. c.in_err-take.ensures.shelf_cause (ap Err same))
      (λ same. (c.in_err-take.ensures.held (ap Err same), c.in_err-take.ensures.sink_cause (ap Err same))));
}
