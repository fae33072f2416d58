use Rattle.std.proofs.Common.{ℕ, List, subst, map}
use Rattle.std.specs.declared.option.Option.{Option}
use Rattle.std.specs.String.{string_bytes}
use Rattle.connection_calls.proofs.FaultsLemmas.{BreaksByFault-refl, new_unbroken}
use Rattle.report_text.specs.Reported.{AddsFront}
use Rattle.report_text.proofs.ReportedLemmas.{few_unreachable}
use Rattle.aspa_top.specs.declared.words.Form.{Form}
use Rattle.aspa_top.specs.Program.{Demonstrates}
use Rattle.aspa_top.specs.Words.{HasForm}
use Rattle.aspa_top.proofs.KeepLemmas.{GoesOn-refl}
use Rattle.aspa_top.proofs.WordsLemmas.{one_seed}
use Rattle.aspa_top.proofs.program.run.Goals as goal

pub returns-in-Demo-clause-demonstrated : goal.returns-in-Demo-clause-demonstrated
returns-in-Demo-clause-demonstrated g c = λ seed demo.
    let words = map string_bytes c.args.words.now.items in
    let asked = subst (λ (form : Form). HasForm words form) c.in-Demo.is c.form_of.ensures in
    subst (λ (n : ℕ). Demonstrates n (g.W.Sink.written c.args.out.now) (g.W.Sink.written c.run_demo.new.out) c.run_demo.result) (one_seed words c.in-Demo.seed seed asked demo) c.run_demo.ensures.demonstrates

pub returns-in-Run-clause-few_unreachable : goal.returns-in-Run-clause-few_unreachable
returns-in-Run-clause-few_unreachable g c = λ run before text old new.
    few_unreachable before text _ _ _ (subst (λ (o : Option (List ℕ)). AddsFront o (g.W.Sink.written c.run_script.new.out) (g.K.Links.faults c.args.links.now) (g.K.Links.faults c.run_script.new.links)) old c.run_script.ensures.runs.adds) new

pub returns-in-Demo-clause-unbroken : goal.returns-in-Demo-clause-unbroken
returns-in-Demo-clause-unbroken g c = BreaksByFault-refl _ _

pub returns-in-Other-clause-unbroken : goal.returns-in-Other-clause-unbroken
returns-in-Other-clause-unbroken g c = BreaksByFault-refl _ _

pub returns-in-Demo-clause-later : goal.returns-in-Demo-clause-later
returns-in-Demo-clause-later g c = GoesOn-refl _

pub returns-in-Other-clause-later : goal.returns-in-Other-clause-later
returns-in-Other-clause-later g c = GoesOn-refl _

pub returns-in-Run-clause-new_unbroken : goal.returns-in-Run-clause-new_unbroken
returns-in-Run-clause-new_unbroken g c = new_unbroken _ _ _ _ (g.met.K.Links.agrees c.args.links.now) (g.met.K.Links.agrees c.run_script.new.links) c.run_script.ensures.keeps.broke

pub returns-in-Demo-clause-new_unbroken : goal.returns-in-Demo-clause-new_unbroken
returns-in-Demo-clause-new_unbroken g c = new_unbroken _ _ _ _ (g.met.K.Links.agrees c.args.links.now) (g.met.K.Links.agrees c.args.links.now) (BreaksByFault-refl _ _)

pub returns-in-Other-clause-new_unbroken : goal.returns-in-Other-clause-new_unbroken
returns-in-Other-clause-new_unbroken g c = new_unbroken _ _ _ _ (g.met.K.Links.agrees c.args.links.now) (g.met.K.Links.agrees c.args.links.now) (BreaksByFault-refl _ _)
