use Rattle.std.proofs.Common.{◌≡◌, Some, None, refl, ap, sym, subst, ◌∙◌}
use Rattle.std.specs.declared.option.Option.{Option}
use Rattle.path_model.specs.declared.verdict.Verdict.{Verdict}
use Rattle.shared_cases.specs.declared.case.StoredCase.{StoredCase}
use Rattle.shared_cases.specs.declared.case_name.CaseName.{CaseName}
use Rattle.shared_cases.specs.Cases.{Rewrites, at, is_of_peer}
use Rattle.shared_cases.specs.Kept.{without_chain, AreIndexed, FitBy, Hops}
use Rattle.shared_cases.specs.Naming.{RemovesName}
use Rattle.shared_cases.specs.Totals.{users_of}
use Rattle.shared_cases.proofs.CaseLemmas.{case_gone}
use Rattle.shared_cases.proofs.KeptLemmas.{rewritten_kept}
use Rattle.shared_cases.proofs.OwnLemmas.{left_among}
use Rattle.shared_cases.proofs.TotalsLemmas.{totals_gone}
use Rattle.shared_cases.proofs.VerdictLemmas.{rewritten_verdicts}
use Rattle.shared_cases.proofs.leaving.take_out.Goals as goal

pub returns-clause-fit : goal.returns-clause-fit
returns-clause-fit c = λ hops fit.
    let old = c.args.slab.now.slots in
    let new = c.try_remove.new.self.slots in
    let case : StoredCase = c.in-Some.case in
    let rest : Hops = without_chain hops c.args.number case.trail.chain in
    let here : at old c.args.number ≡ Some case = sym c.try_remove.ensures.value ∙ c.in-Some.is in
    let writes : Rewrites old new c.args.number None = record { here = c.in-Some.ensures.updates.changed; others = c.in-Some.ensures.updates.others } in
    let indexed : AreIndexed new c.remove-2.new.self rest c.remove.new.self.members =
    case_gone old new c.args.kept.now.names c.remove-2.new.self hops rest c.args.kept.now.peers.members c.remove.new.self.members c.args.number case fit.0.indexed here writes
    (subst (λ (name : CaseName). RemovesName c.args.kept.now.names name.asn name.trail c.args.number c.remove-2.new.self) c.new-name.ensures c.remove-2.ensures)
    (λ x y n. refl) c.remove.ensures.members in
    subst (λ (name : CaseName). FitBy (without_chain hops c.args.number name.trail.chain) new
    (record c.args.kept.now { names = c.remove-2.new.self; peers = c.remove.new.self; totals = c.minus-kept.result; verdicts = c.clear.new.self })) (sym c.new-name.ensures) (
      rewritten_kept old new c.args.number None c.args.kept.now.names c.remove-2.new.self hops rest c.args.kept.now.peers c.remove.new.self c.args.kept.now.differed fit.0 writes refl tt
          indexed tt (λ m other was. left_among c.args.kept.now.peers.defaulted c.remove.new.self.defaulted c.remove.new.self.members m c.remove.ensures.defaulted
          (at old m) (λ asn. indexed.members asn m ∙ ap (λ (o : Option StoredCase). is_of_peer o asn) (writes.others m other)) was),
      totals_gone old new c.args.number c.args.kept.now.totals c.minus-kept.result c.of.result fit.1
          case writes here (c.of.ensures ∙ ap (λ (verdict : Verdict). users_of verdict case.users) c.verdict.ensures) c.minus-kept.ensures,
      rewritten_verdicts old new c.args.number None c.args.kept.now.verdicts c.clear.new.self writes c.clear.ensures fit.2,
    )
