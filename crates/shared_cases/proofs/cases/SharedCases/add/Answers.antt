use Rattle.std.proofs.Common.{ℕ, List, Some, refl, ap, sym, subst, ◌∙◌}
use Rattle.path_model.specs.declared.verdict.Verdict.{Verdict}
use Rattle.hop_index.specs.Index.{has as hops_have}
use Rattle.shared_cases.specs.declared.case.StoredCase.{StoredCase}
use Rattle.shared_cases.specs.Cases.{Slots, at, Rewrites, IsAbsent}
use Rattle.shared_cases.specs.Kept.{AreKept}
use Rattle.shared_cases.specs.Taking.{new_case}
use Rattle.shared_cases.specs.Totals.{users_of}
use Rattle.shared_cases.specs.Verdicts.{SetsVerdict}
use Rattle.shared_cases.proofs.CaseLemmas.{case_come}
use Rattle.shared_cases.proofs.KeptLemmas.{rewritten_kept}
use Rattle.shared_cases.proofs.OwnLemmas.{newly_among, still_among}
use Rattle.shared_cases.proofs.TotalsLemmas.{totals_come}
use Rattle.shared_cases.proofs.VerdictLemmas.{rewritten_verdicts}
use Rattle.shared_cases.proofs.cases.SharedCases.add.Goals as goal

pub invariant_of-self-in-Ok : goal.invariant_of-self-in-Ok
invariant_of-self-in-Ok c =
    let n : ℕ = c.in_ok-number.number in
    let case : StoredCase = new_case c.args.name.asn c.args.name.trail c.args.judged c.args.own in
    let writes : Rewrites c.self.inside.slab.slots c.insert.new.self.slots n (Some case) = record {
      here = c.in_ok-number.ensures.updates.changed ∙ ap (λ (stored : StoredCase). Some stored) c.in_ok-case.ensures;
      others = c.in_ok-number.ensures.updates.others;
    } in (
      subst (λ (ns : List ℕ). AreKept c.insert.new.self.slots c.add.new.self.names (hops_have c.add.new.self.index) c.add.new.self.peers ns) (sym c.add.ensures.differed)
          (rewritten_kept c.self.inside.slab.slots c.insert.new.self.slots n (Some case) c.self.inside.kept.names c.add.new.self.names
          (hops_have c.self.inside.kept.index) (hops_have c.add.new.self.index) c.self.inside.kept.peers c.add.new.self.peers c.self.inside.kept.differed c.self.invariant.0 writes refl refl
          (case_come c.self.inside.slab.slots c.insert.new.self.slots c.self.inside.kept.names c.add.new.self.names (hops_have c.self.inside.kept.index) (hops_have c.add.new.self.index)
          c.self.inside.kept.peers.members c.add.new.self.peers.members n case c.self.invariant.0.indexed c.in_ok-number.ensures.was_vacant writes
          c.in-Ok.ensures.name
          (subst (λ (cases : Slots). IsAbsent cases c.args.name.asn c.args.name.trail) (sym c.self.view_is) c.requires.absent)
          c.in-Ok.ensures.hops
          c.in-Ok.ensures.members)
          (newly_among c.self.inside.kept.peers.defaulted c.add.new.self.peers.defaulted c.args.name.asn c.args.own c.in-Ok.ensures.defaulted)
          (λ m other was. still_among c.self.inside.kept.peers.defaulted c.add.new.self.peers.defaulted c.args.name.asn c.args.own c.in-Ok.ensures.defaulted
          (at c.self.inside.slab.slots m) was)),
      totals_come c.self.inside.slab.slots c.insert.new.self.slots n c.self.inside.kept.totals c.in_ok-totals.totals c.of.result c.self.invariant.1
          c.args.name.asn c.args.name.trail c.args.judged c.args.own writes c.in_ok-number.ensures.was_vacant
          (c.of.ensures ∙ ap (λ (verdict : Verdict). users_of verdict 1) c.verdict-verdict.ensures) c.in_ok-totals.ensures,
      rewritten_verdicts c.self.inside.slab.slots c.insert.new.self.slots n (Some case) c.self.inside.kept.verdicts c.add.new.self.verdicts writes
          (subst (λ (verdict : Verdict). SetsVerdict c.self.inside.kept.verdicts c.add.new.self.verdicts n verdict) c.verdict-verdict.ensures c.in-Ok.ensures.verdict) c.self.invariant.2,
    )
