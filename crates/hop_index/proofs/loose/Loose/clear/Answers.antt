use Rattle.std.proofs.Common.{ℕ, List, [], set, refl, sym, subst, arith}
use Rattle.hop_index.specs.Loose.{Chains, SetsChain}
use Rattle.hop_index.specs.Words.{chains_in, no_place}
use Rattle.hop_index.specs.declared.loose.Loose.TheInside.{Inside}
use Rattle.hop_index.proofs.WordLemmas.{Begins, begins_none, begins_set, none_in, sets_anew}
use Rattle.hop_index.proofs.loose.Loose.clear.Goals as goal
use Rattle.hop_index.proofs.loose.Loose.clear.Goals.{then-case-len, else-case-len}

pub returns : goal.returns
returns c =
    let words = c.self.inside.words.items in
    let begins = c.self.inside.begins.items in
    let sets : (begins' : List ℕ) → Begins begins c.args.case no_place begins' → SetsChain c.args.self.now c.args.case [] (chains_in words begins') =
    λ begins' anew. subst (λ (before : Chains). SetsChain before c.args.case [] (chains_in words begins')) c.self.view_is
    (sets_anew words words begins begins' [] c.args.case no_place c.self.invariant c.self.invariant.few anew (λ b within. refl) (none_in words c.self.invariant.few)) in
    elim c.if-case-len.branch [
      | then-case-len w ↦
          subst (λ (inside : Inside). SetsChain c.args.self.now c.args.case [] (chains_in inside.words.items inside.begins.items)) (sym w.self-inside-is)
          (sets (set begins c.args.case no_place) (begins_set begins c.args.case no_place (omega (arith, w.if-case-len.true, c.len.ensures, c.self.inside.begins.ok.0))))
      | else-case-len w ↦
          subst (λ (inside : Inside). SetsChain c.args.self.now c.args.case [] (chains_in inside.words.items inside.begins.items)) (sym w.self-inside-is)
          (sets begins (begins_none begins c.args.case (omega (arith, w.if-case-len.false, c.len.ensures, c.self.inside.begins.ok.0))))
    ]
