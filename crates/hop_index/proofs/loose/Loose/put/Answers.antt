use Rattle.std.proofs.Common.{◌≤◌, ℕ, List, length, set, sym, subst, arith}
use Rattle.std.proofs.lemmas.List.{length-map}
use Rattle.hop_index.specs.Loose.{Chains, SetsChain}
use Rattle.hop_index.specs.Words.{chain_in, chains_in}
use Rattle.hop_index.specs.declared.loose.Loose.TheInside.{Inside}
use Rattle.hop_index.proofs.WordLemmas.{Begins, begins_push, begins_set, sets_anew}
use Rattle.hop_index.proofs.loose.Loose.put.Goals as goal
use Rattle.hop_index.proofs.loose.Loose.put.Goals.{then-case-len, else-case-len+in_ok-push}

pub returns-clause-set : goal.returns-clause-set
returns-clause-set c =
    let words = c.self.inside.words.items in
    let words' = c.put_words.new.words.items in
    let begins = c.self.inside.begins.items in
    let begin : ℕ = c.in_ok-begin.begin in
    let sets : (begins' : List ℕ) → Begins begins c.args.case begin begins' → SetsChain c.args.self.now c.args.case c.args.chain.now (chains_in words' begins') =
    λ begins' anew. subst (λ (before : Chains). SetsChain before c.args.case c.args.chain.now (chains_in words' begins')) c.self.view_is
    (sets_anew words words' begins begins' c.args.chain.now c.args.case begin c.self.invariant c.in_ok-begin.ensures.few anew c.in_ok-begin.ensures.same c.in_ok-begin.ensures.chain) in
    let at_most : c.args.case ≤ length begins =
    omega (arith, subst (λ (chains : Chains). c.args.case ≤ length chains) (sym c.self.view_is) c.requires, length-map begins (chain_in words)) in
    elim c.if-case-len.branch [
      | then-case-len w ↦
          subst (λ (inside : Inside). SetsChain c.args.self.now c.args.case c.args.chain.now (chains_in inside.words.items inside.begins.items)) (sym w.self-inside-is)
          (sets (set begins c.args.case begin) (begins_set begins c.args.case begin (omega (arith, w.if-case-len.true, c.len.ensures, c.self.inside.begins.ok.0))))
      | else-case-len+in_ok-push w ↦
          subst (λ (inside : Inside). SetsChain c.args.self.now c.args.case c.args.chain.now (chains_in inside.words.items inside.begins.items)) (sym w.self-inside-is)
          (sets w.push.new.self.items (subst (Begins begins c.args.case begin) (sym w.in_ok-push.ensures.items)
          (begins_push begins c.args.case begin (omega (arith, w.if-case-len.false, c.len.ensures, c.self.inside.begins.ok.0, at_most)))))
    ]
