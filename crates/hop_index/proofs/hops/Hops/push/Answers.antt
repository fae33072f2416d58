use Rattle.std.proofs.Common.{◌≡◌, ℕ, [], ◌∷◌, ◌++◌, Bool, cond, not, length, ap, sym, subst, ◌∙◌, arith, None, Some}
use Rattle.std.specs.FinMap.{FinMap, get, insert, remove}
use Rattle.std.specs.Ordering.{nat_cmp}
use Rattle.hop_index.specs.Lists.{Lists}
use Rattle.hop_index.specs.Kept.{Updates}
use Rattle.hop_index.specs.Pairs.{pair_word}
use Rattle.hop_index.specs.Places.{ArePlaced, words_of}
use Rattle.hop_index.proofs.InverseLemmas.{undone}
use Rattle.hop_index.proofs.PlaceLemmas.{placed_more, updates_more, map_absent}
use Rattle.hop_index.proofs.hops.Hops.push.Goals as goal

pub put_new-requires : goal.put_new-requires
put_new-requires c =
    let none : get c.self.inside.by_pair (pair_word c.args.pair) ≡ None = map_absent c.self.inside.by_pair c.self.inside.hops.items c.args.self.now c.self.invariant c.self.view_is c.args.pair c.word.ensures.small c.requires in
    ap (get c.self.inside.by_pair) c.word.ensures.same ∙ none

pub invariant_of-self-then-is_err : goal.invariant_of-self-then-is_err
invariant_of-self-then-is_err c =
    let hops = c.self.inside.hops.items in
    let same : c.push.new.self.items ≡ hops =
    c.push.ensures.items ∙ ap (λ (b : Bool). cond b (hops ++ (c.args.pair, c.args.cases) ∷ []) hops) (c.is_err.ensures.negation ∙ ap not c.if-is_err.true) in
    let none : get c.self.inside.by_pair (pair_word c.args.pair) ≡ None = map_absent c.self.inside.by_pair hops c.args.self.now c.self.invariant c.self.view_is c.args.pair c.word.ensures.small c.requires in
    let back : c.remove.new.self ≡ c.self.inside.by_pair =
    c.remove.ensures.removed ∙ ap (remove c.put_new.new.self) c.word-then-is_err.ensures.same
    ∙ ap (λ (m : FinMap nat_cmp ℕ). remove m (pair_word c.args.pair)) (c.in_ok-put_new.ensures.ok ∙ ap (λ (word : ℕ). insert c.self.inside.by_pair word c.in-Ok.place) c.word.ensures.same)
    ∙ undone c.self.inside.by_pair (words_of hops) (pair_word c.args.pair) c.self.invariant.inverse none c.in-Ok.place in
    subst (λ (es : Lists). ArePlaced c.remove.new.self es) (sym same) (subst (λ (m : FinMap nat_cmp ℕ). ArePlaced m hops) (sym back) c.self.invariant)

pub invariant_of-self-else-is_err : goal.invariant_of-self-else-is_err
invariant_of-self-else-is_err c =
    let hops = c.self.inside.hops.items in
    let more : c.push.new.self.items ≡ hops ++ (c.args.pair, c.args.cases) ∷ [] =
    c.push.ensures.items ∙ ap (λ (b : Bool). cond b (hops ++ (c.args.pair, c.args.cases) ∷ []) hops) (c.is_err.ensures.negation ∙ ap not c.if-is_err.false) in
    let at : c.in-Ok.place ≡ length hops = omega (arith, c.in-Ok.ensures.1, c.len.ensures, c.self.inside.hops.ok.0) in
    let none : get c.self.inside.by_pair (pair_word c.args.pair) ≡ None = map_absent c.self.inside.by_pair hops c.args.self.now c.self.invariant c.self.view_is c.args.pair c.word.ensures.small c.requires in
    let new : c.put_new.new.self ≡ insert c.self.inside.by_pair (pair_word c.args.pair) (length hops) =
    c.in_ok-put_new.ensures.ok ∙ ap (λ (word : ℕ). insert c.self.inside.by_pair word c.in-Ok.place) c.word.ensures.same ∙ ap (insert c.self.inside.by_pair (pair_word c.args.pair)) at in
    subst (λ (es : Lists). ArePlaced c.put_new.new.self es) (sym more) (subst (λ (m : FinMap nat_cmp ℕ). ArePlaced m (hops ++ (c.args.pair, c.args.cases) ∷ [])) (sym new)
    (placed_more c.self.inside.by_pair hops c.self.invariant c.args.pair c.args.cases c.word.ensures.small none (omega (arith, c.in_ok-put_new.ensures.small, at))))

pub returns : goal.returns
returns c =
    let hops = c.self.inside.hops.items in
    let more : c.push.new.self.items ≡ hops ++ (c.args.pair, c.args.cases) ∷ [] =
    c.push.ensures.items ∙ ap (λ (b : Bool). cond b (hops ++ (c.args.pair, c.args.cases) ∷ []) hops) (c.is_err.ensures.negation ∙ ap not c.if-is_err.false) in
    let at : c.in-Ok.place ≡ length hops = omega (arith, c.in-Ok.ensures.1, c.len.ensures, c.self.inside.hops.ok.0) in
    let none : get c.self.inside.by_pair (pair_word c.args.pair) ≡ None = map_absent c.self.inside.by_pair hops c.args.self.now c.self.invariant c.self.view_is c.args.pair c.word.ensures.small c.requires in
    subst (λ (es : Lists). Updates c.args.self.now c.args.pair (Some c.args.cases) es) (sym more)
    (subst (λ (es : Lists). Updates es c.args.pair (Some c.args.cases) (hops ++ (c.args.pair, c.args.cases) ∷ [])) c.self.view_is
    (updates_more c.self.inside.by_pair hops c.self.invariant c.args.pair c.args.cases c.word.ensures.small none (omega (arith, c.in_ok-put_new.ensures.small, at))))
