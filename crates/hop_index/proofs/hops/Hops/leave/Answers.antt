use Rattle.std.proofs.Common.{◌≡◌, ◌<◌, ◌≤◌, ℕ, List, [], length, None, ap, sym, subst, ◌∙◌, arith}
use Rattle.std.specs.FinMap.{FinMap, get, insert, remove}
use Rattle.std.specs.Ordering.{nat_cmp}
use Rattle.std.proofs.lemmas.List.{get_or_read}
use Rattle.hop_index.specs.declared.pair.Pair.{Pair}
use Rattle.hop_index.specs.Lists.{Lists}
use Rattle.hop_index.specs.Kept.{Updates}
use Rattle.hop_index.specs.Pairs.{pair_word}
use Rattle.hop_index.specs.Places.{ArePlaced, hop_at, words_of}
use Rattle.hop_index.proofs.InverseLemmas.{none_removed, some_of}
use Rattle.hop_index.proofs.PlaceLemmas.{place_within, place_absent, placed_last, placed_moved, moved_there, updates_left, same_when_absent}
use Rattle.hop_index.proofs.hops.Hops.leave.Goals as goal

pub invariant_of-self : goal.invariant_of-self
invariant_of-self c =
    let none = ap (get c.self.inside.by_pair) (sym c.word.ensures.same) ∙ sym c.remove.ensures.before ∙ c.in_default.is in
    let same : c.remove.new.self ≡ c.self.inside.by_pair =
    c.remove.ensures.removed ∙ ap (remove c.self.inside.by_pair) c.word.ensures.same ∙ none_removed c.self.inside.by_pair (pair_word c.args.pair) none in
    subst (λ (m : FinMap nat_cmp ℕ). ArePlaced m c.self.inside.hops.items) (sym same) c.self.invariant

pub returns-in_default : goal.returns-in_default
returns-in_default c =
    let none = ap (get c.self.inside.by_pair) (sym c.word.ensures.same) ∙ sym c.remove.ensures.before ∙ c.in_default.is in
    subst (λ (es : Lists). Updates es c.args.pair None c.self.inside.hops.items) c.self.view_is
    (same_when_absent c.self.inside.hops.items c.args.pair (place_absent c.self.inside.by_pair c.self.inside.hops.items c.self.invariant c.args.pair c.word.ensures.small none))

pub swap_remove-requires : goal.swap_remove-requires
swap_remove-requires c =
    let there = ap (get c.self.inside.by_pair) (sym c.word.ensures.same) ∙ sym c.remove.ensures.before ∙ c.in-Some.is in
    omega (arith, c.self.inside.hops.ok.0, place_within c.self.inside.by_pair c.self.inside.hops.items c.self.invariant c.args.pair c.word.ensures.small c.in-Some.place there)

pub invariant_of-self-then-place-len : goal.invariant_of-self-then-place-len
invariant_of-self-then-place-len c =
    let m = c.self.inside.by_pair in
    let hops = c.self.inside.hops.items in
    let left = c.swap_remove.new.self.items in
    let there = ap (get m) (sym c.word.ensures.same) ∙ sym c.remove.ensures.before ∙ c.in-Some.is in
    let mid : c.in-Some.place < length left = omega (arith, c.if-place-len.true, c.len.ensures, c.swap_remove.new.self.ok.0) in
    let key : c.index.result.now ≡ hop_at left c.in-Some.place = get_or_read left c.in-Some.place c.index.result.now mid c.index.ensures (record { low = 0; high = 0 }, []) in
    let word : c.word-then-place-len.result ≡ pair_word (hop_at left c.in-Some.place).0 = c.word-then-place-len.ensures.same ∙ ap (λ (hop : Pair × List ℕ). pair_word hop.0) key in
    let gone : c.remove.new.self ≡ remove m (pair_word c.args.pair) = c.remove.ensures.removed ∙ ap (remove m) c.word.ensures.same in
    let was = c.replace.ensures.before ∙ ap (λ (n : FinMap nat_cmp ℕ). get n c.word-then-place-len.result) gone ∙ ap (get (remove m (pair_word c.args.pair))) word
    ∙ moved_there m hops left c.self.invariant c.args.pair c.word.ensures.small c.in-Some.place c.swap_remove.result there c.swap_remove.ensures.items mid in
    let new : c.replace.new.self ≡ insert (remove m (pair_word c.args.pair)) (pair_word (hop_at left c.in-Some.place).0) c.in-Some.place =
    some_of c.replace.result (length (words_of left)) _ was c.replace.ensures.some
    ∙ ap (λ (n : FinMap nat_cmp ℕ). insert n c.word-then-place-len.result c.in-Some.place) gone
    ∙ ap (λ (w : ℕ). insert (remove m (pair_word c.args.pair)) w c.in-Some.place) word in
    subst (λ (n : FinMap nat_cmp ℕ). ArePlaced n left) (sym new)
    (placed_moved m hops left c.self.invariant c.args.pair c.word.ensures.small c.in-Some.place c.swap_remove.result there c.swap_remove.ensures.items mid)

pub invariant_of-self-else-place-len : goal.invariant_of-self-else-place-len
invariant_of-self-else-place-len c =
    let m = c.self.inside.by_pair in
    let hops = c.self.inside.hops.items in
    let left = c.swap_remove.new.self.items in
    let there = ap (get m) (sym c.word.ensures.same) ∙ sym c.remove.ensures.before ∙ c.in-Some.is in
    let end : length left ≤ c.in-Some.place = omega (arith, c.if-place-len.false, c.len.ensures, c.swap_remove.new.self.ok.0) in
    let gone : c.remove.new.self ≡ remove m (pair_word c.args.pair) = c.remove.ensures.removed ∙ ap (remove m) c.word.ensures.same in
    subst (λ (n : FinMap nat_cmp ℕ). ArePlaced n left) (sym gone)
    (placed_last m hops left c.self.invariant c.args.pair c.word.ensures.small c.in-Some.place c.swap_remove.result there c.swap_remove.ensures.items end)

pub returns-then-place-len : goal.returns-then-place-len
returns-then-place-len c =
    let there = ap (get c.self.inside.by_pair) (sym c.word.ensures.same) ∙ sym c.remove.ensures.before ∙ c.in-Some.is in
    subst (λ (es : Lists). Updates es c.args.pair None c.swap_remove.new.self.items) c.self.view_is
    (updates_left c.self.inside.by_pair c.self.inside.hops.items c.swap_remove.new.self.items c.self.invariant c.args.pair c.word.ensures.small c.in-Some.place
    c.swap_remove.result there c.swap_remove.ensures.items c.replace.new.self (invariant_of-self-then-place-len c))

pub returns-else-place-len : goal.returns-else-place-len
returns-else-place-len c =
    let there = ap (get c.self.inside.by_pair) (sym c.word.ensures.same) ∙ sym c.remove.ensures.before ∙ c.in-Some.is in
    subst (λ (es : Lists). Updates es c.args.pair None c.swap_remove.new.self.items) c.self.view_is
    (updates_left c.self.inside.by_pair c.self.inside.hops.items c.swap_remove.new.self.items c.self.invariant c.args.pair c.word.ensures.small c.in-Some.place
    c.swap_remove.result there c.swap_remove.ensures.items c.remove.new.self (invariant_of-self-else-place-len c))
