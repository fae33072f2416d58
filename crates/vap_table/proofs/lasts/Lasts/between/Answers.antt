use Rattle.std.proofs.Common.{◌≡◌, ℕ, List, ◌||◌, Bool, false, true, ap, sym, ◌∙◌}
use Rattle.path_model.specs.Authority.{has}
use Rattle.std.specs.List.{filter}
use Rattle.vap_table.proofs.LastsLemmas.{gives, between, none_given, one_given, none_named, given_next}
use Rattle.vap_table.proofs.lasts.Lasts.between.Goals as goal

pub loop-pair-init : goal.loop-pair-init
loop-pair-init c = λ q. ap (λ (xs : List ℕ). has xs q || gives q c.into_iter-pair-iterator.result) c.new-names.ensures

pub loop-pair-preserved : goal.loop-pair-preserved
loop-pair-preserved c = λ q. given_next c.loop-pair.names c.insert.new.self c.in-Some.pair.now c.loop-pair.pair-iterator c.next.new.self q (c.in_ok-insert.ensures.members q) c.in-Some.ensures.steps ∙ c.loop-pair.invariant q

pub returns-clause-others : goal.returns-clause-others
returns-clause-others c = λ q out m least most.
    let none : gives q (filter (between c.args.lower c.args.higher) c.args.self.now) ≡ false =
    ap (gives q) (sym (c.into_iter-pair-iterator.ensures.into_iter_gives ∙ c.range-pair-items.ensures.between tt ∙ ap (λ (ps : List (ℕ × ℕ)). filter (between c.args.lower c.args.higher) ps) c.self.view_is))
    ∙ none_named c.loop-pair.names q c.loop-pair.pair-iterator _ c.in-None.ensures.steps.0 (c.loop-pair.invariant q) out in
    none_given c.args.lower c.args.higher q m least most c.args.self.now none

pub returns-clause-named : goal.returns-clause-named
returns-clause-named c = λ q there.
    let given : gives q (filter (between c.args.lower c.args.higher) c.args.self.now) ≡ true =
    ap (gives q) (sym (c.into_iter-pair-iterator.ensures.into_iter_gives ∙ c.range-pair-items.ensures.between tt ∙ ap (λ (ps : List (ℕ × ℕ)). filter (between c.args.lower c.args.higher) ps) c.self.view_is))
    ∙ sym (c.loop-pair.invariant q) ∙ ap (λ (b : Bool). b || gives q c.loop-pair.pair-iterator) there in
    one_given c.args.lower c.args.higher q c.args.self.now given
