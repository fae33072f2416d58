use Rattle.std.proofs.Common.{None, sym, ◌∙◌}
use Rattle.hop_index.proofs.CaseLemmas.{have_cases, are_rising, none_rise}
use Rattle.hop_index.proofs.hops.Hops.remove.Goals as goal

pub returns-then-emptied-clause-kept : goal.returns-then-emptied-clause-kept
returns-then-emptied-clause-kept c = λ have.
    have_cases c.take_out-emptied.new.self c.leave.new.self c.args.pair None c.leave.ensures (λ e. cc)
    (λ p other none. have p (sym (c.take_out-emptied.ensures.others p other) ∙ none))

pub returns-then-emptied-clause-rising : goal.returns-then-emptied-clause-rising
returns-then-emptied-clause-rising c = λ rising.
    are_rising c.take_out-emptied.new.self c.leave.new.self c.args.pair None c.leave.ensures none_rise
    (c.take_out-emptied.ensures.rising rising)
