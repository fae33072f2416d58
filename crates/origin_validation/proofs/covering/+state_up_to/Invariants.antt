use Rattle.origin_validation.proofs.covering.+state_up_to.Given as goal

abbrev pub decreases-state_up_to : goal.decreases-state_up_to
decreases-state_up_to l = l.len
