use Rattle.std.proofs.Common.{◌≡◌, ℕ, ◌||◌}
use Rattle.path_model.specs.Authority.{has}
use Rattle.vap_table.proofs.LastsLemmas.{gives}
use Rattle.vap_table.proofs.lasts.Lasts.between.Given as goal

abbrev pub invariant-loop-pair : goal.invariant-loop-pair
invariant-loop-pair l = (q : ℕ) → (has l.names q || gives q l.pair-iterator) ≡ gives q l.initial.pair-iterator
