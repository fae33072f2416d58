-- A small world of attestations.
use Rattle.std.specs.Prelude.{ℕ, ◌==◌, List, [], ◌∷◌, if◌then◌else◌}
use Rattle.std.specs.declared.option.Option.{Option}
use Rattle.std.specs.declared.option.Option.TheVariants.{Some, None}

-- the providers that each customer attests; the others are silent
abbrev pub attested : ℕ → Option (List ℕ)
attested customer =
    if customer == 20 then Some (1 ∷ []) else
    (if customer == 1 then Some (2 ∷ []) else
    (if customer == 2 then Some (3 ∷ []) else
    (if customer == 3 then Some [] else
    (if customer == 4 then Some [] else
    (if customer == 5 then Some (4 ∷ []) else
    (if customer == 6 then Some (5 ∷ []) else
    (if customer == 7 then Some (3 ∷ 4 ∷ []) else
    (if customer == 8 then Some (9 ∷ []) else
    (if customer == 9 then Some (8 ∷ []) else None)))))))))
