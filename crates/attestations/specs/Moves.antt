-- Which customers' rows moved from one table to another.
use Rattle.std.specs.Prelude.{◌≡◌, ◌≢◌, ℕ, nat_eq, Bool, true, false, List, [], ◌∷◌, map, filter_map, All, if◌then◌else◌}
use Rattle.std.specs.declared.option.Option.{Option}
use Rattle.std.specs.declared.option.Option.TheVariants.{Some, None}
use Rattle.std.specs.Cmp.Lexicographic.{pointwise}
use Rattle.std.specs.List.Sorted.{IsStrictlyIncreasing}
use Rattle.path_model.specs.Authority.{Table, has}
use Rattle.attestations.specs.declared.moves.RowMove.{RowMove}

abbrev pub customers_of : List RowMove → List ℕ
customers_of moves = map (λ m. m.customer) moves

-- the move is from its customer's row in the old table to the one in the new table, and these differ
pub record IsMove (old new : Table) (move : RowMove) : Type 0 where
  pub before : move.before ≡ old move.customer
  pub after : move.after ≡ new move.customer
  pub differ : old move.customer ≢ new move.customer

-- by rising customer, exactly the customers whose row isn't the same, with both rows
pub record AreMoves (old new : Table) (moves : List RowMove) : Type 0 where
  pub rising : IsStrictlyIncreasing (customers_of moves)
  pub each : All (IsMove old new) moves
  pub others : (x : ℕ) → has (customers_of moves) x ≡ false → new x ≡ old x

-- ---- how moves are found

-- whether two rows are the same, or neither is there
abbrev pub same_rows : Option (List ℕ) → Option (List ℕ) → Bool
same_rows None None = true
same_rows None (Some row) = false
same_rows (Some row) None = false
same_rows (Some row) (Some other) = pointwise nat_eq row other

-- a customer's move between two rows, if they differ
abbrev pub moved_to : ℕ → Option (List ℕ) → Option (List ℕ) → Option RowMove
moved_to x before after = if same_rows before after then None else Some (record { customer = x; before = before; after = after })

abbrev pub as_list : {A : Type 0} → Option A → List A
as_list None = []
as_list (Some a) = a ∷ []

-- the moves of these customers
abbrev pub moves_of : Table → Table → List ℕ → List RowMove
moves_of old new customers = filter_map (λ x. moved_to x (old x) (new x)) customers
