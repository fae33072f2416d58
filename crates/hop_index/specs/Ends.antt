-- The other ends of one AS's hops: their order, and how lists of the cases give them.
use Rattle.std.specs.Prelude.{ℕ, nat_eq, Bool, ◌&&◌, List, [], ◌∷◌, ◌++◌, map}
use Rattle.std.specs.List.{list_any}
use Rattle.std.specs.Ordering.{nat_cmp, ordering_then}
use Rattle.std.specs.declared.cmp.Ordering.{Ordering}
use Rattle.hop_index.specs.declared.listed_through.ListedThrough.{ListedThrough}
use Rattle.hop_index.specs.Lists.{Lists, at}
use Rattle.hop_index.specs.Numbers.{numbers_or}
use Rattle.hop_index.specs.Pairs.{pair_of}

-- an AS and a case: by the AS and then by the case
abbrev pub end_cmp : ℕ × ℕ → ℕ × ℕ → Ordering
end_cmp a b = ordering_then (nat_cmp a.0 b.0) (nat_cmp a.1 b.1)

-- the AS y and the case n are among these
abbrev pub has_end : List (ℕ × ℕ) → ℕ → ℕ → Bool
has_end ends y n = list_any (λ end. nat_eq y end.0 && nat_eq n end.1) ends

-- the AS y with each of these cases
abbrev pub ends_at : ℕ → List ℕ → List (ℕ × ℕ)
ends_at y cases = map (λ n. (y, n)) cases

-- each of these ASes with its cases
abbrev pub ends_of : (ℕ → List ℕ) → List ℕ → List (ℕ × ℕ)
ends_of cases [] = []
ends_of cases (y ∷ ys) = ends_at y (cases y) ++ ends_of cases ys

-- the cases that have the hop between x and y
abbrev pub listed_at : Lists → ℕ → ℕ → List ℕ
listed_at lists x y = numbers_or (at lists (pair_of x y))

-- what is still to come: the rest of one neighbour's, and those of the others
abbrev pub listed_ends : ListedThrough → List (ℕ × ℕ)
listed_ends through =
    ends_at through.y (numbers_or through.cases) ++ ends_of (listed_at through.hops.now through.x) (numbers_or through.neighbours)
