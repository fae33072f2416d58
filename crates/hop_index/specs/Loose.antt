-- The chains of cases whose hops aren't in lists yet.
use Rattle.std.specs.Prelude.{◌≡◌, ℕ, zero, suc, nat_eq, nat_le, ◌+◌, ◌-◌, Bool, true, cond, if◌then◌else◌, List, [], ◌∷◌, length, slice_index, slice_index_or}
use Rattle.std.specs.BTreeSet.{insert_key}
use Rattle.std.specs.List.{filter, list_any}
use Rattle.std.specs.Ordering.{nat_cmp}
use Rattle.hop_index.specs.Hops.{has_hop}

-- the chain of each case, by its number
abbrev pub Chains : Type 0
Chains = List (List ℕ)

-- the chain of a case, and an empty one where it has none
abbrev pub chain_at : Chains → ℕ → List ℕ
chain_at chains n = slice_index_or chains n []

-- each case has the same chain
abbrev pub HaveTheSame : Chains → Chains → Type 0
HaveTheSame before after = (n : ℕ) → chain_at after n ≡ chain_at before n

-- one case has this chain from now on, and each other the one that it had
abbrev pub SetsChain : Chains → ℕ → List ℕ → Chains → Type 0
SetsChain before case chain after =
    (n : ℕ) → chain_at after n ≡ (if nat_eq n case then chain else chain_at before n)

-- one of these chains has a hop between x and y
abbrev pub are_beside : Chains → ℕ → ℕ → Bool
are_beside chains x y = list_any (λ chain. has_hop chain x y) chains

-- the chain of some case has one
abbrev pub SomeChainHas : Chains → ℕ → ℕ → Type 0
SomeChainHas chains x y = (n : ℕ) × (has_hop (chain_at chains n) x y ≡ true)

-- the numbers, from n on, of those of these chains that have a hop between x and y
abbrev pub cases_from : ℕ → ℕ → ℕ → Chains → List ℕ
cases_from x y n [] = []
cases_from x y n (chain ∷ chains) = cond (has_hop chain x y) (n ∷ cases_from x y (n + 1) chains) (cases_from x y (n + 1) chains)

-- those of all these chains
abbrev pub loose_at : Chains → ℕ → ℕ → List ℕ
loose_at chains x y = cases_from x y 0 chains

-- b comes to these ASes where a is x
abbrev pub put_end : ℕ → ℕ → ℕ → List ℕ → List ℕ
put_end x a b ys = cond (nat_eq x a) (insert_key nat_cmp ys b) ys

-- the other ends of the first so many hops of a chain that have x as one end come to these ASes
abbrev pub put_ends : ℕ → List ℕ → ℕ → List ℕ → List ℕ
put_ends zero chain x ys = ys
put_ends (suc hops) chain x ys =
    put_end x (slice_index chain hops) (slice_index chain (hops + 1))
    (put_end x (slice_index chain (hops + 1)) (slice_index chain hops) (put_ends hops chain x ys))

-- the other ends of the hops of all these chains that have x as one end, rising
abbrev pub beside : ℕ → Chains → List ℕ
beside x [] = []
beside x (chain ∷ chains) = put_ends (length chain - 1) chain x (beside x chains)

-- those of these numbers that are at least `from`
abbrev pub not_below : ℕ → List ℕ → List ℕ
not_below from numbers = filter (nat_le from) numbers
