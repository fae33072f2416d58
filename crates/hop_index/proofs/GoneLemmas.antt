-- Hops that go together: one more of them, and one that has gone.
use Rattle.std.proofs.Common.{◌≡◌, ℕ, nat_eq, ◌+◌, ◌<◌, Bool, not, ◌||◌, ◌&&◌, List, length, [], ◌∷◌, ◌++◌, take, get_or, min, max, ap, sym, ◌∙◌, arith}
use Rattle.std.proofs.Math.Bool.{or-false}
use Rattle.std.proofs.lemmas.List.Folds.{list_any-append, list_any_more}
use Rattle.hop_index.specs.declared.gone.GoneHop.{GoneHop}
use Rattle.hop_index.specs.declared.pair.Pair.{Pair}
use Rattle.hop_index.specs.Gone.{is_gone, has_gone}
use Rattle.hop_index.specs.Lists.{Lists, has}
use Rattle.hop_index.specs.Kept.{is_pair, is_hop, GathersHop, RemovesHop, RemovesEach}
use Rattle.hop_index.specs.Pairs.{pair_of}
use Rattle.hop_index.proofs.KeptLemmas.{and_both}
use Rattle.hop_index.proofs.PairLemmas.{pairs_told}

abbrev pair_from : ℕ → ℕ → Pair
pair_from a b = record { low = a; high = b }

joined : (a b c d : ℕ) → a ≡ c → b ≡ d → pair_from a b ≡ pair_from c d
joined a b c d low high = ap (λ (n : ℕ). pair_from n b) low ∙ ap (pair_from c) high

-- the pair of a pair's two ASes is that pair
pair_again : (u v : ℕ) → pair_of (min u v) (max u v) ≡ pair_of u v
pair_again u v = joined (min (min u v) (max u v)) (max (min u v) (max u v)) (min u v) (max u v) (omega arith) (omega arith)

module _ (u v case : ℕ) where
  abbrev hop_of : Pair → GoneHop
  hop_of pair = record { pair = pair; case = case }

  is_same : (x y n : ℕ) → is_gone x y n (hop_of (pair_of u v)) ≡ is_hop x y n u v case
  is_same x y n = ap (λ (b : Bool). nat_eq n case && b) (sym (pairs_told x y (min u v) (max u v)) ∙ ap (is_pair (pair_of x y)) (pair_again u v) ∙ pairs_told x y u v)

  -- one more goes,
  pub one_gathered : (gone : List GoneHop) (pair : Pair) → pair ≡ pair_of u v → GathersHop gone u v case (gone ++ record { pair = pair; case = case } ∷ [])
  one_gathered gone pair same x y n =
      list_any-append (is_gone x y n) gone (hop_of pair ∷ [])
      ∙ ap (λ (b : Bool). has_gone gone x y n || b) (or-false (is_gone x y n (hop_of pair)) ∙ ap (λ (p : Pair). is_gone x y n (hop_of p)) same ∙ is_same x y n)

-- and one of them has gone
pub one_gone : (before now after : Lists) (gone : List GoneHop) (i : ℕ) (d : GoneHop) → i < length gone → RemovesEach before (take i gone) now
    → RemovesHop now (get_or gone i d).pair.low (get_or gone i d).pair.high (get_or gone i d).case after → RemovesEach before (take (i + 1) gone) after
one_gone before now after gone i d within so_far one x y n =
    one x y n ∙ ap (λ (b : Bool). b && not (is_gone x y n (get_or gone i d))) (so_far x y n)
    ∙ and_both (has before x y n) (has_gone (take i gone) x y n) (is_gone x y n (get_or gone i d))
    ∙ ap (λ (b : Bool). has before x y n && not b) (sym (list_any_more (is_gone x y n) gone i d within))
