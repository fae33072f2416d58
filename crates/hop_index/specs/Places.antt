-- Hops in a list without gaps, and a map that has the place of each. Private contracts alone cite it.
use Rattle.std.specs.Prelude.{◌≡◌, ℕ, ◌<◌, ◌^◌, List, [], map, length, slice_index, slice_index_or}
use Rattle.std.specs.declared.option.Option.TheVariants.{Some}
use Rattle.std.specs.FinMap as finite
use Rattle.std.specs.Ordering.{nat_cmp}
use Rattle.hop_index.specs.declared.pair.Pair.{Pair}
use Rattle.hop_index.specs.Lists.{Lists}
use Rattle.hop_index.specs.Pairs.{pair_word}

-- the word is at this place
pub record IsAt (words : List ℕ) (word at : ℕ) : Type 0 where
  pub within : at < length words
  pub same : slice_index words at ≡ word

-- the map has exactly the place of each word
pub record AreInverse (places : finite.FinMap nat_cmp ℕ) (words : List ℕ) : Type 0 where
  pub found : (word at : ℕ) → finite.get places word ≡ Some at → IsAt words word at
  pub finds : (at : ℕ) → at < length words → finite.get places (slice_index words at) ≡ Some at
  pub few : length words < 2 ^ 32

-- the pairs as words
abbrev pub words_of : Lists → List ℕ
words_of hops = map (λ hop. pair_word hop.0) hops

-- the hop at this place, and one without cases behind the end
abbrev pub hop_at : Lists → ℕ → Pair × List ℕ
hop_at hops place = slice_index_or hops place (record { low = 0; high = 0 }, [])

-- the map has exactly the place of each hop, by its pair as a word
pub record ArePlaced (places : finite.FinMap nat_cmp ℕ) (hops : Lists) : Type 0 where
  pub inverse : AreInverse places (words_of hops)
  pub small : (place : ℕ) → place < length hops → (hop_at hops place).0.high < 2 ^ 32
