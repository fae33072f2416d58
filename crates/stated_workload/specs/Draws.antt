-- What a generator gives, draw after draw.
use Rattle.std.specs.Prelude.{◌≡◌, ℕ, suc, ◌+◌, ◌%◌, List, [], ◌∷◌, ◌++◌, length}
use Rattle.rand_pcg.specs.Lcg.{Lcg, started, increment_of}
use Rattle.rand_pcg.specs.Pcg.{pcg32, multiplier_64}

-- the generator of a seed: that of 64 bits with outputs of 32 (O'Neill, "PCG", 2014: PCG-XSH-RR), on the stream 0
abbrev pub generator_of : ℕ → Lcg
generator_of seed = started 64 multiplier_64 seed (increment_of 64 0)

-- one draw: the generator's next word, modulo m
pub record Draws (m : ℕ) (old : Lcg) (value : ℕ) (new : Lcg) : Type 0 where
  pub value_is : value ≡ (pcg32 old).0 % m
  pub next_is : new ≡ (pcg32 old).1

-- items of one kind are drawn one after another, the first under this number
abbrev pub InOrder : {A : Type 0} → (ℕ → Lcg → A → Lcg → Type 0) → ℕ → Lcg → List A → Lcg → Type 0
InOrder Item k old [] new = new ≡ old
InOrder Item k old (x ∷ xs) new = (mid : Lcg) × Item k old x mid × InOrder Item (suc k) mid xs new

-- so many of them, numbered from 0
pub record DrawsAll {A : Type 0} (Item : ℕ → Lcg → A → Lcg → Type 0) (count : ℕ) (old : Lcg) (items : List A) (new : Lcg) : Type 0 where
  pub many : length items ≡ count
  pub each : InOrder Item 0 old items new

-- an AS: from 1 to 2000
pub record DrawsAs (old : Lcg) (asn : ℕ) (new : Lcg) : Type 0 where
  pub value : ℕ
  pub drawn : Draws 2000 old value new
  pub is : asn ≡ 1 + value

-- ---- how items are gathered; private contracts alone cite this part

-- so many items stand behind those that were there before
pub record Adds {A : Type 0} (Item : ℕ → Lcg → A → Lcg → Type 0) (count : ℕ) (old : Lcg) (before after : List A) (new : Lcg) : Type 0 where
  pub added : List A
  pub drawn : DrawsAll Item count old added new
  pub is : after ≡ before ++ added
