-- Laws of the spellings, each the contract of a public function of the module `laws`.
use Rattle.std.specs.Prelude.{◌≡◌, ℕ, ◌<◌, ◌^◌, List, length, ◌++◌}
use Rattle.av_base.specs.One.{HasOne}
use Rattle.der_reader.specs.Number.{IsBytes}
use Rattle.der_reader.specs.Value.{Spells}
use Rattle.der_reader.specs.Integer.{IsInteger}

-- no spelling of a value with a given tag is a front of a different one: they have the same bytes and the same content
abbrev pub NoSpellingIsAFrontOfAnother : Type 0
NoSpellingIsAFrontOfAnother = (tag : ℕ) (content other bytes longer rest more : List ℕ) →
    Spells tag content bytes → Spells tag other longer → bytes ++ rest ≡ longer ++ more → (bytes ≡ longer) × (content ≡ other)

-- bytes that spell this content under this tag
pub record IsSpelling (tag : ℕ) (content spelling : List ℕ) : Type 0 where
  pub bytes : IsBytes spelling
  pub spells : Spells tag content spelling

-- content of less than 4 GiB has exactly one spelling under a tag: no second one is right, be its length written longer or with zeros
abbrev pub EachContentHasOneSpelling : Type 0
EachContentHasOneSpelling = (tag : ℕ) (content : List ℕ) → tag < 256 → IsBytes content → length content < 2 ^ 32
    → HasOne (IsSpelling tag content)

-- bytes that are the content of a number
pub record IsContentOf (n : ℕ) (content : List ℕ) : Type 0 where
  pub bytes : IsBytes content
  pub is : IsInteger content n

-- each number of 32 bits has exactly one content
abbrev pub EachNumberHasOneContent : Type 0
EachNumberHasOneContent = (n : ℕ) → n < 2 ^ 32 → HasOne (IsContentOf n)
