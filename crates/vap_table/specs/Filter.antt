-- Which numbers are marked in words of 64 bits; private contracts alone cite it.
use Rattle.std.specs.Prelude.{ℕ, ◌*◌, ◌-◌, ◌/◌, ◌%◌, ◌^◌, nat_eq, Bool, List, length, slice_index_or}
use Rattle.std.specs.Int.{bit_at}
use Rattle.std.specs.Int.Bits.{bit_and}

-- which word among so many has the bit of a number
unfoldable pub place_of : ℕ → ℕ → ℕ
place_of len number = bit_and ((number * 11400714819323198485) % 2 ^ 64 / 2 ^ 46) (len - 1)

-- and which bit of that word it is
unfoldable pub bit_of : ℕ → ℕ
bit_of number = (number * 11400714819323198485) % 2 ^ 64 / 2 ^ 40 % 64

-- whether that bit is set
abbrev pub is_marked : List ℕ → ℕ → Bool
is_marked words number = nat_eq (bit_at (slice_index_or words (place_of (length words) number) 0) (bit_of number)) 1
