-- The segments of an AS_PATH: kind, count, ASes (RFC 4271, section 4.3; RFC 5065, section 3; ASes of four bytes: RFC 6793, section 3).
use Rattle.std.specs.Prelude.{◌≡◌, ℕ, ◌*◌, ◌<◌, Bool, true, false, ◌&&◌, nat_le, nat_lt, if◌then◌else◌, List, [], ◌∷◌, length, take, drop, Some, None}
use Rattle.std.specs.declared.option.Option.{Option}
use Rattle.std.specs.Int.{w16, w32, from_be_bytes}
use Rattle.bgp_attrs.specs.Fixed.{as_width}

-- the numbers of two bytes that the bytes spell; a last byte alone spells none
abbrev pub numbers_2 : List ℕ → List ℕ
numbers_2 (a ∷ b ∷ bytes) = from_be_bytes w16 (a ∷ b ∷ []) ∷ numbers_2 bytes
numbers_2 (a ∷ []) = []
numbers_2 [] = []

-- the numbers of four bytes; a rest that is too short spells none
abbrev pub numbers_4 : List ℕ → List ℕ
numbers_4 (a ∷ b ∷ c ∷ d ∷ bytes) = from_be_bytes w32 (a ∷ b ∷ c ∷ d ∷ []) ∷ numbers_4 bytes
numbers_4 (a ∷ b ∷ c ∷ []) = []
numbers_4 (a ∷ b ∷ []) = []
numbers_4 (a ∷ []) = []
numbers_4 [] = []

-- the ASes that the bytes spell, each in four bytes where the field is wide, else in two
abbrev pub ases_of : Bool → List ℕ → List ℕ
ases_of true bytes = numbers_4 bytes
ases_of false bytes = numbers_2 bytes

-- 1 AS_SET, 2 AS_SEQUENCE, 3 AS_CONFED_SEQUENCE, 4 AS_CONFED_SET
abbrev pub is_kind : ℕ → Bool
is_kind kind = nat_le 1 kind && nat_le kind 4

-- a segment's kind and its ASes
abbrev pub Segment : Type 0
Segment = ℕ × List ℕ

-- The bytes spell one segment: its kind, the number of its ASes, which isn't 0, and the ASes.
pub record IsSegment (wide : Bool) (bytes : List ℕ) (segment : Segment) : Type 0 where
  pub body : List ℕ
  pub known : is_kind segment.0 ≡ true
  pub some : 0 < length segment.1
  pub whole : bytes ≡ segment.0 ∷ length segment.1 ∷ body
  pub size : length body ≡ as_width wide * length segment.1
  pub ases : segment.1 ≡ ases_of wide body

-- ---- from the left: only private contracts, and the words for what an iterator has left, cite it

-- the first segment and the bytes behind it
unfoldable pub segment_at : Bool → List ℕ → Option (Segment × List ℕ)
segment_at wide (kind ∷ count ∷ rest) =
    if is_kind kind && (nat_lt 0 count && nat_le (as_width wide * count) (length rest)) then Some ((kind, ases_of wide (take (as_width wide * count) rest)), drop (as_width wide * count) rest) else None
segment_at wide (kind ∷ []) = None
segment_at wide [] = None
