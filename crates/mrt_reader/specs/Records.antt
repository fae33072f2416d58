-- Records of a stream: a header of twelve bytes, and a body of the length that stands there (RFC 6396, section 2).
use Rattle.std.specs.Prelude.{◌≡◌, ℕ, ◌≤◌, nat_lt, if◌then◌else◌, List, ◌++◌, length, take, drop, Some, None}
use Rattle.std.specs.declared.option.Option.{Option}
use Rattle.std.specs.Int.{w16, w32, from_be_bytes}

-- what a header says
pub record Head : Type 0 where
  pub stamp : ℕ
  pub mrt_type : ℕ
  pub subtype : ℕ
  pub size : ℕ

-- the header, where its bytes are there
abbrev pub head_at : List ℕ → Option Head
head_at bytes = if nat_lt (length bytes) 12 then None else Some (record {
  stamp = from_be_bytes w32 (take 4 bytes);
  mrt_type = from_be_bytes w16 (take 2 (drop 4 bytes));
  subtype = from_be_bytes w16 (take 2 (drop 6 bytes));
  size = from_be_bytes w32 (take 4 (drop 8 bytes));
})

-- the most bytes that a body has here
abbrev pub limit : ℕ
limit = 4194304

-- a record as contracts see it
pub record Recorded : Type 0 where
  pub stamp : ℕ
  pub kind : ℕ
  pub subkind : ℕ
  pub body : List ℕ

-- The bytes are one whole record.
pub record IsRecord (bytes : List ℕ) (it : Recorded) : Type 0 where
  pub header : List ℕ
  pub twelve : length header ≡ 12
  pub says : head_at header ≡ Some (record { stamp = it.stamp; mrt_type = it.kind; subtype = it.subkind; size = length it.body })
  pub allowed : length it.body ≤ limit
  pub whole : bytes ≡ header ++ it.body
