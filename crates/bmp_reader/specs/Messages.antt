-- Messages of a stream: a header of six bytes, and a body (RFC 7854, section 4.1).
use Rattle.std.specs.Prelude.{◌≡◌, ℕ, ◌+◌, ◌≤◌, List, ◌∷◌, ◌++◌, length}
use Rattle.bgp_attrs.specs.Fixed.{SpellsFour}

-- the most bytes that a message has here, with its header
abbrev pub limit : ℕ
limit = 4194304

-- a message as contracts see it
pub record Sent : Type 0 where
  pub kind : ℕ
  pub body : List ℕ

-- The bytes are one whole message: the version, which is 3, the length of them all in four bytes, the type, and the body.
pub record IsMessage (bytes : List ℕ) (it : Sent) : Type 0 where
  pub size : List ℕ
  pub counts : SpellsFour size (6 + length it.body)
  pub allowed : 6 + length it.body ≤ limit
  pub whole : bytes ≡ 3 ∷ (size ++ (it.kind ∷ it.body))
