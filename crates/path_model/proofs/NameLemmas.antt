-- A name's bytes are a text.
use Rattle.std.proofs.Common.{ℕ, zero, suc, List, [], ◌∷◌, ◌<◌, arith}
use Rattle.std.specs.List.{All, slice_index}
use Rattle.std.specs.Bool.{IsTrue}
use Rattle.std.specs.Str.{IsUtf8}
use Rattle.std.proofs.lemmas.Str.{IsUtf8-from_ascii}
use Rattle.std.proofs.lemmas.List.Elements.{All-head, All-tail, All-weaker}
use Rattle.path_model.specs.Name.{IsName, is_name_byte}

abbrev pub IsAsciiByte : ℕ → Type 0
IsAsciiByte byte = byte < 128

ascii_at : (text : List ℕ) (i : ℕ) → All IsAsciiByte text → slice_index text i < 128
ascii_at [] i all = omega arith
ascii_at (b ∷ bs) zero all = All-head IsAsciiByte b bs all
ascii_at (b ∷ bs) (suc i) all = ascii_at bs i (All-tail IsAsciiByte b bs all)

ascii_is_utf8 : (text : List ℕ) → All IsAsciiByte text → IsUtf8 text
ascii_is_utf8 text all = IsUtf8-from_ascii text (λ i. ascii_at text i all)

name_byte_ascii : (byte : ℕ) → IsTrue (is_name_byte byte) → byte < 128
name_byte_ascii byte is = grind arith

pub name_is_utf8 : (text : List ℕ) → IsName text → IsUtf8 text
name_is_utf8 text name = ascii_is_utf8 text (All-weaker (λ byte. IsTrue (is_name_byte byte)) IsAsciiByte name_byte_ascii text name.bytes)
