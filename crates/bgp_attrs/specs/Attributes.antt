-- Path attributes as bytes: flags, type, length, content (RFC 4271, section 4.3).
use Rattle.std.specs.Prelude.{◌≡◌, ℕ, ◌==◌, Bool, not, bit_and, if◌then◌else◌, List, [], ◌∷◌, ◌++◌, length, Some, None}
use Rattle.std.specs.declared.option.Option.{Option}
use Rattle.bgp_attrs.specs.Blocks.{IsLength, length_at}
use Rattle.bgp_attrs.specs.Fixed.{◌>>=◌, cut}

-- one attribute: its type and its content
pub record Field : Type 0 where
  pub kind : ℕ
  pub content : List ℕ

-- whether the flag is set by which the length has two bytes
abbrev pub is_extended : ℕ → Bool
is_extended flags = not (bit_and flags 16 == 0)

-- The bytes spell one attribute. The other flags have no meaning here.
pub record IsField (bytes : List ℕ) (field : Field) : Type 0 where
  pub flags : ℕ
  pub count : List ℕ
  pub counts : IsLength (is_extended flags) count (length field.content)
  pub whole : bytes ≡ flags ∷ field.kind ∷ (count ++ field.content)

-- the contents of the attributes of a type, in order
abbrev pub contents_of : ℕ → List Field → List (List ℕ)
contents_of kind [] = []
contents_of kind (field ∷ fields) = if field.kind == kind then field.content ∷ contents_of kind fields else contents_of kind fields

-- the first one
abbrev pub first_of : List (List ℕ) → Option (List ℕ)
first_of [] = None
first_of (content ∷ contents) = Some content

-- the content of the first attribute of a type: the one that counts
abbrev pub first_content : ℕ → List Field → Option (List ℕ)
first_content kind fields = first_of (contents_of kind fields)

-- ---- from the left: only private contracts cite it

-- the first attribute and the bytes behind it
unfoldable pub field_at : List ℕ → Option (Field × List ℕ)
field_at (flags ∷ kind ∷ rest) = do
  count ← length_at (is_extended flags) rest
  content ← cut count.0 count.1
  Some (record { kind = kind; content = content.0 }, content.1)
field_at (flags ∷ []) = None
field_at [] = None
