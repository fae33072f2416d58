-- How a list of prefixes, some with a path identifier, is held: a form for each of them, and the words of all, one after another.
-- Private contracts alone cite it.
use Rattle.std.specs.Prelude.{◌≡◌, ℕ, ◌+◌, ◌≤◌, ◌<◌, ◌^◌, Bool, true, false, List, [], ◌∷◌, length, drop, slice_index_or}
use Rattle.std.specs.declared.option.Option.{Option}
use Rattle.std.specs.declared.option.Option.TheVariants.{Some, None}
use Rattle.path_model.specs.declared.nlri.Nlri.{Nlri}
use Rattle.path_model.specs.declared.packed.Form.{Form}
use Rattle.path_model.specs.declared.packed.Held.{Held}
use Rattle.path_model.specs.declared.packed.Width.{Width}
use Rattle.path_model.specs.declared.packed.Width.TheVariants.{Four, High, Both}
use Rattle.path_model.specs.Halves.{IsHeld, subnet_of}
use Rattle.path_model.specs.Prefix.{Subnet}

-- how many words a prefix has
abbrev pub width_of : Width → ℕ
width_of (Four len) = 1
width_of (High len) = 1
width_of (Both len) = 2

abbrev pub word : List ℕ → ℕ → ℕ
word words n = slice_index_or words n 0

-- the prefix that the first words spell
abbrev pub prefix_at : Width → List ℕ → Subnet
prefix_at (Four len) words = subnet_of false 0 (word words 0) len
prefix_at (High len) words = subnet_of true (word words 0) 0 len
prefix_at (Both len) words = subnet_of true (word words 0) (word words 1) len

-- they are there, and spell one
abbrev pub IsPrefixAt : Width → List ℕ → Type 0
IsPrefixAt (Four len) words = (1 ≤ length words) × IsHeld false 0 (word words 0) len
IsPrefixAt (High len) words = (1 ≤ length words) × IsHeld true (word words 0) 0 len
IsPrefixAt (Both len) words = (2 ≤ length words) × IsHeld true (word words 0) (word words 1) len

abbrev pub form_of : Width → Bool → Form
form_of width identified = record { width = width; identified = identified }

-- how many words stand before the prefix
abbrev pub words_before : Bool → ℕ
words_before true = 1
words_before false = 0

-- how many there are together
abbrev pub words_of : Form → ℕ
words_of form = words_before form.identified + width_of form.width

-- the path identifier that the first word is, where there is one
abbrev pub path_at : Bool → List ℕ → Option ℕ
path_at true words = Some (word words 0)
path_at false words = None

abbrev pub IsPathAt : Bool → List ℕ → Type 0
IsPathAt true words = (1 ≤ length words) × (word words 0 < 2 ^ 32)
IsPathAt false words = Unit {0}

-- what the first words spell
abbrev pub nlri_at : Form → List ℕ → Nlri
nlri_at form words = record {
  prefix = prefix_at form.width (drop (words_before form.identified) words);
  path = path_at form.identified words;
}

-- they are there, and spell it
abbrev pub IsNlriAt : Form → List ℕ → Type 0
IsNlriAt form words = IsPathAt form.identified words × IsPrefixAt form.width (drop (words_before form.identified) words)

-- a prefix as it is held, with an identifier or none
abbrev pub nlri_from : Held → Option ℕ → Nlri
nlri_from held path = record { prefix = subnet_of held.six held.high held.low held.len; path = path }

-- what all spell, from the first word to the last
abbrev pub unpacked : List Form → List ℕ → List Nlri
unpacked [] words = []
unpacked (form ∷ more) words = nlri_at form words ∷ unpacked more (drop (words_of form) words)

-- each form has its words, and no word is left over
abbrev pub ArePacked : List Form → List ℕ → Type 0
ArePacked [] words = words ≡ []
ArePacked (form ∷ more) words = IsNlriAt form words × ArePacked more (drop (words_of form) words)
