-- By which names cases are found. Private contracts alone cite it.
use Rattle.std.specs.Prelude.{◌≡◌, ◌≢◌, ℕ, List, ◌⊎◌}
use Rattle.std.specs.declared.option.Option.{Option}
use Rattle.std.specs.declared.option.Option.TheVariants.{Some, None}
use Rattle.std.specs.BTreeMap.{is_at}
use Rattle.std.specs.FinMap as map
use Rattle.std.specs.Map.{lookup}
use Rattle.std.specs.Ordering.{nat_cmp}
use Rattle.path_model.specs.Trail.{Path}
use Rattle.shared_cases.specs.declared.case.StoredCase.{StoredCase}
use Rattle.shared_cases.specs.declared.case_name.CaseName.{CaseName}
use Rattle.shared_cases.specs.declared.names.Names.{Names}
use Rattle.shared_cases.specs.Cases.{Slots, at, AreDistinct, IsStoredAs}
use Rattle.shared_cases.specs.Names.{name_cmp, name_of, word_of}

-- the number that a word has
abbrev pub worded : map.FinMap nat_cmp ℕ → ℕ → Option ℕ
worded words word = map.get words word

-- the number that a whole name has among the twins
abbrev pub twinned : List (CaseName × ℕ) → ℕ → Path → Option ℕ
twinned twins asn path = lookup (is_at (name_cmp (name_of asn path))) twins

-- the number is that of the name's word, or that of the name among the twins
abbrev pub IsNamed : Names → ℕ → Path → ℕ → Type 0
IsNamed names asn path n =
    (worded names.words (word_of asn path) ≡ Some n) ⊎ (twinned names.twins.entries asn path ≡ Some n)

-- a case with this word
abbrev pub HasWord : Option StoredCase → ℕ → Type 0
HasWord None word = ⊥
HasWord (Some c) word = word_of c.asn c.trail ≡ word

-- no case of this name has its word
abbrev pub IsNoFirst : Slots → Names → CaseName → Type 0
IsNoFirst cases names name =
    (n : ℕ) → worded names.words name.word ≡ Some n → ¬ IsStoredAs (at cases n) name.asn name.trail

-- each case is found by its word or among the twins and not by both, and nothing else is found
pub record AreNamed (cases : Slots) (names : Names) : Type 0 where
  pub named : (n asn : ℕ) (path : Path) → IsStoredAs (at cases n) asn path → IsNamed names asn path n
  pub by_word : (n word : ℕ) → worded names.words word ≡ Some n → HasWord (at cases n) word
  pub by_twin : (n asn : ℕ) (path : Path) → twinned names.twins.entries asn path ≡ Some n → IsStoredAs (at cases n) asn path
  pub apart : (n asn : ℕ) (path : Path) → twinned names.twins.entries asn path ≡ Some n → worded names.words (word_of asn path) ≢ Some n
  pub distinct : AreDistinct cases

-- a word has this number from now on, or none, and each other what it had
pub record SetsWord (before after : map.FinMap nat_cmp ℕ) (word : ℕ) (value : Option ℕ) : Type 0 where
  pub here : worded after word ≡ value
  pub others : (w : ℕ) → w ≢ word → worded after w ≡ worded before w

-- so with a name among the twins
pub record SetsTwin (before after : List (CaseName × ℕ)) (asn : ℕ) (path : Path) (value : Option ℕ) : Type 0 where
  pub here : twinned after asn path ≡ value
  pub others : (a : ℕ) (p : Path) → name_of a p ≢ name_of asn path → twinned after a p ≡ twinned before a p

abbrev pub AreSameWords : Names → Names → Type 0
AreSameWords before after = (w : ℕ) → worded after.words w ≡ worded before.words w

abbrev pub AreSameTwins : Names → Names → Type 0
AreSameTwins before after = (asn : ℕ) (path : Path) → twinned after.twins.entries asn path ≡ twinned before.twins.entries asn path

-- a name comes: its word is free, and has the number from now on,
pub record AddsFirst (before : Names) (asn : ℕ) (path : Path) (n : ℕ) (after : Names) : Type 0 where
  pub free : worded before.words (word_of asn path) ≡ None
  pub sets : SetsWord before.words after.words (word_of asn path) (Some n)
  pub twins : AreSameTwins before after

-- or its word is another's, and it is a twin
pub record AddsTwin (before : Names) (asn : ℕ) (path : Path) (n : ℕ) (after : Names) : Type 0 where
  pub first : ℕ
  pub held : worded before.words (word_of asn path) ≡ Some first
  pub words : AreSameWords before after
  pub sets : SetsTwin before.twins.entries after.twins.entries asn path (Some n)

abbrev pub AddsName : Names → ℕ → Path → ℕ → Names → Type 0
AddsName before asn path n after = AddsFirst before asn path n after ⊎ AddsTwin before asn path n after

-- a name goes: its word has the number, and is free from now on,
pub record RemovesFirst (before : Names) (asn : ℕ) (path : Path) (n : ℕ) (after : Names) : Type 0 where
  pub held : worded before.words (word_of asn path) ≡ Some n
  pub sets : SetsWord before.words after.words (word_of asn path) None
  pub twins : AreSameTwins before after

-- or its word hasn't the number, and it is no twin from now on
pub record RemovesTwin (before : Names) (asn : ℕ) (path : Path) (n : ℕ) (after : Names) : Type 0 where
  pub other : worded before.words (word_of asn path) ≢ Some n
  pub words : AreSameWords before after
  pub sets : SetsTwin before.twins.entries after.twins.entries asn path None

abbrev pub RemovesName : Names → ℕ → Path → ℕ → Names → Type 0
RemovesName before asn path n after = RemovesFirst before asn path n after ⊎ RemovesTwin before asn path n after
