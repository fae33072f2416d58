-- Entries in chunks as one list, and what one entry more or less is there. Private contracts alone cite it.
use Rattle.std.specs.Prelude.{◌≡◌, ◌≢◌, ⊤, ℕ, suc, ◌<◌, ◌^◌, List, [], ◌∷◌, ◌++◌, length, take, drop}
use Rattle.std.specs.declared.cmp.Ordering.{Ordering}
use Rattle.std.specs.declared.option.Option.{Option}
use Rattle.std.specs.BTreeMap.{insert_entry, is_at}
use Rattle.std.specs.List.{AllByRecursion}
use Rattle.std.specs.List.Sorted.{IsStrictlySortedBy}
use Rattle.std.specs.Map.{keys_of, lookup, remove_entry}
use Rattle.sorted_map.specs.Chunk.{AreBelow, AreAbove, BeginsWith}

-- one chunk after another
abbrev pub joined : {K V : Type 0} → List (List (K × V)) → List (K × V)
joined [] = []
joined (c ∷ cs) = c ++ joined cs

-- their keys rise, within each chunk and from chunk to chunk
abbrev pub AreInOrder : {K V : Type 0} → (K → K → Ordering) → List (List (K × V)) → Type 0
AreInOrder cmp chunks = IsStrictlySortedBy cmp (keys_of (joined chunks))

-- no chunk is empty
abbrev pub HaveEntries : {K V : Type 0} → List (List (K × V)) → Type 0
HaveEntries chunks = AllByRecursion (λ c. c ≢ []) chunks

-- each chunk begins with the key at its place, so no chunk is empty
abbrev pub AreFirsts : {K V : Type 0} → List K → List (List (K × V)) → Type 0
AreFirsts [] [] = ⊤
AreFirsts [] (c ∷ cs) = ⊥
AreFirsts (k ∷ ks) [] = ⊥
AreFirsts (k ∷ ks) (c ∷ cs) = BeginsWith k c × AreFirsts ks cs

-- the entries of a map in order, and how many they are
pub record AreChunks {K V : Type 0} (cmp : K → K → Ordering) (chunks : List (List (K × V))) (len : ℕ) : Type 0 where
  pub in_order : AreInOrder cmp chunks
  pub counted : len ≡ length (joined chunks)
  pub few : len < 2 ^ 63

-- the key belongs to the chunk at this place: all chunks before it are below the key, and all chunks after it above
pub record IsPlace {K V : Type 0} (cmp : K → K → Ordering) (key : K) (chunks : List (List (K × V))) (place : ℕ) : Type 0 where
  pub within : place < length chunks
  pub before : AreBelow cmp key (joined (take place chunks))
  pub after : AreAbove cmp key (joined (drop (suc place) chunks))

-- the value of a key
abbrev pub value_at : {K V : Type 0} → (K → K → Ordering) → List (List (K × V)) → K → Option V
value_at cmp chunks key = lookup (is_at (cmp key)) (joined chunks)

-- the key has this value from now on
abbrev pub Puts : {K V : Type 0} → (K → K → Ordering) → List (List (K × V)) → K → V → List (List (K × V)) → Type 0
Puts cmp before key value after = joined after ≡ insert_entry cmp (joined before) key value

-- the key has none from now on
abbrev pub TakesOut : {K V : Type 0} → (K → K → Ordering) → List (List (K × V)) → K → List (List (K × V)) → Type 0
TakesOut cmp before key after = joined after ≡ remove_entry (is_at (cmp key)) (joined before)
