-- What the steps on chunks come to. Each value is a variable, and each fact that the code has of it an equation.
use Rattle.std.proofs.Common.{◌≡◌, ◌≢◌, ℕ, zero, suc, ◌+◌, ◌-◌, ◌<◌, ◌≤◌, List, [], ◌∷◌, ◌++◌, length, get_or, set, take, drop, map, slice_get, Some, Result, Ok, Err, OnOk, OnErr, arith, ap, sym, subst, ◌∙◌, append_assoc}
use Rattle.std.specs.declared.cmp.Ordering.{Ordering}
use Rattle.std.specs.declared.cmp.Ordering.TheVariants.{Less, Equal, Greater}
use Rattle.std.specs.BTreeMap.{insert_entry}
use Rattle.std.specs.Cmp.{IsTotalOrder}
use Rattle.std.specs.List.{insert}
use Rattle.std.specs.List.Sorted.{IsStrictlySortedBy}
use Rattle.std.specs.Map.{keys_of}
use Rattle.std.specs.Ordering.{match_ordering}
use Rattle.std.proofs.lemmas.List.{append-nil, drop_all, drop_more, map-append, get_or_default, get_or-set_same, nil_from_length}
use Rattle.std.proofs.lemmas.List.Edits.{get_or-insert_below}
use Rattle.std.proofs.lemmas.Option.{get_or_from_slice_get}
use Rattle.sorted_map.specs.Chunk.{AreBelow}
use Rattle.sorted_map.specs.Joined.{joined, AreInOrder, HaveEntries}
use Rattle.sorted_map.proofs.JoinedLemmas.{joined_halves, some_at, sorted_at, below_by_last}

module _ {K V : Type 0} where
  -- ---- at the end
  pub joined_last : (cs : List (List (K × V))) (n : ℕ) (c b : List (K × V)) (e : K × V) → 0 < length cs → n ≡ length cs - 1 → c ≡ get_or cs n c → b ≡ c ++ e ∷ [] → joined (set cs n b) ≡ joined cs ++ e ∷ []
  joined_last [] n c b e some last here is = absurd (omega (arith, some))
  joined_last (a ∷ []) zero c b e some last here is = ap (λ (es : List (K × V)). es ++ []) (is ∙ ap (λ (es : List (K × V)). es ++ e ∷ []) here) ∙ append_assoc a (e ∷ []) [] ∙ sym (append_assoc a [] (e ∷ []))
  joined_last (a ∷ []) (suc n) c b e some last here is = absurd (omega (arith, last))
  joined_last (a ∷ z ∷ cs) zero c b e some last here is = absurd (omega (arith, last))
  joined_last (a ∷ z ∷ cs) (suc n) c b e some last here is =
      ap (λ (es : List (K × V)). a ++ es) (joined_last (z ∷ cs) n c b e (omega arith) (omega (arith, last)) here is) ∙ sym (append_assoc a (joined (z ∷ cs)) (e ∷ []))

  -- ---- halves
  module _ (cs : List (List (K × V))) (i j h : ℕ) (c more b rest : List (K × V)) (bs : List (List (K × V))) (within : i < length cs) (next : j ≡ suc i)
      (here : c ≡ get_or cs i c) (upper : more ≡ drop h c) (put : bs ≡ insert cs j more) (again : b ≡ get_or bs i b) (lower : rest ≡ take h b) where
    same_chunk : b ≡ c
    same_chunk = again ∙ ap (λ (xs : List (List (K × V))). get_or xs i b) (put ∙ ap (λ (n : ℕ). insert cs n more) next) ∙ get_or-insert_below cs (suc i) more b i (omega arith) (omega (arith, within)) ∙ get_or_default cs i b c within ∙ sym here

    halved_is : set bs i rest ≡ set (insert cs (suc i) (drop h c)) i (take h c)
    halved_is = ap (λ (xs : List (List (K × V))). set xs i rest) (put ∙ ap (λ (n : ℕ). insert cs n more) next ∙ ap (λ (a : List (K × V)). insert cs (suc i) a) upper)
        ∙ ap (λ (a : List (K × V)). set (insert cs (suc i) (drop h c)) i a) (lower ∙ ap (take h) same_chunk)

    pub halved_same : joined (set bs i rest) ≡ joined cs
    halved_same = ap joined halved_is
        ∙ ap (λ (a : List (K × V)). joined (set (insert cs (suc i) (drop h a)) i (take h a))) here ∙ joined_halves cs i h c within

  -- ---- order and entries of one chunk
  module _ (R : K → K → Ordering) where
    pub sorted_here : (cs : List (List (K × V))) (i : ℕ) (c : List (K × V)) → c ≡ get_or cs i c → i < length cs → AreInOrder R cs → IsStrictlySortedBy R (keys_of c)
    sorted_here cs i c here within sorted = subst (λ (es : List (K × V)). IsStrictlySortedBy R (keys_of es)) (sym here) (sorted_at R cs i c within sorted)

    pub same_order : (cs bs : List (List (K × V))) → joined bs ≡ joined cs → AreInOrder R cs → AreInOrder R bs
    same_order cs bs same sorted = subst (λ (es : List (K × V)). IsStrictlySortedBy R (keys_of es)) (sym same) sorted

    pub sorted_last : (cs : List (List (K × V))) (c : List (K × V)) → Some c ≡ slice_get cs (length cs - 1) → AreInOrder R cs → IsStrictlySortedBy R (keys_of c)
    sorted_last [] c last sorted = absurd cc
    sorted_last (b ∷ cs) c last sorted = sorted_here (b ∷ cs) (length (b ∷ cs) - 1) c (sym (get_or_from_slice_get (b ∷ cs) (length (b ∷ cs) - 1) c c (sym last))) (omega arith) sorted

    inserted_some : (k : K) (v : V) (es : List (K × V)) → insert_entry R es k v ≢ []
    inserted_some k v [] = λ e. cc
    inserted_some k v (x ∷ es) = by_order (R k x.0) where
      by_order : (o : Ordering) → match_ordering o ((k, v) ∷ x ∷ es) ((x.0, v) ∷ es) (x ∷ insert_entry R es k v) ≢ []
      by_order Less e = cc
      by_order Equal e = cc
      by_order Greater e = cc

    pub some_after : {T E : Type 0} (r : Result T E) (k : K) (v : V) (old new : List (K × V)) → OnOk r (new ≡ insert_entry R old k v) → OnErr r (new ≡ old) → old ≢ [] → new ≢ []
    some_after (Ok x) k v old new put same some is = inserted_some k v old (sym put ∙ is)
    some_after (Err e) k v old new put same some is = some (sym same ∙ is)

pub some_here : {K V : Type 0} (cs : List (List (K × V))) (i : ℕ) (c : List (K × V)) → c ≡ get_or cs i c → i < length cs → HaveEntries cs → c ≢ []
some_here cs i c here within have is = some_at cs i c have within (sym here ∙ is)

pub below_by_last_chunk : {K V : Type 0} {R : K → K → Ordering} → IsTotalOrder R → (k : K) (cs : List (List (K × V))) (c : List (K × V)) → Some c ≡ slice_get cs (length cs - 1) → AreInOrder R cs → HaveEntries cs → AreBelow R k c → AreBelow R k (joined cs)
below_by_last_chunk total k [] c last sorted have above = absurd cc
below_by_last_chunk {R = R} total k (b ∷ cs) c last sorted have above =
    below_by_last total k (b ∷ cs) (length (b ∷ cs) - 1) c (omega arith) sorted have
    (subst (AreBelow R k) (sym (get_or_from_slice_get (b ∷ cs) (length (b ∷ cs) - 1) c c (sym last))) above)

-- a chunk that was put there
pub put_here : {K V : Type 0} (cs : List (List (K × V))) (i : ℕ) (b d : List (K × V)) → i < length cs → d ≡ get_or (set cs i b) i d → d ≡ b
put_here cs i b d within here = here ∙ get_or-set_same cs i b d within

-- a chunk that has nothing left
pub left_empty : {K V : Type 0} (cs : List (List (K × V))) (i n : ℕ) (b d : List (K × V)) → i < length cs → d ≡ get_or (set cs i b) i d → n ≡ length d → n ≡ 0 → b ≡ []
left_empty cs i n b d within here long none = sym (get_or-set_same cs i b d within) ∙ sym here ∙ nil_from_length d (sym long ∙ none)

-- ---- keys or values, chunk by chunk
module _ {K V X : Type 0} (f : K × V → X) (ws all : List X) (cs : List (List (K × V))) (i : ℕ) (so_far : ws ++ map f (joined (drop i cs)) ≡ all) where
  -- those of one chunk more
  pub parts_pushed : (vs now : List X) (c : List (K × V)) → i < length cs → c ≡ get_or cs i c → vs ≡ map f c → now ≡ ws ++ vs → now ++ map f (joined (drop (i + 1) cs)) ≡ all
  parts_pushed vs now c within here is pushed =
      let rest : List (K × V) = joined (drop (i + 1) cs) in
      ap (λ (xs : List X). xs ++ map f rest) (pushed ∙ ap (λ (xs : List X). ws ++ xs) is) ∙ append_assoc ws (map f c) (map f rest)
      ∙ ap (λ (xs : List X). ws ++ xs) (sym (map-append f c rest) ∙ ap (λ (es : List (K × V)). map f (es ++ rest)) here ∙ ap (λ (bs : List (List (K × V))). map f (joined bs)) (sym (drop_more cs i c within)))
      ∙ so_far

  -- and then there are no more
  pub parts_over : length cs ≤ i → ws ≡ all
  parts_over over = sym (append-nil ws) ∙ ap (λ (bs : List (List (K × V))). ws ++ map f (joined bs)) (sym (drop_all i cs over)) ∙ so_far
