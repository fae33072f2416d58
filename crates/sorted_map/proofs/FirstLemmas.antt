-- Chunks beside their first keys: where a key belongs among these, and chunks that come, go and become one.
use Rattle.std.proofs.Common.{◌≡◌, ◌≢◌, ℕ, zero, suc, ◌+◌, ◌-◌, ◌<◌, ◌≤◌, Bool, true, false, List, [], ◌∷◌, ◌++◌, length, get_or, set, take, Some, Result, Ok, Err, OnOk, OnErr, slice_get, arith, refl, ap, sym, subst, ◌∙◌, append_assoc, length-append}
use Rattle.std.specs.declared.cmp.Ordering.{Ordering}
use Rattle.std.specs.Cmp.{IsTotalOrder}
use Rattle.std.specs.List.{AllWithin, insert, remove}
use Rattle.std.specs.List.Sorted.{IsPartitionedBy}
use Rattle.std.specs.Ordering.{is_ge}
use Rattle.std.proofs.lemmas.List.{append-nil}
use Rattle.std.proofs.lemmas.Option.{get_or_from_slice_get, same_Some}
use Rattle.sorted_map.specs.Chunk.{begins_by, BeginsWith}
use Rattle.sorted_map.specs.Joined.{joined, AreFirsts, AreInOrder, HaveEntries, IsPlace}
use Rattle.sorted_map.proofs.JoinedLemmas.{placed, parted}

module _ {K V : Type 0} where
  -- ---- what first keys say of chunks
  pub have_entries : (fs : List K) (cs : List (List (K × V))) → AreFirsts fs cs → HaveEntries cs
  have_entries [] [] firsts = tt
  have_entries [] (c ∷ cs) firsts = absurd firsts
  have_entries (k ∷ ks) [] firsts = tt
  have_entries (k ∷ ks) ([] ∷ cs) firsts = absurd firsts.0
  have_entries (k ∷ ks) ((e ∷ es) ∷ cs) firsts = ((λ is. cc), have_entries ks cs firsts.1)

  pub as_many : (fs : List K) (cs : List (List (K × V))) → AreFirsts fs cs → length fs ≡ length cs
  as_many [] [] firsts = refl
  as_many [] (c ∷ cs) firsts = absurd firsts
  as_many (k ∷ ks) [] firsts = absurd firsts
  as_many (k ∷ ks) (c ∷ cs) firsts = ap suc (as_many ks cs firsts.1)

  pub some_entry : (c : List (K × V)) → c ≢ [] → 0 < length c
  some_entry [] some = absurd (some refl)
  some_entry (e ∷ es) some = omega arith

  -- ---- chunks that come and go
  pub noted : (fs : List K) (cs : List (List (K × V))) (i : ℕ) (k : K) (b : List (K × V)) → AreFirsts fs cs → BeginsWith k b → AreFirsts (set fs i k) (set cs i b)
  noted [] [] i k b firsts begins = tt
  noted [] (c ∷ cs) i k b firsts begins = absurd firsts
  noted (f ∷ fs) [] i k b firsts begins = absurd firsts
  noted (f ∷ fs) (c ∷ cs) zero k b firsts begins = (begins, firsts.1)
  noted (f ∷ fs) (c ∷ cs) (suc i) k b firsts begins = (firsts.0, noted fs cs i k b firsts.1 begins)

  pub still : (fs : List K) (cs : List (List (K × V))) (i : ℕ) (c b : List (K × V)) → AreFirsts fs cs → c ≡ get_or cs i c → ((k : K) → BeginsWith k c → BeginsWith k b) → AreFirsts fs (set cs i b)
  still [] [] i c b firsts here keeps = tt
  still [] (d ∷ cs) i c b firsts here keeps = absurd firsts
  still (f ∷ fs) [] i c b firsts here keeps = absurd firsts
  still (f ∷ fs) (d ∷ cs) zero c b firsts here keeps = (keeps f (subst (BeginsWith f) (sym here) firsts.0), firsts.1)
  still (f ∷ fs) (d ∷ cs) (suc i) c b firsts here keeps = (firsts.0, still fs cs i c b firsts.1 here keeps)

  pub come : (fs : List K) (cs : List (List (K × V))) (i : ℕ) (k : K) (b : List (K × V)) → AreFirsts fs cs → BeginsWith k b → AreFirsts (insert fs i k) (insert cs i b)
  come fs cs zero k b firsts begins = (begins, firsts)
  come [] [] (suc i) k b firsts begins = (begins, tt)
  come [] (c ∷ cs) (suc i) k b firsts begins = absurd firsts
  come (f ∷ fs) [] (suc i) k b firsts begins = absurd firsts
  come (f ∷ fs) (c ∷ cs) (suc i) k b firsts begins = (firsts.0, come fs cs i k b firsts.1 begins)

  pub gone : (fs : List K) (cs : List (List (K × V))) (i : ℕ) (b : List (K × V)) → AreFirsts fs cs → AreFirsts (remove fs i) (remove (set cs i b) i)
  gone [] [] zero b firsts = tt
  gone [] [] (suc i) b firsts = tt
  gone [] (c ∷ cs) i b firsts = absurd firsts
  gone (f ∷ fs) [] i b firsts = absurd firsts
  gone (f ∷ fs) (c ∷ cs) zero b firsts = firsts.1
  gone (f ∷ fs) (c ∷ cs) (suc i) b firsts = (firsts.0, gone fs cs i b firsts.1)

  -- ---- what begins as before
  pub begins_more : (c more : List (K × V)) (k : K) → BeginsWith k c → BeginsWith k (c ++ more)
  begins_more [] more k begins = absurd begins
  begins_more (e ∷ es) more k begins = begins

  pub begins_taken : (h : ℕ) (c : List (K × V)) → 0 < h → (k : K) → BeginsWith k c → BeginsWith k (take h c)
  begins_taken zero c some k begins = absurd (omega (arith, some))
  begins_taken (suc h) [] some k begins = begins
  begins_taken (suc h) (e ∷ es) some k begins = begins

  pub begins_pushed : {T E : Type 0} (r : Result T E) (c b more : List (K × V)) → OnOk r (b ≡ c ++ more) → OnErr r (b ≡ c) → (k : K) → BeginsWith k c → BeginsWith k b
  begins_pushed (Ok x) c b more pushed same k begins = subst (BeginsWith k) (sym pushed) (begins_more c more k begins)
  begins_pushed (Err e) c b more pushed same k begins = subst (BeginsWith k) (sym same) begins

  -- ---- two chunks that become one
  firsts_of_one : (fs : List K) (cs : List (List (K × V))) (i : ℕ) (x c b : List (K × V)) → AreFirsts fs cs → c ≡ get_or (set cs (suc i) x) i c → ((k : K) → BeginsWith k c → BeginsWith k b)
      → AreFirsts (remove fs (suc i)) (remove (set (set cs (suc i) x) i b) (suc i))
  firsts_of_one [] [] i x c b firsts here keeps = tt
  firsts_of_one [] (d ∷ cs) i x c b firsts here keeps = absurd firsts
  firsts_of_one (f ∷ fs) [] i x c b firsts here keeps = absurd firsts
  firsts_of_one (f ∷ fs) (d ∷ cs) zero x c b firsts here keeps = (keeps f (subst (BeginsWith f) (sym here) firsts.0), gone fs cs 0 x firsts.1)
  firsts_of_one (f ∷ fs) (d ∷ cs) (suc i) x c b firsts here keeps = (firsts.0, firsts_of_one fs cs i x c b firsts.1 here keeps)

  joined_as_one : (cs : List (List (K × V))) (i : ℕ) (x c d b : List (K × V)) → suc i < length cs → d ≡ get_or cs (suc i) d → c ≡ get_or (set cs (suc i) x) i c → b ≡ c ++ d
      → joined (remove (set (set cs (suc i) x) i b) (suc i)) ≡ joined cs
  joined_as_one [] i x c d b within there here is = absurd (omega (arith, within))
  joined_as_one (e ∷ []) i x c d b within there here is = absurd (omega (arith, within))
  joined_as_one (e ∷ f ∷ cs) zero x c d b within there here is =
      ap (λ (es : List (K × V)). es ++ joined cs) is ∙ append_assoc c d (joined cs)
      ∙ ap (λ (es : List (K × V)). es ++ (d ++ joined cs)) here ∙ ap (λ (es : List (K × V)). e ++ (es ++ joined cs)) there
  joined_as_one (e ∷ f ∷ cs) (suc i) x c d b within there here is = ap (λ (es : List (K × V)). e ++ es) (joined_as_one (f ∷ cs) i x c d b (omega (arith, within)) there here is)

  both_back : (cs : List (List (K × V))) (i : ℕ) (x c d : List (K × V)) → d ≡ get_or cs (suc i) d → c ≡ get_or (set cs (suc i) x) i c
      → set (set (set cs (suc i) x) i c) (suc i) d ≡ cs
  both_back [] zero x c d there here = refl
  both_back [] (suc i) x c d there here = refl
  both_back (e ∷ []) zero x c d there here = ap (λ (es : List (K × V)). es ∷ []) here
  both_back (e ∷ f ∷ cs) zero x c d there here = ap (λ (es : List (K × V)). es ∷ d ∷ cs) here ∙ ap (λ (es : List (K × V)). e ∷ es ∷ cs) there
  both_back (e ∷ cs) (suc i) x c d there here = ap (λ (es : List (List (K × V))). e ∷ es) (both_back cs i x c d there here)

  -- x stands in for the next chunk, d, while its entries go to the end of this one, c
  module _ (fs : List K) (cs : List (List (K × V))) (i j : ℕ) (x c d b : List (K × V)) (next : j ≡ suc i) (there : d ≡ get_or cs j d) (here : c ≡ get_or (set cs j x) i c) where
    here_next : c ≡ get_or (set cs (suc i) x) i c
    here_next = here ∙ ap (λ (n : ℕ). get_or (set cs n x) i c) next

    there_next : d ≡ get_or cs (suc i) d
    there_next = there ∙ ap (λ (n : ℕ). get_or cs n d) next

    pub merged_firsts : AreFirsts fs cs → b ≡ c ++ d → AreFirsts (remove fs j) (remove (set (set cs j x) i b) j)
    merged_firsts firsts is = subst (λ (n : ℕ). AreFirsts (remove fs n) (remove (set (set cs n x) i b) n)) (sym next)
        (firsts_of_one fs cs i x c b firsts here_next (λ k begins. subst (BeginsWith k) (sym is) (begins_more c d k begins)))

    pub merged_joined : j < length cs → b ≡ c ++ d → joined (remove (set (set cs j x) i b) j) ≡ joined cs
    merged_joined within is = subst (λ (n : ℕ). joined (remove (set (set cs n x) i b) n) ≡ joined cs) (sym next)
        (joined_as_one cs i x c d b (omega (arith, within, next)) there_next here_next is)

    pub put_back : set (set (set cs j x) i c) j d ≡ cs
    put_back = subst (λ (n : ℕ). set (set (set cs n x) i c) n d ≡ cs) (sym next) (both_back cs i x c d there_next here_next)

  -- ---- the last entry
  joined_some : (d : List (K × V)) (cs : List (List (K × V))) → d ≢ [] → joined (d ∷ cs) ≢ []
  joined_some [] cs some = absurd (some refl)
  joined_some (e ∷ es) cs some = λ is. cc

  last_behind : (es fs : List (K × V)) → fs ≢ [] → slice_get (es ++ fs) (length (es ++ fs) - 1) ≡ slice_get fs (length fs - 1)
  last_behind es [] some = absurd (some refl)
  last_behind [] (f ∷ fs) some = refl
  last_behind (e ∷ es) (f ∷ fs) some =
      let long : length (es ++ f ∷ fs) ≡ length es + length (f ∷ fs) = length-append es (f ∷ fs) in
      let more : length (e ∷ es ++ f ∷ fs) - 1 ≡ suc (length (es ++ f ∷ fs) - 1) = omega (arith, long) in
      ap (λ (n : ℕ). slice_get (e ∷ es ++ f ∷ fs) n) more ∙ last_behind es (f ∷ fs) some

  pub last_joined : (cs : List (List (K × V))) (c : List (K × V)) → HaveEntries cs → Some c ≡ slice_get cs (length cs - 1) → slice_get c (length c - 1) ≡ slice_get (joined cs) (length (joined cs) - 1)
  last_joined [] c have last = absurd cc
  last_joined (b ∷ []) c have last =
      let same : c ≡ b = same_Some c b last in
      ap (λ (es : List (K × V)). slice_get es (length es - 1)) (same ∙ sym (append-nil b))
  last_joined (b ∷ d ∷ cs) c have last =
      let more : length (b ∷ d ∷ cs) - 1 ≡ suc (length (d ∷ cs) - 1) = omega arith in
      last_joined (d ∷ cs) c have.1 (last ∙ ap (λ (n : ℕ). slice_get (b ∷ d ∷ cs) n) more)
      ∙ sym (last_behind b (joined (d ∷ cs)) (joined_some d cs have.1.0))

module _ {K : Type 0} (R : K → K → Ordering) (k : K) where
  -- where the key is at least this one, it is at least all before it
  all_begun : (fs : List K) (n : ℕ) (f : K) → IsPartitionedBy (λ y. is_ge (R k y)) fs → length fs ≡ suc n → slice_get fs n ≡ Some f → is_ge (R k f) ≡ true
      → AllWithin (λ y. is_ge (R k y) ≡ true) fs 0 (length fs)
  all_begun fs n f parted long last told j d low high =
      parted j n d (omega (arith, long, high)) (omega (arith, long)) (ap (λ (y : K). is_ge (R k y)) (get_or_from_slice_get fs n f d last) ∙ told)

module _ {K V : Type 0} {R : K → K → Ordering} (total : IsTotalOrder R) (k : K) where
  begun_at : (fs : List K) (cs : List (List (K × V))) (i : ℕ) (f : K) (d : List (K × V)) → AreFirsts fs cs → i < length cs → is_ge (R k (get_or fs i f)) ≡ begins_by R k (get_or cs i d)
  begun_at [] [] i f d firsts within = absurd (omega (arith, within))
  begun_at [] (c ∷ cs) i f d firsts within = absurd firsts
  begun_at (x ∷ fs) [] i f d firsts within = absurd firsts
  begun_at (x ∷ fs) ([] ∷ cs) zero f d firsts within = absurd firsts.0
  begun_at (x ∷ fs) ((e ∷ es) ∷ cs) zero f d firsts within = ap (λ (y : K). is_ge (R k y)) (sym firsts.0)
  begun_at (x ∷ fs) (c ∷ cs) (suc i) f d firsts within = begun_at fs cs i f d firsts.1 (omega (arith, within))

  pub parted_firsts : (fs : List K) (cs : List (List (K × V))) → AreFirsts fs cs → AreInOrder R cs → IsPartitionedBy (λ f. is_ge (R k f)) fs
  parted_firsts fs cs firsts sorted i j f up within begun =
      let many = as_many fs cs firsts in
      begun_at fs cs i f [] firsts (omega (arith, up, within, many))
      ∙ parted total k cs sorted (have_entries fs cs firsts) i j [] up (omega (arith, within, many)) (sym (begun_at fs cs j f [] firsts (omega (arith, within, many))) ∙ begun)

  of_firsts : (b : Bool) (fs : List K) (cs : List (List (K × V))) (low high : ℕ) → AreFirsts fs cs → high ≤ length cs → AllWithin (λ f. is_ge (R k f) ≡ b) fs low high → AllWithin (λ c. begins_by R k c ≡ b) cs low high
  of_firsts b [] [] low high firsts short all j d lo hi = absurd (omega (arith, short, hi))
  of_firsts b [] (c ∷ cs) low high firsts short all j d lo hi = absurd firsts
  of_firsts b (f ∷ fs) cs low high firsts short all j d lo hi = sym (begun_at (f ∷ fs) cs j f d firsts (omega (arith, short, hi))) ∙ all j f lo hi

  -- n is how many first keys are at most the key
  pub placed_by_firsts : (fs : List K) (cs : List (List (K × V))) (n i : ℕ) → AreFirsts fs cs → AreInOrder R cs → 0 < length cs → n ≤ length fs → i ≡ n - 1
      → AllWithin (λ f. is_ge (R k f) ≡ true) fs 0 n → AllWithin (λ f. is_ge (R k f) ≡ false) fs n (length fs) → IsPlace R k cs i
  placed_by_firsts fs cs n i firsts sorted some within is low high =
      let many = as_many fs cs firsts in
      placed total k cs n i sorted (have_entries fs cs firsts) (omega (arith, some, within, is, many)) (omega (arith, is)) (λ more. omega (arith, more, is))
      (of_firsts true fs cs 0 n firsts (omega (arith, within, many)) low) (of_firsts false fs cs n (length cs) firsts (omega arith) (subst (λ (m : ℕ). AllWithin (λ f. is_ge (R k f) ≡ false) fs n m) many high))

  -- a key that is at least the last first key
  pub placed_last : (fs : List K) (cs : List (List (K × V))) (f : K) → AreFirsts fs cs → AreInOrder R cs → slice_get fs (length fs - 1) ≡ Some f → is_ge (R k f) ≡ true → IsPlace R k cs (length cs - 1)
  placed_last [] cs f firsts sorted last told = absurd cc
  placed_last (x ∷ xs) cs f firsts sorted last told =
      let many = as_many (x ∷ xs) cs firsts in
      placed_by_firsts (x ∷ xs) cs (length (x ∷ xs)) (length cs - 1) firsts sorted (omega (arith, many)) (omega arith) (omega (arith, many))
      (all_begun R k (x ∷ xs) (length (x ∷ xs) - 1) f (parted_firsts (x ∷ xs) cs firsts sorted) (omega arith) last told) (λ j d low high. absurd (omega (arith, low, high)))
