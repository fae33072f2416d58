-- Items that are drawn one after another: one more at the end, and that there is one outcome.
use Rattle.std.proofs.Common.{◌≡◌, ℕ, zero, suc, ◌+◌, ◌%◌, List, [], ◌∷◌, ◌++◌, length, refl, sym, ap, subst, ◌∙◌, arith, append_assoc, append-nil, length-append}
use Rattle.rand_pcg.specs.Lcg.{Lcg}
use Rattle.rand_pcg.specs.Pcg.{pcg32}
use Rattle.stated_workload.specs.Draws.{Draws, InOrder, DrawsAll, DrawsAs, Adds}

-- ---- one item more

in_order_more : {A : Type 0} (Item : ℕ → Lcg → A → Lcg → Type 0) (k : ℕ) (old mid new : Lcg) (xs : List A) (x : A) → InOrder Item k old xs mid → Item (length xs + k) mid x new → InOrder Item k old (xs ++ x ∷ []) new
in_order_more Item k old mid new [] x so_far item = (new, subst (λ (g : Lcg). Item k g x new) so_far (subst (λ (j : ℕ). Item j mid x new) (omega arith) item), refl)
in_order_more Item k old mid new (y ∷ ys) x so_far item =
    (so_far.0, so_far.1, in_order_more Item (suc k) so_far.0 mid new ys x so_far.2 (subst (λ (j : ℕ). Item j mid x new) (omega arith) item))

pub draws_none : {A : Type 0} (Item : ℕ → Lcg → A → Lcg → Type 0) (old : Lcg) → DrawsAll Item 0 old [] old
draws_none Item old = record { many = refl; each = refl }

pub draws_more : {A : Type 0} (Item : ℕ → Lcg → A → Lcg → Type 0) (n : ℕ) (old mid : Lcg) (xs : List A) → DrawsAll Item n old xs mid → (x : A) (new : Lcg) → Item n mid x new → DrawsAll Item (n + 1) old (xs ++ x ∷ []) new
draws_more Item n old mid xs so_far x new item = record {
  many = length-append xs (x ∷ []) ∙ ap (λ (l : ℕ). l + 1) so_far.many;
  each = in_order_more Item 0 old mid new xs x so_far.each (subst (λ (j : ℕ). Item j mid x new) (let e = so_far.many in omega arith) item);
}

pub adds_none : {A : Type 0} (Item : ℕ → Lcg → A → Lcg → Type 0) (old : Lcg) (before : List A) → Adds Item 0 old before before old
adds_none Item old before = record { added = []; drawn = draws_none Item old; is = sym (append-nil before) }

pub adds_more : {A : Type 0} {Item : ℕ → Lcg → A → Lcg → Type 0} {n : ℕ} {old mid : Lcg} {before after : List A} → Adds Item n old before after mid → (x : A) (new : Lcg) → Item n mid x new → Adds Item (n + 1) old before (after ++ x ∷ []) new
adds_more {A} {Item} {n} {old} {mid} {before} {after} so_far x new item = record {
  added = so_far.added ++ x ∷ [];
  drawn = draws_more Item n old mid so_far.added so_far.drawn x new item;
  is = ap (λ (l : List A). l ++ x ∷ []) so_far.is ∙ append_assoc before so_far.added (x ∷ []);
}

pub ruleset draw_steps = (adds_none, adds_more)

-- what was added to nothing is all
pub added_all : {A : Type 0} (Item : ℕ → Lcg → A → Lcg → Type 0) (n : ℕ) (old new : Lcg) (all : List A) → Adds Item n old [] all new → DrawsAll Item n old all new
added_all Item n old new all adds = subst (λ (l : List _). DrawsAll Item n old l new) (sym adds.is) adds.drawn

-- ---- one outcome

-- two readings from one generator end alike
abbrev pub Same : {A : Type 0} → A → A → Lcg → Lcg → Type 0
Same a b s t = (a ≡ b) × (s ≡ t)

-- each item has at most one outcome
abbrev pub IsOne : {A : Type 0} → (ℕ → Lcg → A → Lcg → Type 0) → Type 0
IsOne {A = A} Item = (k : ℕ) (g h s t : Lcg) (a b : A) → g ≡ h → Item k g a s → Item k h b t → Same a b s t

-- and at least one
abbrev pub IsSome : {A : Type 0} → (ℕ → Lcg → A → Lcg → Type 0) → Type 0
IsSome {A = A} Item = (k : ℕ) (g : Lcg) → (a : A) × (s : Lcg) × Item k g a s

pub one_draw : (m : ℕ) (g h s t : Lcg) (a b : ℕ) → g ≡ h → Draws m g a s → Draws m h b t → Same a b s t
one_draw m g h s t a b e d f =
    (d.value_is ∙ ap (λ (k : Lcg). (pcg32 k).0 % m) e ∙ sym f.value_is, d.next_is ∙ ap (λ (k : Lcg). (pcg32 k).1) e ∙ sym f.next_is)

pub some_draw : (m : ℕ) (g : Lcg) → Draws m g ((pcg32 g).0 % m) (pcg32 g).1
some_draw m g = record { value_is = refl; next_is = refl }

one_order : {A : Type 0} (Item : ℕ → Lcg → A → Lcg → Type 0) → IsOne Item → (k : ℕ) (g h s t : Lcg) (xs ys : List A) → g ≡ h → length xs ≡ length ys → InOrder Item k g xs s → InOrder Item k h ys t → Same xs ys s t
one_order Item one k g h s t [] [] e n d f = (refl, d ∙ e ∙ sym f)
one_order Item one k g h s t [] (y ∷ ys) e n d f = absurd (omega arith)
one_order Item one k g h s t (x ∷ xs) [] e n d f = absurd (omega arith)
one_order Item one k g h s t (x ∷ xs) (y ∷ ys) e n d f =
    let first = one k g h d.0 f.0 x y e d.1 f.1 in
    let rest = one_order Item one (suc k) d.0 f.0 s t xs ys first.1 (omega arith) d.2 f.2 in
    (λ i. first.0 i ∷ rest.0 i, rest.1)

pub one_all : {A : Type 0} (Item : ℕ → Lcg → A → Lcg → Type 0) → IsOne Item → (n m : ℕ) (g h s t : Lcg) (xs ys : List A) → n ≡ m → g ≡ h → DrawsAll Item n g xs s → DrawsAll Item m h ys t → Same xs ys s t
one_all Item one n m g h s t xs ys same e d f = one_order Item one 0 g h s t xs ys e (d.many ∙ same ∙ sym f.many) d.each f.each

some_order : {A : Type 0} (Item : ℕ → Lcg → A → Lcg → Type 0) → IsSome Item → (k n : ℕ) (g : Lcg) → (xs : List A) × (s : Lcg) × (length xs ≡ n) × InOrder Item k g xs s
some_order Item some k zero g = ([], g, refl, refl)
some_order Item some k (suc n) g =
    let first = some k g in
    let rest = some_order Item some (suc k) n first.1 in
    (first.0 ∷ rest.0, rest.1, ap suc rest.2, (first.1, first.2, rest.3))

pub some_all : {A : Type 0} (Item : ℕ → Lcg → A → Lcg → Type 0) → IsSome Item → (n : ℕ) (g : Lcg) → (xs : List A) × (s : Lcg) × DrawsAll Item n g xs s
some_all Item some n g = let order = some_order Item some 0 n g in (order.0, order.1, record { many = order.2; each = order.3 })

pub one_as : IsOne (λ _. DrawsAs)
one_as k g h s t a b e d f = let one = one_draw 2000 g h s t d.value f.value e d.drawn f.drawn in (d.is ∙ ap (λ (x : ℕ). 1 + x) one.0 ∙ sym f.is, one.1)

pub some_as : IsSome (λ _. DrawsAs)
some_as k g = (1 + (pcg32 g).0 % 2000, (pcg32 g).1, record { value = (pcg32 g).0 % 2000; drawn = some_draw 2000 g; is = refl })
