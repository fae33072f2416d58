-- What is found in a tree: there is one of it at most, and whether there is one is told.
use Rattle.std.proofs.Common.{◌≡◌, ◌⊎◌, inl, inr, ℕ, Bool, true, false, List, [], ◌∷◌, Option, Some, None, refl, sym, ◌∙◌, subst}
use Rattle.std.proofs.lemmas.Option.{same_Some}
use Rattle.serde_json.specs.Data.{unsigned, negative, float, Data}
use Rattle.serde_json.specs.Find.{get, as_number}
use Rattle.json_fields.specs.Each.{Each}
use Rattle.json_fields.specs.Object.{ArrayIs, IsNumber, MemberIs, array_at}

-- there is such a thing, or none
abbrev pub SomeOrNone : {A : Type 0} → (A → Type 0) → Type 0
SomeOrNone {A = A} P = ((a : A) × P a) ⊎ ((a : A) → P a → ⊥)

pub unsigned_injective : (x y : ℕ) → unsigned x ≡ unsigned y → x ≡ y
unsigned_injective x y e = cc

pub same_some : {A : Type 0} (o : Option A) (a b : A) → o ≡ Some a → o ≡ Some b → a ≡ b
same_some {A = A} o a b e f = let both : ◌≡◌ {A = Option A} (Some a) (Some b) = sym e ∙ f in same_Some a b both

pub same_each : {D A : Type 0} (R : D → A → Type 0) → ((d : D) (a b : A) → R d a → R d b → a ≡ b)
    → (ds : List D) (xs ys : List A) → Each R ds xs → Each R ds ys → xs ≡ ys
same_each R one [] [] [] e f = refl
same_each R one [] [] (y ∷ ys) e f = absurd f
same_each R one [] (x ∷ xs) ys e f = absurd e
same_each R one (d ∷ ds) [] ys e f = absurd e
same_each R one (d ∷ ds) (x ∷ xs) [] e f = absurd f
same_each R one (d ∷ ds) (x ∷ xs) (y ∷ ys) e f =
    let head : x ≡ y = one d x y e.0 f.0 in
    let tail : xs ≡ ys = same_each R one ds xs ys e.1 f.1 in
    λ i. head i ∷ tail i

pub same_array : {A : Type 0} (R : Data → A → Type 0) → ((d : Data) (a b : A) → R d a → R d b → a ≡ b)
    → (name : List ℕ) (d : Data) (xs ys : List A) → ArrayIs R name d xs → ArrayIs R name d ys → xs ≡ ys
same_array R one name d xs ys s t =
    let same : s.items ≡ t.items = same_some _ s.items t.items s.is t.is in
    same_each R one t.items xs ys (subst (λ (ds : List Data). Each R ds xs) same s.each) t.each

pub same_member : {A : Type 0} (R : Data → A → Type 0) → ((d : Data) (a b : A) → R d a → R d b → a ≡ b)
    → (name : List ℕ) (d : Data) (x y : A) → MemberIs R name d x → MemberIs R name d y → x ≡ y
same_member R one name d x y s t =
    let same : s.member ≡ t.member = same_some _ s.member t.member s.is t.is in
    one t.member x y (subst (λ (m : Data). R m x) same s.holds) t.holds

-- ---- some or none

pub none_found : {A : Type 0} (o : Option A) (a : A) → o ≡ None → o ≡ Some a → ⊥
none_found o a e f = cc

pub clash : (b : Bool) → b ≡ true → b ≡ false → ⊥
clash b e f = cc

each_head : {D A : Type 0} (R : D → A → Type 0) (d : D) (ds : List D) (xs : List A) → ((a : A) → R d a → ⊥)
    → Each R (d ∷ ds) xs → ⊥
each_head R d ds [] none e = e
each_head R d ds (x ∷ xs) none e = none x e.0

each_tail : {D A : Type 0} (R : D → A → Type 0) (d : D) (ds : List D) (xs : List A) → ((more : List A) → Each R ds more → ⊥)
    → Each R (d ∷ ds) xs → ⊥
each_tail R d ds [] none e = e
each_tail R d ds (x ∷ xs) none e = none xs e.1

each_cons : {D A : Type 0} (R : D → A → Type 0) (d : D) (ds : List D) → SomeOrNone (R d) → SomeOrNone (Each R ds)
    → SomeOrNone (Each R (d ∷ ds))
each_cons R d ds (inl h) (inl more) = inl (h.0 ∷ more.0, (h.1, more.1))
each_cons R d ds (inl h) (inr none) = inr (λ xs e. each_tail R d ds xs none e)
each_cons R d ds (inr none) more = inr (λ xs e. each_head R d ds xs none e)

pub each_or_none : {D A : Type 0} (R : D → A → Type 0) → ((d : D) → SomeOrNone (R d)) → (ds : List D) → SomeOrNone (Each R ds)
each_or_none R dec [] = inl ([], tt)
each_or_none R dec (d ∷ ds) = each_cons R d ds (dec d) (each_or_none R dec ds)

pub found_or_none : {A : Type 0} (o : Option A) → SomeOrNone (λ a. o ≡ Some a)
found_or_none None = inr (λ a e. none_found None a refl e)
found_or_none (Some a) = inl (a, refl)

none_within : {A : Type 0} (o : Option (Option A)) (a : A) → o ≡ Some None → o ≡ Some (Some a) → ⊥
none_within o a e f = cc

-- the member is there and of its kind
pub there_or_none : {A : Type 0} (o : Option (Option A)) → SomeOrNone (λ x. o ≡ Some (Some x))
there_or_none None = inr (λ x e. none_found None (Some x) refl e)
there_or_none (Some None) = inr (λ x e. none_within (Some None) x refl e)
there_or_none (Some (Some x)) = inl (x, refl)

pub number_or_none : (d : Data) → SomeOrNone (IsNumber d)
number_or_none d = found_or_none (as_number d)

array_by : {A : Type 0} (R : Data → A → Type 0) → ((d : Data) → SomeOrNone (R d)) → (name : List ℕ) (d : Data)
    → SomeOrNone (λ items. array_at name d ≡ Some items) → SomeOrNone (ArrayIs R name d)
array_by {A = A} R dec name d (inr none) = inr (λ list h. none h.items h.is)
array_by {A = A} R dec name d (inl items) = by (each_or_none R dec items.0)
  where
    by : SomeOrNone (Each R items.0) → SomeOrNone (ArrayIs R name d)
    by (inl list) = inl (list.0, record { items = items.0; is = items.1; each = list.1 })
    by (inr none) = inr (λ list h. none list (subst (λ (ds : List Data). Each R ds list) (same_some _ h.items items.0 h.is items.1) h.each))

pub array_or_none : {A : Type 0} (R : Data → A → Type 0) → ((d : Data) → SomeOrNone (R d)) → (name : List ℕ) (d : Data)
    → SomeOrNone (ArrayIs R name d)
array_or_none R dec name d = array_by R dec name d (found_or_none (array_at name d))

member_by : {A : Type 0} (R : Data → A → Type 0) → ((d : Data) → SomeOrNone (R d)) → (name : List ℕ) (d : Data)
    → SomeOrNone (λ m. get name d ≡ Some m) → SomeOrNone (MemberIs R name d)
member_by {A = A} R dec name d (inr none) = inr (λ a h. none h.member h.is)
member_by {A = A} R dec name d (inl m) = by (dec m.0)
  where
    by : SomeOrNone (R m.0) → SomeOrNone (MemberIs R name d)
    by (inl a) = inl (a.0, record { member = m.0; is = m.1; holds = a.1 })
    by (inr none) = inr (λ a h. none a (subst (λ (x : Data). R x a) (same_some _ h.member m.0 h.is m.1) h.holds))

pub member_or_none : {A : Type 0} (R : Data → A → Type 0) → ((d : Data) → SomeOrNone (R d)) → (name : List ℕ) (d : Data)
    → SomeOrNone (MemberIs R name d)
member_or_none R dec name d = member_by R dec name d (found_or_none (get name d))

pub not_negative : (z : _) (k : ℕ) → negative z ≡ unsigned k → ⊥
not_negative z k e = cc

pub not_float : (x : _) (k : ℕ) → float x ≡ unsigned k → ⊥
not_float x k e = cc
