-- Whether another table or other roles touch a pair can be found out, and whether two pairs are the same.
use Rattle.std.proofs.Common.{◌≡◌, ◌≢◌, ℕ, zero, suc, ◌+◌, ◌-◌, ◌<◌, Bool, true, false, List, [], ◌∷◌, length, refl, ap, sym, subst, ◌∙◌, arith, true≢false, ◌⊎◌, inl, inr}
use Rattle.std.specs.Prelude.{slice_index, Contains}
use Rattle.std.specs.BTreeMap.{is_at}
use Rattle.std.proofs.lemmas.Bool.{cases_lt}
use Rattle.std.proofs.lemmas.List.Elements.{Contains-append_right}
use Rattle.std.proofs.lemmas.Map.Made.{Contains-tail}
use Rattle.path_model.specs.declared.authority.Authority.{Authority}
use Rattle.path_model.specs.declared.authority.Authority.TheVariants.{Silent, Refuses, Provides}
use Rattle.path_model.specs.declared.role.Role.{Role}
use Rattle.path_model.specs.declared.role.Role.TheVariants.{Provider, Customer, Peer, Rs, RsClient, Mutual}
use Rattle.path_model.specs.Authority.{Table, authority_of}
use Rattle.path_model.specs.Roles.{role_of}
use Rattle.path_model.specs.Trail.{Path}
use Rattle.path_model.proofs.Decide.{Decided, decided_either, decided_not}
use Rattle.shared_cases.specs.Grounds.{Grounds}
use Rattle.shared_cases.specs.Names.{name_of, name_cmp}
use Rattle.shared_cases.specs.Touched.{IsTouched, IsTouchedChain}
use Rattle.shared_cases.proofs.NameLemmas.{at_itself, same_name}

-- a fact can be found out where one of the same meaning can
pub decided_like : {P Q : Type 0} → (P → Q) → (Q → P) → Decided P → Decided Q
decided_like to from (inl holds) = inl (to holds)
decided_like to from (inr fails) = inr (λ q. fails (from q))

-- ---- what is the same

decided_authority : (a b : Authority) → Decided (a ≡ b)
decided_authority Silent Silent = inl refl
decided_authority Refuses Refuses = inl refl
decided_authority Provides Provides = inl refl
decided_authority _ _ = inr (λ same. cc)

decided_role : (a b : Role) → Decided (a ≡ b)
decided_role Provider Provider = inl refl
decided_role Customer Customer = inl refl
decided_role Peer Peer = inl refl
decided_role Rs Rs = inl refl
decided_role RsClient RsClient = inl refl
decided_role Mutual Mutual = inl refl
decided_role _ _ = inr (λ same. cc)

-- whether two pairs are the same
pub decided_pair : (p q : ℕ × Path) → Decided (p ≡ q)
decided_pair p q = by (is_at (name_cmp (name_of p.0 p.1)) (name_of q.0 q.1)) refl where
  by : (b : Bool) → is_at (name_cmp (name_of p.0 p.1)) (name_of q.0 q.1) ≡ b → Decided (p ≡ q)
  by true t = inl (let names = same_name (name_of p.0 p.1) (name_of q.0 q.1) t in λ i. ((names i).asn, (names i).trail))
  by false t = inr (λ same. true≢false (sym (at_itself (name_of p.0 p.1))
      ∙ ap (λ (r : ℕ × Path). is_at (name_cmp (name_of p.0 p.1)) (name_of r.0 r.1)) same ∙ t))

-- whether a list has an element
pub decided_contains : {A : Type 0} → ((a b : A) → Decided (a ≡ b)) → (xs : List A) (x : A) → Decided (Contains xs x)
decided_contains same [] x = inr (λ has. absurd (omega (arith, has.1)))
decided_contains same (y ∷ ys) x = elim (same y x) [
  | inl first ↦ inl (0, omega arith, first)
  | inr other ↦ elim (decided_contains same ys x) [
    | inl later ↦ inl (Contains-append_right (y ∷ []) ys x later)
    | inr none ↦ inr (λ has. none (Contains-tail y ys x other has))
  ]
]

-- ---- what is touched

-- whether something holds of one of the first so many numbers
decided_below : (P : ℕ → Type 0) → ((k : ℕ) → Decided (P k)) → (n : ℕ) → Decided ((k : ℕ) × (k < n) × P k)
decided_below P decide zero = inr (λ h. absurd (omega (arith, h.1)))
decided_below P decide (suc n) = elim (decide n) [
  | inl here ↦ inl (n, omega arith, here)
  | inr fails ↦ elim (decided_below P decide n) [
    | inl before ↦ inl (before.0, omega (arith, before.1), before.2)
    | inr none ↦ inr (λ h. elim (cases_lt h.0 n) [
      | inl below ↦ none (h.0, below, h.2)
      | inr last ↦ fails (let same : h.0 ≡ n = omega (arith, last, h.1) in subst P same h.2)
    ])
  ]
]

-- what x attests of y is another thing than before
abbrev IsOther : Table → Table → ℕ → ℕ → Type 0
IsOther old new x y = authority_of old x y ≢ authority_of new x y

decided_other : (old new : Table) (x y : ℕ) → Decided (IsOther old new x y)
decided_other old new x y = decided_not (decided_authority (authority_of old x y) (authority_of new x y))

-- the hop that begins at this place is touched, in one order or the other
abbrev IsTouchedAt : Table → Table → List ℕ → ℕ → Type 0
IsTouchedAt old new chain place =
    IsOther old new (slice_index chain place) (slice_index chain (place + 1)) ⊎ IsOther old new (slice_index chain (place + 1)) (slice_index chain place)

chain_from : (old new : Table) (chain : List ℕ) → (place : ℕ) × (place < length chain - 1) × IsTouchedAt old new chain place → IsTouchedChain old new chain
chain_from old new chain h = elim h.2 [
  | inl up ↦ record {
    x = slice_index chain h.0;
    y = slice_index chain (h.0 + 1);
    neighbours = record { place = h.0; within = omega (arith, h.1); joined = inl (refl, refl) };
    changed = up;
  }
  | inr down ↦ record {
    x = slice_index chain (h.0 + 1);
    y = slice_index chain h.0;
    neighbours = record { place = h.0; within = omega (arith, h.1); joined = inr (refl, refl) };
    changed = down;
  }
]

other_at : (old new : Table) (x y a b : ℕ) → x ≡ a → y ≡ b → IsOther old new x y → IsOther old new a b
other_at old new x y a b left right other = subst (λ (m : ℕ). IsOther old new a m) right (subst (λ (m : ℕ). IsOther old new m y) left other)

chain_to : (old new : Table) (chain : List ℕ) → IsTouchedChain old new chain → (place : ℕ) × (place < length chain - 1) × IsTouchedAt old new chain place
chain_to old new chain h =
    let place : ℕ = h.neighbours.place in
    let a : ℕ = slice_index chain place in
    let b : ℕ = slice_index chain (place + 1) in (
      place,
      omega (arith, h.neighbours.within),
      elim h.neighbours.joined [
        | inl up ↦ inl (other_at old new h.x h.y a b up.0 up.1 h.changed)
        | inr down ↦ inr (other_at old new h.x h.y b a down.0 down.1 h.changed)
      ],
    )

decided_chain : (old new : Table) (chain : List ℕ) → Decided (IsTouchedChain old new chain)
decided_chain old new chain = decided_like (chain_from old new chain) (chain_to old new chain)
    (decided_below (IsTouchedAt old new chain)
    (λ place. decided_either (decided_other old new (slice_index chain place) (slice_index chain (place + 1))) (decided_other old new (slice_index chain (place + 1)) (slice_index chain place)))
    (length chain - 1))

-- whether a pair is touched
pub decided_touched : (old new : Grounds) (pair : ℕ × Path) → Decided (IsTouched old new pair)
decided_touched old new pair = decided_either (decided_not (decided_role (role_of old.roles pair.0) (role_of new.roles pair.0))) (decided_chain old.table new.table pair.1.chain)
