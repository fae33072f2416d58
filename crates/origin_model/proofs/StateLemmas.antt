-- States by several payloads together.
use Rattle.std.proofs.Common.{◌≡◌, ℕ, ◌⊎◌, inl, inr, refl}
use Rattle.std.specs.declared.option.Option.{Option}
use Rattle.path_model.specs.Prefix.{Subnet}
use Rattle.origin_model.specs.Covering.{Covers}
use Rattle.origin_model.specs.Vrp.{Payload}
use Rattle.origin_model.specs.declared.origin_state.OriginState.{OriginState}
use Rattle.origin_model.specs.declared.origin_state.OriginState.TheVariants.{Valid, Invalid, NotFound}
use Rattle.origin_model.specs.OriginState.{Matches, Matching, Covering, HasState, better}

-- what covers the route and is so is so in the other way, too
abbrev pub Goes : Subnet → (Payload → Type 0) → (Payload → Type 0) → Type 0
Goes prefix A B = (v : Payload) → Covers v.prefix prefix → A v → B v

module _ (prefix : Subnet) (origin : Option ℕ) where
  matching_like : (A B : Payload → Type 0) → Goes prefix A B → Matching A prefix origin → Matching B prefix origin
  matching_like A B to m = record { payload = m.payload; is = to m.payload m.matches.covers m.is; matches = m.matches }

  covering_like : (A B : Payload → Type 0) → Goes prefix A B → Covering A prefix → Covering B prefix
  covering_like A B to c = record { payload = c.payload; is = to c.payload c.covers c.is; covers = c.covers }

  -- the same by other words
  pub has_like : (A B : Payload → Type 0) (s : OriginState) → Goes prefix A B → Goes prefix B A → HasState A prefix origin s → HasState B prefix origin s
  has_like A B Valid to from h = matching_like A B to h
  has_like A B Invalid to from h = (λ m. h.0 (matching_like B A from m), covering_like A B to h.1)
  has_like A B NotFound to from h = λ c. h (covering_like B A from c)

  -- what gives no state alone
  matching_by : (A : Payload → Type 0) (v : Payload) → A v → Matches v prefix origin → Matching A prefix origin
  matching_by A v a m = record { payload = v; is = a; matches = m }

  covering_by : (A : Payload → Type 0) (v : Payload) → A v → Covers v.prefix prefix → Covering A prefix
  covering_by A v a c = record { payload = v; is = a; covers = c }

  -- by those of which one or the other is so
  pub has_or : (A B : Payload → Type 0) (s t : OriginState) → HasState A prefix origin s → HasState B prefix origin t → HasState (λ v. A v ⊎ B v) prefix origin (better s t)
  has_or A B Valid t h k = matching_like A (λ v. A v ⊎ B v) (λ v c a. inl a) h
  has_or A B Invalid Valid h k = matching_like B (λ v. A v ⊎ B v) (λ v c b. inr b) k
  has_or A B Invalid Invalid h k = (
    λ m. elim m.is [ inl a ↦ h.0 (matching_by A m.payload a m.matches) | inr b ↦ k.0 (matching_by B m.payload b m.matches) ],
    covering_like A (λ v. A v ⊎ B v) (λ v c a. inl a) h.1,
  )
  has_or A B Invalid NotFound h k = (
    λ m. elim m.is [ inl a ↦ h.0 (matching_by A m.payload a m.matches) | inr b ↦ k (covering_by B m.payload b m.matches.covers) ],
    covering_like A (λ v. A v ⊎ B v) (λ v c a. inl a) h.1,
  )
  has_or A B NotFound Valid h k = matching_like B (λ v. A v ⊎ B v) (λ v c b. inr b) k
  has_or A B NotFound Invalid h k = (
    λ m. elim m.is [ inl a ↦ h (covering_by A m.payload a m.matches.covers) | inr b ↦ k.0 (matching_by B m.payload b m.matches) ],
    covering_like B (λ v. A v ⊎ B v) (λ v c b. inr b) k.1,
  )
  has_or A B NotFound NotFound h k = λ c. elim c.is [ inl a ↦ h (covering_by A c.payload a c.covers) | inr b ↦ k (covering_by B c.payload b c.covers) ]

  pub has_none : (A : Payload → Type 0) → ((v : Payload) → Covers v.prefix prefix → A v → ⊥) → HasState A prefix origin NotFound
  has_none A none = λ c. none c.payload c.covers c.is

pub better_none : (s : OriginState) → better s NotFound ≡ s
better_none Valid = refl
better_none Invalid = refl
better_none NotFound = refl

pub better_assoc : (s t u : OriginState) → better (better s t) u ≡ better s (better t u)
better_assoc Valid t u = refl
better_assoc Invalid Valid u = refl
better_assoc Invalid Invalid Valid = refl
better_assoc Invalid Invalid Invalid = refl
better_assoc Invalid Invalid NotFound = refl
better_assoc Invalid NotFound u = refl
better_assoc NotFound t u = refl

-- ---- no two states

module _ (prefix : Subnet) (origin : Option ℕ) (Is : Payload → Type 0) where
  matching_covers : Matching Is prefix origin → Covering Is prefix
  matching_covers m = record { payload = m.payload; is = m.is; covers = m.matches.covers }

  pub one_state : (s t : OriginState) → HasState Is prefix origin s → HasState Is prefix origin t → t ≡ s
  one_state Valid Valid h k = refl
  one_state Valid Invalid h k = absurd (k.0 h)
  one_state Valid NotFound h k = absurd (k (matching_covers h))
  one_state Invalid Valid h k = absurd (h.0 k)
  one_state Invalid Invalid h k = refl
  one_state Invalid NotFound h k = absurd (k h.1)
  one_state NotFound Valid h k = absurd (h (matching_covers k))
  one_state NotFound Invalid h k = absurd (h k.1)
  one_state NotFound NotFound h k = refl
