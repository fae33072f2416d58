-- Where no unit begins another one, a stream is one list of units and one rest.
use Rattle.std.proofs.Common.{◌≡◌, inl, inr, ℕ, zero, suc, ◌≤◌, List, [], ◌∷◌, length, refl, sym, ap, subst, ◌∙◌, arith}
use Rattle.std.proofs.lemmas.List.{length-append}
use Rattle.av_base.specs.One.{HasOnePair}
use Rattle.held_bytes.specs.Divided.{BeginsOrNot, Divides}
use Rattle.held_bytes.specs.Units.{Begins, AreUnits}

module _ {A : Type 0} (IsUnit : List ℕ → A → Type 0) (divides : Divides IsUnit) where
  record Division (stream : List ℕ) : Type 0 where
    units : List A
    rest : List ℕ
    are : AreUnits IsUnit stream units rest

  -- a unit takes bytes
  left_short : (stream left : List ℕ) (unit : A) (most : ℕ) → Begins IsUnit stream unit left → length stream ≤ suc most → length left ≤ most
  left_short stream left unit most begins within =
      let some = divides.some begins.front unit begins.spelled in
      omega (arith, ap length begins.whole, length-append begins.front left)

  no_bytes : (stream left : List ℕ) (unit : A) → Begins IsUnit stream unit left → length stream ≤ 0 → ⊥
  no_bytes stream left unit begins within =
      let some = divides.some begins.front unit begins.spelled in
      omega (arith, ap length begins.whole, length-append begins.front left)

  -- by what comes first
  divided : (stream : List ℕ) → BeginsOrNot IsUnit stream → ((unit : A) (left : List ℕ) → Begins IsUnit stream unit left → Division left) → Division stream
  divided stream (inl first) behind =
      let others = behind first.0 first.1 first.2 in
      record { units = first.0 ∷ others.units; rest = others.rest; are = (first.1, first.2, others.are) }
  divided stream (inr none) behind = record { units = []; rest = stream; are = (refl, none) }

  some_division : (most : ℕ) (stream : List ℕ) → length stream ≤ most → Division stream
  some_division zero stream within = record { units = []; rest = stream; are = (refl, λ unit rest begins. no_bytes stream rest unit begins within) }
  some_division (suc most) stream within = divided stream (divides.told stream) (λ unit left begins. some_division most left (left_short stream left unit most begins within))

  same_division : (units others : List A) (stream rest also : List ℕ) → AreUnits IsUnit stream units rest → AreUnits IsUnit stream others also → (others ≡ units) × (also ≡ rest)
  same_division [] [] stream rest also a b = (refl, sym b.0 ∙ a.0)
  same_division [] (q ∷ others) stream rest also a b = absurd (a.1 q b.0 (subst (λ (l : List ℕ). Begins IsUnit l q b.0) a.0 b.1))
  same_division (p ∷ units) [] stream rest also a b = absurd (b.1 p a.0 (subst (λ (l : List ℕ). Begins IsUnit l p a.0) b.0 a.1))
  same_division (p ∷ units) (q ∷ others) stream rest also a b =
      let same = divides.alone stream q p b.0 a.0 b.1 a.1 in
      let more = same_division units others a.0 rest also a.2 (subst (λ (l : List ℕ). AreUnits IsUnit l others also) same.1 b.2) in
      (λ i. same.0 i ∷ more.0 i, more.1)

  -- the units of a stream and its rest are determined
  pub one_division : (stream : List ℕ) → HasOnePair (AreUnits IsUnit stream)
  one_division stream =
      let some = some_division (length stream) stream (omega arith) in
      record { one = some.units; its = some.rest; is = some.are; only = λ others also are. same_division some.units others stream some.rest also some.are are }
