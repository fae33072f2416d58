-- What one call on one connection leaves of all connections. The connections that are kept are those that a contract sees.
use Rattle.std.proofs.Common.{◌≡◌, ◌≢◌, ℕ, zero, suc, List, [], ◌∷◌, get_or, refl, ap, subst, ◌∙◌}
use Rattle.std.proofs.Math.Seq.{map-set_same}
use Rattle.std.specs.Prelude.{slice_get, slice_set, IfSome}
use Rattle.av_base.specs.declared.standing.Standing.{Standing}
use Rattle.av_base.specs.Places.{change_at}
use Rattle.av_base.proofs.PlacesLemmas.{get-change_other, written_is_change}
use Rattle.system_objects.specs.Known.{KnownLink, KnownLinks, standings_of}

-- the kept connections and the count are what a contract sees
abbrev AreSeen : List KnownLink → ℕ → KnownLinks → Type 0
AreSeen kept faults seen = record { links = kept; faults = faults } ≡ seen

links_seen : {kept : List KnownLink} {faults : ℕ} {seen : KnownLinks} → AreSeen kept faults seen → kept ≡ seen.links
links_seen are = ap (λ (s : KnownLinks). s.links) are

-- the one connection was x and is y now: all stand as they stood,
pub stand_so : {kept : List KnownLink} {faults : ℕ} {seen : KnownLinks} → AreSeen kept faults seen → (link : ℕ) (x y : KnownLink) → x ≡ get_or kept link x
    → y.standing ≡ x.standing → standings_of (slice_set kept link y) ≡ standings_of seen.links
stand_so {kept} are link x y read same =
    map-set_same (λ (l : KnownLink). l.standing) kept link y x (same ∙ ap (λ (l : KnownLink). l.standing) read) ∙ ap standings_of (links_seen are)

-- or the one stands otherwise,
standing_set : (g : Standing → Standing) (kept : List KnownLink) (link : ℕ) (x y : KnownLink) → x ≡ get_or kept link x → y.standing ≡ g x.standing → standings_of (slice_set kept link y) ≡ change_at link g (standings_of kept)
standing_set g [] link x y read is = refl
standing_set g (z ∷ kept) zero x y read is = ap (λ (s : Standing). s ∷ standings_of kept) (is ∙ ap (λ (l : KnownLink). g l.standing) read)
standing_set g (z ∷ kept) (suc link) x y read is = ap (λ (l : List Standing). z.standing ∷ l) (standing_set g kept link x y read is)

pub stand_changed : {kept : List KnownLink} {faults : ℕ} {seen : KnownLinks} → AreSeen kept faults seen → (link : ℕ) (x y : KnownLink) → x ≡ get_or kept link x
    → (g : Standing → Standing) → y.standing ≡ g x.standing → standings_of (slice_set kept link y) ≡ change_at link g (standings_of seen.links)
stand_changed {kept} are link x y read g is = standing_set g kept link x y read is ∙ ap (λ (l : List KnownLink). change_at link g (standings_of l)) (links_seen are)

-- the others are as they were,
pub others_stay : {kept : List KnownLink} {faults : ℕ} {seen : KnownLinks} → AreSeen kept faults seen → (link : ℕ) (x y : KnownLink) → x ≡ get_or kept link x
    → (other : ℕ) → other ≢ link → slice_get (slice_set kept link y) other ≡ slice_get seen.links other
others_stay {kept} {faults} {seen} are link x y read other not =
    ap (λ (l : List KnownLink). slice_get l other) (written_is_change (λ _. y) kept seen.links link x y (links_seen are) read refl)
    ∙ get-change_other (λ _. y) link other seen.links not

-- and what holds of x and y holds of the one before and after
both_known : (R : KnownLink → KnownLink → Type 0) (kept : List KnownLink) (link : ℕ) (x y : KnownLink) → x ≡ get_or kept link x → R x y
    → IfSome (slice_get kept link) (λ old. IfSome (slice_get (slice_set kept link y) link) (λ new. R old new))
both_known R [] link x y read is = tt
both_known R (z ∷ kept) zero x y read is = subst (λ (l : KnownLink). R l y) read is
both_known R (z ∷ kept) (suc link) x y read is = both_known R kept link x y read is

pub known_of_both : {kept : List KnownLink} {faults : ℕ} {seen : KnownLinks} → AreSeen kept faults seen → (link : ℕ) (x y : KnownLink) → x ≡ get_or kept link x
    → (R : KnownLink → KnownLink → Type 0) → R x y → IfSome (slice_get seen.links link) (λ old. IfSome (slice_get (slice_set kept link y) link) (λ new. R old new))
known_of_both {kept} {faults} {seen} are link x y read R is =
    subst (λ (l : List KnownLink). IfSome (slice_get l link) (λ old. IfSome (slice_get (slice_set kept link y) link) (λ new. R old new))) (links_seen are) (both_known R kept link x y read is)
