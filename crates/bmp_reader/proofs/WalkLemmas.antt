-- A walk over capabilities that sees each of them.
use Rattle.std.proofs.Common.{◌≡◌, ℕ, ◌<◌, ◌≤◌, List, [], ◌∷◌, ◌++◌, length, Some, None, refl, sym, ap, ◌∙◌, arith}
use Rattle.std.specs.Prelude.{option_map, option_and_then}
use Rattle.std.specs.declared.option.Option.{Option}
use Rattle.std.proofs.lemmas.Option.{some_pair_parts}
use Rattle.bgp_attrs.specs.Joined.{items_of}
use Rattle.bgp_attrs.proofs.FixedLemmas.{and_then_some}
use Rattle.bgp_attrs.proofs.JoinedLemmas.{Shortens, shortens, items-nil, items-none, items-step, option_map_some}
use Rattle.bmp_reader.specs.declared.seen.Seen.{Seen}
use Rattle.bmp_reader.specs.Opens.{Triple}
use Rattle.bmp_reader.specs.Readers.{triple_at, own_of, together, carried_in}
use Rattle.bmp_reader.specs.Seen.{see, see_all, seen_next, seen_first}
use Rattle.bmp_reader.proofs.CapabilityLemmas.{triple_reader}
use Rattle.bmp_reader.proofs.SeenLemmas.{see-append}

triple_shortens : Shortens triple_at
triple_shortens = shortens triple_reader

-- ---- capabilities

-- what is seen with those that the bytes spell
abbrev pub seen_with : Seen → List ℕ → Option Seen
seen_with seen bytes = option_map (see_all seen) (items_of triple_at bytes)

seen-step : (seen : Seen) (bytes : List ℕ) (first : Triple) (rest : List ℕ) → triple_at bytes ≡ Some (first, rest) → seen_with (see seen first) rest ≡ seen_with seen bytes
seen-step seen bytes first rest e = mapped (items_of triple_at rest) ∙ sym (ap (option_map (see_all seen)) (items-step triple_at triple_shortens bytes first rest e))
  where
    mapped : (o : Option (List Triple)) → option_map (see_all (see seen first)) o ≡ option_map (see_all seen) (option_map (λ (ts : List Triple). first ∷ ts) o)
    mapped None = refl
    mapped (Some ts) = refl

pub next-step : (seen after : Seen) (bytes rest : List ℕ) → seen_next seen bytes ≡ Some (after, rest) → seen_with after rest ≡ seen_with seen bytes
next-step seen after bytes rest e =
    let a = and_then_some (λ (x : Triple × List ℕ). Some (see seen x.0, x.1)) (triple_at bytes) (after, rest) e in
    let made = some_pair_parts (see seen a.0.0) after a.0.1 rest a.2 in
    (λ i. seen_with (sym made.0 i) (sym made.1 i)) ∙ seen-step seen bytes a.0.0 a.0.1 a.1

pub next-shortens : (seen after : Seen) (bytes rest : List ℕ) → seen_next seen bytes ≡ Some (after, rest) → length rest < length bytes
next-shortens seen after bytes rest e =
    let a = and_then_some (λ (x : Triple × List ℕ). Some (see seen x.0, x.1)) (triple_at bytes) (after, rest) e in
    let made = some_pair_parts (see seen a.0.0) after a.0.1 rest a.2 in
    let less = triple_shortens bytes a.0.0 a.0.1 a.1 in
    omega (arith, ap length made.1)

pub seen-end : (seen : Seen) (rest : List ℕ) → length rest ≤ 0 → Some seen ≡ seen_with seen rest
seen-end seen [] empty = sym (ap (option_map (see_all seen)) (items-nil triple_at))
seen-end seen (b ∷ rest) empty = absurd (omega arith)

seen-none : (seen : Seen) (bytes : List ℕ) → 0 < length bytes → triple_at bytes ≡ None → None ≡ seen_with seen bytes
seen-none seen bytes some none = sym (ap (option_map (see_all seen)) (items-none triple_at bytes some none))

pub next-none : (seen : Seen) (bytes : List ℕ) → 0 < length bytes → seen_next seen bytes ≡ None → None ≡ seen_with seen bytes
next-none seen bytes some e = by_triple (triple_at bytes) refl e
  where
    by_triple : (first : Option (Triple × List ℕ)) → triple_at bytes ≡ first → option_and_then {U = Seen × List ℕ} (λ (x : Triple × List ℕ). Some (see seen x.0, x.1)) first ≡ None → None ≡ seen_with seen bytes
    by_triple None t f = seen-none seen bytes some t
    by_triple (Some x) t f = absurd cc

-- ---- parameters

-- what is seen with those of parameters
abbrev pub seen_over : Seen → List ℕ → Option Seen
seen_over seen bytes = option_map (see_all seen) (carried_in bytes)

-- those of the first parameter and of the others
carried-step : (bytes : List ℕ) (first : Triple) (rest : List ℕ) → triple_at bytes ≡ Some (first, rest)
    → carried_in bytes ≡ option_and_then (λ (own : List Triple). option_map (λ (others : List Triple). own ++ others) (carried_in rest)) (own_of first)
unfolding carried_in
carried-step bytes first rest e = ap (option_and_then together) (items-step triple_at triple_shortens bytes first rest e) ∙ by_rest (items_of triple_at rest) (own_of first) refl
  where
    by_own : (own others : Option (List Triple))
        → option_and_then (λ (xs : List Triple). option_and_then (λ (ys : List Triple). Some (xs ++ ys)) others) own ≡ option_and_then (λ (xs : List Triple). option_map (λ (ys : List Triple). xs ++ ys) others) own
    by_own None others = refl
    by_own (Some xs) None = refl
    by_own (Some xs) (Some ys) = refl

    by_rest : (o : Option (List Triple)) (own : Option (List Triple)) → own_of first ≡ own
        → option_and_then together (option_map (λ (ts : List Triple). first ∷ ts) o) ≡ option_and_then (λ (own : List Triple). option_map (λ (others : List Triple). own ++ others) (option_and_then together o)) own
    by_rest None None e = refl
    by_rest None (Some own) e = refl
    by_rest (Some ts) own e = ap (option_and_then (λ (xs : List Triple). option_and_then (λ (others : List Triple). Some (xs ++ others)) (together ts))) e ∙ by_own own (together ts)

-- what is seen of the own ones of the first parameter, and of the others
over_step : (seen : Seen) (bytes : List ℕ) (first : Triple) (rest : List ℕ) → triple_at bytes ≡ Some (first, rest)
    → seen_over seen bytes ≡ option_and_then (λ (own : List Triple). seen_over (see_all seen own) rest) (own_of first)
over_step seen bytes first rest e = ap (option_map (see_all seen)) (carried-step bytes first rest e) ∙ by_own (own_of first) (carried_in rest)
  where
    by_own : (own others : Option (List Triple)) → option_map (see_all seen) (option_and_then (λ (xs : List Triple). option_map (λ (ys : List Triple). xs ++ ys) others) own)
        ≡ option_and_then (λ (xs : List Triple). option_map (see_all (see_all seen xs)) others) own
    by_own None others = refl
    by_own (Some xs) None = refl
    by_own (Some xs) (Some ys) = ap Some (see-append seen xs ys)

-- the others behind these
abbrev over_after : Seen → List ℕ → Option (List Triple) → Option Seen
over_after seen rest own = option_and_then (λ (ts : List Triple). seen_over (see_all seen ts) rest) own

over-own : (seen after : Seen) (bytes : List ℕ) (first : Triple) (rest : List ℕ) → triple_at bytes ≡ Some (first, rest) → option_map (see_all seen) (own_of first) ≡ Some after → seen_over after rest ≡ seen_over seen bytes
over-own seen after bytes first rest e has =
    let m = option_map_some (see_all seen) (own_of first) after has in
    sym (over_step seen bytes first rest e ∙ ap (over_after seen rest) m.1 ∙ ap (λ (s : Seen). seen_over s rest) m.2)

map_none : {A B : Type 0} (f : A → B) (o : Option A) → option_map f o ≡ None → o ≡ None
map_none f None e = refl
map_none f (Some x) e = absurd cc

over-broken : (seen : Seen) (bytes : List ℕ) (first : Triple) (rest : List ℕ) → triple_at bytes ≡ Some (first, rest) → option_map (see_all seen) (own_of first) ≡ None → None ≡ seen_over seen bytes
over-broken seen bytes first rest e none = sym (over_step seen bytes first rest e ∙ ap (over_after seen rest) (map_none (see_all seen) (own_of first) none))

pub over-end : (seen : Seen) (rest : List ℕ) → length rest ≤ 0 → Some seen ≡ seen_over seen rest
unfolding carried_in
over-end seen [] empty = sym (ap (λ (o : Option (List Triple)). option_map (see_all seen) (option_and_then together o)) (items-nil triple_at))
over-end seen (b ∷ rest) empty = absurd (omega arith)

over-none : (seen : Seen) (rest : List ℕ) → 0 < length rest → triple_at rest ≡ None → None ≡ seen_over seen rest
unfolding carried_in
over-none seen rest some none = sym (ap (λ (o : Option (List Triple)). option_map (see_all seen) (option_and_then together o)) (items-none triple_at rest some none))

-- a step of the walk
pub first-step : (seen after : Seen) (bytes rest : List ℕ) → seen_first seen bytes ≡ Some (after, rest) → seen_over after rest ≡ seen_over seen bytes
unfolding seen_first
first-step seen after bytes rest e =
    let a = and_then_some _ (triple_at bytes) (after, rest) e in
    let b = and_then_some _ (option_map (see_all seen) (own_of a.0.0)) (after, rest) a.2 in
    let made = some_pair_parts b.0 after a.0.1 rest b.2 in
    (λ i. seen_over (sym made.0 i) (sym made.1 i)) ∙ over-own seen b.0 bytes a.0.0 a.0.1 a.1 b.1

pub first-shortens : (seen after : Seen) (bytes rest : List ℕ) → seen_first seen bytes ≡ Some (after, rest) → length rest < length bytes
unfolding seen_first
first-shortens seen after bytes rest e =
    let a = and_then_some _ (triple_at bytes) (after, rest) e in
    let b = and_then_some _ (option_map (see_all seen) (own_of a.0.0)) (after, rest) a.2 in
    let made = some_pair_parts b.0 after a.0.1 rest b.2 in
    let less = triple_shortens bytes a.0.0 a.0.1 a.1 in
    omega (arith, ap length made.1)

pub first-none : (seen : Seen) (bytes : List ℕ) → 0 < length bytes → seen_first seen bytes ≡ None → None ≡ seen_over seen bytes
unfolding seen_first
first-none seen bytes some e = by_triple (triple_at bytes) refl e
  where
    by_own : (first : Triple) (rest : List ℕ) → triple_at bytes ≡ Some (first, rest) → (own : Option Seen) → option_map (see_all seen) (own_of first) ≡ own
        → option_and_then {U = Seen × List ℕ} (λ (after : Seen). Some (after, rest)) own ≡ None → None ≡ seen_over seen bytes
    by_own first rest t None o f = over-broken seen bytes first rest t o
    by_own first rest t (Some after) o f = absurd cc

    by_triple : (first : Option (Triple × List ℕ)) → triple_at bytes ≡ first
        → option_and_then {U = Seen × List ℕ} (λ (x : Triple × List ℕ). option_and_then (λ (after : Seen). Some (after, x.1)) (option_map (see_all seen) (own_of x.0))) first ≡ None → None ≡ seen_over seen bytes
    by_triple None t f = over-none seen bytes some t
    by_triple (Some x) t f = by_own x.0 x.1 t (option_map (see_all seen) (own_of x.0)) refl f
