-- What each call of links in memory leaves.
use Rattle.std.proofs.Common.{◌≡◌, ◌-◌, ◌^◌, inl, inr, None, ℕ, ◌<◌, ◌≤◌, List, [], ◌∷◌, ◌++◌, length, take, drop, map, get_or, Some, refl, ap, sym, subst, ◌∙◌, arith}
use Rattle.std.proofs.lemmas.List.{length-map, length-take, take-append-le, take_all}
use Rattle.std.proofs.lemmas.Option.{slice_get-get_or}
use Rattle.std.specs.Prelude.{slice_get, slice_set}
use Rattle.av_base.specs.declared.standing.Break.{Break}
use Rattle.av_base.specs.Connections.{Link, Connects, AddsAttempt, ToldLater, Made, Attempt, IsUsable, IsOpen, standing_of, new_standing, to_come_of, sends, receives, breaks, closes, connects}
use Rattle.av_base.specs.LinksInMemory.{Accepts, LinksInMemory, Makes, MakesNext, ListsFailed, Waiting, listed}
use Rattle.av_base.specs.Told.{Took}
use Rattle.std.specs.declared.option.Option.{Option}
use Rattle.av_base.proofs.LaterLemmas.{sends_later, breaks_later, closes_later, receives_later, connects_later, ToldLater-refl}
use Rattle.av_base.proofs.EffectLemmas.{standings-connects, within-usable, receives_took}
use Rattle.av_base.proofs.PlacesLemmas.{written_is_change}

now_later : (old new mid : List Link) → ToldLater (Some old) (Some mid) → new ≡ mid → ToldLater (Some old) (Some new)
now_later old new mid later is = subst (λ (l : List Link). ToldLater (Some old) (Some l)) (sym is) later

pub closed_later : (old new : List Link) (link : ℕ) → IsOpen (map standing_of old) link → new ≡ closes link old → ToldLater (Some old) (Some new)
closed_later old new link is_open is = now_later old new (closes link old) (closes_later (Some old) (map standing_of old) link refl is_open) is

pub sent_later : (old new : List Link) (link : ℕ) (bytes : List ℕ) → IsUsable (map standing_of old) link → new ≡ sends link bytes old → ToldLater (Some old) (Some new)
sent_later old new link bytes usable is = now_later old new (sends link bytes old) (sends_later (Some old) (map standing_of old) link bytes refl usable) is

pub broken_later : (old new : List Link) (link : ℕ) (call : Break) → IsUsable (map standing_of old) link → new ≡ breaks link call old → ToldLater (Some old) (Some new)
broken_later old new link call usable is = now_later old new (breaks link call old) (breaks_later (Some old) (map standing_of old) link call refl usable) is

pub received_later : (old new : List Link) (link n : ℕ) (buf : List ℕ) → IsUsable (map standing_of old) link → Took (to_come_of (Some old) link) (to_come_of (Some (receives link (take n buf) old)) link) n buf
    → new ≡ receives link (take n buf) old → ToldLater (Some old) (Some new)
received_later old new link n buf usable took is = now_later old new (receives link (take n buf) old) (receives_later (Some old) (map standing_of old) link n buf refl usable took) is

pub same_later : (old new : List Link) → new ≡ old → ToldLater (Some old) (Some new)
same_later old new is = now_later old new old (ToldLater-refl (Some old)) is

-- the item of a connection that may be used
pub usable_item : (items seen : List Link) (link : ℕ) (t : Link) → items ≡ seen → t ≡ get_or items link t → IsUsable (map standing_of seen) link → slice_get seen link ≡ Some t
usable_item items seen link t same is usable =
    ap (λ (l : List Link). slice_get l link) (sym same)
    ∙ slice_get-get_or items link t (omega (arith, within-usable seen link usable, ap length same)) ∙ ap Some (sym is)

-- the front of the buffer
pub received_front : (n k : ℕ) (piece more left : List ℕ) → piece ≡ take k left → k ≡ n → n ≤ length left → take n (piece ++ more) ≡ take n left
received_front n k piece more left is same within =
    let long : length piece ≡ n = ap length is ∙ length-take k left ∙ omega arith in
    take-append-le n piece more (omega arith) ∙ take_all n piece (omega arith) ∙ is ∙ ap (λ m. take m left) same

-- n bytes were received into the buffer's front
pub record Receiving (items seen : List Link) (link n : ℕ) (t after : Link) (buf piece : List ℕ) : Type 0 where
  pub same : items ≡ seen
  pub is : t ≡ get_or items link t
  pub usable : IsUsable (map standing_of seen) link
  pub within : n ≤ length t.to_come
  pub room : n ≤ length buf
  pub some : 0 < length t.to_come → 0 < n
  pub bytes : piece ≡ take (length (take n buf)) t.to_come
  pub moved : after ≡ record t { received = t.received ++ take (length (take n buf)) t.to_come; to_come = drop (length (take n buf)) t.to_come }

front : {items seen : List Link} {link n : ℕ} {t after : Link} {buf piece : List ℕ} → Receiving items seen link n t after buf piece → take n (piece ++ drop n buf) ≡ take n t.to_come
front {items} {seen} {link} {n} {t} {after} {buf} {piece} r = received_front n (length (take n buf)) piece (drop n buf) t.to_come r.bytes (omega (arith, length-take n buf, r.room)) r.within

pub Receiving-item : {items seen : List Link} {link n : ℕ} {t after : Link} {buf piece : List ℕ} → Receiving items seen link n t after buf piece → slice_get seen link ≡ Some t
Receiving-item {items} {seen} {link} {n} {t} {after} {buf} {piece} r = usable_item items seen link t r.same r.is r.usable

pub Receiving-links : {items seen : List Link} {link n : ℕ} {t after : Link} {buf piece : List ℕ} → Receiving items seen link n t after buf piece → slice_set items link after ≡ receives link (take n (piece ++ drop n buf)) seen
Receiving-links {items} {seen} {link} {n} {t} {after} {buf} {piece} r =
    let g : List ℕ → ℕ → Link = λ b m. record t { received = t.received ++ b; to_come = drop m t.to_come } in
    let count : length (take n buf) ≡ n = omega (arith, length-take n buf, r.room) in
    let long : n ≡ length (take n (piece ++ drop n buf)) = omega (arith, ap length (front r), length-take n t.to_come, r.within) in
    written_is_change (λ (u : Link). let v : Link = record u { received = u.received ++ take n (piece ++ drop n buf); to_come = drop (length (take n (piece ++ drop n buf))) u.to_come } in v) items seen link t after r.same r.is
    (r.moved ∙ ap (λ k. g (take k t.to_come) k) count ∙ ap (λ (b : List ℕ). g b n) (sym (front r)) ∙ ap (λ m. g (take n (piece ++ drop n buf)) m) long)

pub Receiving-took : {items seen : List Link} {link n : ℕ} {t after : Link} {buf piece : List ℕ} → Receiving items seen link n t after buf piece
    → Took (to_come_of (Some seen) link) (to_come_of (Some (slice_set items link after)) link) n (piece ++ drop n buf)
Receiving-took {items} {seen} {link} {n} {t} {after} {buf} {piece} r =
    subst (λ (l : List Link). Took (to_come_of (Some seen) link) (to_come_of (Some l) link) n (piece ++ drop n buf)) (sym (Receiving-links r))
    (receives_took seen link n (piece ++ drop n buf) t (Receiving-item r) r.within (front r) (λ none. nothing t.to_come (λ more. let some = r.some more in omega (arith, none, some))))
  where
    nothing : (l : List ℕ) → (0 < length l → ⊥) → l ≡ []
    nothing [] h = refl
    nothing (x ∷ l) h = absurd (h (omega arith))

pub Receiving-later : {items seen : List Link} {link n : ℕ} {t after : Link} {buf piece : List ℕ} → Receiving items seen link n t after buf piece → ToldLater (Some seen) (Some (slice_set items link after))
Receiving-later {items} {seen} {link} {n} {t} {after} {buf} {piece} r =
    received_later seen (slice_set items link after) link n (piece ++ drop n buf) r.usable
    (subst (λ (l : List Link). Took (to_come_of (Some seen) link) (to_come_of (Some l) link) n (piece ++ drop n buf)) (Receiving-links r) (Receiving-took r)) (Receiving-links r)

-- ---- a connection is made

MakesNext-number : {old new : Waiting} {place : List ℕ} {link : ℕ} → MakesNext old new place link → (link ≡ length (map standing_of old.links)) × (length (map standing_of old.links) < 2 ^ 32 - 1)
MakesNext-number {old} {new} {place} {link} makes = (makes.number ∙ sym (length-map old.links standing_of), omega (arith, makes.room, length-map old.links standing_of))

MakesNext-connects : {old new : Waiting} {place : List ℕ} {link : ℕ} → MakesNext old new place link → Connects (Some old.links) (Some new.links) place
MakesNext-connects makes = record { to_come = makes.bytes; told = ap (λ (l : List Link). Some l) makes.links }

MakesNext-standings : {old new : Waiting} {place : List ℕ} {link : ℕ} → MakesNext old new place link → map standing_of new.links ≡ map standing_of old.links ++ new_standing ∷ []
MakesNext-standings {old} {new} {place} {link} makes = ap (map standing_of) makes.links ∙ standings-connects place makes.bytes old.links

MakesNext-later : {old new : Waiting} {place : List ℕ} {link : ℕ} → MakesNext old new place link → ToldLater (Some old.links) (Some new.links)
MakesNext-later {old} {new} {place} {link} makes = now_later old.links new.links (connects place makes.bytes old.links) (connects_later (Some old.links) place makes.bytes) makes.links

listed_adds : (old new : Option (List Attempt)) (attempt : Attempt) → new ≡ listed old attempt → AddsAttempt old new attempt
listed_adds None new attempt is = record { added = λ after told. let none : ⊥ = cc in absurd none }
listed_adds (Some before) new attempt is = record { added = λ after told. (before, refl, (let same : Some after ≡ Some (before ++ attempt ∷ []) = sym told ∙ is in cc)) }

MakesNext-attempt : {old new : Waiting} {place : List ℕ} {link : ℕ} → MakesNext old new place link → AddsAttempt old.attempts new.attempts (Made link)
MakesNext-attempt {old} {new} {place} {link} makes = listed_adds old.attempts new.attempts (Made link) makes.attempts

pub ListsFailed-attempt : (old new : Option (List Attempt)) (attempt : Attempt) → ListsFailed old new attempt → AddsAttempt old new attempt
ListsFailed-attempt old new attempt lists = elim lists [
  | inl cut ↦ record { added = λ after told. let none : ⊥ = cc in absurd none }
  | inr is ↦ listed_adds old new attempt is
]

-- by connect

pub Makes-number : {old new : LinksInMemory} {place : List ℕ} {link : ℕ} → Makes old new place link → (link ≡ length (map standing_of old.links)) × (length (map standing_of old.links) < 2 ^ 32 - 1)
Makes-number makes = MakesNext-number makes.made

pub Makes-connects : {old new : LinksInMemory} {place : List ℕ} {link : ℕ} → Makes old new place link → Connects (Some old.links) (Some new.links) place
Makes-connects makes = MakesNext-connects makes.made

pub Makes-standings : {old new : LinksInMemory} {place : List ℕ} {link : ℕ} → Makes old new place link → map standing_of new.links ≡ map standing_of old.links ++ new_standing ∷ []
Makes-standings makes = MakesNext-standings makes.made

pub Makes-later : {old new : LinksInMemory} {place : List ℕ} {link : ℕ} → Makes old new place link → ToldLater (Some old.links) (Some new.links)
Makes-later makes = MakesNext-later makes.made

pub Makes-attempt : {old new : LinksInMemory} {place : List ℕ} {link : ℕ} → Makes old new place link → AddsAttempt old.attempts new.attempts (Made link)
Makes-attempt makes = MakesNext-attempt makes.made

-- by accept

pub Accepts-number : {old new : LinksInMemory} {place : List ℕ} {link : ℕ} → Accepts old new place link → (link ≡ length (map standing_of old.links)) × (length (map standing_of old.links) < 2 ^ 32 - 1)
Accepts-number accepts = MakesNext-number accepts.made

pub Accepts-connects : {old new : LinksInMemory} {place : List ℕ} {link : ℕ} → Accepts old new place link → Connects (Some old.links) (Some new.links) place
Accepts-connects accepts = MakesNext-connects accepts.made

pub Accepts-standings : {old new : LinksInMemory} {place : List ℕ} {link : ℕ} → Accepts old new place link → map standing_of new.links ≡ map standing_of old.links ++ new_standing ∷ []
Accepts-standings accepts = MakesNext-standings accepts.made

pub Accepts-later : {old new : LinksInMemory} {place : List ℕ} {link : ℕ} → Accepts old new place link → ToldLater (Some old.links) (Some new.links)
Accepts-later accepts = MakesNext-later accepts.made

pub Accepts-attempt : {old new : LinksInMemory} {place : List ℕ} {link : ℕ} → Accepts old new place link → AddsAttempt old.attempts new.attempts (Made link)
Accepts-attempt accepts = MakesNext-attempt accepts.made
