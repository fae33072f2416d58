-- Items of a path, and how many there are.
use Rattle.std.proofs.Common.{◌≡◌, ℕ, ◌+◌, ◌-◌, ◌*◌, ◌≤◌, ◌==◌, Bool, true, false, ◌||◌, if◌then◌else◌, List, [], ◌∷◌, ◌++◌, length, take, map, refl, sym, ap, ◌∙◌, append_assoc, nat_lt, arith}
use Rattle.std.proofs.lemmas.List.{length-append, length-take, length-map}
use Rattle.std.proofs.lemmas.Bool.Decides.{nat_tests}
use Rattle.bgp_attrs.specs.Joined.{IsJoined}
use Rattle.bgp_attrs.proofs.JoinedLemmas.{whole-joined}
use Rattle.bgp_attrs.specs.declared.items.Item.{Item}
use Rattle.bgp_attrs.specs.declared.items.Item.TheVariants.{As, Set}
use Rattle.bgp_attrs.specs.declared.pieces.Segments.{Segments}
use Rattle.bgp_attrs.specs.Left.{segments_left}
use Rattle.bgp_attrs.specs.Segments.{Segment, IsSegment}
use Rattle.bgp_attrs.specs.Fixed.{as_width}
use Rattle.bgp_attrs.specs.Merging.{segment_items, items_in, merged, has_set, ases_in}
use Rattle.bgp_attrs.proofs.SegmentLemmas.{segment_reader}

length-ases_in : (items : List Item) → length (ases_in items) ≤ length items
length-ases_in [] = omega arith
length-ases_in (As x ∷ items) = let before = length-ases_in items in omega arith
length-ases_in (Set ∷ items) = let before = length-ases_in items in omega arith

chosen : (set sequence : Bool) (xs : List ℕ) (n : ℕ) → 1 ≤ n → length xs ≤ n → length (if set then Set ∷ [] else (if sequence then map As xs else [])) ≤ n
chosen true sequence xs n some long = omega arith
chosen false true xs n some long = omega (arith, length-map xs As)
chosen false false xs n some long = omega arith

-- a segment's bytes are more than its items
items_short : (wide : Bool) (bytes : List ℕ) (segments : List (ℕ × List ℕ)) → IsJoined (IsSegment wide) bytes segments → length (items_in segments) ≤ length bytes
items_short wide bytes [] joined = omega arith
items_short wide bytes (segment ∷ segments) joined =
    let begins = joined.1 in
    let is = begins.spelled in
    let wider : length segment.1 ≤ length is.body = body_long wide segment is.body is.size in
    let front : 2 + length is.body ≡ length begins.front = sym (ap length is.whole ∙ omega arith) in
    let own = chosen (segment.0 == 1) (segment.0 == 2) segment.1 (length begins.front) (omega arith) (omega arith) in
    let others = items_short wide joined.0 segments joined.2 in
    omega (arith, ap length begins.whole, length-append begins.front joined.0, length-append (segment_items segment) (items_in segments))
  where
    body_long : (wide : Bool) (segment : ℕ × List ℕ) (body : List ℕ) → length body ≡ as_width wide * length segment.1 → length segment.1 ≤ length body
    body_long true segment body e = omega (arith, e)
    body_long false segment body e = omega (arith, e)

left_short : (path : Segments) → length (items_in (segments_left path)) ≤ length path.rest.now
left_short path = items_short path.wide path.rest.now (segments_left path) (whole-joined (segment_reader path.wide) path.rest.now path.whole)

pub plain_short : (path : Segments) → length path.rest.now ≤ 65535 → length (ases_in (items_in (segments_left path))) ≤ 65535
plain_short path short = let a = left_short path in omega (arith, length-ases_in (items_in (segments_left path)))

merged_length : (test : Bool) (items others : List Item) → nat_lt (length items) (length others) ≡ test → length (if test then items else (take (length items - length others) items ++ others)) ≤ length items
merged_length true items others e = omega arith
merged_length false items others e =
    let le : length others ≤ length items = grind (arith, nat_tests) in
    omega (arith, length-append (take (length items - length others) items) others, length-take (length items - length others) items)

pub merged_short : (path : Segments) (others : List Item) → length path.rest.now ≤ 65535 → length (ases_in (merged (items_in (segments_left path)) others)) ≤ 65535
merged_short path others short =
    let a = left_short path in
    let b = merged_length (nat_lt (length (items_in (segments_left path))) (length others)) (items_in (segments_left path)) others refl in
    omega (arith, length-ases_in (merged (items_in (segments_left path)) others))

-- what a segment at the front of a path adds
ases_in_front : (items others : List Item) → ases_in (items ++ others) ≡ ases_in items ++ ases_in others
ases_in_front [] others = refl
ases_in_front (As x ∷ items) others = ap (λ (ys : List ℕ). x ∷ ys) (ases_in_front items others)
ases_in_front (Set ∷ items) others = ases_in_front items others

has_set_both : (items others : List Item) → has_set (items ++ others) ≡ (has_set items || has_set others)
has_set_both [] others = refl
has_set_both (As x ∷ items) others = has_set_both items others
has_set_both (Set ∷ items) others = refl

pub no_set : (xs : List ℕ) → has_set (map As xs) ≡ false
no_set [] = refl
no_set (x ∷ xs) = no_set xs

set_of : (set sequence : Bool) (xs : List ℕ) → has_set (if set then Set ∷ [] else (if sequence then map As xs else [])) ≡ set
set_of true sequence xs = refl
set_of false true xs = no_set xs
set_of false false xs = refl

has_set_front : (segment : Segment) (others : List Item) → has_set (segment_items segment ++ others) ≡ ((segment.0 == 1) || has_set others)
has_set_front segment others = has_set_both (segment_items segment) others ∙ ap (λ (b : Bool). b || has_set others) (set_of (segment.0 == 1) (segment.0 == 2) segment.1)

pub sequence_ases : (xs : List ℕ) → ases_in (map As xs) ≡ xs
sequence_ases [] = refl
sequence_ases (x ∷ xs) = ap (λ (ys : List ℕ). x ∷ ys) (sequence_ases xs)

-- the ASes of a sequence
pub ases_in_sequence : (kind : ℕ) (xs : List ℕ) → kind ≡ 2 → ases_in (segment_items (kind, xs)) ≡ xs
ases_in_sequence kind xs e = ap (λ (k : ℕ). ases_in (segment_items (k, xs))) e ∙ sequence_ases xs

-- and of any other segment
pub ases_in_other : (kind : ℕ) (xs : List ℕ) → (kind == 2) ≡ false → ases_in (segment_items (kind, xs)) ≡ []
ases_in_other kind xs e = by_tests (kind == 1) (kind == 2) xs e
  where
    by_tests : (set sequence : Bool) (xs : List ℕ) → sequence ≡ false → ases_in (if set then Set ∷ [] else (if sequence then map As xs else [])) ≡ []
    by_tests true sequence xs e = refl
    by_tests false false xs e = refl
    by_tests false true xs e = absurd cc

-- a segment at the front of a path, and what was gathered before it
pub front_step : (numbers : List ℕ) (set : Bool) (segment : Segment) (left before : List Segment) → before ≡ segment ∷ left
    → ((numbers ++ ases_in (segment_items segment)) ++ ases_in (items_in left) ≡ numbers ++ ases_in (items_in before)) × (((set || (segment.0 == 1)) || has_set (items_in left)) ≡ (set || has_set (items_in before)))
front_step numbers set segment left before e = (
  append_assoc numbers (ases_in (segment_items segment)) (ases_in (items_in left)) ∙ ap (λ (xs : List ℕ). numbers ++ xs) (sym (ases_in_front (segment_items segment) (items_in left)) ∙ ap (λ (l : List Segment). ases_in (items_in l)) (sym e)),
  or_assoc set (segment.0 == 1) (has_set (items_in left)) ∙ ap (λ b. set || b) (sym (has_set_front segment (items_in left)) ∙ ap (λ (l : List Segment). has_set (items_in l)) (sym e)),
)
  where
    or_assoc : (a b c : Bool) → ((a || b) || c) ≡ (a || (b || c))
    or_assoc true b c = refl
    or_assoc false b c = refl
