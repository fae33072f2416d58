-- In a stream exactly one thing comes next.
use Rattle.std.proofs.Common.{true≢false, ◌≡◌, ◌≢◌, ℕ, ◌+◌, ◌≤◌, Bool, true, false, List, [], ◌∷◌, ◌++◌, length, take, drop, Some, None, Ok, Err, refl, sym, ap, subst, ◌∙◌, append_assoc, inl, inr, arith}
use Rattle.std.specs.Prelude.{◌↔◌, nat_lt, nat_le, is_some, IfSome, IsTrue}
use Rattle.std.specs.declared.option.Option.{Option}
use Rattle.std.proofs.lemmas.Option.{same_Some}
use Rattle.std.proofs.lemmas.List.{take-append-drop, length-take}
use Rattle.std.proofs.lemmas.Bool.Decides.{nat_tests}
use Rattle.av_base.specs.One.{HasOne}
use Rattle.held_bytes.specs.Units.{Begins, BeginsWithNone}
use Rattle.mrt_reader.specs.declared.fault.FrameFault.{FrameFault}
use Rattle.mrt_reader.specs.declared.fault.FrameFault.TheVariants as faults
use Rattle.mrt_reader.specs.declared.heading.Heading.{Heading}
use Rattle.mrt_reader.specs.Coming.{Coming, Whole, TooLong, CutShort, End, IsComing, IsTooLong, IsPartial, IsNextStamp}
use Rattle.mrt_reader.specs.Headed.{IsHeaded, head_of}
use Rattle.mrt_reader.specs.Records.{Recorded, IsRecord, Head, head_at, limit}
use Rattle.mrt_reader.proofs.RecordLemmas.{head_front, head_long, record_head, record_made, partial_short, partial_cut, one_record}

pub not_too_long : (left : List ℕ) (it : Recorded) (rest : List ℕ) → Begins IsRecord left it rest → IsTooLong left → ⊥
not_too_long left it rest b long =
    let heads = same_Some (record { stamp = it.stamp; mrt_type = it.kind; subtype = it.subkind; size = length it.body }) long.0 (sym (record_head left it rest b).0 ∙ long.1) in
    let size : length it.body ≡ long.0.size = ap (λ (h : Head). h.size) heads in
    let allowed = b.spelled.allowed in
    let over = long.2 in
    omega arith

pub not_empty : (left : List ℕ) (it : Recorded) (rest : List ℕ) → Begins IsRecord left it rest → left ≡ [] → ⊥
not_empty left it rest b empty = omega (arith, (record_head left it rest b).1, ap length empty)

long_not_partial : (left : List ℕ) → IsTooLong left → IsPartial left → ⊥
long_not_partial left long partial =
    let allowed : long.0.size ≤ limit = subst (λ (o : Option Head). IfSome o (λ head. head.size ≤ limit)) long.1 partial.allowed in
    let over = long.2 in
    omega arith

long_not_empty : (left : List ℕ) → IsTooLong left → left ≡ [] → ⊥
long_not_empty left long empty = let none : head_at [] ≡ Some long.0 = ap head_at (sym empty) ∙ long.1 in cc

pub coming_same : (left : List ℕ) (one other : Coming) → IsComing left one → IsComing left other → one ≡ other
coming_same left (Whole it rest) (Whole other more) p q = let e = one_record left it other rest more p q in λ i. Whole (e.0 i) (e.1 i)
coming_same left (Whole it rest) TooLong p q = absurd (not_too_long left it rest p q)
coming_same left (Whole it rest) CutShort p q = absurd (q.0.no_record it rest p)
coming_same left (Whole it rest) End p q = absurd (not_empty left it rest p q)
coming_same left TooLong (Whole it rest) p q = absurd (not_too_long left it rest q p)
coming_same left TooLong TooLong p q = refl
coming_same left TooLong CutShort p q = absurd (long_not_partial left p q.0)
coming_same left TooLong End p q = absurd (long_not_empty left p q)
coming_same left CutShort (Whole it rest) p q = absurd (p.0.no_record it rest q)
coming_same left CutShort TooLong p q = absurd (long_not_partial left q p.0)
coming_same left CutShort CutShort p q = refl
coming_same left CutShort End p q = absurd (p.1 q)
coming_same left End (Whole it rest) p q = absurd (not_empty left it rest q p)
coming_same left End TooLong p q = absurd (long_not_empty left q p)
coming_same left End CutShort p q = absurd (q.1 p)
coming_same left End End p q = refl

abbrev SomethingComes : List ℕ → Type 0
SomethingComes left = (coming : Coming) × IsComing left coming

by_length : (left : List ℕ) (head : Head) → left ≢ [] → head_at left ≡ Some head → head.size ≤ limit → (whole : Bool) → nat_le (12 + head.size) (length left) ≡ whole → SomethingComes left
by_length left head some e allowed true test =
    (Whole (record { stamp = head.stamp; kind = head.mrt_type; subkind = head.subtype; body = take head.size (drop 12 left) }) (drop head.size (drop 12 left)), record_made left head e allowed (grind (arith, nat_tests)))
by_length left head some e allowed false test = (CutShort, (partial_cut left head e allowed (grind (arith, nat_tests)), some))

by_size : (left : List ℕ) (head : Head) → left ≢ [] → head_at left ≡ Some head → (over : Bool) → nat_lt limit head.size ≡ over → SomethingComes left
by_size left head some e true test = (TooLong, (head, e, grind (arith, nat_tests)))
by_size left head some e false test = by_length left head some e (grind (arith, nat_tests)) (nat_le (12 + head.size) (length left)) refl

by_head : (left : List ℕ) (head : Option Head) → left ≢ [] → head_at left ≡ head → SomethingComes left
by_head left None some e = (CutShort, (partial_short left e, some))
by_head left (Some head) some e = by_size left head some e (nat_lt limit head.size) refl

something_comes : (left : List ℕ) → SomethingComes left
something_comes [] = (End, refl)
something_comes (b ∷ left) = by_head (b ∷ left) (head_at (b ∷ left)) (λ e. cc) refl

pub one_thing_comes : (left : List ℕ) → HasOne (IsComing left)
one_thing_comes left =
    let some = something_comes left in
    record { one = some.0; is = some.1; only = λ other is. coming_same left other some.0 is some.1 }

pub too_long_stays : (bytes more : List ℕ) → IsTooLong bytes → IsTooLong (bytes ++ more)
too_long_stays bytes more long =
    let twelve : length (take 12 bytes) ≡ 12 = omega (arith, length-take 12 bytes, head_long bytes long.0 long.1) in
    let joined : bytes ++ more ≡ take 12 bytes ++ (drop 12 bytes ++ more) = ap (λ (xs : List ℕ). xs ++ more) (sym (take-append-drop 12 bytes)) ∙ append_assoc (take 12 bytes) (drop 12 bytes) more in
    let here : head_at (take 12 bytes) ≡ head_at bytes = sym (head_front (take 12 bytes) (drop 12 bytes) twelve) ∙ ap head_at (take-append-drop 12 bytes) in
    (long.0, ap head_at joined ∙ head_front (take 12 bytes) (drop 12 bytes ++ more) twelve ∙ here ∙ long.1, long.2)

-- what the header says tells whether more has to come
pub ready_by_head : (left : List ℕ) (head : Option Heading) (ready : Bool) → ready ≡ is_some head → IsHeaded left (Ok head) → IsTrue ready ↔ ¬ IsPartial left
ready_by_head left None ready e is = (λ on. absurd (true≢false (sym on ∙ e)), λ apart. absurd (apart is))
ready_by_head left (Some h) ready e is = (λ on partial. partial.no_record _ _ (record_made left (head_of h) is.0 is.1 is.2), λ apart. e)

pub ready_by_fault : (left : List ℕ) (fault : FrameFault) → IsHeaded left (Err fault) → IsTrue true ↔ ¬ IsPartial left
ready_by_fault left faults.TooLong is = (λ on. long_not_partial left is, λ apart. refl)
ready_by_fault left faults.CutShort is = absurd is

-- ---- the stamp of the record that comes next

-- it is what the header says,
pub stamp_by_head : (left : List ℕ) (head : Heading) → IsHeaded left (Ok (Some head)) → IsNextStamp left (Some head.stamp)
stamp_by_head left head is = (
  record { stamp = head.stamp; kind = head.mrt_type; subkind = head.subtype; body = take head.size (drop 12 left) },
  drop head.size (drop 12 left),
  record_made left (head_of head) is.0 is.1 is.2,
  refl,
)

-- and there is none where no whole record is held
pub no_stamp_by_head : (left : List ℕ) → IsHeaded left (Ok None) → IsNextStamp left None
no_stamp_by_head left is = inl is

pub no_stamp_by_fault : (left : List ℕ) (fault : FrameFault) → IsHeaded left (Err fault) → IsNextStamp left None
no_stamp_by_fault left faults.TooLong is = inr is
no_stamp_by_fault left faults.CutShort is = absurd is

-- the record that comes next has it,
pub stamp_of_next : (left : List ℕ) (stamp : ℕ) (it : Recorded) (rest : List ℕ) → IsNextStamp left (Some stamp) → Begins IsRecord left it rest → it.stamp ≡ stamp
stamp_of_next left stamp it rest is begins = ap (λ (r : Recorded). r.stamp) (one_record left it is.0 rest is.1 begins is.2).0 ∙ is.3

-- and without one no record does
pub none_without_stamp : (left : List ℕ) → IsNextStamp left None → BeginsWithNone IsRecord left
none_without_stamp left (inl partial) = partial.no_record
none_without_stamp left (inr long) = λ it rest begins. not_too_long left it rest begins long
