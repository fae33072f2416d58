-- In a stream exactly one thing comes next.
use Rattle.std.proofs.Common.{true≢false, ◌≡◌, ◌≢◌, inl, inr, ℕ, ◌+◌, ◌-◌, ◌<◌, ◌≤◌, Bool, true, false, List, [], ◌∷◌, ◌++◌, length, take, drop, Some, None, Ok, Err, refl, sym, ap, subst, ◌∙◌, append_assoc, arith}
use Rattle.std.specs.Prelude.{◌↔◌, ◌==◌, nat_lt, nat_le, is_some, IsTrue}
use Rattle.std.specs.declared.option.Option.{Option}
use Rattle.std.proofs.lemmas.Bool.Decides.{nat_tests}
use Rattle.av_base.specs.One.{HasOne}
use Rattle.held_bytes.specs.Units.{Begins}
use Rattle.bmp_reader.specs.declared.fault.BmpFrameFault.{BmpFrameFault}
use Rattle.bmp_reader.specs.declared.fault.BmpFrameFault.TheVariants as faults
use Rattle.bmp_reader.specs.declared.heading.Heading.{Heading}
use Rattle.bmp_reader.specs.Coming.{Coming, Whole, OtherVersion, BadLength, CutShort, End, IsComing, IsOtherVersion, IsBadLength, IsPartial}
use Rattle.bmp_reader.specs.Headed.{IsHeaded, head_at}
use Rattle.bmp_reader.specs.Messages.{Sent, IsMessage, limit}
use Rattle.bmp_reader.proofs.MessageLemmas.{in_front, message_made, one_message, bad_made, not_bad, not_other, not_other_by, partial_short, partial_cut}

pub not_empty : (left : List ℕ) (it : Sent) (rest : List ℕ) → Begins IsMessage left it rest → left ≡ [] → ⊥
not_empty left it rest b empty = let u = in_front left it rest b in omega (arith, u.long, ap length empty)

bad_not_other : (left : List ℕ) → IsBadLength left → IsOtherVersion left → ⊥
bad_not_other left bad other = not_other_by left _ bad.whole other

bad_not_empty : (left : List ℕ) → IsBadLength left → left ≡ [] → ⊥
bad_not_empty left bad empty = let e = sym empty ∙ bad.whole in cc

other_not_empty : (left : List ℕ) → IsOtherVersion left → left ≡ [] → ⊥
other_not_empty left other empty = let e = sym empty ∙ other.whole in cc

pub coming_same : (left : List ℕ) (one other : Coming) → IsComing left one → IsComing left other → one ≡ other
coming_same left (Whole it rest) (Whole other more) p q = let e = one_message left it other rest more p q in λ i. Whole (e.0 i) (e.1 i)
coming_same left (Whole it rest) OtherVersion p q = absurd (not_other left it rest p q)
coming_same left (Whole it rest) BadLength p q = absurd (not_bad left it rest p q)
coming_same left (Whole it rest) CutShort p q = absurd (q.0.no_message it rest p)
coming_same left (Whole it rest) End p q = absurd (not_empty left it rest p q)
coming_same left OtherVersion (Whole it rest) p q = absurd (not_other left it rest q p)
coming_same left OtherVersion OtherVersion p q = refl
coming_same left OtherVersion BadLength p q = absurd (bad_not_other left q p)
coming_same left OtherVersion CutShort p q = absurd (q.0.no_other p)
coming_same left OtherVersion End p q = absurd (other_not_empty left p q)
coming_same left BadLength (Whole it rest) p q = absurd (not_bad left it rest q p)
coming_same left BadLength OtherVersion p q = absurd (bad_not_other left p q)
coming_same left BadLength BadLength p q = refl
coming_same left BadLength CutShort p q = absurd (q.0.no_bad p)
coming_same left BadLength End p q = absurd (bad_not_empty left p q)
coming_same left CutShort (Whole it rest) p q = absurd (p.0.no_message it rest q)
coming_same left CutShort OtherVersion p q = absurd (p.0.no_other q)
coming_same left CutShort BadLength p q = absurd (p.0.no_bad q)
coming_same left CutShort CutShort p q = refl
coming_same left CutShort End p q = absurd (p.1 q)
coming_same left End (Whole it rest) p q = absurd (not_empty left it rest q p)
coming_same left End OtherVersion p q = absurd (other_not_empty left q p)
coming_same left End BadLength p q = absurd (bad_not_empty left q p)
coming_same left End CutShort p q = absurd (q.1 p)
coming_same left End End p q = refl

abbrev SomethingComes : List ℕ → Type 0
SomethingComes left = (coming : Coming) × IsComing left coming

no_end : (behind : List ℕ) → 3 ∷ behind ≢ []
no_end behind e = cc

by_length : (behind : List ℕ) (count kind : ℕ) → head_at behind ≡ Some (count, kind) → 6 ≤ count → count ≤ limit → (whole : Bool) → nat_le count (length (3 ∷ behind)) ≡ whole → SomethingComes (3 ∷ behind)
by_length behind count kind e least most true test =
    let size : ℕ = count - 6 in
    let sum : count ≡ 6 + size = omega arith in
    let there : count ≤ length (3 ∷ behind) = grind (arith, nat_tests) in
    (Whole (record { kind = kind; body = take size (drop 6 (3 ∷ behind)) }) (drop size (drop 6 (3 ∷ behind))), message_made (3 ∷ behind) behind size kind refl (e ∙ ap (λ (n : ℕ). Some (n, kind)) sum) (omega arith) (omega arith))
by_length behind count kind e least most false test =
    let cut : length (3 ∷ behind) < count = grind (arith, nat_tests) in
    (CutShort, (partial_cut (3 ∷ behind) behind count kind refl e least most cut, no_end behind))

by_most : (behind : List ℕ) (count kind : ℕ) → head_at behind ≡ Some (count, kind) → 6 ≤ count → (over : Bool) → nat_lt limit count ≡ over → SomethingComes (3 ∷ behind)
by_most behind count kind e least true test = (BadLength, bad_made (3 ∷ behind) behind count kind refl e (inr (grind (arith, nat_tests))))
by_most behind count kind e least false test = by_length behind count kind e least (grind (arith, nat_tests)) (nat_le count (length (3 ∷ behind))) refl

by_least : (behind : List ℕ) (count kind : ℕ) → head_at behind ≡ Some (count, kind) → (below : Bool) → nat_lt count 6 ≡ below → SomethingComes (3 ∷ behind)
by_least behind count kind e true test = (BadLength, bad_made (3 ∷ behind) behind count kind refl e (inl (grind (arith, nat_tests))))
by_least behind count kind e false test = by_most behind count kind e (grind (arith, nat_tests)) (nat_lt limit count) refl

by_head : (behind : List ℕ) (head : Option (ℕ × ℕ)) → head_at behind ≡ head → SomethingComes (3 ∷ behind)
by_head behind None e = (CutShort, (partial_short (3 ∷ behind) behind refl e, no_end behind))
by_head behind (Some (count, kind)) e = by_least behind count kind e (nat_lt count 6) refl

by_version : (version : ℕ) (behind : List ℕ) (three : Bool) → (version == 3) ≡ three → SomethingComes (version ∷ behind)
by_version version behind true test = (let e : version ≡ 3 = grind (arith, nat_tests) in subst (λ (n : ℕ). SomethingComes (n ∷ behind)) (sym e) (by_head behind (head_at behind) refl))
by_version version behind false test = (OtherVersion, record { version = version; rest = behind; other = (λ e. grind (arith, nat_tests)); whole = refl })

something_comes : (left : List ℕ) → SomethingComes left
something_comes [] = (End, refl)
something_comes (version ∷ behind) = by_version version behind (version == 3) refl

pub one_thing_comes : (left : List ℕ) → HasOne (IsComing left)
one_thing_comes left =
    let some = something_comes left in
    record { one = some.0; is = some.1; only = λ other is. coming_same left other some.0 is some.1 }

pub other_version_stays : (bytes more : List ℕ) → IsOtherVersion bytes → IsOtherVersion (bytes ++ more)
other_version_stays bytes more other = record { version = other.version; rest = other.rest ++ more; other = other.other; whole = ap (λ (xs : List ℕ). xs ++ more) other.whole }

pub bad_length_stays : (bytes more : List ℕ) → IsBadLength bytes → IsBadLength (bytes ++ more)
bad_length_stays bytes more bad = record {
  size = bad.size;
  kind = bad.kind;
  rest = bad.rest ++ more;
  count = bad.count;
  counts = bad.counts;
  beyond = bad.beyond;
  whole = ap (λ (xs : List ℕ). xs ++ more) bad.whole ∙ ap (λ (xs : List ℕ). 3 ∷ xs) (append_assoc bad.size (bad.kind ∷ bad.rest) more);
}

-- what the header says tells whether more has to come
pub ready_by_head : (left : List ℕ) (head : Option Heading) (ready : Bool) → ready ≡ is_some head → IsHeaded left (Ok head) → IsTrue ready ↔ ¬ IsPartial left
ready_by_head left None ready e is = (λ on. absurd (true≢false (sym on ∙ e)), λ apart. absurd (apart is))
ready_by_head left (Some h) ready e is = (λ on partial. partial.no_message _ _ (message_made left is.behind h.size h.kind is.whole is.says is.allowed is.long), λ apart. e)

pub ready_by_fault : (left : List ℕ) (fault : BmpFrameFault) → IsHeaded left (Err fault) → IsTrue true ↔ ¬ IsPartial left
ready_by_fault left faults.BmpVersion is = (λ on partial. partial.no_other is, λ apart. refl)
ready_by_fault left faults.BmpLength is = (λ on partial. partial.no_bad is, λ apart. refl)
ready_by_fault left faults.CutShort is = absurd is
