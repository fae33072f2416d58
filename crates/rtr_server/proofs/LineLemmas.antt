-- A line has no two outcomes in a world whose attempts are told.
use Rattle.std.proofs.Common.{◌≡◌, ℕ, zero, suc, ◌+◌, ◌<◌, inl, inr, Bool, true, false, List, [], ◌∷◌, length, refl, sym, ap, subst, ◌∙◌, arith}
use Rattle.std.specs.Prelude.{slice_get, IfSome}
use Rattle.std.specs.declared.option.Option.{Option}
use Rattle.std.specs.declared.option.Option.TheVariants.{Some, None}
use Rattle.std.proofs.lemmas.Option.{slice_get_cases}
use Rattle.av_base.specs.Connections.{Attempt, Link, Made, Unaccepted}
use Rattle.rtr_cache.specs.Cache.{Versions}
use Rattle.connection_calls.specs.World.{IsAttempt, World}
use Rattle.rtr_server.specs.declared.outcome.Outcome.{Outcome}
use Rattle.rtr_server.specs.Laws.{ServeLinesHaveOneOutcome}
use Rattle.rtr_server.specs.Outcomes.{all_answers, all_lines, reached_lines, routers_text}
use Rattle.rtr_server.specs.Routers.{AreServed, Asking, EndsBehind, IsServed}
use Rattle.rtr_server.specs.Serving.{Serves, started}
use Rattle.rtr_server.proofs.OneLemmas.{one_outcome}

attempt_same : (all : Option (List Attempt)) (attempts : List Attempt) (number : ℕ) (one other : Attempt) → all ≡ Some attempts → IfSome all (λ l. slice_get l number ≡ Some one) → IfSome all (λ l. slice_get l number ≡ Some other) → one ≡ other
attempt_same None attempts number one other told a b = let none : ⊥ = cc in absurd none
attempt_same (Some l) attempts number one other told a b = let e : Some one ≡ Some other = sym a ∙ b in cc

lists_same : {A : Type 0} (xs ys : List A) → length xs ≡ length ys → ((k : ℕ) (x y : A) → slice_get xs k ≡ Some x → slice_get ys k ≡ Some y → x ≡ y) → xs ≡ ys
lists_same [] [] size each = refl
lists_same [] (y ∷ ys) size each = absurd (omega (arith, size))
lists_same (x ∷ xs) [] size each = absurd (omega (arith, size))
lists_same (x ∷ xs) (y ∷ ys) size each =
    let first = each 0 x y refl refl in
    let rest = lists_same xs ys (omega (arith, size)) (λ k. each (suc k)) in
    λ i. first i ∷ rest i

module _ (world : World) (attempts : List Attempt) (told : world.attempts ≡ Some attempts) (cache : Versions) (place : List ℕ) where
  served_same : (number : ℕ) (one other : Outcome) → IsServed world cache place number one → IsServed world cache place number other → one ≡ other
  served_same number one other a b =
      let made : Made a.link ≡ Made b.link = attempt_same world.attempts attempts number (Made a.link) (Made b.link) told a.accepted b.accepted in
      let link : a.link ≡ b.link = cc in
      let same : b.serves.t ≡ a.serves.t = (let e = a.serves.there in let f = b.serves.there in cc) in
      one_outcome a.serves.t cache 65536 started one other a.serves.so.1 (subst (λ (t : Link). Serves t cache 65536 started other) same b.serves.so.1)

  -- where an attempt failed no router was accepted
  failed_there : (number : ℕ) (out : Outcome) → IsServed world cache place number out → IsAttempt world number (Unaccepted place) → ⊥
  failed_there number out served failed =
      let same : Made served.link ≡ Unaccepted place = attempt_same world.attempts attempts number (Made served.link) (Unaccepted place) told served.accepted failed in
      let none : ⊥ = cc in
      none

  -- so there are no more routers than before it
  no_longer : (made size : ℕ) (outcomes : List Outcome) → AreServed world cache place made outcomes → IsAttempt world (made + size) (Unaccepted place) → size < length outcomes → ⊥
  no_longer made size outcomes are failed longer = elim (slice_get_cases outcomes size).1 [
    | inl here ↦ failed_there (made + size) here.0 (are size here.0 here.2) failed
    | inr past ↦ omega (arith, past.0, longer)
  ]

  module _ (asking : Asking) (at : asking.place ≡ place) where
    sizes : (one two : List Outcome) (reached other : Bool) → AreServed world cache place asking.made one → AreServed world cache place asking.made two → EndsBehind world asking (length one) reached → EndsBehind world asking (length two) other
        → (length one ≡ length two) × (reached ≡ other)
    sizes one two true true a b c d = (c ∙ sym d, refl)
    sizes one two true false a b c d = absurd (no_longer asking.made (length two) one a (subst (λ p. IsAttempt world (asking.made + length two) (Unaccepted p)) at d.1) (omega (arith, c, d.0)))
    sizes one two false true a b c d = absurd (no_longer asking.made (length one) two b (subst (λ p. IsAttempt world (asking.made + length one) (Unaccepted p)) at c.1) (omega (arith, d, c.0)))
    sizes one two false false a b c d =
        let first : length one < length two → ⊥ = no_longer asking.made (length one) two b (subst (λ p. IsAttempt world (asking.made + length one) (Unaccepted p)) at c.1) in
        let second : length two < length one → ⊥ = no_longer asking.made (length two) one a (subst (λ p. IsAttempt world (asking.made + length two) (Unaccepted p)) at d.1) in
        (neither (length one) (length two) first second, refl)
      where
        neither : (m n : ℕ) → (m < n → ⊥) → (n < m → ⊥) → m ≡ n
        neither zero zero a b = refl
        neither zero (suc n) a b = absurd (a (omega arith))
        neither (suc m) zero a b = absurd (b (omega arith))
        neither (suc m) (suc n) a b = ap suc (neither m n (λ less. a (omega (arith, less))) (λ less. b (omega (arith, less))))

pub one_line : ServeLinesHaveOneOutcome
one_line world attempts told cache asking one two text other a b =
    let same = sizes world attempts told cache asking.place asking refl a.outcomes b.outcomes one.reached two.reached a.serves.are b.serves.are a.serves.ends b.serves.ends in
    let outcomes = lists_same a.outcomes b.outcomes same.0 (λ k x y here there. served_same world attempts told cache asking.place (asking.made + k) x y (a.serves.are k x here) (b.serves.are k y there)) in
    let accepted : one.accepted ≡ two.accepted = a.reports.accepted ∙ ap length outcomes ∙ sym b.reports.accepted in
    let answers : one.answers ≡ two.answers = a.reports.answers ∙ ap all_answers outcomes ∙ sym b.reports.answers in
    let refused : one.refused ≡ two.refused = a.reports.refused ∙ (λ i. all_lines (outcomes i) + reached_lines (same.1 i)) ∙ sym b.reports.refused in
    (λ i. record { accepted = accepted i; answers = answers i; refused = refused i; reached = same.1 i }, a.reports.text_is ∙ (λ i. routers_text asking.line (outcomes i) (same.1 i)) ∙ sym b.reports.text_is)
