-- What putting numbers with marks between their digits needs.
use Rattle.std.proofs.Common.{◌≡◌, ℕ, zero, suc, ◌-◌, ◌/◌, ◌%◌, ◌^◌, List, [], ◌∷◌, ◌++◌, OnOk, refl, sym, ap, subst, ◌∙◌, arith}
use Rattle.std.specs.declared.result.Result.{Result}
use Rattle.std.specs.declared.result.Result.TheVariants.{Ok, Err}
use Rattle.std.proofs.lemmas.List.{append_assoc}
use Rattle.av_text.specs.AddressText.{parts_text}

on_ok : {T E P Q : Type 0} (r : Result T E) → (P → Q) → OnOk r P → OnOk r Q
on_ok (Ok x) f h = f h
on_ok (Err e) f h = h

put_text : (spell : ℕ → List ℕ) (mark base marks n scale : ℕ) (a b c d : List ℕ) → (marks ≡ 0 → ⊥) → scale ≡ base ^ marks → b ≡ a ++ spell (n / scale) → c ≡ b ++ mark ∷ [] →
    d ≡ c ++ parts_text spell mark base (marks - 1) (n % scale) → d ≡ a ++ parts_text spell mark base marks n
put_text spell mark base zero n scale a b c d some is_scale first marked rest = absurd (some refl)
put_text spell mark base (suc k) n scale a b c d some is_scale first marked rest =
    let R : ℕ → Type 0 = λ j. d ≡ c ++ parts_text spell mark base j (n % scale) in
    let S : ℕ → Type 0 = λ s. a ++ (spell (n / s) ++ mark ∷ parts_text spell mark base k (n % s)) ≡ a ++ parts_text spell mark base (suc k) n in
    let others : d ≡ c ++ parts_text spell mark base k (n % scale) = subst R (omega arith) rest in
    let p : List ℕ = parts_text spell mark base k (n % scale) in
    others ∙ ap (λ (x : List ℕ). x ++ p) (marked ∙ ap (λ (x : List ℕ). x ++ mark ∷ []) first) ∙ append_assoc (a ++ spell (n / scale)) (mark ∷ []) p ∙ append_assoc a (spell (n / scale)) (mark ∷ p) ∙ subst S (sym is_scale) refl

pub put_more : {T E : Type 0} (spell : ℕ → List ℕ) (mark base marks n scale : ℕ) (a b c d : List ℕ) (r : Result T E) → (marks ≡ 0 → ⊥) → scale ≡ base ^ marks → b ≡ a ++ spell (n / scale) → c ≡ b ++ mark ∷ [] →
    OnOk r (d ≡ c ++ parts_text spell mark base (marks - 1) (n % scale)) → OnOk r (d ≡ a ++ parts_text spell mark base marks n)
put_more spell mark base marks n scale a b c d r some is_scale first marked rest = on_ok r (put_text spell mark base marks n scale a b c d some is_scale first marked) rest
