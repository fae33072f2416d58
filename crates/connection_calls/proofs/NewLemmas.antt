-- A connection that was made or accepted.
use Rattle.std.proofs.Common.{◌≡◌, ◌≢◌, ℕ, zero, suc, ◌+◌, ◌≤◌, List, [], ◌∷◌, ◌++◌, length, None, Some, refl, sym, ◌∙◌, ap, subst, arith}
use Rattle.std.specs.Prelude.{slice_get}
use Rattle.std.specs.Option.{option_map}
use Rattle.std.specs.declared.option.Option.{Option}
use Rattle.av_base.specs.Connections.{Link, Agrees, Connects as ConnectsLink, IsUsable, ToldLater, connects, new_link, new_standing}
use Rattle.av_base.specs.declared.standing.Standing.{Standing}
use Rattle.av_base.proofs.LinksLemmas.{IsUsable-new, get-connects, length-told}
use Rattle.connection_calls.specs.Connection.{Now, Has, Spares, told_at}

get-push_apart : {A : Type 0} (xs : List A) (x : A) (i : ℕ) → i ≢ length xs → slice_get (xs ++ x ∷ []) i ≡ slice_get xs i
get-push_apart [] x zero apart = absurd (apart refl)
get-push_apart [] x (suc i) apart = refl
get-push_apart (y ∷ xs) x zero apart = refl
get-push_apart (y ∷ xs) x (suc i) apart = get-push_apart xs x i (λ e. apart (ap suc e))

told_apart : (place to_come : List ℕ) (wire : Option (List Link)) (stood : List Standing) → Agrees wire stood → (other : ℕ) → other ≢ length stood → told_at (option_map (connects place to_come) wire) other ≡ told_at wire other
told_apart place to_come None stood agrees other apart = refl
told_apart place to_come (Some links) stood agrees other apart =
    ap (λ (t : Option Link). Some t) (get-push_apart links (new_link place to_come) other (λ e. apart (e ∙ length-told links stood agrees)))

-- it leaves all others
pub spares_connect : (old new : Option (List Link)) (stood stands : List Standing) (place : List ℕ) (x : Standing) → ConnectsLink old new place → Agrees old stood → stands ≡ stood ++ x ∷ [] → ToldLater old new
    → Spares (λ other. other ≢ length stood) old new stood stands
spares_connect old new stood stands place x made agrees is later = record {
  later = later;
  others = λ other apart. ap (λ (o : Option (List Link)). told_at o other) made.told ∙ told_apart place made.to_come old stood agrees other apart;
  standing = λ other apart. ap (λ (l : List Standing). slice_get l other) is ∙ get-push_apart stood x other apart;
}

now_new : (place to_come : List ℕ) (old new : Option (List Link)) (stood : List Standing) → new ≡ option_map (connects place to_come) old → Agrees old stood
    → (links : List Link) → new ≡ Some links → (t : Link) × (slice_get links (length stood) ≡ Some t) × ((t.place ≡ place) × Has [] [] t)
now_new place to_come None new stood is agrees links told = let none : ⊥ = cc in absurd none
now_new place to_come (Some before) new stood is agrees links told =
    let whole : links ≡ connects place to_come before = cc in (
      new_link place to_come,
      ap (λ (l : List Link). slice_get l (length stood)) whole ∙ ap (λ k. slice_get (connects place to_come before) k) (sym (length-told before stood agrees)) ∙ get-connects place to_come before,
      (refl, record { got = refl; gave = refl }),
    )

-- nothing was received or sent on it
pub new_now : (old new : Option (List Link)) (stood : List Standing) (place : List ℕ) (link : ℕ) → ConnectsLink old new place → Agrees old stood → link ≡ length stood
    → Now new link (λ t. (t.place ≡ place) × Has [] [] t)
new_now old new stood place link made agrees number =
    subst (λ k. Now new k (λ t. (t.place ≡ place) × Has [] [] t)) (sym number) (record { told = now_new place made.to_come old new stood made.told agrees })

-- its number is new
pub new_number : (old : Option (List Link)) (stood : List Standing) (link : ℕ) → Agrees old stood → link ≡ length stood → (links : List Link) → old ≡ Some links → length links ≤ link
new_number old stood link agrees number links told =
    let here : Agrees (Some links) stood = subst (λ (w : Option (List Link)). Agrees w stood) told agrees in
    omega (arith, length-told links stood here, number)

pub usable_new : (stood stands : List Standing) (link : ℕ) → link ≡ length stood → stands ≡ stood ++ new_standing ∷ [] → IsUsable stands link
usable_new stood stands link number is = subst (λ (l : List Standing). IsUsable l link) (sym is) (subst (λ k. IsUsable (stood ++ new_standing ∷ []) k) (sym number) (IsUsable-new stood))

-- nothing changed
pub spares_same : (P : ℕ → Type 0) (old new : Option (List Link)) (stood stands : List Standing) → ToldLater old new → new ≡ old → stands ≡ stood → Spares P old new stood stands
spares_same P old new stood stands later same stays = record {
  later = later;
  others = λ other apart. ap (λ (o : Option (List Link)). told_at o other) same;
  standing = λ other apart. ap (λ (l : List Standing). slice_get l other) stays;
}
