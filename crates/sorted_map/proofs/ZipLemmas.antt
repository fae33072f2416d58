-- Keys and their values side by side, and as entries.
use Rattle.std.proofs.Common.{◌≡◌, ℕ, zero, suc, ◌≤◌, List, [], ◌∷◌, length, take, drop, arith, refl, ap, ◌∙◌}
use Rattle.std.specs.List.{zip, insert, remove}
use Rattle.std.specs.Map.{values_of}

module _ {K V : Type 0} where
  pub zip_length : (ks : List K) (vs : List V) → length vs ≡ length ks → length (zip ks vs) ≡ length ks
  zip_length [] vs same = refl
  zip_length (x ∷ xs) [] same = absurd (omega (arith, same))
  zip_length (x ∷ xs) (y ∷ ys) same = ap suc (zip_length xs ys (omega (arith, same)))

  pub values_are : (ks : List K) (vs : List V) → length vs ≡ length ks → values_of (zip ks vs) ≡ vs
  values_are [] [] same = refl
  values_are [] (y ∷ ys) same = absurd (omega (arith, same))
  values_are (x ∷ xs) [] same = refl
  values_are (x ∷ xs) (y ∷ ys) same = ap (λ (zs : List V). y ∷ zs) (values_are xs ys (omega (arith, same)))

  pub zip_drop : (i : ℕ) (ks : List K) (vs : List V) → length vs ≡ length ks → zip (drop i ks) (drop i vs) ≡ drop i (zip ks vs)
  zip_drop zero ks vs same = refl
  zip_drop (suc i) [] vs same = refl
  zip_drop (suc i) (x ∷ xs) [] same = absurd (omega (arith, same))
  zip_drop (suc i) (x ∷ xs) (y ∷ ys) same = zip_drop i xs ys (omega (arith, same))

  pub zip_take : (i : ℕ) (ks : List K) (vs : List V) → zip (take i ks) (take i vs) ≡ take i (zip ks vs)
  zip_take zero ks vs = refl
  zip_take (suc i) [] vs = refl
  zip_take (suc i) (x ∷ xs) [] = refl
  zip_take (suc i) (x ∷ xs) (y ∷ ys) = ap (λ (es : List (K × V)). (x, y) ∷ es) (zip_take i xs ys)

  pub zip_insert : (i : ℕ) (ks : List K) (vs : List V) (k : K) (v : V) → length vs ≡ length ks → zip (insert ks i k) (insert vs i v) ≡ insert (zip ks vs) i (k, v)
  zip_insert zero ks vs k v same = refl
  zip_insert (suc i) [] [] k v same = refl
  zip_insert (suc i) [] (y ∷ ys) k v same = absurd (omega (arith, same))
  zip_insert (suc i) (x ∷ xs) [] k v same = absurd (omega (arith, same))
  zip_insert (suc i) (x ∷ xs) (y ∷ ys) k v same = ap (λ (es : List (K × V)). (x, y) ∷ es) (zip_insert i xs ys k v (omega (arith, same)))

-- what came goes again
pub remove_inserted : {A : Type 0} (i : ℕ) (xs : List A) (x : A) → i ≤ length xs → remove (insert xs i x) i ≡ xs
remove_inserted zero xs x within = refl
remove_inserted (suc i) [] x within = absurd (omega (arith, within))
remove_inserted {A = A} (suc i) (y ∷ ys) x within = ap (λ (zs : List A). y ∷ zs) (remove_inserted i ys x (omega (arith, within)))

-- both the same
pub zip_same : {K V : Type 0} (ks : List K) (vs : List V) (ks2 : List K) (vs2 : List V) → ks2 ≡ ks → vs2 ≡ vs → zip ks2 vs2 ≡ zip ks vs
zip_same {K = K} {V = V} ks vs ks2 vs2 keys values = ap (λ (xs : List K). zip xs vs2) keys ∙ ap (λ (ys : List V). zip ks ys) values
