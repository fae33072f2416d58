-- Fields of fixed sizes are read exactly where they are.
use Rattle.std.proofs.Common.{◌≡◌, ℕ, ◌≤◌, Bool, true, false, cond, List, [], ◌∷◌, ◌++◌, length, take, drop, Some, None, refl, sym, ap, subst, ◌∙◌, arith}
use Rattle.std.specs.Prelude.{nat_lt, option_and_then}
use Rattle.std.specs.declared.option.Option.{Option}
use Rattle.std.specs.Int.{w16, w32, from_be_bytes}
use Rattle.std.proofs.lemmas.Option.{some_pair_parts}
use Rattle.std.proofs.lemmas.List.{take-append-drop, take_at, drop_at, length-take, length-append}
use Rattle.std.proofs.lemmas.Bool.Decides.{nat_tests}
use Rattle.path_model.specs.declared.addr.Addr.{Addr}
use Rattle.bgp_attrs.specs.Fixed.{SpellsTwo, SpellsFour, SpellsAsn, as_width, SpellsPath, SpellsAddr, addr_of, addr_size, cut, byte_at, two_at, four_at, asn_at, path_at, addr_at}

-- what was read is exactly what has the form
pub record Reads {A : Type 0} (HasForm : A → Type 0) (found : Option A) : Type 0 where
  pub finds : (x : A) → found ≡ Some x → HasForm x
  pub only : (x : A) → HasForm x → found ≡ Some x

-- two steps: the first was there; and where it is there
pub and_then_some : {A B : Type 0} (f : A → Option B) (o : Option A) (y : B) → option_and_then f o ≡ Some y → (x : A) × (o ≡ Some x) × (f x ≡ Some y)
and_then_some f None y e = absurd cc
and_then_some f (Some x) y e = (x, refl, e)

pub and_then_is : {A B : Type 0} (f : A → Option B) (o : Option A) (x : A) (y : Option B) → o ≡ Some x → f x ≡ y → option_and_then f o ≡ y
and_then_is f o x y e r = ap (option_and_then f) e ∙ r

-- three parts, each found in front of what is behind the one before
pub three_parts : (bytes a ra b rb c rc : List ℕ) → bytes ≡ a ++ ra → ra ≡ b ++ rb → rb ≡ c ++ rc → bytes ≡ a ++ (b ++ (c ++ rc))
three_parts bytes a ra b rb c rc p q r = p ∙ ap (λ (xs : List ℕ). a ++ xs) (q ∙ ap (λ (xs : List ℕ). b ++ xs) r)

-- ---- so many bytes

cut_some : (b : Bool) (n : ℕ) (bytes : List ℕ) (x : List ℕ × List ℕ) → nat_lt (length bytes) n ≡ b → cond b None (Some (take n bytes, drop n bytes)) ≡ Some x → (n ≤ length bytes) × ((take n bytes, drop n bytes) ≡ x)
cut_some true n bytes x t e = absurd cc
cut_some false n bytes x t e = (grind (arith, nat_tests), cc)

pub cut_at : (n : ℕ) (front rest : List ℕ) → length front ≡ n → cut n (front ++ rest) ≡ Some (front, rest)
cut_at n front rest e =
    let test : nat_lt (length (front ++ rest)) n ≡ false = (let long : n ≤ length (front ++ rest) = omega (arith, length-append front rest) in grind (arith, nat_tests)) in
    rw (test, take_at front rest n e, drop_at front rest n e) refl

pub cut_finds : (n : ℕ) (bytes : List ℕ) (x : List ℕ × List ℕ) → cut n bytes ≡ Some x → (length x.0 ≡ n) × (bytes ≡ x.0 ++ x.1)
cut_finds n bytes x e =
    let c = cut_some (nat_lt (length bytes) n) n bytes x refl e in
    let long : n ≤ length bytes = c.0 in
    subst (λ (y : List ℕ × List ℕ). (length y.0 ≡ n) × (bytes ≡ y.0 ++ y.1)) c.1 (omega (arith, length-take n bytes), sym (take-append-drop n bytes))

-- ---- numbers

-- the bytes begin with so many that have this, and the rest follows
abbrev pub Front : (List ℕ → Type 0) → List ℕ → List ℕ → Type 0
Front P bytes rest = (part : List ℕ) × P part × (bytes ≡ part ++ rest)

pub byte_finds : (bytes : List ℕ) (n : ℕ) (rest : List ℕ) → byte_at bytes ≡ Some (n, rest) → bytes ≡ n ∷ rest
byte_finds [] n rest e = absurd cc
byte_finds (b ∷ bytes) n rest e = let p = some_pair_parts b n bytes rest e in λ i. p.0 i ∷ p.1 i

pub byte_none : (bytes : List ℕ) → byte_at bytes ≡ None → bytes ≡ []
byte_none [] e = refl
byte_none (b ∷ bytes) e = absurd cc

pub two_finds : (bytes : List ℕ) (n : ℕ) (rest : List ℕ) → two_at bytes ≡ Some (n, rest) → Front (λ part. SpellsTwo part n) bytes rest
unfolding two_at
two_finds [] n rest e = absurd cc
two_finds (a ∷ []) n rest e = absurd cc
two_finds (a ∷ b ∷ bytes) n rest e =
    let p = some_pair_parts (from_be_bytes w16 (a ∷ b ∷ [])) n bytes rest e in
    (a ∷ b ∷ [], (refl, p.0), ap (λ (xs : List ℕ). a ∷ b ∷ xs) p.1)

pub two_only : (part : List ℕ) (n : ℕ) (rest : List ℕ) → SpellsTwo part n → two_at (part ++ rest) ≡ Some (n, rest)
unfolding two_at
two_only [] n rest h = absurd (omega (arith, h.0))
two_only (a ∷ []) n rest h = absurd (omega (arith, h.0))
two_only (a ∷ b ∷ []) n rest h = ap (λ (k : ℕ). Some (k, rest)) h.1
two_only (a ∷ b ∷ x ∷ more) n rest h = absurd (omega (arith, h.0))

pub four_finds : (bytes : List ℕ) (n : ℕ) (rest : List ℕ) → four_at bytes ≡ Some (n, rest) → Front (λ part. SpellsFour part n) bytes rest
unfolding four_at
four_finds [] n rest e = absurd cc
four_finds (a ∷ []) n rest e = absurd cc
four_finds (a ∷ b ∷ []) n rest e = absurd cc
four_finds (a ∷ b ∷ c ∷ []) n rest e = absurd cc
four_finds (a ∷ b ∷ c ∷ d ∷ bytes) n rest e =
    let p = some_pair_parts (from_be_bytes w32 (a ∷ b ∷ c ∷ d ∷ [])) n bytes rest e in
    (a ∷ b ∷ c ∷ d ∷ [], (refl, p.0), ap (λ (xs : List ℕ). a ∷ b ∷ c ∷ d ∷ xs) p.1)

pub four_only : (part : List ℕ) (n : ℕ) (rest : List ℕ) → SpellsFour part n → four_at (part ++ rest) ≡ Some (n, rest)
unfolding four_at
four_only [] n rest h = absurd (omega (arith, h.0))
four_only (a ∷ []) n rest h = absurd (omega (arith, h.0))
four_only (a ∷ b ∷ []) n rest h = absurd (omega (arith, h.0))
four_only (a ∷ b ∷ c ∷ []) n rest h = absurd (omega (arith, h.0))
four_only (a ∷ b ∷ c ∷ d ∷ []) n rest h = ap (λ (k : ℕ). Some (k, rest)) h.1
four_only (a ∷ b ∷ c ∷ d ∷ x ∷ more) n rest h = absurd (omega (arith, h.0))

pub asn_finds : (wide : Bool) (bytes : List ℕ) (asn : ℕ) (rest : List ℕ) → asn_at wide bytes ≡ Some (asn, rest) → Front (λ part. SpellsAsn wide part asn) bytes rest
asn_finds true bytes asn rest e = four_finds bytes asn rest e
asn_finds false bytes asn rest e = two_finds bytes asn rest e

pub asn_only : (wide : Bool) (part : List ℕ) (asn : ℕ) (rest : List ℕ) → SpellsAsn wide part asn → asn_at wide (part ++ rest) ≡ Some (asn, rest)
asn_only true part asn rest h = four_only part asn rest h
asn_only false part asn rest h = two_only part asn rest h

-- bytes of an AS's size spell some AS, and no AS has another size
pub asn_any : (wide : Bool) (part : List ℕ) → length part ≡ as_width wide → (asn : ℕ) × SpellsAsn wide part asn
asn_any true part e = (from_be_bytes w32 part, (e, refl))
asn_any false part e = (from_be_bytes w16 part, (e, refl))

pub asn_long : (wide : Bool) (part : List ℕ) (asn : ℕ) → SpellsAsn wide part asn → length part ≡ as_width wide
asn_long true part asn h = h.0
asn_long false part asn h = h.0

-- ---- path identifiers

pub path_finds : (add_path : Bool) (bytes : List ℕ) (path : Option ℕ) (rest : List ℕ) → path_at add_path bytes ≡ Some (path, rest) → Front (λ part. SpellsPath add_path part path) bytes rest
path_finds false bytes path rest e = let p = some_pair_parts None path bytes rest e in ([], (refl, sym p.0), p.1)
path_finds true bytes path rest e =
    let a = and_then_some (λ (x : ℕ × List ℕ). Some (Some x.0, x.1)) (four_at bytes) (path, rest) e in
    let p = some_pair_parts (Some a.0.0) path a.0.1 rest a.2 in
    let f = four_finds bytes a.0.0 a.0.1 a.1 in
    subst (λ (found : Option ℕ). Front (λ part. SpellsPath true part found) bytes rest) p.0 (f.0, f.1, f.2 ∙ ap (λ (xs : List ℕ). f.0 ++ xs) p.1)

pub path_only : (add_path : Bool) (part : List ℕ) (path : Option ℕ) (rest : List ℕ) → SpellsPath add_path part path → path_at add_path (part ++ rest) ≡ Some (path, rest)
path_only false part path rest h = λ i. Some (sym h.1 i, h.0 i ++ rest)
path_only true part None rest h = absurd h
path_only true part (Some identifier) rest h =
    and_then_is (λ (x : ℕ × List ℕ). Some (Some x.0, x.1)) (four_at (part ++ rest)) (identifier, rest) (Some (Some identifier, rest)) (four_only part identifier rest h) refl

-- ---- addresses

pub addr_finds : (six : Bool) (bytes : List ℕ) (addr : Addr) (rest : List ℕ) → addr_at six bytes ≡ Some (addr, rest) → Front (λ part. SpellsAddr six part addr) bytes rest
unfolding addr_at
addr_finds six bytes addr rest e =
    let a = and_then_some (λ (part : List ℕ × List ℕ). Some (addr_of six part.0, part.1)) (cut (addr_size six) bytes) (addr, rest) e in
    let p = some_pair_parts (addr_of six a.0.0) addr a.0.1 rest a.2 in
    let c = cut_finds (addr_size six) bytes a.0 a.1 in
    (a.0.0, (c.0, p.0), c.1 ∙ ap (λ (xs : List ℕ). a.0.0 ++ xs) p.1)

pub addr_only : (six : Bool) (part : List ℕ) (addr : Addr) (rest : List ℕ) → SpellsAddr six part addr → addr_at six (part ++ rest) ≡ Some (addr, rest)
unfolding addr_at
addr_only six part addr rest h =
    and_then_is (λ (x : List ℕ × List ℕ). Some (addr_of six x.0, x.1)) (cut (addr_size six) (part ++ rest)) (part, rest) (Some (addr, rest)) (cut_at (addr_size six) part rest h.0) (ap (λ (a : Addr). Some (a, rest)) h.1)
