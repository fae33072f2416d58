-- The first prefix is read exactly where the bytes begin with one.
use Rattle.std.proofs.Common.{◌≡◌, ℕ, ◌≤◌, Bool, true, false, ◌&&◌, List, [], ◌∷◌, ◌++◌, length, take, drop, Some, refl, sym, ap, subst, ◌∙◌, arith}
use Rattle.std.specs.Prelude.{nat_le}
use Rattle.std.proofs.lemmas.Option.{cond_some}
use Rattle.std.proofs.lemmas.List.{take-append-drop, take_at, drop_at, length-take, length-append}
use Rattle.std.proofs.lemmas.Bool.Decides.{nat_tests}
use Rattle.path_model.specs.Prefix.{Subnet, cleared}
use Rattle.held_bytes.specs.Units.{Begins}
use Rattle.bgp_attrs.specs.Joined.{IsReader}
use Rattle.bgp_attrs.specs.Fixed.{addr_of}
use Rattle.bgp_attrs.specs.Prefixes.{family_bits, bytes_for, IsPrefix, prefix_at}

both_hold : (a b : Bool) → (a && b) ≡ true → (a ≡ true) × (b ≡ true)
both_hold true true e = (refl, refl)
both_hold true false e = absurd cc
both_hold false b e = absurd cc

abbrev subnet : Bool → ℕ → List ℕ → Subnet
subnet six len bits = record { addr = cleared len (addr_of six bits); len = len }

finds : (six : Bool) (bytes : List ℕ) (prefix : Subnet) (rest : List ℕ) → prefix_at six bytes ≡ Some (prefix, rest) → Begins (IsPrefix six) bytes prefix rest
unfolding prefix_at
finds six [] prefix rest e = absurd cc
finds six (len ∷ bytes) prefix rest e =
    let n = bytes_for len in
    let s = cond_some (nat_le len (family_bits six) && nat_le n (length bytes)) (subnet six len (take n bytes), drop n bytes) (prefix, rest) e in
    let t = both_hold (nat_le len (family_bits six)) (nat_le n (length bytes)) s.0 in
    let short : len ≤ family_bits six = grind (arith, nat_tests) in
    let long : n ≤ length bytes = grind (arith, nat_tests) in
    let size : length (take n bytes) ≡ n = omega (arith, length-take n bytes) in
    subst (λ (x : Subnet × List ℕ). Begins (IsPrefix six) (len ∷ bytes) x.0 x.1) s.1 (record {
      front = len ∷ take n bytes;
      spelled = record { bits = take n bytes; whole = refl; within = short; fewest = size; addr = refl };
      whole = ap (λ (xs : List ℕ). len ∷ xs) (sym (take-append-drop n bytes));
    })

only_here : (six : Bool) (prefix : Subnet) (bits rest : List ℕ) → prefix.len ≤ family_bits six → length bits ≡ bytes_for prefix.len → prefix.addr ≡ cleared prefix.len (addr_of six bits)
    → prefix_at six (prefix.len ∷ (bits ++ rest)) ≡ Some (prefix, rest)
unfolding prefix_at
only_here six prefix bits rest short size addr =
    let n = bytes_for prefix.len in
    let short_test : nat_le prefix.len (family_bits six) ≡ true = grind (arith, nat_tests) in
    let fits : n ≤ length (bits ++ rest) = omega (arith, length-append bits rest) in
    let fits_test : nat_le n (length (bits ++ rest)) ≡ true = grind (arith, nat_tests) in
    rw (short_test, fits_test, take_at bits rest n size, drop_at bits rest n size, ← addr) refl

only : (six : Bool) (bytes : List ℕ) (prefix : Subnet) (rest : List ℕ) → Begins (IsPrefix six) bytes prefix rest → prefix_at six bytes ≡ Some (prefix, rest)
only six bytes prefix rest b =
    let s = b.spelled in
    let bytes-is : bytes ≡ prefix.len ∷ (s.bits ++ rest) = b.whole ∙ ap (λ (xs : List ℕ). xs ++ rest) s.whole in
    ap (prefix_at six) bytes-is ∙ only_here six prefix s.bits rest s.within s.fewest s.addr

pub prefix_reader : (six : Bool) → IsReader (IsPrefix six) (prefix_at six)
prefix_reader six = record { finds = finds six; only = only six; some = λ front prefix s. omega (arith, ap length s.whole) }
