-- Lists of ASes in a line.
use Rattle.std.proofs.Common.{◌≡◌, ℕ, zero, suc, ◌+◌, ◌-◌, ◌^◌, ◌<◌, ◌≤◌, nat_eq, Bool, true, false, List, [], ◌∷◌, ◌++◌, length, take, codes, decimal, refl, sym, ap, ◌∙◌, arith}
use Rattle.std.proofs.lemmas.List.{append-nil, length-append}
use Rattle.std.proofs.lemmas.Map.Views.{exact_unsigned_eq}
use Rattle.report_text.specs.Assertions.{IsFilled, assertion_line, most_bytes, named}
use Rattle.report_text.specs.Details.{ases_text}
use Rattle.report_text.proofs.DigitLemmas.{length_most}

-- at least one of them has room
pub some_taken : (taken room p : ℕ) (old mid new ases : List ℕ) → 11 ≤ room → p < 2 ^ 32 → mid ≡ old ++ ases_text (take taken ases) → new ≡ (mid ++ 32 ∷ []) ++ decimal p
    → room < length new - length old → 0 < taken
some_taken zero room p old mid new ases most small before after over =
    let first : length mid ≡ length old = ap length (before ∙ append-nil old) in
    let second : length new ≡ length (mid ++ 32 ∷ []) + length (decimal p) = ap length after ∙ length-append (mid ++ 32 ∷ []) (decimal p) in
    let third = length-append mid (32 ∷ []) in
    absurd (omega (arith, most, over, first, second, third, length_most p small))
some_taken (suc taken) room p old mid new ases most small before after over = omega arith

-- none are written as 0
pub none_named : (providers : List ℕ) → length providers ≡ 0 → named providers ≡ 0 ∷ []
none_named [] none = refl
none_named (p ∷ ps) none = absurd (omega (arith, none))

-- and some as they are
pub some_named : (providers : List ℕ) → 0 < length providers → named providers ≡ providers
some_named [] some = absurd (omega (arith, some))
some_named (p ∷ ps) some = refl

-- ---- whether there are any

pub none_there : (ps : List ℕ) (b : Bool) → b ≡ nat_eq (length ps) 0 → b ≡ true → length ps ≡ 0
none_there ps b test is = exact_unsigned_eq (length ps) 0 (sym test ∙ is)

pub some_there : (ps : List ℕ) (b : Bool) → b ≡ nat_eq (length ps) 0 → b ≡ false → 0 < length ps
some_there [] b test is = absurd cc
some_there (p ∷ ps) b test is = omega arith

-- ---- an assertion's line

-- its bytes in front of the providers
abbrev pub prefix : ℕ → ℕ
prefix customer = length (codes "assert " ++ decimal customer)

pub prefix_short : (customer : ℕ) → customer < 2 ^ 32 → prefix customer ≤ 17
prefix_short customer small = omega (arith, length-append (codes "assert ") (decimal customer), length_most customer small)

-- they were added
pub prefixed : (customer : ℕ) (old new : List ℕ) → new ≡ (old ++ codes "assert ") ++ decimal customer → length new - length old ≡ prefix customer
prefixed customer old new is =
    omega (arith, ap length is, length-append (old ++ codes "assert ") (decimal customer), length-append old (codes "assert "), length-append (codes "assert ") (decimal customer))

pub line_size : (customer : ℕ) (ps : List ℕ) → 0 < length ps → length (assertion_line customer ps) ≡ prefix customer + length (ases_text ps)
line_size customer [] some = absurd (omega (arith, some))
line_size customer (p ∷ ps) some = length-append (codes "assert " ++ decimal customer) (ases_text (p ∷ ps))

take_some : (n : ℕ) (xs : List ℕ) → 0 < n → 0 < length xs → 0 < length (take n xs)
take_some zero xs first some = absurd (omega (arith, first))
take_some (suc n) [] first some = absurd (omega (arith, some))
take_some (suc n) (x ∷ xs) first some = omega arith

pub filled_some : (customer room taken : ℕ) (ps : List ℕ) → customer < 2 ^ 32 → room ≡ most_bytes - prefix customer → 0 < length ps → taken ≤ length ps → 0 < taken
    → length (ases_text (take taken ps)) ≤ room → (taken < length ps → room < length (ases_text (take (taken + 1) ps))) → IsFilled customer ps taken
filled_some customer room taken ps small is some within first fits full =
    let short = prefix_short customer small in
    record {
      within = within;
      some = λ more. first;
      fits = omega (arith, short, is, fits, line_size customer (take taken ps) (take_some taken ps first some));
      full = λ more. omega (arith, short, is, full more, line_size customer (take (taken + 1) ps) (take_some (taken + 1) ps (omega arith) some));
    }

pub filled_none : (customer taken : ℕ) (ps : List ℕ) → customer < 2 ^ 32 → length ps ≡ 0 → taken ≡ 0 → IsFilled customer ps taken
filled_none customer zero [] small none is =
    record {
      within = omega arith;
      some = λ more. absurd (omega (arith, more));
      fits = omega (arith, prefix_short customer small, line_size customer (0 ∷ []) (omega arith), length-append (32 ∷ decimal 0) [], length_most 0 (omega arith));
      full = λ more. absurd (omega (arith, more));
    }
filled_none customer (suc n) ps small none is = absurd (omega (arith, is))
filled_none customer zero (p ∷ ps) small none is = absurd (omega (arith, none))
