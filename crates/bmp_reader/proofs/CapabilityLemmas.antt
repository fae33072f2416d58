-- The capabilities of an OPEN are found exactly as they are, and there is one list of them.
use Rattle.std.proofs.Common.{◌≡◌, ◌≢◌, inl, inr, ℕ, Bool, true, false, cond, List, [], ◌∷◌, ◌++◌, length, Some, None, refl, sym, ap, subst, ◌∙◌, arith}
use Rattle.std.specs.Prelude.{◌==◌}
use Rattle.std.specs.declared.option.Option.{Option}
use Rattle.std.proofs.lemmas.Option.{same_Some, some_pair_parts}
use Rattle.std.proofs.lemmas.Bool.Decides.{nat_tests}
use Rattle.av_base.specs.One.{HasOne}
use Rattle.held_bytes.specs.Units.{Begins}
use Rattle.bgp_attrs.specs.Joined.{IsReader, items_of}
use Rattle.bgp_attrs.proofs.FixedLemmas.{and_then_some, Reads, and_then_is, cut_at, cut_finds}
use Rattle.bgp_attrs.proofs.JoinedLemmas.{items_from, joined_from}
use Rattle.bmp_reader.specs.Opens.{Open, Triple, IsTriple, HasOwn, HaveTogether, Carry, IsInForm, HasCapabilities}
use Rattle.bgp_attrs.specs.Fixed.{cut}
use Rattle.bmp_reader.specs.Readers.{triple_at, own_of, together, carried_in, formed_of, none_or, capabilities_of}

-- ---- one parameter or capability

triple_finds : (bytes : List ℕ) (triple : Triple) (rest : List ℕ) → triple_at bytes ≡ Some (triple, rest) → Begins IsTriple bytes triple rest
unfolding triple_at
triple_finds [] triple rest e = absurd cc
triple_finds (code ∷ []) triple rest e = absurd cc
triple_finds (code ∷ size ∷ bytes) triple rest e =
    let a = and_then_some _ (cut size bytes) (triple, rest) e in
    let made = some_pair_parts (record { code = code; value = a.0.0 }) triple a.0.1 rest a.2 in
    let c = cut_finds size bytes a.0 a.1 in
    subst (λ (t : Triple). Begins IsTriple (code ∷ (size ∷ bytes)) t rest) made.0 (record {
      front = code ∷ (length a.0.0 ∷ a.0.0);
      spelled = refl;
      whole = λ i. code ∷ (sym c.0 i ∷ (c.1 ∙ ap (λ (xs : List ℕ). a.0.0 ++ xs) made.1) i);
    })

triple_here : (triple : Triple) (rest : List ℕ) → triple_at (triple.code ∷ (length triple.value ∷ (triple.value ++ rest))) ≡ Some (triple, rest)
unfolding triple_at
triple_here triple rest = and_then_is _ (cut (length triple.value) (triple.value ++ rest)) (triple.value, rest) (Some (triple, rest)) (cut_at (length triple.value) triple.value rest refl) refl

triple_only : (bytes : List ℕ) (triple : Triple) (rest : List ℕ) → Begins IsTriple bytes triple rest → triple_at bytes ≡ Some (triple, rest)
triple_only bytes triple rest b = ap triple_at (b.whole ∙ ap (λ (xs : List ℕ). xs ++ rest) b.spelled) ∙ triple_here triple rest

pub triple_reader : IsReader IsTriple triple_at
triple_reader = record { finds = triple_finds; only = triple_only; some = λ front triple s. omega (arith, ap length s) }

-- ---- those of one parameter

own_reads : (parameter : Triple) → Reads (HasOwn parameter) (own_of parameter)
own_reads parameter = by_test (parameter.code == 2) refl
  where
    by_test : (same : Bool) → (parameter.code == 2) ≡ same → Reads (HasOwn parameter) (cond same (items_of triple_at parameter.value) (Some []))
    by_test true t = (let two : parameter.code ≡ 2 = grind (arith, nat_tests) in record {
      finds = λ own e. inl (two, joined_from triple_reader parameter.value own e);
      only = λ own has. elim has [ inl it ↦ items_from triple_reader parameter.value own it.1 | inr other ↦ absurd (other.0 two) ];
    })
    by_test false t = (let apart : parameter.code ≢ 2 = (λ same. grind (arith, nat_tests)) in record {
      finds = λ own e. inr (apart, sym (same_Some [] own e));
      only = λ own has. elim has [ inl it ↦ absurd (apart it.0) | inr other ↦ ap Some (sym other.1) ];
    })

-- ---- those of all parameters

together_finds : (parameters capabilities : List Triple) → together parameters ≡ Some capabilities → HaveTogether parameters capabilities
together_finds [] capabilities e = sym (same_Some [] capabilities e)
together_finds (parameter ∷ parameters) capabilities e =
    let a = and_then_some _ (own_of parameter) capabilities e in
    let b = and_then_some _ (together parameters) capabilities a.2 in
    (a.0, b.0, (own_reads parameter).finds a.0 a.1, together_finds parameters b.0 b.1, sym (same_Some (a.0 ++ b.0) capabilities b.2))

together_only : (parameters capabilities : List Triple) → HaveTogether parameters capabilities → together parameters ≡ Some capabilities
together_only [] capabilities have = ap Some (sym have)
together_only (parameter ∷ parameters) capabilities have =
    and_then_is _ (own_of parameter) have.0 (Some capabilities) ((own_reads parameter).only have.0 have.2)
    (and_then_is _ (together parameters) have.1 (Some capabilities) (together_only parameters have.1 have.3) (ap Some (sym have.4)))

carry_finds : (bytes : List ℕ) (capabilities : List Triple) → carried_in bytes ≡ Some capabilities → Carry bytes capabilities
unfolding carried_in
carry_finds bytes capabilities e =
    let a = and_then_some together (items_of triple_at bytes) capabilities e in
    record { parameters = a.0; are = joined_from triple_reader bytes a.0 a.1; have = together_finds a.0 capabilities a.2 }

carry_only : (bytes : List ℕ) (capabilities : List Triple) → Carry bytes capabilities → carried_in bytes ≡ Some capabilities
unfolding carried_in
carry_only bytes capabilities carry =
    and_then_is together (items_of triple_at bytes) carry.parameters (Some capabilities) (items_from triple_reader bytes carry.parameters carry.are) (together_only carry.parameters capabilities carry.have)

-- ---- those of an OPEN

formed_finds : (it : Open) (capabilities : List Triple) → formed_of it ≡ Some capabilities → IsInForm it capabilities
unfolding formed_of
formed_finds it capabilities e = by_test (it.count == length it.parameters) refl e
  where
    by_test : (same : Bool) → (it.count == length it.parameters) ≡ same → cond same (carried_in it.parameters) None ≡ Some capabilities → IsInForm it capabilities
    by_test true t f = (grind (arith, nat_tests), carry_finds it.parameters capabilities f)
    by_test false t f = absurd cc

formed_only : (it : Open) (capabilities : List Triple) → IsInForm it capabilities → formed_of it ≡ Some capabilities
unfolding formed_of
formed_only it capabilities is =
    let counted = is.0 in
    let test : (it.count == length it.parameters) ≡ true = grind (arith, nat_tests) in
    rw test (carry_only it.parameters capabilities is.1)

-- what an OPEN has is what is found of it
pub has_found : (it : Open) → HasCapabilities it (capabilities_of it)
has_found it = by_found (formed_of it) refl
  where
    by_found : (found : Option (List Triple)) → formed_of it ≡ found → HasCapabilities it (none_or found)
    by_found None e = inr (λ any is. (let both : Some any ≡ None = sym (formed_only it any is) ∙ e in cc), refl)
    by_found (Some capabilities) e = inl (formed_finds it capabilities e)

pub found_only : (it : Open) (capabilities : List Triple) → HasCapabilities it capabilities → capabilities ≡ capabilities_of it
found_only it capabilities (inl is) = sym (ap none_or (formed_only it capabilities is))
found_only it capabilities (inr other) = other.1 ∙ sym (by_found (formed_of it) refl)
  where
    by_found : (found : Option (List Triple)) → formed_of it ≡ found → none_or found ≡ []
    by_found None e = refl
    by_found (Some any) e = absurd (other.0 any (formed_finds it any e))

pub one_list : (it : Open) → HasOne (HasCapabilities it)
one_list it = record { one = capabilities_of it; is = has_found it; only = found_only it }
