-- The types of PDUs: their numbers tell them apart, and whether a length is allowed is decided.
use Rattle.std.proofs.Common.{◌≡◌, ◌≢◌, ℕ, ◌-◌, ◌%◌, ◌≤◌, ◌⊎◌, inl, inr, List, [], ◌∷◌, Some, None, cond, nat_eq, refl, sym, ap, ◌∙◌, arith}
use Rattle.std.specs.declared.option.Option.{Option}
use Rattle.std.proofs.lemmas.Bool.Decides.{eqb_tells, leb_tells}
use Rattle.rtr_pdu.specs.declared.kind.Kind.{Kind}
use Rattle.rtr_pdu.specs.declared.kind.Kind.TheVariants.{SerialNotify, SerialQuery, ResetQuery, CacheResponse, Ipv4Prefix, Ipv6Prefix, EndOfData, CacheReset, RouterKey, ErrorReport, Aspa}
use Rattle.rtr_pdu.specs.Pdus.{code_of, FitsLength}
use Rattle.rtr_pdu.proofs.NumberLemmas.{length_of_providers, providers_of_length}

all_kinds : List Kind
all_kinds = SerialNotify ∷ SerialQuery ∷ ResetQuery ∷ CacheResponse ∷ Ipv4Prefix ∷ Ipv6Prefix ∷ EndOfData ∷ CacheReset ∷ RouterKey ∷ ErrorReport ∷ Aspa ∷ []

-- the first of these types that has the number
abbrev first_with : ℕ → List Kind → Option Kind
first_with code [] = None
first_with code (kind ∷ more) = cond (nat_eq code (code_of kind)) (Some kind) (first_with code more)

found_itself : (kind : Kind) → first_with (code_of kind) all_kinds ≡ Some kind
unfolding all_kinds
found_itself SerialNotify = refl
found_itself SerialQuery = refl
found_itself ResetQuery = refl
found_itself CacheResponse = refl
found_itself Ipv4Prefix = refl
found_itself Ipv6Prefix = refl
found_itself EndOfData = refl
found_itself CacheReset = refl
found_itself RouterKey = refl
found_itself ErrorReport = refl
found_itself Aspa = refl

some_same : {k l : Kind} → Some k ≡ Some l → k ≡ l
some_same e = cc

none_some : {k : Kind} → None ≡ Some k → ⊥
none_some e = cc

-- no two types have one number
pub kind_at : (one other : Kind) → code_of one ≡ code_of other → one ≡ other
kind_at one other same = some_same (sym (found_itself one) ∙ ap (λ code. first_with code all_kinds) same ∙ found_itself other)

search_kinds : (code : ℕ) (kinds : List Kind) → ((kind : Kind) × (code ≡ code_of kind)) ⊎ (first_with code kinds ≡ None)
search_kinds code [] = inr refl
search_kinds code (kind ∷ more) = elim (eqb_tells code (code_of kind)) [
  | inl is ↦ inl (kind, is.1)
  | inr other ↦ elim (search_kinds code more) [
    | inl found ↦ inl found
    | inr none ↦ inr (rw other.0 none)
  ]
]

-- a number is that of a type, or of none
pub some_kind : (code : ℕ) → ((kind : Kind) × (code ≡ code_of kind)) ⊎ ((kind : Kind) → code ≢ code_of kind)
some_kind code = elim (search_kinds code all_kinds) [
  | inl found ↦ inl found
  | inr none ↦ inr (λ kind same. none_some (sym none ∙ ap (λ (c : ℕ). first_with c all_kinds) same ∙ found_itself kind))
]

is_or_not : (len other : ℕ) → (len ≡ other) ⊎ (len ≢ other)
is_or_not len other = elim (eqb_tells len other) [ inl is ↦ inl is.1 | inr differs ↦ inr differs.1 ]

at_least_or_not : (least len : ℕ) → (least ≤ len) ⊎ (¬ (least ≤ len))
at_least_or_not least len = elim (leb_tells least len) [ inl is ↦ inl is.1 | inr below ↦ inr (λ (is : least ≤ len). let never : ⊥ = omega (arith, is, below.1) in never) ]

providers_or_not : (len : ℕ) → FitsLength Aspa len ⊎ (¬ FitsLength Aspa len)
providers_or_not len = elim (leb_tells 12 len) [
  | inl long ↦ elim (eqb_tells ((len - 12) % 4) 0) [
    | inl whole ↦ inl (length_of_providers len long.1 whole.1)
    | inr broken ↦ inr (λ (is : FitsLength Aspa len). broken.1 (providers_of_length len is))
  ]
  | inr short ↦ inr (λ (is : FitsLength Aspa len). let never : ⊥ = omega (arith, is.1, short.1) in never)
]

-- a length is allowed for a type, or isn't
pub fits_or_not : (kind : Kind) (len : ℕ) → FitsLength kind len ⊎ (¬ FitsLength kind len)
fits_or_not SerialNotify len = is_or_not len 12
fits_or_not SerialQuery len = is_or_not len 12
fits_or_not ResetQuery len = is_or_not len 8
fits_or_not CacheResponse len = is_or_not len 8
fits_or_not Ipv4Prefix len = is_or_not len 20
fits_or_not Ipv6Prefix len = is_or_not len 32
fits_or_not EndOfData len = is_or_not len 24
fits_or_not CacheReset len = is_or_not len 8
fits_or_not RouterKey len = at_least_or_not 32 len
fits_or_not ErrorReport len = at_least_or_not 16 len
fits_or_not Aspa len = providers_or_not len
