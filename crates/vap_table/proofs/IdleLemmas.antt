-- Changes by hand, and moments, that leave the parts as they are.
use Rattle.std.proofs.Common.{◌≡◌, ℕ, nat_eq, Bool, true, false, cond, not, ◌||◌, ◌&&◌, List, [], ◌∷◌, ◌++◌, Some, None, refl, sym, ap, ◌∙◌, true≢false}
use Rattle.std.specs.declared.option.Option.{Option}
use Rattle.std.specs.List.Sorted.{IsStrictlySortedBy, IsStrictlyIncreasing}
use Rattle.std.specs.Ordering.{nat_cmp}
use Rattle.std.specs.BTreeMap.{is_at}
use Rattle.std.specs.Cmp.{nat_cmp_total, unsigned_tied}
use Rattle.std.specs.FinMap as map
use Rattle.std.proofs.lemmas.Map.Keys.{sorted_from_strictly_increasing}
use Rattle.std.proofs.lemmas.Map.Views.{exact_unsigned_eq}
use Rattle.path_model.specs.Authority.{has}
use Rattle.path_model.specs.Rows.{RowMap, row_or_empty}
use Rattle.attestations.specs.CurrentTable.{Parts}
use Rattle.path_model.proofs.MemberLemmas.{has-append}
use Rattle.vap_table.specs.declared.change.TableChange.TheVariants.{Filter, Unfilter, Assert, Unassert, At}
use Rattle.vap_table.specs.Change.{Alters, without}
use Rattle.vap_table.specs.Counting.{missing}
use Rattle.vap_table.proofs.MemberLemmas.{set_of_members}
use Rattle.vap_table.proofs.NamingLemmas.{has_without}
use Rattle.vap_table.proofs.TallyingLemmas.{has_missing}

among_already : (xs : List ℕ) (x q : ℕ) (b : Bool) → nat_eq x q ≡ b → has xs x ≡ true → has xs q ≡ (b || has xs q)
among_already xs x q true same there = ap (has xs) (sym (exact_unsigned_eq x q same)) ∙ there
among_already xs x q false same there = refl

pub idle_filter : (parts : Parts) (x : ℕ) → IsStrictlySortedBy nat_cmp parts.filters → has parts.filters x ≡ true → Alters parts (Filter x) parts
idle_filter parts x rising there = (parts.filters, set_of_members (x ∷ parts.filters) parts.filters rising (λ q. among_already parts.filters x q (nat_eq x q) refl there), refl)

absent_already : (xs : List ℕ) (x q : ℕ) (b : Bool) → nat_eq x q ≡ b → has xs x ≡ false → has xs q ≡ (not b && has xs q)
absent_already xs x q true same out = ap (has xs) (sym (exact_unsigned_eq x q same)) ∙ out
absent_already xs x q false same out = refl

pub idle_unfilter : (parts : Parts) (x : ℕ) → IsStrictlySortedBy nat_cmp parts.filters → has parts.filters x ≡ false → Alters parts (Unfilter x) parts
idle_unfilter parts x rising out =
    (parts.filters, set_of_members (without x parts.filters) parts.filters rising (λ q. absent_already parts.filters x q (nat_eq x q) refl out ∙ sym (has_without x parts.filters q)), refl)

held_already : (b c : Bool) → (c && not b) ≡ false → b ≡ (b || c)
held_already true c e = refl
held_already false true e = absurd (true≢false e)
held_already false false e = refl

same_at : (m : RowMap) (x q : ℕ) (row : Option (List ℕ)) (b : Bool) → is_at (nat_cmp q) x ≡ b → map.get m x ≡ row → map.get m q ≡ cond b row (map.get m q)
same_at m x q row true same is = ap (map.get m) (exact_unsigned_eq q x (sym (unsigned_tied q x) ∙ same)) ∙ is
same_at m x q row false same is = refl

pub idle_assert : (parts : Parts) (x : ℕ) (list : List ℕ) (row : Option (List ℕ)) (held : List ℕ) → row ≡ Some held → row ≡ map.get parts.assertions x → IsStrictlyIncreasing held → missing row list ≡ []
    → Alters parts (Assert x list) parts
idle_assert parts x list row held some is rising none = (
  parts.assertions,
  record {
    row = held;
    is_set = set_of_members (row_or_empty (map.get parts.assertions x) ++ list) held (sorted_from_strictly_increasing held rising) (λ q.
        held_already (has held q) (has list q) (sym (has_missing (Some held) list q) ∙ ap (λ (o : Option (List ℕ)). has (missing o list) q) (sym some) ∙ ap (λ (xs : List ℕ). has xs q) none)
        ∙ sym (has-append held list q) ∙ ap (λ (o : Option (List ℕ)). has (row_or_empty o ++ list) q) (sym some ∙ is));
    whole = map.same_map nat_cmp_total map.nat_cmp-IsAntisymmetric parts.assertions (map.insert parts.assertions x held)
        (λ q. same_at parts.assertions x q (Some held) (is_at (nat_cmp q) x) refl (sym is ∙ some) ∙ sym (map.get-insert nat_cmp_total parts.assertions x held q));
  },
  refl,
)

pub idle_unassert : (parts : Parts) (x : ℕ) → map.get parts.assertions x ≡ None → Alters parts (Unassert x) parts
idle_unassert parts x none = ap (λ (m : RowMap). record parts { assertions = m }) (map.same_map nat_cmp_total map.nat_cmp-IsAntisymmetric parts.assertions (map.remove parts.assertions x)
    (λ q. same_at parts.assertions x q None (is_at (nat_cmp q) x) refl none ∙ sym (map.get-remove nat_cmp_total parts.assertions x q)))

pub idle_at : (parts : Parts) (moment : ℕ) → parts.moment ≡ moment → Alters parts (At moment) parts
idle_at parts moment same = ap (λ (m : ℕ). record parts { moment = m }) same
