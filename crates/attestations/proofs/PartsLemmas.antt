-- Any parts have exactly one current table.
use Rattle.std.proofs.Common.{◌≡◌, ◌≢◌, ℕ, nat_eq, Bool, true, false, not, ◌&&◌, ◌||◌, cond, ◌⊎◌, inl, inr, List, [], ◌∷◌, ◌++◌, filter, map, refl, sym, ap, subst, ◌∙◌, arith}
use Rattle.std.specs.declared.option.Option.{Option}
use Rattle.std.specs.declared.option.Option.TheVariants.{Some, None}
use Rattle.std.specs.FinMap as map
use Rattle.std.specs.Ordering.{eq_by_cmp}
use Rattle.std.specs.Cmp.{Equal-is}
use Rattle.std.specs.List.{list_any}
use Rattle.std.proofs.lemmas.Bool.Decides.{nat_tests}
use Rattle.std.proofs.lemmas.Map.Keys.{IsStrictlyIncreasing-from_sorted, sorted_from_strictly_increasing}
use Rattle.path_model.specs.Authority.{has}
use Rattle.path_model.proofs.AscendingLemmas.{ascending_sorted, has_ascending, same_members}
use Rattle.path_model.proofs.MemberLemmas.{has-append, has-nonzero}
use Rattle.attestations.specs.declared.term.Term.{Term}
use Rattle.attestations.specs.Terms.{SetOfTerms, TermMap, term_cmp, members, is_alive, terms_or_none, alive_among, alive_of}
use Rattle.attestations.specs.CurrentTable.{Parts, HasAlive, IsAttested, GoesIn, IsUnion, IsCurrentRow, IsCurrentTable, HasOneTable}
use Rattle.attestations.specs.ComputedTable.{onto, attested, unfiltered, sourced, given, joined, union_of, row_made, table_of}
use Rattle.attestations.proofs.TermLemmas.{term_exact, term_itself}

-- ---- the rows that go in, as a list

abbrev IsAmong : List (List ℕ) → List ℕ → Type 0
IsAmong [] row = ⊥
IsAmong (r ∷ rs) row = (r ≡ row) ⊎ IsAmong rs row

onto_among : (o : Option (List ℕ)) (rows : List (List ℕ)) (row : List ℕ) → (o ≡ Some row) ⊎ IsAmong rows row → IsAmong (onto o rows) row
onto_among None rows row (inl e) = absurd cc
onto_among None rows row (inr among) = among
onto_among (Some r) rows row (inl e) = inl (cc)
onto_among (Some r) rows row (inr among) = inr among

among_onto : (o : Option (List ℕ)) (rows : List (List ℕ)) (row : List ℕ) → IsAmong (onto o rows) row → (o ≡ Some row) ⊎ IsAmong rows row
among_onto None rows row among = inr among
among_onto (Some r) rows row (inl e) = inl (ap Some e)
among_onto (Some r) rows row (inr among) = inr among

append_among : (rows more : List (List ℕ)) (row : List ℕ) → IsAmong rows row ⊎ IsAmong more row → IsAmong (rows ++ more) row
append_among [] more row (inl among) = absurd among
append_among [] more row (inr among) = among
append_among (r ∷ rs) more row (inl (inl e)) = inl e
append_among (r ∷ rs) more row (inl (inr among)) = inr (append_among rs more row (inl among))
append_among (r ∷ rs) more row (inr among) = inr (append_among rs more row (inr among))

later : {A B C : Type 0} → A ⊎ B → (A ⊎ C) ⊎ B
later (inl a) = inl (inl a)
later (inr b) = inr b

among_append_next : (r : List ℕ) (rs more : List (List ℕ)) (row : List ℕ) → (IsAmong (rs ++ more) row → IsAmong rs row ⊎ IsAmong more row) → (r ≡ row) ⊎ IsAmong (rs ++ more) row → IsAmong (r ∷ rs) row ⊎ IsAmong more row
among_append_next r rs more row next (inl e) = inl (inl e)
among_append_next r rs more row next (inr among) = elim (next among) [ inl a ↦ inl (inr a) | inr b ↦ inr b ]

among_append : (rows more : List (List ℕ)) (row : List ℕ) → IsAmong (rows ++ more) row → IsAmong rows row ⊎ IsAmong more row
among_append [] more row among = inr among
among_append (r ∷ rs) more row among = among_append_next r rs more row (among_append rs more row) among

or_left : (b c : Bool) → b ≡ true → (b || c) ≡ true
or_left true c e = refl
or_left false c e = absurd cc

or_right : (b c : Bool) → c ≡ true → (b || c) ≡ true
or_right true c e = refl
or_right false c e = e

-- ---- alive attestations, as a list

abbrev alive_next : (b : Bool) (u : Term) (us : List Term) → List (List ℕ)
alive_next b u us = map {B = List ℕ} (λ (t : Term). t.providers) (cond b (u ∷ us) us)

here_among : (b : Bool) (u : Term) (us : List Term) (row : List ℕ) → b ≡ true → u.providers ≡ row → IsAmong (alive_next b u us) row
here_among true u us row e is = inl is
here_among false u us row e is = absurd cc

there_among : (b : Bool) (u : Term) (us : List Term) (row : List ℕ) → IsAmong (map {B = List ℕ} (λ (t : Term). t.providers) us) row → IsAmong (alive_next b u us) row
there_among true u us row among = inr among
there_among false u us row among = among

alive_is_among : (moment : ℕ) (ts : List Term) (t : Term) → list_any (eq_by_cmp term_cmp t) ts ≡ true → is_alive moment t.until ≡ true → IsAmong (alive_among moment ts) t.providers
alive_is_among moment [] t e alive = absurd cc
alive_is_among moment (u ∷ us) t e alive = by_test (eq_by_cmp term_cmp t u) refl (alive_is_among moment us t) e where
  rest : List Term
  rest = filter (λ (s : Term). is_alive moment s.until) us

  by_test : (b : Bool) → eq_by_cmp term_cmp t u ≡ b → (list_any (eq_by_cmp term_cmp t) us ≡ true → is_alive moment t.until ≡ true → IsAmong (alive_among moment us) t.providers)
      → (b || list_any (eq_by_cmp term_cmp t) us) ≡ true → IsAmong (alive_next (is_alive moment u.until) u rest) t.providers
  by_test true same more e =
      let is : t ≡ u = term_exact t u ((Equal-is (term_cmp t u)).0 same) in
      here_among (is_alive moment u.until) u rest t.providers (ap (λ (s : Term). is_alive moment s.until) (sym is) ∙ alive) (ap (λ (s : Term). s.providers) (sym is))
  by_test false same more e = there_among (is_alive moment u.until) u rest t.providers (more e alive)

abbrev Alive : ℕ → List Term → List ℕ → Type 0
Alive moment ts row = (t : Term) × (list_any (eq_by_cmp term_cmp t) ts ≡ true) × (is_alive moment t.until ≡ true) × (t.providers ≡ row)

later_alive : (moment : ℕ) (u : Term) (us : List Term) (row : List ℕ) → Alive moment us row → Alive moment (u ∷ us) row
later_alive moment u us row (t, has, alive, is) = (t, or_right (eq_by_cmp term_cmp t u) _ has, alive, is)

among_alive_next : (moment : ℕ) (u : Term) (us : List Term) (row : List ℕ) (b : Bool) → is_alive moment u.until ≡ b → (IsAmong (alive_among moment us) row → Alive moment us row)
    → IsAmong (alive_next b u (filter (λ (s : Term). is_alive moment s.until) us)) row → Alive moment (u ∷ us) row
among_alive_next moment u us row true e more (inl is) = (u, or_left (eq_by_cmp term_cmp u u) _ (term_itself u), e, is)
among_alive_next moment u us row true e more (inr among) = later_alive moment u us row (more among)
among_alive_next moment u us row false e more among = later_alive moment u us row (more among)

among_is_alive : (moment : ℕ) (ts : List Term) (row : List ℕ) → IsAmong (alive_among moment ts) row → Alive moment ts row
among_is_alive moment [] row among = absurd among
among_is_alive moment (u ∷ us) row among = among_alive_next moment u us row (is_alive moment u.until) refl (among_is_alive moment us row) among

alive_of_among : (moment : ℕ) (terms : SetOfTerms) (row : List ℕ) → HasAlive moment terms row → IsAmong (alive_among moment (members terms)) row
alive_of_among moment terms row h = subst (IsAmong (alive_among moment (members terms))) h.is_row
    (alive_is_among moment (members terms) h.term (sym (map.contains_key-keys terms h.term) ∙ h.attested) h.alive)

among_alive_of : (moment : ℕ) (terms : SetOfTerms) (row : List ℕ) → IsAmong (alive_among moment (members terms)) row → HasAlive moment terms row
among_alive_of moment terms row among = let h = among_is_alive moment (members terms) row among in
    record { term = h.0; attested = map.contains_key-keys terms h.0 ∙ h.1; alive = h.2; is_row = h.3 }

attested_among : (moment : ℕ) (sources : List (List ℕ × TermMap)) (x : ℕ) (row : List ℕ) → IsAttested moment sources x row → IsAmong (attested moment sources x) row
attested_among moment [] x row is = is
attested_among moment (s ∷ ss) x row (inl e) = append_among (alive_of moment (map.get s.1 x)) (attested moment ss x) row (inl (alive_of_among moment (terms_or_none (map.get s.1 x)) row e))
attested_among moment (s ∷ ss) x row (inr is) = append_among (alive_of moment (map.get s.1 x)) (attested moment ss x) row (inr (attested_among moment ss x row is))

among_attested_next : (moment : ℕ) (s : List ℕ × TermMap) (ss : List (List ℕ × TermMap)) (x : ℕ) (row : List ℕ) → (IsAmong (attested moment ss x) row → IsAttested moment ss x row)
    → IsAmong (alive_of moment (map.get s.1 x)) row ⊎ IsAmong (attested moment ss x) row → IsAttested moment (s ∷ ss) x row
among_attested_next moment s ss x row more (inl e) = inl (among_alive_of moment (terms_or_none (map.get s.1 x)) row e)
among_attested_next moment s ss x row more (inr among) = inr (more among)

among_attested : (moment : ℕ) (sources : List (List ℕ × TermMap)) (x : ℕ) (row : List ℕ) → IsAmong (attested moment sources x) row → IsAttested moment sources x row
among_attested moment [] x row among = among
among_attested moment (s ∷ ss) x row among = among_attested_next moment s ss x row (among_attested moment ss x row) (among_append (alive_of moment (map.get s.1 x)) (attested moment ss x) row among)

unfiltered_among : (b c : Bool) (rows : List (List ℕ)) (row : List ℕ) → b ≡ false → c ≡ false → IsAmong rows row → IsAmong (unfiltered b c rows) row
unfiltered_among true c rows row e f among = absurd cc
unfiltered_among false true rows row e f among = absurd cc
unfiltered_among false false rows row e f among = among

among_unfiltered : (b c : Bool) (rows : List (List ℕ)) (row : List ℕ) → IsAmong (unfiltered b c rows) row → (b ≡ false) × (c ≡ false) × IsAmong rows row
among_unfiltered true c rows row among = absurd among
among_unfiltered false true rows row among = absurd among
among_unfiltered false false rows row among = (refl, refl, among)

goes_among : (parts : Parts) (x : ℕ) (row : List ℕ) → GoesIn parts x row → IsAmong (given parts x) row
goes_among parts x row (inl (e, f, is)) =
    onto_among (map.get parts.slurm_assertions x) (onto (map.get parts.assertions x) (sourced parts x)) row (inr (onto_among (map.get parts.assertions x) (sourced parts x) row
    (inr (unfiltered_among (has parts.slurm_filters x) (has parts.filters x) (attested parts.moment parts.sources x) row e f (attested_among parts.moment parts.sources x row is)))))
goes_among parts x row (inr (inl e)) = onto_among (map.get parts.slurm_assertions x) (onto (map.get parts.assertions x) (sourced parts x)) row (inl e)
goes_among parts x row (inr (inr e)) =
    onto_among (map.get parts.slurm_assertions x) (onto (map.get parts.assertions x) (sourced parts x)) row (inr (onto_among (map.get parts.assertions x) (sourced parts x) row (inl e)))

among_goes_in : (parts : Parts) (x : ℕ) (row : List ℕ) → (map.get parts.assertions x ≡ Some row) ⊎ IsAmong (sourced parts x) row → GoesIn parts x row
among_goes_in parts x row (inl e) = inr (inr e)
among_goes_in parts x row (inr among) =
    let is = among_unfiltered (has parts.slurm_filters x) (has parts.filters x) (attested parts.moment parts.sources x) row among in
    inl (is.0, is.1, among_attested parts.moment parts.sources x row is.2)

among_goes_last : (parts : Parts) (x : ℕ) (row : List ℕ) → (map.get parts.slurm_assertions x ≡ Some row) ⊎ IsAmong (onto (map.get parts.assertions x) (sourced parts x)) row → GoesIn parts x row
among_goes_last parts x row (inl e) = inr (inl e)
among_goes_last parts x row (inr among) = among_goes_in parts x row (among_onto (map.get parts.assertions x) (sourced parts x) row among)

among_goes : (parts : Parts) (x : ℕ) (row : List ℕ) → IsAmong (given parts x) row → GoesIn parts x row
among_goes parts x row among = among_goes_last parts x row (among_onto (map.get parts.slurm_assertions x) (onto (map.get parts.assertions x) (sourced parts x)) row among)

-- ---- their union

or_true : (b c : Bool) → (b || c) ≡ true → (b ≡ true) ⊎ (c ≡ true)
or_true true c e = inl refl
or_true false c e = inr e

and_parts : (b c : Bool) → (b && c) ≡ true → (b ≡ true) × (c ≡ true)
and_parts true c e = (refl, e)
and_parts false c e = absurd cc

and_both : (b c : Bool) → b ≡ true → c ≡ true → (b && c) ≡ true
and_both true c e f = f
and_both false c e f = absurd cc

joined_next : (r : List ℕ) (rs : List (List ℕ)) (y : ℕ) → (has (joined rs) y ≡ true → (row : List ℕ) × IsAmong rs row × (has row y ≡ true)) → (has r y ≡ true) ⊎ (has (joined rs) y ≡ true)
    → (row : List ℕ) × IsAmong (r ∷ rs) row × (has row y ≡ true)
joined_next r rs y more (inl e) = (r, inl refl, e)
joined_next r rs y more (inr e) = let m = more e in (m.0, inr m.1, m.2)

joined_has : (rows : List (List ℕ)) (y : ℕ) → has (joined rows) y ≡ true → (row : List ℕ) × IsAmong rows row × (has row y ≡ true)
joined_has [] y e = absurd cc
joined_has (r ∷ rs) y e = joined_next r rs y (joined_has rs y) (or_true (has r y) (has (joined rs) y) (sym (has-append r (joined rs) y) ∙ e))

has_joined : (rows : List (List ℕ)) (row : List ℕ) (y : ℕ) → IsAmong rows row → has row y ≡ true → has (joined rows) y ≡ true
has_joined [] row y among e = absurd among
has_joined (r ∷ rs) row y (inl same) e = has-append r (joined rs) y ∙ or_left (has r y) (has (joined rs) y) (ap (λ (xs : List ℕ). has xs y) same ∙ e)
has_joined (r ∷ rs) row y (inr among) e = has-append r (joined rs) y ∙ or_right (has r y) (has (joined rs) y) (has_joined rs row y among e)

has_union : (rows : List (List ℕ)) (y : ℕ) → has (union_of rows) y ≡ (has (joined rows) y && not (nat_eq y 0))
has_union rows y = has_ascending (filter (λ z. not (nat_eq z 0)) (joined rows)) y ∙ has-nonzero (joined rows) y

not_zero : (y : ℕ) → not (nat_eq y 0) ≡ true → y ≢ 0
not_zero y e = grind (arith, nat_tests)

zero_not : (y : ℕ) → y ≢ 0 → not (nat_eq y 0) ≡ true
zero_not y e = grind (arith, nat_tests)

union_within : (Goes : List ℕ → Type 0) (rows : List (List ℕ)) → ((row : List ℕ) → IsAmong rows row → Goes row) → (y : ℕ) → has (union_of rows) y ≡ true
    → (y ≢ 0) × ((row : List ℕ) × Goes row × (has row y ≡ true))
union_within Goes rows goes y e =
    let both = and_parts (has (joined rows) y) (not (nat_eq y 0)) (sym (has_union rows y) ∙ e) in
    let some = joined_has rows y both.0 in
    (not_zero y both.1, (some.0, goes some.0 some.1, some.2))

union_is : (Goes : List ℕ → Type 0) (r : List ℕ) (rs : List (List ℕ)) → ((row : List ℕ) → Goes row → IsAmong (r ∷ rs) row) → ((row : List ℕ) → IsAmong (r ∷ rs) row → Goes row) → IsUnion Goes (union_of (r ∷ rs))
union_is Goes r rs among goes = record {
  some = (r, goes r (inl refl));
  ascending = IsStrictlyIncreasing-from_sorted _ (ascending_sorted (filter (λ y. not (nat_eq y 0)) (joined (r ∷ rs))));
  within = union_within Goes (r ∷ rs) goes;
  all = λ y row nonzero is e. has_union (r ∷ rs) y ∙ and_both (has (joined (r ∷ rs)) y) (not (nat_eq y 0)) (has_joined (r ∷ rs) row y (among row is) e) (zero_not y nonzero);
}

current_by : (parts : Parts) (x : ℕ) (rows : List (List ℕ)) → ((row : List ℕ) → GoesIn parts x row → IsAmong rows row) → ((row : List ℕ) → IsAmong rows row → GoesIn parts x row) → IsCurrentRow parts x (row_made rows)
current_by parts x [] among goes = λ row is. among row is
current_by parts x (r ∷ rs) among goes = union_is (GoesIn parts x) r rs among goes

pub table_is_current : (parts : Parts) → IsCurrentTable parts (table_of parts)
table_is_current parts x = current_by parts x (given parts x) (goes_among parts x) (among_goes parts x)

-- ---- two unions of the same rows are one

same_bools : (b c : Bool) → (b ≡ true → c ≡ true) → (c ≡ true → b ≡ true) → b ≡ c
same_bools true true f g = refl
same_bools true false f g = sym (f refl)
same_bools false true f g = g refl
same_bools false false f g = refl

pub one_union : (Goes : List ℕ → Type 0) (one other : List ℕ) → IsUnion Goes one → IsUnion Goes other → one ≡ other
one_union Goes one other a b =
    let over = λ (c d : List ℕ) (u : IsUnion Goes c) (v : IsUnion Goes d) (y : ℕ) (e : has c y ≡ true). let w = u.within y e in v.all y w.1.0 w.0 w.1.1 w.1.2 in
    same_members one other (sorted_from_strictly_increasing one a.ascending) (sorted_from_strictly_increasing other b.ascending)
    (λ y. same_bools (has one y) (has other y) (over one other a b y) (over other one b a y))

pub one_row : (parts : Parts) (x : ℕ) (one other : Option (List ℕ)) → IsCurrentRow parts x one → IsCurrentRow parts x other → one ≡ other
one_row parts x None None a b = refl
one_row parts x None (Some row) a b = absurd (a b.some.0 b.some.1)
one_row parts x (Some row) None a b = absurd (b a.some.0 a.some.1)
one_row parts x (Some row) (Some other) a b = ap Some (one_union (GoesIn parts x) row other a b)

pub parts_have_one_table : (parts : Parts) → HasOneTable parts
parts_have_one_table parts = record {
  table = table_of parts;
  current = table_is_current parts;
  only = λ other is x. one_row parts x (other x) (table_of parts x) (is x) (table_is_current parts x);
}
