-- Sources at their places.
use Rattle.std.proofs.Common.{◌≡◌, ℕ, suc, ◌<◌, zero, Bool, true, false, cond, nat_eq, nat_cmp, List, [], ◌∷◌, ◌++◌, length, Some, None, slice_get, slice_set, slice_index_or, option_map, arith, true≢false, refl, sym, ap, ◌∙◌}
use Rattle.std.specs.declared.option.Option.{Option}
use Rattle.std.specs.BTreeMap.{is_at}
use Rattle.std.specs.Map.{lookup}
use Rattle.std.specs.Cmp.Lexicographic.{pointwise, slice_cmp, same_text, texts_ties, nat_list_eq_equiv}
use Rattle.attestations.specs.Terms.{TermMap}
use Rattle.vap_table.specs.Change.{with_source}
use Rattle.vap_table.specs.Sources.{first_row, list_of, position_of, row_of_one, ArePlaces}

abbrev Source : Type 0
Source = List ℕ × TermMap

-- the place in a list of which the first fits, or else the place in the rest
abbrev place_at : Bool → Option ℕ → Option ℕ
place_at b rest = cond b (Some 0) (option_map suc rest)

-- ---- a name that has a place

within_at : (b : Bool) (rest : Option ℕ) (n i : ℕ) → ((j : ℕ) → rest ≡ Some j → j < n) → place_at b rest ≡ Some i → i < suc n
within_at true rest n i more e = let there : 0 ≡ i = cc in omega arith
within_at false None n i more e = absurd cc
within_at false (Some j) n i more e = let there : suc j ≡ i = cc in let below : j < n = more j refl in omega arith

pub place_within : (sources : List Source) (name : List ℕ) (i : ℕ) → position_of sources name ≡ Some i → i < length sources
place_within [] name i e = absurd cc
place_within (s ∷ ss) name i e = within_at (pointwise nat_eq name s.0) (position_of ss name) (length ss) i (place_within ss name) e

abbrev terms_at : List Source → ℕ → Option TermMap
terms_at sources i = option_map (λ (s : Source). s.1) (slice_get sources i)

found_at : (b : Bool) (rest : Option ℕ) (s : Source) (ss : List Source) (found : Option TermMap) (i : ℕ) → ((j : ℕ) → rest ≡ Some j → found ≡ terms_at ss j)
    → place_at b rest ≡ Some i → cond b (Some s.1) found ≡ terms_at (s ∷ ss) i
found_at true rest s ss found i more e = let there : 0 ≡ i = cc in ap (terms_at (s ∷ ss)) there
found_at false None s ss found i more e = absurd cc
found_at false (Some j) s ss found i more e = let there : suc j ≡ i = cc in more j refl ∙ ap (terms_at (s ∷ ss)) there

-- there stand the attestations that a look-up finds
pub found_there : (sources : List Source) (name : List ℕ) (i : ℕ) → position_of sources name ≡ Some i → lookup (pointwise nat_eq name) sources ≡ terms_at sources i
found_there [] name i e = absurd cc
found_there (s ∷ ss) name i e = found_at (pointwise nat_eq name s.0) (position_of ss name) s ss (lookup (pointwise nat_eq name) ss) i (found_there ss name) e

read_at : (sources : List Source) (i : ℕ) (s : Source) → i < length sources → s ≡ slice_index_or sources i s → terms_at sources i ≡ Some s.1
read_at [] i s within is = absurd (omega arith)
read_at (t ∷ ts) zero s within is = ap (λ (u : Source). Some u.1) (sym is)
read_at (t ∷ ts) (suc i) s within is = read_at ts i s (omega arith) is

-- the same, where the source there was taken out
pub taken_there : (sources : List Source) (name : List ℕ) (i : ℕ) (s : Source) → position_of sources name ≡ Some i → s ≡ slice_index_or sources i s → Some s.1 ≡ lookup (pointwise nat_eq name) sources
taken_there sources name i s e is = sym (found_there sources name i e ∙ read_at sources i s (place_within sources name i e) is)

put_at : (b : Bool) (rest : Option ℕ) (s : Source) (ss after : List Source) (name : List ℕ) (terms : TermMap) (i : ℕ) → (b ≡ true → name ≡ s.0)
    → ((j : ℕ) → rest ≡ Some j → slice_set ss j (name, terms) ≡ after) → place_at b rest ≡ Some i → slice_set (s ∷ ss) i (name, terms) ≡ cond b ((s.0, terms) ∷ ss) (s ∷ after)
put_at true rest s ss after name terms i same more e =
    let there : 0 ≡ i = cc in ap (λ (k : ℕ). slice_set (s ∷ ss) k (name, terms)) (sym there) ∙ ap (λ (n : List ℕ). (n, terms) ∷ ss) (same refl)
put_at false None s ss after name terms i same more e = absurd cc
put_at false (Some j) s ss after name terms i same more e =
    let there : suc j ≡ i = cc in ap (λ (k : ℕ). slice_set (s ∷ ss) k (name, terms)) (sym there) ∙ ap (λ (l : List Source). s ∷ l) (more j refl)

-- other attestations are put there
pub put_there : (sources : List Source) (name : List ℕ) (terms : TermMap) (i : ℕ) → position_of sources name ≡ Some i → slice_set sources i (name, terms) ≡ with_source sources name terms
put_there [] name terms i e = absurd cc
put_there (s ∷ ss) name terms i e =
    put_at (pointwise nat_eq name s.0) (position_of ss name) s ss (with_source ss name terms) name terms i (λ b. same_text name s.0 (sym b)) (put_there ss name terms) e

stays_at : (b : Bool) (rest : Option ℕ) (s : Source) (ss after : List Source) (terms : TermMap) (i : ℕ) (q : List ℕ) → ((j : ℕ) → rest ≡ Some j → position_of after q ≡ position_of ss q)
    → place_at b rest ≡ Some i → position_of (cond b ((s.0, terms) ∷ ss) (s ∷ after)) q ≡ position_of (s ∷ ss) q
stays_at true rest s ss after terms i q more e = refl
stays_at false None s ss after terms i q more e = absurd cc
stays_at false (Some j) s ss after terms i q more e = ap (place_at (pointwise nat_eq q s.0)) (more j refl)

-- each name's place stays
place_stays : (sources : List Source) (name : List ℕ) (terms : TermMap) (i : ℕ) (q : List ℕ) → position_of sources name ≡ Some i → position_of (with_source sources name terms) q ≡ position_of sources q
place_stays [] name terms i q e = absurd cc
place_stays (s ∷ ss) name terms i q e =
    stays_at (pointwise nat_eq name s.0) (position_of ss name) s ss (with_source ss name terms) terms i q (λ j f. place_stays ss name terms j q f) e

pub places_stay : (sources : List Source) (places : List (List ℕ × ℕ)) (name : List ℕ) (terms : TermMap) (i : ℕ) → position_of sources name ≡ Some i → ArePlaces sources places
    → ArePlaces (slice_set sources i (name, terms)) places
places_stay sources places name terms i e are = record {
  each = λ q. are.each q ∙ sym (place_stays sources name terms i q e) ∙ ap (λ (l : List Source). position_of l q) (sym (put_there sources name terms i e));
}

-- ---- a name that has none

none_here : (b : Bool) (rest : Option ℕ) → place_at b rest ≡ None → b ≡ false
none_here true rest e = absurd cc
none_here false rest e = refl

none_in_rest : (b : Bool) (rest : Option ℕ) → place_at b rest ≡ None → rest ≡ None
none_in_rest true rest e = absurd cc
none_in_rest false None e = refl
none_in_rest false (Some j) e = absurd cc

none_found : (b : Bool) (terms : TermMap) (found : Option TermMap) → b ≡ false → found ≡ None → cond b (Some terms) found ≡ None
none_found true terms found apart e = absurd cc
none_found false terms found apart e = e

-- nothing is found
pub not_found : (sources : List Source) (name : List ℕ) → position_of sources name ≡ None → lookup (pointwise nat_eq name) sources ≡ None
not_found [] name e = refl
not_found (s ∷ ss) name e =
    let here : Bool = pointwise nat_eq name s.0 in
    none_found here s.1 (lookup (pointwise nat_eq name) ss) (none_here here (position_of ss name) e) (not_found ss name (none_in_rest here (position_of ss name) e))

last_at : (b : Bool) (s : Source) (ss after grown : List Source) (terms : TermMap) → b ≡ false → after ≡ grown → cond b ((s.0, terms) ∷ ss) (s ∷ after) ≡ s ∷ grown
last_at true s ss after grown terms apart e = absurd cc
last_at false s ss after grown terms apart e = ap (λ (l : List Source). s ∷ l) e

-- its source comes behind the others
pub comes_last : (sources : List Source) (name : List ℕ) (terms : TermMap) → position_of sources name ≡ None → with_source sources name terms ≡ sources ++ (name, terms) ∷ []
comes_last [] name terms e = refl
comes_last (s ∷ ss) name terms e =
    let here : Bool = pointwise nat_eq name s.0 in
    last_at here s ss (with_source ss name terms) (ss ++ (name, terms) ∷ []) terms (none_here here (position_of ss name) e) (comes_last ss name terms (none_in_rest here (position_of ss name) e))

added_at : (a b : Bool) (n : ℕ) (rest grown : Option ℕ) → (a ≡ true → b ≡ false) → grown ≡ cond a (Some n) rest → place_at b grown ≡ cond a (Some (suc n)) (place_at b rest)
added_at true true n rest grown apart e = absurd (true≢false (apart refl))
added_at true false n rest grown apart e = ap (option_map suc) e
added_at false b n rest grown apart e = ap (place_at b) e

place_added : (sources : List Source) (name : List ℕ) (terms : TermMap) (q : List ℕ) → position_of sources name ≡ None
    → position_of (sources ++ (name, terms) ∷ []) q ≡ cond (pointwise nat_eq q name) (Some (length sources)) (position_of sources q)
place_added [] name terms q e = refl
place_added (s ∷ ss) name terms q e =
    let here : Bool = pointwise nat_eq name s.0 in
    added_at (pointwise nat_eq q name) (pointwise nat_eq q s.0) (length ss) (position_of ss q) (position_of (ss ++ (name, terms) ∷ []) q)
    (λ same. nat_list_eq_equiv.congr q name s.0 same ∙ none_here here (position_of ss name) e) (place_added ss name terms q (none_in_rest here (position_of ss name) e))

-- a name's entry is found by itself
at_name : (name q : List ℕ) → is_at (slice_cmp nat_cmp name) q ≡ pointwise nat_eq q name
at_name name q = sym (texts_ties name q) ∙ nat_list_eq_equiv.symm name q

abbrev among : List (List ℕ × ℕ) → List ℕ → Option ℕ
among places q = lookup (is_at (slice_cmp nat_cmp q)) places

-- its place is the one behind the others
pub places_added : (sources : List Source) (places new : List (List ℕ × ℕ)) (name : List ℕ) (terms : TermMap) (n : ℕ) → position_of sources name ≡ None → n ≡ length sources
    → ((q : List ℕ) → among new q ≡ cond (is_at (slice_cmp nat_cmp name) q) (Some n) (among places q)) → ArePlaces sources places → ArePlaces (sources ++ (name, terms) ∷ []) new
places_added sources places new name terms n e counted updates are = record {
  each = λ q. updates q ∙ ap (λ (b : Bool). cond b (Some n) (among places q)) (at_name name q)
      ∙ ap (λ (m : ℕ). cond (pointwise nat_eq q name) (Some m) (among places q)) counted
      ∙ ap (λ (o : Option ℕ). cond (pointwise nat_eq q name) (Some (length sources)) o) (are.each q)
      ∙ sym (place_added sources name terms q e);
}

-- ---- the first source

pub first_of_some : (moment : ℕ) (sources : List Source) (s : Source) (x : ℕ) → slice_get sources 0 ≡ Some s → first_row moment sources x ≡ row_of_one moment (list_of s.1 x)
first_of_some moment [] s x e = absurd cc
first_of_some moment (t ∷ ts) s x e = let same : t ≡ s = cc in ap (λ (u : Source). row_of_one moment (list_of u.1 x)) same

pub first_of_none : (moment : ℕ) (sources : List Source) (x : ℕ) → slice_get sources 0 ≡ None → first_row moment sources x ≡ None
first_of_none moment [] x e = refl
first_of_none moment (t ∷ ts) x e = absurd cc

pub no_places : ArePlaces [] []
no_places = record { each = λ q. refl }
