-- Attestations that are compared, customer by customer.
use Rattle.std.proofs.Common.{◌≡◌, ◌⊎◌, inl, inr, ℕ, nat_eq, Bool, true, false, cond, ◌||◌, List, [], ◌∷◌, Some, None, refl, sym, ap, subst, ◌∙◌, is_some, true≢false}
use Rattle.std.specs.declared.option.Option.{Option}
use Rattle.std.specs.List.{list_any}
use Rattle.std.specs.Option.{option_map}
use Rattle.std.specs.Ordering.{nat_cmp, eq_by_cmp}
use Rattle.std.specs.Cmp.{nat_eq_equiv, unsigned_tied}
use Rattle.std.specs.BTreeMap.{is_at}
use Rattle.std.specs.Map.{lookup}
use Rattle.std.specs.FinMap as map
use Rattle.std.proofs.lemmas.Bool.{or_from, or_parts}
use Rattle.std.proofs.lemmas.Map.Views.{exact_unsigned_eq}
use Rattle.path_model.specs.Authority.{has}
use Rattle.path_model.specs.Rows.{PatchMap}
use Rattle.attestations.specs.declared.term.Term.{Term}
use Rattle.attestations.specs.Terms.{SetOfTerms, TermMap, lasting, members, terms_or_none}
use Rattle.attestations.proofs.TermLemmas.{members_empty, members_only, set_of_members}
use Rattle.vap_table.specs.declared.change.TableChange.TheVariants.{Replace, Patch}
use Rattle.vap_table.specs.Change.{terms_in, given_terms, patched_terms}
use Rattle.vap_table.specs.Comparing.{lists_of, IsLeft, IsLeftOrLasting, HaveSameLasts, NeverEnd}
use Rattle.vap_table.specs.Lasts.{all_terms, is_last, lasts_among}
use Rattle.vap_table.specs.Naming.{NamesLasts}
use Rattle.vap_table.specs.Sources.{list_of}
use Rattle.attestations.specs.CurrentTable.{Parts}
use Rattle.vap_table.proofs.LastsLemmas.{same_lasts}

-- ---- attestations without an end

unended : (moment : ℕ) (until : Option ℕ) → is_some until ≡ false → is_last moment until ≡ false
unended moment None none = refl
unended moment (Some end) none = absurd (true≢false none)

pub none_ends : (terms : List Term) → list_any (λ t. is_some t.until) terms ≡ false → NeverEnd terms
none_ends [] none moment = refl
none_ends (t ∷ ts) none moment = or_from (is_last moment t.until) (lasts_among ts moment)
    (unended moment t.until (or_parts (is_some t.until) (list_any (λ t'. is_some t'.until) ts) none).0)
    (none_ends ts (or_parts (is_some t.until) (list_any (λ t'. is_some t'.until) ts) none).1 moment)

-- ---- a loop over entries: what is said of each customer that isn't named

abbrev Said : Type 1
Said = ℕ → Option (List Term) → Type 0

-- what holds of the entries that are left holds of all
abbrev pub Saying : Said → List ℕ → (ℕ → Option (List Term)) → List (ℕ × List Term) → List ℕ → Type 0
Saying P first whole left names = (q : ℕ) → has names q ≡ false → P q (map.find nat_cmp q left) → (has first q ≡ false) × P q (whole q)

pub saying_start : (P : Said) (first : List ℕ) (whole : ℕ → Option (List Term)) (left : List (ℕ × List Term)) → ((q : ℕ) → map.find nat_cmp q left ≡ whole q) → Saying P first whole left first
saying_start P first whole left same q out is = (out, subst (λ (o : Option (List Term)). P q o) (same q) is)

itself : (x q : ℕ) → eq_by_cmp nat_cmp q x ≡ true → x ≡ q
itself x q t = sym (exact_unsigned_eq q x (sym (unsigned_tied q x) ∙ t))

pub saying_next : (P : Said) (first : List ℕ) (whole : ℕ → Option (List Term)) (left : List (ℕ × List Term)) (names now : List ℕ) (x : ℕ) (list : List Term)
    → ((q : ℕ) → has now q ≡ false → (has names q ≡ false) × (nat_eq x q ≡ true → P q (Some list))) → Saying P first whole ((x, list) ∷ left) names → Saying P first whole left now
saying_next P first whole left names now x list added so_far q out is = so_far q (added q out).0 (by_case (eq_by_cmp nat_cmp q x) refl) where
  by_case : (b : Bool) → eq_by_cmp nat_cmp q x ≡ b → P q (cond b (Some list) (map.find nat_cmp q left))
  by_case true t = (added q out).1 (subst (λ (k : ℕ). nat_eq x k ≡ true) (itself x q t) (nat_eq_equiv.refl x))
  by_case false t = is

-- what is said of the customer that is added, by what the others have of it
pub added_at : (P : Option (List Term) → Option SetOfTerms → Type 0) (others : TermMap) (names now : List ℕ) (x : ℕ) (list : List Term) (other : Option SetOfTerms) → other ≡ map.get others x
    → ((q : ℕ) → has now q ≡ false → (has names q ≡ false) × (nat_eq x q ≡ true → P (Some list) other))
    → (q : ℕ) → has now q ≡ false → (has names q ≡ false) × (nat_eq x q ≡ true → P (Some list) (map.get others q))
added_at P others names now x list other is added q out = (
  (added q out).0,
  λ e. subst (λ (k : ℕ). P (Some list) (map.get others k)) (exact_unsigned_eq x q e) (subst (λ (o : Option SetOfTerms). P (Some list) o) is ((added q out).1 e)),
)

-- ---- compared in both directions

left_in_full : (one other : Option SetOfTerms) → IsLeft (option_map members one) other → is_some one ≡ true → other ≡ one
left_in_full None other is some = absurd (true≢false (sym some))
left_in_full (Some terms) other is some = is ∙ ap Some (set_of_members terms)

both_left : (one other : Option SetOfTerms) → IsLeft (option_map members one) other → IsLeft (option_map members other) one → one ≡ other
both_left None None here there = refl
both_left None (Some terms) here there = left_in_full (Some terms) None there refl
both_left (Some terms) other here there = sym (left_in_full (Some terms) other here refl)

pub same_in_both : (first mid last : List ℕ) (one other : TermMap) → ((q : ℕ) → has mid q ≡ false → (has first q ≡ false) × IsLeft (lists_of one q) (map.get other q))
    → ((q : ℕ) → has last q ≡ false → (has mid q ≡ false) × IsLeft (lists_of other q) (map.get one q)) → (q : ℕ) → has last q ≡ false → map.get one q ≡ map.get other q
same_in_both first mid last one other here there q out = both_left (map.get one q) (map.get other q) (here q (there q out).0).1 (there q out).1

abbrev of_one : Option SetOfTerms → List Term
of_one terms = members (terms_or_none terms)

-- what is left or never ends has the last moments of the other, or none
lasts_of_left : (one other : Option SetOfTerms) → IsLeftOrLasting (option_map members one) other → (other ≡ one) ⊎ NeverEnd (of_one one)
lasts_of_left None other is = inr (λ m. ap (λ (ts : List Term). lasts_among ts m) members_empty)
lasts_of_left (Some terms) other (inl same) = inl (same ∙ ap Some (set_of_members terms))
lasts_of_left (Some terms) other (inr never) = inr never

both_lasts : (one other : Option SetOfTerms) → (other ≡ one) ⊎ NeverEnd (of_one one) → (one ≡ other) ⊎ NeverEnd (of_one other) → HaveSameLasts (of_one one) (of_one other)
both_lasts one other (inl same) there m = ap (λ (o : Option SetOfTerms). lasts_among (of_one o) m) (sym same)
both_lasts one other (inr never) (inl same) m = ap (λ (o : Option SetOfTerms). lasts_among (of_one o) m) same
both_lasts one other (inr never) (inr none) m = never m ∙ sym (none m)

pub same_lasts_in_both : (first mid last : List ℕ) (one other : TermMap) → ((q : ℕ) → has mid q ≡ false → (has first q ≡ false) × IsLeftOrLasting (lists_of one q) (map.get other q))
    → ((q : ℕ) → has last q ≡ false → (has mid q ≡ false) × IsLeftOrLasting (lists_of other q) (map.get one q)) → (q : ℕ) → has last q ≡ false → HaveSameLasts (list_of one q) (list_of other q)
same_lasts_in_both first mid last one other here there q out = both_lasts (map.get one q) (map.get other q)
    (lasts_of_left (map.get one q) (map.get other q) (here q (there q out).0).1) (lasts_of_left (map.get other q) (map.get one q) (there q out).1)

-- ---- each change

pub lasts_of_replace : (old : Parts) (name : List ℕ) (terms : TermMap) (names : List ℕ) → ((q : ℕ) → has names q ≡ false → HaveSameLasts (list_of (terms_in old.sources name) q) (list_of terms q)) → NamesLasts old (Replace name terms) names
lasts_of_replace old name terms names same new is x out m = ap (λ (parts : Parts). lasts_among (all_terms parts.sources x) m) is ∙ same_lasts m x old.sources name terms (same x out m)

given_never_ends : (given : Option (List ℕ)) → NeverEnd (of_one (given_terms given))
given_never_ends None m = ap (λ (ts : List Term). lasts_among ts m) members_empty
given_never_ends (Some row) m = ap (λ (ts : List Term). lasts_among ts m) (members_only (lasting row))

patched_lasts : (given : Option (Option (List ℕ))) (own : Option SetOfTerms) → (is_some given ≡ true → NeverEnd (of_one own)) → HaveSameLasts (of_one own) (of_one (patched_terms given own))
patched_lasts None own never m = refl
patched_lasts (Some given) own never m = never refl m ∙ sym (given_never_ends given m)

pub lasts_of_patch : (old : Parts) (name : List ℕ) (patch : PatchMap) (names : List ℕ) → ((q : ℕ) → has names q ≡ false → is_some (map.get patch q) ≡ true → NeverEnd (list_of (terms_in old.sources name) q)) → NamesLasts old (Patch name patch) names
lasts_of_patch old name patch names never new (terms, patched, is) x out m = ap (λ (parts : Parts). lasts_among (all_terms parts.sources x) m) is
    ∙ same_lasts m x old.sources name terms (patched_lasts (map.get patch x) (map.get (terms_in old.sources name) x) (never x out) m ∙ ap (λ (o : Option SetOfTerms). lasts_among (of_one o) m) (sym (patched.each x)))

-- ---- the customers of a patch

abbrev pub Sparing : (ℕ → Bool) → TermMap → List (ℕ × Option (List ℕ)) → List ℕ → Type 0
Sparing said terms left names = (q : ℕ) → has names q ≡ false → said q ≡ true → (is_some (lookup (is_at (nat_cmp q)) left) ≡ true) ⊎ NeverEnd (list_of terms q)

pub sparing_start : (patch : PatchMap) (terms : TermMap) (left : List (ℕ × Option (List ℕ))) (names : List ℕ) → ((q : ℕ) → lookup (is_at (nat_cmp q)) left ≡ map.get patch q) → Sparing (λ q. is_some (map.get patch q)) terms left names
sparing_start patch terms left names same q out said = inl (ap is_some (same q) ∙ said)

pub sparing_next : (said : ℕ → Bool) (terms : TermMap) (left : List (ℕ × Option (List ℕ))) (names now : List ℕ) (x : ℕ) (given : Option (List ℕ)) → ((q : ℕ) → has now q ≡ false → (has names q ≡ false) × (nat_eq x q ≡ true → NeverEnd (list_of terms x)))
    → Sparing said terms ((x, given) ∷ left) names → Sparing said terms left now
sparing_next said terms left names now x given added so_far q out there = by_case (is_at (nat_cmp q) x) refl (so_far q (added q out).0 there) where
  by_case : (b : Bool) → is_at (nat_cmp q) x ≡ b → (is_some (cond b (Some given) (lookup (is_at (nat_cmp q)) left)) ≡ true) ⊎ NeverEnd (list_of terms q) → (is_some (lookup (is_at (nat_cmp q)) left) ≡ true) ⊎ NeverEnd (list_of terms q)
  by_case true t is = inr (subst (λ (k : ℕ). NeverEnd (list_of terms k)) (itself x q t) ((added q out).1 (subst (λ (k : ℕ). nat_eq x k ≡ true) (itself x q t) (nat_eq_equiv.refl x))))
  by_case false t is = is

pub sparing_end : (said : ℕ → Bool) (terms : TermMap) (names : List ℕ) → Sparing said terms [] names → (q : ℕ) → has names q ≡ false → said q ≡ true → NeverEnd (list_of terms q)
sparing_end said terms names so_far q out there = by_case (so_far q out there) where
  by_case : (false ≡ true) ⊎ NeverEnd (list_of terms q) → NeverEnd (list_of terms q)
  by_case (inl no') = absurd (true≢false (sym no'))
  by_case (inr never) = never

none_more : (b : Bool) → b ≡ (b || false)
none_more true = refl
none_more false = refl

-- where no entry is left all are named
pub all_named : {X : Type 0} (names : List ℕ) (left : List (ℕ × X)) (q : ℕ) → left ≡ [] → has names q ≡ (has names q || is_some (lookup (is_at (nat_cmp q)) left))
all_named {X} names left q none = none_more (has names q) ∙ ap (λ (entries : List (ℕ × X)). has names q || is_some (lookup (is_at (nat_cmp q)) entries)) (sym none)
