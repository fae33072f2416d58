-- How the names keep to the cases.
use Rattle.std.proofs.Common.{◌≡◌, ◌≢◌, ℕ, Bool, true, false, cond, List, [], None, Some, refl, ap, sym, subst, ◌∙◌, ◌⊎◌, inl, inr}
use Rattle.std.specs.BTreeMap.{is_at}
use Rattle.std.specs.Cmp.{nat_cmp_total, nat_eq_equiv}
use Rattle.std.specs.FinMap.{FinMap, empty, get, get-empty, insert, remove, get-insert, get-remove}
use Rattle.std.specs.Map.{lookup}
use Rattle.std.specs.Ordering.{nat_cmp}
use Rattle.std.specs.declared.option.Option.{Option}
use Rattle.path_model.specs.Trail.{Path}
use Rattle.shared_cases.specs.declared.case.StoredCase.{StoredCase}
use Rattle.shared_cases.specs.declared.case_name.CaseName.{CaseName}
use Rattle.shared_cases.specs.declared.names.Names.{Names}
use Rattle.shared_cases.specs.Cases.{Slots, at, Rewrites, IsStoredAs, IsAbsent}
use Rattle.shared_cases.specs.Names.{name_of, name_cmp, word_of}
use Rattle.shared_cases.specs.Naming.{worded, twinned, AddsFirst, AddsName, AddsTwin, AreNamed, HasWord, IsNamed, RemovesFirst, RemovesName, RemovesTwin, SetsTwin, SetsWord}
use Rattle.shared_cases.proofs.NameLemmas.{apart_names, at_itself, decide_name, equal_names}
use Rattle.shared_cases.proofs.NumberLemmas.{decide_eq, nat_eq-other, some_inj, this_at}

-- the same AS and path, or both nothing
abbrev pub IsSameName : Option StoredCase → Option StoredCase → Type 0
IsSameName None None = Unit {0}
IsSameName None (Some d) = ⊥
IsSameName (Some c) None = ⊥
IsSameName (Some c) (Some d) = (c.asn ≡ d.asn) × (c.trail ≡ d.trail)

pub same_name-refl : (c : Option StoredCase) → IsSameName c c
same_name-refl None = tt
same_name-refl (Some c) = (refl, refl)

stored_forth : (c d : Option StoredCase) (asn : ℕ) (path : Path) → IsSameName c d → IsStoredAs c asn path → IsStoredAs d asn path
stored_forth None None asn path same stored = stored
stored_forth None (Some d) asn path same stored = absurd stored
stored_forth (Some c) None asn path same stored = absurd same
stored_forth (Some c) (Some d) asn path same stored = (sym same.0 ∙ stored.0, sym same.1 ∙ stored.1)

stored_back : (c d : Option StoredCase) (asn : ℕ) (path : Path) → IsSameName c d → IsStoredAs d asn path → IsStoredAs c asn path
stored_back None None asn path same stored = stored
stored_back None (Some d) asn path same stored = absurd same
stored_back (Some c) None asn path same stored = absurd stored
stored_back (Some c) (Some d) asn path same stored = (same.0 ∙ stored.0, same.1 ∙ stored.1)

stored_name : (c : Option StoredCase) (d : StoredCase) (asn : ℕ) (path : Path) → c ≡ Some d → IsStoredAs c asn path → name_of d.asn d.trail ≡ name_of asn path
stored_name c d asn path e stored =
    let known : IsStoredAs (Some d) asn path = subst (λ (o : Option StoredCase). IsStoredAs o asn path) e stored in
    equal_names d.asn asn d.trail path known.0 known.1

as_named : (c : Option StoredCase) (d : StoredCase) (asn : ℕ) (path : Path) → c ≡ Some d → name_of d.asn d.trail ≡ name_of asn path → IsStoredAs c asn path
as_named c d asn path e same =
    subst (λ (o : Option StoredCase). IsStoredAs o asn path) (sym e) (ap (λ (q : CaseName). q.asn) same, ap (λ (q : CaseName). q.trail) same)

-- ---- one entry

-- a name that is set among the twins
pub twin_set : (before after : List (CaseName × ℕ)) (name : CaseName) (value : Option ℕ) → name ≡ name_of name.asn name.trail
    → ((q : CaseName) → lookup (is_at (name_cmp q)) after ≡ cond (is_at (name_cmp name) q) value (lookup (is_at (name_cmp q)) before)) → SetsTwin before after name.asn name.trail value
twin_set before after name value is updates = record {
  here = updates (name_of name.asn name.trail) ∙ ap (λ (k : CaseName). cond (is_at (name_cmp k) (name_of name.asn name.trail)) value (twinned before name.asn name.trail)) is
      ∙ ap (λ (b : Bool). cond b value (twinned before name.asn name.trail)) (at_itself (name_of name.asn name.trail));
  others = λ a p other. updates (name_of a p) ∙ ap (λ (b : Bool). cond b value (twinned before a p)) (apart_names name (name_of a p) (λ e. other (sym e ∙ is)));
}

-- a word is found at itself alone
same_at_word : (word : ℕ) → is_at (nat_cmp word) word ≡ true
same_at_word word = this_at word word ∙ nat_eq_equiv.refl word

other_at_word : (w word : ℕ) → w ≢ word → is_at (nat_cmp w) word ≡ false
other_at_word w word other = this_at w word ∙ nat_eq-other word w (λ e. other (sym e))

-- a word that gets a number, and one that has none from now on
pub word_set : (words : FinMap nat_cmp ℕ) (word number : ℕ) → SetsWord words (insert words word number) word (Some number)
word_set words word number = record {
  here = get-insert nat_cmp_total words word number word ∙ ap (λ (b : Bool). cond b (Some number) (get words word)) (same_at_word word);
  others = λ w other. get-insert nat_cmp_total words word number w ∙ ap (λ (b : Bool). cond b (Some number) (get words w)) (other_at_word w word other);
}

pub word_freed : (words : FinMap nat_cmp ℕ) (word : ℕ) → SetsWord words (remove words word) word None
word_freed words word = record {
  here = get-remove nat_cmp_total words word word ∙ ap (λ (b : Bool). cond b None (get words word)) (same_at_word word);
  others = λ w other. get-remove nat_cmp_total words word w ∙ ap (λ (b : Bool). cond b None (get words w)) (other_at_word w word other);
}

-- ---- names that stay

same_word : (c d : Option StoredCase) (word : ℕ) → IsSameName c d → HasWord c word → HasWord d word
same_word None None word same has_it = has_it
same_word None (Some d) word same has_it = absurd same
same_word (Some c) None word same has_it = absurd same
same_word (Some c) (Some d) word same has_it = ap (λ (q : CaseName). word_of q.asn q.trail) (equal_names d.asn c.asn d.trail c.trail (sym same.0) (sym same.1)) ∙ has_it

pub names_stay : (old new : Slots) (names : Names) → ((m : ℕ) → IsSameName (at old m) (at new m)) → AreNamed old names → AreNamed new names
names_stay old new names same kept = record {
  named = λ n asn path stored. kept.named n asn path (stored_back (at old n) (at new n) asn path (same n) stored);
  by_word = λ n word got. same_word (at old n) (at new n) word (same n) (kept.by_word n word got);
  by_twin = λ n asn path got. stored_forth (at old n) (at new n) asn path (same n) (kept.by_twin n asn path got);
  apart = kept.apart;
  distinct = λ m n asn path one other. kept.distinct m n asn path (stored_back (at old m) (at new m) asn path (same m) one) (stored_back (at old n) (at new n) asn path (same n) other);
}

-- the same with another name for the same pair
named_as : (names : Names) (a b : ℕ) (p q : Path) (n : ℕ) → name_of a p ≡ name_of b q → IsNamed names a p n → IsNamed names b q n
named_as names a b p q n e named = subst (λ (name : CaseName). IsNamed names name.asn name.trail n) e named

twinned_as : (twins : List (CaseName × ℕ)) (a b : ℕ) (p q : Path) → name_of a p ≡ name_of b q → twinned twins a p ≡ twinned twins b q
twinned_as twins a b p q e = ap (λ (name : CaseName). twinned twins name.asn name.trail) e

word_as : (a b : ℕ) (p q : Path) → name_of a p ≡ name_of b q → word_of a p ≡ word_of b q
word_as a b p q e = ap (λ (name : CaseName). word_of name.asn name.trail) e

none_some : {A : Type 0} (n : ℕ) (o : Option ℕ) → o ≡ None → o ≡ Some n → A
none_some n o is_none is_some = absurd (cc)

stored_word : (c : Option StoredCase) (asn : ℕ) (path : Path) → IsStoredAs c asn path → HasWord c (word_of asn path)
stored_word None asn path stored = stored
stored_word (Some c) asn path stored = word_as c.asn asn c.trail path (equal_names c.asn asn c.trail path stored.0 stored.1)

-- no names of no cases
pub none_named : (names : Names) → names.words ≡ empty → names.twins.entries ≡ [] → AreNamed [] names
none_named names no_words no_twins = record {
  named = λ n asn path stored. absurd stored;
  by_word = λ n word got. none_some n (worded names.words word) (ap (λ (words : FinMap nat_cmp ℕ). worded words word) no_words ∙ get-empty nat_cmp word) got;
  by_twin = λ n asn path got. none_some n (twinned names.twins.entries asn path) (ap (λ (twins : List (CaseName × ℕ)). twinned twins asn path) no_twins) got;
  apart = λ n asn path got. none_some n (twinned names.twins.entries asn path) (ap (λ (twins : List (CaseName × ℕ)). twinned twins asn path) no_twins) got;
  distinct = λ m n asn path one other. absurd one;
}

module _ (old new : Slots) (names names' : Names) (n : ℕ) (c : StoredCase) (kept : AreNamed old names) where
  abbrev w : ℕ
  w = word_of c.asn c.trail

  -- ---- the case c comes under n
  module _ (vacant : at old n ≡ None) (writes : Rewrites old new n (Some c)) (absent : IsAbsent old c.asn c.trail) where
    -- a case that was there has another number, and stands
    old_other : (m asn : ℕ) (path : Path) → IsStoredAs (at old m) asn path → m ≢ n
    old_other m asn path stored e = subst (λ (o : Option StoredCase). IsStoredAs o asn path) (ap (at old) e ∙ vacant) stored

    old_stands : (m asn : ℕ) (path : Path) → IsStoredAs (at old m) asn path → IsStoredAs (at new m) asn path
    old_stands m asn path stored = subst (λ (o : Option StoredCase). IsStoredAs o asn path) (sym (writes.others m (old_other m asn path stored))) stored

    -- and another name
    old_name : (m asn : ℕ) (path : Path) → IsStoredAs (at old m) asn path → name_of asn path ≢ name_of c.asn c.trail
    old_name m asn path stored e = absent m (subst (λ (q : CaseName). IsStoredAs (at old m) q.asn q.trail) e stored)

    word_other : (m word : ℕ) → HasWord (at old m) word → m ≢ n
    word_other m word has_it e = subst (λ (o : Option StoredCase). HasWord o word) (ap (at old) e ∙ vacant) has_it

    word_stands : (m word : ℕ) → HasWord (at old m) word → HasWord (at new m) word
    word_stands m word has_it = subst (λ (o : Option StoredCase). HasWord o word) (sym (writes.others m (word_other m word has_it))) has_it

    here_stored : IsStoredAs (at new n) c.asn c.trail
    here_stored = as_named (at new n) c c.asn c.trail writes.here refl

    here_name : (m asn : ℕ) (path : Path) → m ≡ n → IsStoredAs (at new m) asn path → name_of c.asn c.trail ≡ name_of asn path
    here_name m asn path e stored = stored_name (at new n) c asn path writes.here (subst (λ (k : ℕ). IsStoredAs (at new k) asn path) e stored)

    was_stored : (m asn : ℕ) (path : Path) → m ≢ n → IsStoredAs (at new m) asn path → IsStoredAs (at old m) asn path
    was_stored m asn path other stored = subst (λ (o : Option StoredCase). IsStoredAs o asn path) (writes.others m other) stored

    distinct_come : (m k asn : ℕ) (path : Path) → IsStoredAs (at new m) asn path → IsStoredAs (at new k) asn path → (m ≡ n) ⊎ (m ≢ n) → (k ≡ n) ⊎ (k ≢ n) → m ≡ k
    distinct_come m k asn path one other (inl e) (inl f) = e ∙ sym f
    distinct_come m k asn path one other (inl e) (inr g) = absurd (old_name k asn path (was_stored k asn path g other) (sym (here_name m asn path e one)))
    distinct_come m k asn path one other (inr d) (inl f) = absurd (old_name m asn path (was_stored m asn path d one) (sym (here_name k asn path f other)))
    distinct_come m k asn path one other (inr d) (inr g) = kept.distinct m k asn path (was_stored m asn path d one) (was_stored k asn path g other)

    -- its word was free
    module _ (adds : AddsFirst names c.asn c.trail n names') where
      first_word : (m word : ℕ) → worded names'.words word ≡ Some m → (word ≡ w) ⊎ (word ≢ w) → ((word ≡ w) × (m ≡ n)) ⊎ (worded names.words word ≡ Some m)
      first_word m word got (inl e) = inl (e, some_inj m n (sym got ∙ ap (worded names'.words) e ∙ adds.sets.here))
      first_word m word got (inr other) = inr (sym (adds.sets.others word other) ∙ got)

      first_stays : (m asn : ℕ) (path : Path) → IsNamed names asn path m → (word_of asn path ≡ w) ⊎ (word_of asn path ≢ w) → IsNamed names' asn path m
      first_stays m asn path (inl got) (inl e) = none_some m (worded names.words w) adds.free (ap (worded names.words) (sym e) ∙ got)
      first_stays m asn path (inl got) (inr other) = inl (adds.sets.others (word_of asn path) other ∙ got)
      first_stays m asn path (inr got) same = inr (adds.twins asn path ∙ got)

      first_named : (m asn : ℕ) (path : Path) → IsStoredAs (at new m) asn path → (m ≡ n) ⊎ (m ≢ n) → IsNamed names' asn path m
      first_named m asn path stored (inl e) = subst (λ (k : ℕ). IsNamed names' asn path k) (sym e)
          (named_as names' c.asn asn c.trail path n (here_name m asn path e stored) (inl adds.sets.here))
      first_named m asn path stored (inr other) = first_stays m asn path (kept.named m asn path (was_stored m asn path other stored)) (decide_eq (word_of asn path) w)

      first_by_word : (m word : ℕ) → ((word ≡ w) × (m ≡ n)) ⊎ (worded names.words word ≡ Some m) → HasWord (at new m) word
      first_by_word m word (inl here) = subst (λ (k : ℕ). HasWord (at new k) word) (sym here.1) (subst (λ (o : Option StoredCase). HasWord o word) (sym writes.here) (sym here.0))
      first_by_word m word (inr was) = word_stands m word (kept.by_word m word was)

      first_apart : (m asn : ℕ) (path : Path) → twinned names.twins.entries asn path ≡ Some m → ((word_of asn path ≡ w) × (m ≡ n)) ⊎ (worded names.words (word_of asn path) ≡ Some m) → ⊥
      first_apart m asn path got (inl here) = old_other m asn path (kept.by_twin m asn path got) here.1
      first_apart m asn path got (inr was) = kept.apart m asn path got was

      first_come : AreNamed new names'
      first_come = record {
        named = λ m asn path stored. first_named m asn path stored (decide_eq m n);
        by_word = λ m word got. first_by_word m word (first_word m word got (decide_eq word w));
        by_twin = λ m asn path got. old_stands m asn path (kept.by_twin m asn path (sym (adds.twins asn path) ∙ got));
        apart = λ m asn path got at_word. first_apart m asn path (sym (adds.twins asn path) ∙ got) (first_word m (word_of asn path) at_word (decide_eq (word_of asn path) w));
        distinct = λ m k asn path one other. distinct_come m k asn path one other (decide_eq m n) (decide_eq k n);
      }

    -- or another case has it
    module _ (adds : AddsTwin names c.asn c.trail n names') where
      twin_name : (m asn : ℕ) (path : Path) → twinned names'.twins.entries asn path ≡ Some m → (name_of asn path ≡ name_of c.asn c.trail) ⊎ (name_of asn path ≢ name_of c.asn c.trail)
          → ((name_of asn path ≡ name_of c.asn c.trail) × (m ≡ n)) ⊎ (twinned names.twins.entries asn path ≡ Some m)
      twin_name m asn path got (inl e) = inl (e, some_inj m n (sym got ∙ twinned_as names'.twins.entries asn c.asn path c.trail e ∙ adds.sets.here))
      twin_name m asn path got (inr other) = inr (sym (adds.sets.others asn path other) ∙ got)

      twin_stays : (m asn : ℕ) (path : Path) → IsNamed names asn path m → IsNamed names' asn path m
      twin_stays m asn path (inl got) = inl (adds.words (word_of asn path) ∙ got)
      twin_stays m asn path (inr got) = inr (adds.sets.others asn path (old_name m asn path (kept.by_twin m asn path got)) ∙ got)

      twin_named : (m asn : ℕ) (path : Path) → IsStoredAs (at new m) asn path → (m ≡ n) ⊎ (m ≢ n) → IsNamed names' asn path m
      twin_named m asn path stored (inl e) = subst (λ (k : ℕ). IsNamed names' asn path k) (sym e)
          (named_as names' c.asn asn c.trail path n (here_name m asn path e stored) (inr adds.sets.here))
      twin_named m asn path stored (inr other) = twin_stays m asn path (kept.named m asn path (was_stored m asn path other stored))

      twin_by_twin : (m asn : ℕ) (path : Path) → ((name_of asn path ≡ name_of c.asn c.trail) × (m ≡ n)) ⊎ (twinned names.twins.entries asn path ≡ Some m) → IsStoredAs (at new m) asn path
      twin_by_twin m asn path (inl here) = subst (λ (k : ℕ). IsStoredAs (at new k) asn path) (sym here.1)
          (subst (λ (q : CaseName). IsStoredAs (at new n) q.asn q.trail) (sym here.0) here_stored)
      twin_by_twin m asn path (inr was) = old_stands m asn path (kept.by_twin m asn path was)

      twin_apart : (m asn : ℕ) (path : Path) → ((name_of asn path ≡ name_of c.asn c.trail) × (m ≡ n)) ⊎ (twinned names.twins.entries asn path ≡ Some m)
          → worded names.words (word_of asn path) ≡ Some m → ⊥
      twin_apart m asn path (inl here) at_word = word_other m (word_of asn path) (kept.by_word m (word_of asn path) at_word) here.1
      twin_apart m asn path (inr was) at_word = kept.apart m asn path was at_word

      twin_come : AreNamed new names'
      twin_come = record {
        named = λ m asn path stored. twin_named m asn path stored (decide_eq m n);
        by_word = λ m word got. word_stands m word (kept.by_word m word (sym (adds.words word) ∙ got));
        by_twin = λ m asn path got. twin_by_twin m asn path (twin_name m asn path got (decide_name (name_of asn path) (name_of c.asn c.trail)));
        apart = λ m asn path got at_word. twin_apart m asn path (twin_name m asn path got (decide_name (name_of asn path) (name_of c.asn c.trail))) (sym (adds.words (word_of asn path)) ∙ at_word);
        distinct = λ m k asn path one other. distinct_come m k asn path one other (decide_eq m n) (decide_eq k n);
      }

  pub name_come : at old n ≡ None → Rewrites old new n (Some c) → IsAbsent old c.asn c.trail → AddsName names c.asn c.trail n names' → AreNamed new names'
  name_come vacant writes absent (inl adds) = first_come vacant writes absent adds
  name_come vacant writes absent (inr adds) = twin_come vacant writes absent adds

  -- ---- the case under n goes
  module _ (here : at old n ≡ Some c) (writes : Rewrites old new n None) where
    -- a case that stands has another number, and was there
    left_other : (m asn : ℕ) (path : Path) → IsStoredAs (at new m) asn path → m ≢ n
    left_other m asn path stored e = subst (λ (o : Option StoredCase). IsStoredAs o asn path) (ap (at new) e ∙ writes.here) stored

    was_there : (m asn : ℕ) (path : Path) → IsStoredAs (at new m) asn path → IsStoredAs (at old m) asn path
    was_there m asn path stored = subst (λ (o : Option StoredCase). IsStoredAs o asn path) (writes.others m (left_other m asn path stored)) stored

    is_left : (m asn : ℕ) (path : Path) → IsStoredAs (at old m) asn path → m ≢ n → IsStoredAs (at new m) asn path
    is_left m asn path stored other = subst (λ (o : Option StoredCase). IsStoredAs o asn path) (sym (writes.others m other)) stored

    word_left : (m word : ℕ) → HasWord (at old m) word → m ≢ n → HasWord (at new m) word
    word_left m word has_it other = subst (λ (o : Option StoredCase). HasWord o word) (sym (writes.others m other)) has_it

    gone_stored : IsStoredAs (at old n) c.asn c.trail
    gone_stored = as_named (at old n) c c.asn c.trail here refl

    -- the case that goes has its own name and its own word alone
    gone_name : (m asn : ℕ) (path : Path) → IsStoredAs (at old m) asn path → m ≡ n → name_of asn path ≡ name_of c.asn c.trail
    gone_name m asn path stored e = sym (stored_name (at old n) c asn path here (subst (λ (k : ℕ). IsStoredAs (at old k) asn path) e stored))

    gone_word : (m word : ℕ) → HasWord (at old m) word → m ≡ n → word ≡ w
    gone_word m word has_it e = sym (subst (λ (o : Option StoredCase). HasWord o word) (ap (at old) e ∙ here) has_it)

    same_gone : (m asn : ℕ) (path : Path) → IsStoredAs (at old m) asn path → name_of asn path ≡ name_of c.asn c.trail → m ≡ n
    same_gone m asn path stored e = kept.distinct m n c.asn c.trail (subst (λ (q : CaseName). IsStoredAs (at old m) q.asn q.trail) e stored) gone_stored

    distinct_left : (m k asn : ℕ) (path : Path) → IsStoredAs (at new m) asn path → IsStoredAs (at new k) asn path → m ≡ k
    distinct_left m k asn path one other = kept.distinct m k asn path (was_there m asn path one) (was_there k asn path other)

    -- it had its word
    module _ (removes : RemovesFirst names c.asn c.trail n names') where
      was_word : (m word : ℕ) → worded names'.words word ≡ Some m → (word ≡ w) ⊎ (word ≢ w) → (worded names.words word ≡ Some m) × (word ≢ w)
      was_word m word got (inl e) = none_some m (worded names'.words w) removes.sets.here (ap (worded names'.words) (sym e) ∙ got)
      was_word m word got (inr other) = (sym (removes.sets.others word other) ∙ got, other)

      left_named : (m asn : ℕ) (path : Path) → m ≢ n → IsNamed names asn path m → (word_of asn path ≡ w) ⊎ (word_of asn path ≢ w) → IsNamed names' asn path m
      left_named m asn path other (inl got) (inl e) = absurd (other (some_inj m n (sym got ∙ ap (worded names.words) e ∙ removes.held)))
      left_named m asn path other (inl got) (inr apart) = inl (removes.sets.others (word_of asn path) apart ∙ got)
      left_named m asn path other (inr got) same = inr (removes.twins asn path ∙ got)

      twin_left : (m asn : ℕ) (path : Path) → twinned names.twins.entries asn path ≡ Some m → m ≢ n
      twin_left m asn path got e =
          let same : name_of asn path ≡ name_of c.asn c.trail = gone_name m asn path (kept.by_twin m asn path got) e in
          kept.apart n c.asn c.trail (sym (twinned_as names.twins.entries asn c.asn path c.trail same) ∙ got ∙ ap Some e) removes.held

      first_gone : AreNamed new names'
      first_gone = record {
        named = λ m asn path stored. left_named m asn path (left_other m asn path stored) (kept.named m asn path (was_there m asn path stored)) (decide_eq (word_of asn path) w);
        by_word = λ m word got.
            let was = was_word m word got (decide_eq word w) in
            word_left m word (kept.by_word m word was.0) (λ e. was.1 (gone_word m word (kept.by_word m word was.0) e));
        by_twin = λ m asn path got.
            let was : twinned names.twins.entries asn path ≡ Some m = sym (removes.twins asn path) ∙ got in
            is_left m asn path (kept.by_twin m asn path was) (twin_left m asn path was);
        apart = λ m asn path got at_word. kept.apart m asn path (sym (removes.twins asn path) ∙ got) (was_word m (word_of asn path) at_word (decide_eq (word_of asn path) w)).0;
        distinct = distinct_left;
      }

    -- or was a twin
    module _ (removes : RemovesTwin names c.asn c.trail n names') where
      was_twin : (m asn : ℕ) (path : Path) → twinned names'.twins.entries asn path ≡ Some m → (name_of asn path ≡ name_of c.asn c.trail) ⊎ (name_of asn path ≢ name_of c.asn c.trail)
          → (twinned names.twins.entries asn path ≡ Some m) × (name_of asn path ≢ name_of c.asn c.trail)
      was_twin m asn path got (inl e) = none_some m (twinned names'.twins.entries c.asn c.trail) removes.sets.here (sym (twinned_as names'.twins.entries asn c.asn path c.trail e) ∙ got)
      was_twin m asn path got (inr other) = (sym (removes.sets.others asn path other) ∙ got, other)

      still_named : (m asn : ℕ) (path : Path) → m ≢ n → IsNamed names asn path m → IsNamed names' asn path m
      still_named m asn path other (inl got) = inl (removes.words (word_of asn path) ∙ got)
      still_named m asn path other (inr got) = inr (removes.sets.others asn path (λ e. other (same_gone m asn path (kept.by_twin m asn path got) e)) ∙ got)

      word_kept : (m word : ℕ) → worded names.words word ≡ Some m → m ≢ n
      word_kept m word got e = removes.other (ap (worded names.words) (sym (gone_word m word (kept.by_word m word got) e)) ∙ got ∙ ap Some e)

      twin_gone : AreNamed new names'
      twin_gone = record {
        named = λ m asn path stored. still_named m asn path (left_other m asn path stored) (kept.named m asn path (was_there m asn path stored));
        by_word = λ m word got.
            let was : worded names.words word ≡ Some m = sym (removes.words word) ∙ got in
            word_left m word (kept.by_word m word was) (word_kept m word was);
        by_twin = λ m asn path got.
            let was = was_twin m asn path got (decide_name (name_of asn path) (name_of c.asn c.trail)) in
            is_left m asn path (kept.by_twin m asn path was.0) (λ e. was.1 (gone_name m asn path (kept.by_twin m asn path was.0) e));
        apart = λ m asn path got at_word. kept.apart m asn path (was_twin m asn path got (decide_name (name_of asn path) (name_of c.asn c.trail))).0 (sym (removes.words (word_of asn path)) ∙ at_word);
        distinct = distinct_left;
      }

  pub name_gone : at old n ≡ Some c → Rewrites old new n None → RemovesName names c.asn c.trail n names' → AreNamed new names'
  name_gone here writes (inl removes) = first_gone here writes removes
  name_gone here writes (inr removes) = twin_gone here writes removes
