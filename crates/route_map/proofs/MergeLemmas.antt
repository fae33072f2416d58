-- The routes of one peer: those without a path identifier in their places among those with one.
use Rattle.std.proofs.Common.{◌≡◌, ◌≢◌, ℕ, Bool, true, false, cond, T, ◌&&◌, ◌+◌, List, [], ◌∷◌, length, None, Some, arith, refl, ap, sym, subst, ◌∙◌, true≢false}
use Rattle.std.specs.Prelude.{is_some}
use Rattle.std.specs.declared.option.Option.{Option}
use Rattle.std.specs.declared.cmp.Ordering.{Ordering}
use Rattle.std.specs.declared.cmp.Ordering.TheVariants.{Less, Equal, Greater}
use Rattle.std.specs.BTreeMap.{insert_entry, is_at}
use Rattle.std.specs.Cmp.{Equal-is, eq_by_cmp_equiv}
use Rattle.std.specs.FinMap as fin
use Rattle.std.specs.FinMap.Entries.{below_all, is_sorted, same_entries}
use Rattle.std.specs.List.{AllByRecursion}
use Rattle.std.specs.List.Sorted.{IsStrictlySortedBy}
use Rattle.std.specs.Map.{keys_of, lookup, remove_entry}
use Rattle.std.specs.Ordering.{match_ordering, is_eq, is_lt}
use Rattle.std.proofs.lemmas.Map.{lookup-none}
use Rattle.std.proofs.lemmas.Map.Keys.{sorted_head, sorted_tail}
use Rattle.path_model.specs.declared.nlri.Nlri.{Nlri}
use Rattle.path_model.specs.Key.{nlri_cmp}
use Rattle.path_model.specs.Order.{nlri_total}
use Rattle.path_model.proofs.MapLemmas.{get_entries}
use Rattle.path_model.proofs.OrderLemmas.{nlri_exact}
use Rattle.route_map.specs.Merged.{identified, merged, plain, AreIdentified, AreTwo}
use Rattle.sorted_map.proofs.BlockLemmas.{all_more, all_inserted, all_removed, of_keys, new_entries, length_inserted, lookup_inserted, lookup_removed, sorted_inserted, sorted_removed}

both_of : (a b : Bool) → T a → T b → T (a && b)
both_of true b p q = q
both_of false b p q = p

-- the one, or else the other
abbrev pub either : {V : Type 0} → Option V → Option V → Option V
either None o = o
either (Some v) o = Some v

-- ---- a prefix without a path identifier, and with one
pub plain_is : (n : Nlri) → n.path ≡ None → plain n.prefix ≡ n
plain_is n is = λ i. record { prefix = n.prefix; path = sym is i }

pub identified_is : (n : Nlri) (path : ℕ) → n.path ≡ Some path → identified n.prefix path ≡ n
identified_is n path is = λ i. record { prefix = n.prefix; path = sym is i }

module _ {V : Type 0} where
  -- ---- two lists in order that have the same at each key are one
  below_test : (x : Nlri) (es : List (Nlri × V)) → AllByRecursion (λ y. nlri_cmp x y ≡ Less) (keys_of es) → T (below_all nlri_cmp x es)
  below_test x [] all = tt
  below_test x (e ∷ es) all = both_of (is_lt (nlri_cmp x e.0)) (below_all nlri_cmp x es) (subst (λ (o : Ordering). T (is_lt o)) (sym all.0) tt) (below_test x es all.1)

  sorted_test : (es : List (Nlri × V)) → IsStrictlySortedBy nlri_cmp (keys_of es) → T (is_sorted nlri_cmp es)
  sorted_test [] sorted = tt
  sorted_test (e ∷ es) sorted = both_of (below_all nlri_cmp e.0 es) (is_sorted nlri_cmp es)
      (below_test e.0 es (sorted_head nlri_cmp e.0 (keys_of es) sorted)) (sorted_test es (sorted_tail nlri_cmp e.0 (keys_of es) sorted))

  found_at_key : (es : List (Nlri × V)) (q : Nlri) → fin.find nlri_cmp q es ≡ lookup (is_at (nlri_cmp q)) es
  found_at_key es q = sym (fin.get-from_entries nlri_total es q) ∙ get_entries nlri_total es q

  one_list : (es fs : List (Nlri × V)) → IsStrictlySortedBy nlri_cmp (keys_of es) → IsStrictlySortedBy nlri_cmp (keys_of fs)
      → ((q : Nlri) → lookup (is_at (nlri_cmp q)) es ≡ lookup (is_at (nlri_cmp q)) fs) → es ≡ fs
  one_list es fs first second same = same_entries nlri_cmp nlri_total nlri_exact es fs (sorted_test es first) (sorted_test fs second)
      (λ q. found_at_key es q ∙ same q ∙ sym (found_at_key fs q))

  -- ---- what is found at a key of both lists
  pub lookup_merged : (q : Nlri) (es fs : List (Nlri × V)) → lookup (is_at (nlri_cmp q)) (merged es fs) ≡ either (lookup (is_at (nlri_cmp q)) es) (lookup (is_at (nlri_cmp q)) fs)
  lookup_merged q [] fs = refl
  lookup_merged q (e ∷ es) fs = lookup_inserted nlri_total e.0 e.1 q (merged es fs)
      ∙ ap (λ (b : Bool). cond b (Some e.1) (lookup (is_at (nlri_cmp q)) (merged es fs))) ((eq_by_cmp_equiv nlri_total).symm e.0 q)
      ∙ ap (cond (is_at (nlri_cmp q) e.0) (Some e.1)) (lookup_merged q es fs)
      ∙ by_case (is_at (nlri_cmp q) e.0) where
        by_case : (b : Bool) → cond b (Some e.1) (either (lookup (is_at (nlri_cmp q)) es) (lookup (is_at (nlri_cmp q)) fs))
            ≡ either (cond b (Some e.1) (lookup (is_at (nlri_cmp q)) es)) (lookup (is_at (nlri_cmp q)) fs)
        by_case true = refl
        by_case false = refl

  sorted_merged : (es fs : List (Nlri × V)) → IsStrictlySortedBy nlri_cmp (keys_of fs) → IsStrictlySortedBy nlri_cmp (keys_of (merged es fs))
  sorted_merged [] fs sorted = sorted
  sorted_merged (e ∷ es) fs sorted = sorted_inserted nlri_total e.0 e.1 (merged es fs) (sorted_merged es fs sorted)

  pub all_merged : (P : Nlri → Type 0) (es fs : List (Nlri × V)) → AllByRecursion (λ e. P e.0) es → AllByRecursion (λ e. P e.0) fs → AllByRecursion (λ e. P e.0) (merged es fs)
  all_merged P [] fs first second = second
  all_merged P (e ∷ es) fs first second = all_inserted (λ e. P e.0) nlri_cmp e.0 e.1 first.0 (λ f p. p) (merged es fs) (all_merged P es fs first.1 second)

  -- ---- a key belongs to one of them
  none_identified : (q : Nlri) (b d : Bool) → is_some q.path ≡ b → (b ≡ d → ⊥) → (es : List (Nlri × V)) → AreIdentified d es → lookup (is_at (nlri_cmp q)) es ≡ None
  none_identified q b d is differ es others = lookup-none (is_at (nlri_cmp q)) es
      (all_more (λ e. is_some e.0.path ≡ d) (λ e. is_at (nlri_cmp q) e.0 ≡ false) (λ e has. by_case e.0 has (is_at (nlri_cmp q) e.0) refl) es others) where
        by_case : (n : Nlri) → is_some n.path ≡ d → (t : Bool) → is_at (nlri_cmp q) n ≡ t → is_at (nlri_cmp q) n ≡ false
        by_case n has false t = t
        by_case n has true t = absurd (differ (sym is ∙ ap (λ (x : Nlri). is_some x.path) (nlri_exact q n ((Equal-is (nlri_cmp q n)).0 t)) ∙ has))

  or_none : (o p : Option V) → p ≡ None → either o p ≡ o
  or_none None p none = none
  or_none (Some v) p none = refl

  module _ (es fs : List (Nlri × V)) (two : AreTwo es fs) where
    no_identified : (q : Nlri) → is_some q.path ≡ false → lookup (is_at (nlri_cmp q)) fs ≡ None
    no_identified q is = none_identified q false true is (λ e. true≢false (sym e)) fs two.identified

    no_plain : (q : Nlri) → is_some q.path ≡ true → lookup (is_at (nlri_cmp q)) es ≡ None
    no_plain q is = none_identified q true false is true≢false es two.plain

    all_sorted : IsStrictlySortedBy nlri_cmp (keys_of (merged es fs))
    all_sorted = sorted_merged es fs two.identified_in_order

    -- ---- look-ups
    lookup_plain : (q : Nlri) → is_some q.path ≡ false → lookup (is_at (nlri_cmp q)) es ≡ lookup (is_at (nlri_cmp q)) (merged es fs)
    lookup_plain q is = sym (lookup_merged q es fs ∙ or_none (lookup (is_at (nlri_cmp q)) es) (lookup (is_at (nlri_cmp q)) fs) (no_identified q is))

    lookup_identified : (q : Nlri) → is_some q.path ≡ true → lookup (is_at (nlri_cmp q)) fs ≡ lookup (is_at (nlri_cmp q)) (merged es fs)
    lookup_identified q is = sym (lookup_merged q es fs ∙ ap (λ (o : Option V). either o (lookup (is_at (nlri_cmp q)) fs)) (no_plain q is))

    -- a key that is equal to another is of its kind
    same_kind : (k q : Nlri) (b : Bool) → is_some k.path ≡ b → is_at (nlri_cmp k) q ≡ true → is_some q.path ≡ b
    same_kind k q b is same = ap (λ (x : Nlri). is_some x.path) (sym (nlri_exact k q ((Equal-is (nlri_cmp k q)).0 same))) ∙ is

    -- what is at a key where one list has something else at one key
    first_changed : (k q : Nlri) (now : Option V) → is_some k.path ≡ false
        → either (cond (is_at (nlri_cmp k) q) now (lookup (is_at (nlri_cmp q)) es)) (lookup (is_at (nlri_cmp q)) fs) ≡ cond (is_at (nlri_cmp k) q) now (lookup (is_at (nlri_cmp q)) (merged es fs))
    first_changed k q now is = by_case (is_at (nlri_cmp k) q) refl where
      by_case : (b : Bool) → is_at (nlri_cmp k) q ≡ b → either (cond b now (lookup (is_at (nlri_cmp q)) es)) (lookup (is_at (nlri_cmp q)) fs) ≡ cond b now (lookup (is_at (nlri_cmp q)) (merged es fs))
      by_case true same = or_none now (lookup (is_at (nlri_cmp q)) fs) (no_identified q (same_kind k q false is same))
      by_case false other = sym (lookup_merged q es fs)

    second_changed : (k q : Nlri) (now : Option V) → is_some k.path ≡ true
        → either (lookup (is_at (nlri_cmp q)) es) (cond (is_at (nlri_cmp k) q) now (lookup (is_at (nlri_cmp q)) fs)) ≡ cond (is_at (nlri_cmp k) q) now (lookup (is_at (nlri_cmp q)) (merged es fs))
    second_changed k q now is = by_case (is_at (nlri_cmp k) q) refl where
      by_case : (b : Bool) → is_at (nlri_cmp k) q ≡ b → either (lookup (is_at (nlri_cmp q)) es) (cond b now (lookup (is_at (nlri_cmp q)) fs)) ≡ cond b now (lookup (is_at (nlri_cmp q)) (merged es fs))
      by_case true same = ap (λ (o : Option V). either o now) (no_plain q (same_kind k q true is same))
      by_case false other = sym (lookup_merged q es fs)

    -- ---- a route without an identifier
    module _ (s k : Nlri) (same : s ≡ k) (is : is_some k.path ≡ false) where
      pub found_plain : lookup (is_at (nlri_cmp s)) es ≡ lookup (is_at (nlri_cmp k)) (merged es fs)
      found_plain = ap (λ (x : Nlri). lookup (is_at (nlri_cmp x)) es) same ∙ lookup_plain k is

      pub two_with_plain : (v : V) → AreTwo (insert_entry nlri_cmp es s v) fs
      two_with_plain v = record {
        plain = all_inserted (λ e. is_some e.0.path ≡ false) nlri_cmp s v (ap (λ (x : Nlri). is_some x.path) same ∙ is) (λ e p. p) es two.plain;
        identified = two.identified;
        plain_in_order = sorted_inserted nlri_total s v es two.plain_in_order;
        identified_in_order = two.identified_in_order;
      }

      pub insert_plain : (v : V) → merged (insert_entry nlri_cmp es s v) fs ≡ insert_entry nlri_cmp (merged es fs) k v
      insert_plain v = ap (λ (x : Nlri). merged (insert_entry nlri_cmp es x v) fs) same
          ∙ one_list (merged (insert_entry nlri_cmp es k v) fs) (insert_entry nlri_cmp (merged es fs) k v)
          (sorted_merged (insert_entry nlri_cmp es k v) fs two.identified_in_order) (sorted_inserted nlri_total k v (merged es fs) all_sorted)
          (λ q. lookup_merged q (insert_entry nlri_cmp es k v) fs
          ∙ ap (λ (o : Option V). either o (lookup (is_at (nlri_cmp q)) fs)) (lookup_inserted nlri_total k v q es)
          ∙ first_changed k q (Some v) is
          ∙ sym (lookup_inserted nlri_total k v q (merged es fs)))

      pub two_without_plain : AreTwo (remove_entry (is_at (nlri_cmp s)) es) fs
      two_without_plain = record {
        plain = all_removed (λ e. is_some e.0.path ≡ false) (is_at (nlri_cmp s)) es two.plain;
        identified = two.identified;
        plain_in_order = sorted_removed nlri_cmp (is_at (nlri_cmp s)) es two.plain_in_order;
        identified_in_order = two.identified_in_order;
      }

      pub remove_plain : merged (remove_entry (is_at (nlri_cmp s)) es) fs ≡ remove_entry (is_at (nlri_cmp k)) (merged es fs)
      remove_plain = ap (λ (x : Nlri). merged (remove_entry (is_at (nlri_cmp x)) es) fs) same
          ∙ one_list (merged (remove_entry (is_at (nlri_cmp k)) es) fs) (remove_entry (is_at (nlri_cmp k)) (merged es fs))
          (sorted_merged (remove_entry (is_at (nlri_cmp k)) es) fs two.identified_in_order) (sorted_removed nlri_cmp (is_at (nlri_cmp k)) (merged es fs) all_sorted)
          (λ q. lookup_merged q (remove_entry (is_at (nlri_cmp k)) es) fs
          ∙ ap (λ (o : Option V). either o (lookup (is_at (nlri_cmp q)) fs)) (lookup_removed nlri_total k q es two.plain_in_order)
          ∙ first_changed k q None is
          ∙ sym (lookup_removed nlri_total k q (merged es fs) all_sorted))

    -- ---- a route with one
    module _ (s k : Nlri) (same : s ≡ k) (is : is_some k.path ≡ true) where
      pub found_identified : lookup (is_at (nlri_cmp s)) fs ≡ lookup (is_at (nlri_cmp k)) (merged es fs)
      found_identified = ap (λ (x : Nlri). lookup (is_at (nlri_cmp x)) fs) same ∙ lookup_identified k is

      pub two_with_identified : (v : V) → AreTwo es (insert_entry nlri_cmp fs s v)
      two_with_identified v = record {
        plain = two.plain;
        identified = all_inserted (λ e. is_some e.0.path ≡ true) nlri_cmp s v (ap (λ (x : Nlri). is_some x.path) same ∙ is) (λ e p. p) fs two.identified;
        plain_in_order = two.plain_in_order;
        identified_in_order = sorted_inserted nlri_total s v fs two.identified_in_order;
      }

      pub insert_identified : (v : V) → merged es (insert_entry nlri_cmp fs s v) ≡ insert_entry nlri_cmp (merged es fs) k v
      insert_identified v = ap (λ (x : Nlri). merged es (insert_entry nlri_cmp fs x v)) same
          ∙ one_list (merged es (insert_entry nlri_cmp fs k v)) (insert_entry nlri_cmp (merged es fs) k v)
          (sorted_merged es (insert_entry nlri_cmp fs k v) (sorted_inserted nlri_total k v fs two.identified_in_order)) (sorted_inserted nlri_total k v (merged es fs) all_sorted)
          (λ q. lookup_merged q es (insert_entry nlri_cmp fs k v)
          ∙ ap (either (lookup (is_at (nlri_cmp q)) es)) (lookup_inserted nlri_total k v q fs)
          ∙ second_changed k q (Some v) is
          ∙ sym (lookup_inserted nlri_total k v q (merged es fs)))

      pub two_without_identified : AreTwo es (remove_entry (is_at (nlri_cmp s)) fs)
      two_without_identified = record {
        plain = two.plain;
        identified = all_removed (λ e. is_some e.0.path ≡ true) (is_at (nlri_cmp s)) fs two.identified;
        plain_in_order = two.plain_in_order;
        identified_in_order = sorted_removed nlri_cmp (is_at (nlri_cmp s)) fs two.identified_in_order;
      }

      pub remove_identified : merged es (remove_entry (is_at (nlri_cmp s)) fs) ≡ remove_entry (is_at (nlri_cmp k)) (merged es fs)
      remove_identified = ap (λ (x : Nlri). merged es (remove_entry (is_at (nlri_cmp x)) fs)) same
          ∙ one_list (merged es (remove_entry (is_at (nlri_cmp k)) fs)) (remove_entry (is_at (nlri_cmp k)) (merged es fs))
          (sorted_merged es (remove_entry (is_at (nlri_cmp k)) fs) (sorted_removed nlri_cmp (is_at (nlri_cmp k)) fs two.identified_in_order)) (sorted_removed nlri_cmp (is_at (nlri_cmp k)) (merged es fs) all_sorted)
          (λ q. lookup_merged q es (remove_entry (is_at (nlri_cmp k)) fs)
          ∙ ap (either (lookup (is_at (nlri_cmp q)) es)) (lookup_removed nlri_total k q fs two.identified_in_order)
          ∙ second_changed k q None is
          ∙ sym (lookup_removed nlri_total k q (merged es fs) all_sorted))

  -- ---- whether there are any
  -- ---- as many as both
  pub length_merged : (es fs : List (Nlri × V)) → AreTwo es fs → length (merged es fs) ≡ length es + length fs
  length_merged [] fs two = omega arith
  length_merged (e ∷ es) fs two =
      let rest : AreTwo es fs = record {
        plain = two.plain.1;
        identified = two.identified;
        plain_in_order = sorted_tail nlri_cmp e.0 (keys_of es) two.plain_in_order;
        identified_in_order = two.identified_in_order;
      } in
      let here : lookup (is_at (nlri_cmp e.0)) es ≡ None = lookup-none (is_at (nlri_cmp e.0)) es
      (all_more (λ f. nlri_cmp e.0 f.0 ≡ Less) (λ f. is_at (nlri_cmp e.0) f.0 ≡ false) (λ f. ap is_eq) es (of_keys (λ y. nlri_cmp e.0 y ≡ Less) es (sorted_head nlri_cmp e.0 (keys_of es) two.plain_in_order))) in
      let none : lookup (is_at (nlri_cmp e.0)) (merged es fs) ≡ None = lookup_merged e.0 es fs ∙ ap (λ (o : Option V). either o (lookup (is_at (nlri_cmp e.0)) fs)) here ∙ no_identified es fs rest e.0 two.plain.0 in
      let one : new_entries (lookup (is_at (nlri_cmp e.0)) (merged es fs)) ≡ 1 = ap (λ (o : Option V). new_entries o) none in
      omega (arith, one, length_inserted nlri_total e.0 e.1 (merged es fs) (all_sorted es fs rest), length_merged es fs rest)

  pub two_nothing : AreTwo {V = V} [] []
  unfolding IsStrictlySortedBy
  two_nothing = record { plain = tt; identified = tt; plain_in_order = tt; identified_in_order = tt }

  inserted_some : (k : Nlri) (v : V) (es : List (Nlri × V)) → insert_entry nlri_cmp es k v ≢ []
  inserted_some k v [] e = cc
  inserted_some k v (x ∷ es) e = by_order (nlri_cmp k x.0) e where
    by_order : (o : Ordering) → match_ordering o ((k, v) ∷ x ∷ es) ((x.0, v) ∷ es) (x ∷ insert_entry nlri_cmp es k v) ≢ []
    by_order Less e = cc
    by_order Equal e = cc
    by_order Greater e = cc

  pub plain_is_empty : (es fs : List (Nlri × V)) → merged es fs ≡ [] → es ≡ []
  plain_is_empty [] fs none = refl
  plain_is_empty (e ∷ es) fs none = absurd (inserted_some e.0 e.1 (merged es fs) none)

  pub both_are_empty : (es fs : List (Nlri × V)) → es ≡ [] → fs ≡ [] → merged es fs ≡ []
  both_are_empty es fs first second = ap (λ (xs : List (Nlri × V)). merged xs fs) first ∙ second

  pub identified_is_empty : (es fs : List (Nlri × V)) → es ≡ [] → merged es fs ≡ [] → fs ≡ []
  identified_is_empty es fs first none = ap (λ (xs : List (Nlri × V)). merged xs fs) (sym first) ∙ none
