-- Marks as a finite map of the entries that are held.
use Rattle.std.proofs.Common.{◌≡◌, ℕ, Bool, true, cond, ◌⊎◌, inl, inr, List, [], ◌∷◌, length, None, Some, arith, refl, ap, sym, ◌∙◌}
use Rattle.std.specs.declared.cmp.Ordering.{Ordering}
use Rattle.std.specs.declared.option.Option.{Option}
use Rattle.std.specs.BTreeMap.{is_at}
use Rattle.std.specs.Cmp.{Equal-is, eq_by_cmp_equiv}
use Rattle.std.specs.FinMap as fin
use Rattle.std.specs.FinMap.Entries.{by_order}
use Rattle.std.specs.List.Sorted.{IsStrictlySortedBy}
use Rattle.std.specs.Map.{lookup, keys_of}
use Rattle.std.specs.Option.{unwrap_or}
use Rattle.std.specs.Ordering.{eq_by_cmp}
use Rattle.std.proofs.lemmas.Map.Keys.{sorted_head, sorted_tail}
use Rattle.path_model.specs.declared.key.Key.{Key}
use Rattle.path_model.specs.declared.otc.Otc.{Otc}
use Rattle.path_model.specs.declared.otc.Otc.TheVariants.{Absent, As, Malformed}
use Rattle.path_model.specs.Key.{key_cmp}
use Rattle.path_model.specs.Notes.{is_absent}
use Rattle.path_model.specs.Order.{key_total}
use Rattle.path_model.proofs.MapLemmas.{get_entries, one_inserted, one_removed}
use Rattle.path_model.proofs.OrderLemmas.{key_exact}
use Rattle.otc_check.specs.Marks.{Marked, mark_of, marked_at, marks_of}
use Rattle.route_map.specs.Updates.{Gets, Loses}

pub same_key : (q x : Key) → eq_by_cmp key_cmp q x ≡ true → q ≡ x
same_key q x t = key_exact q x ((Equal-is (key_cmp q x)).0 t)

pub key_itself : (q : Key) → eq_by_cmp key_cmp q q ≡ true
key_itself q = (eq_by_cmp_equiv key_total).refl q

pub mark_found : (es : List (Key × Otc)) (key : Key) (found : Option Otc) → found ≡ lookup (is_at (key_cmp key)) es → mark_of (marks_of es) key ≡ unwrap_or found Absent
mark_found es key found is = ap (λ (o : Option Otc). unwrap_or o Absent) (get_entries key_total es key ∙ sym is)

-- an attribute that isn't absent is put there
put_there : (key : Key) (otc : Otc) (marks : Marked) → ((asn : ℕ) × (otc ≡ As asn)) ⊎ (otc ≡ Malformed) → fin.insert marks key otc ≡ marked_at key otc marks
put_there key otc marks (inl is) = sym (ap (λ (o : Otc). cond (is_absent o) (fin.remove marks key) (fin.insert marks key otc)) is.1)
put_there key otc marks (inr is) = sym (ap (λ (o : Otc). cond (is_absent o) (fin.remove marks key) (fin.insert marks key otc)) is)

pub mark_put : (es fs : List (Key × Otc)) (key : Key) (otc : Otc) → ((asn : ℕ) × (otc ≡ As asn)) ⊎ (otc ≡ Malformed) → Gets es key otc fs → marks_of fs ≡ marked_at key otc (marks_of es)
mark_put es fs key otc is gets = one_inserted key_total key_exact es fs key otc gets ∙ put_there key otc (marks_of es) is

pub mark_taken : (es fs : List (Key × Otc)) (key : Key) → Loses es key fs → marks_of fs ≡ fin.remove (marks_of es) key
mark_taken es fs key loses = one_removed key_total key_exact es fs key loses

-- ---- no entries, and no marks

pub no_entries : (es : List (Key × Otc)) → length es ≡ 0 → marks_of es ≡ fin.empty
no_entries [] none = refl
no_entries (e ∷ es) none = absurd (omega (arith, none))

pub no_marks : (es : List (Key × Otc)) → marks_of es ≡ fin.empty → length es ≡ 0
no_marks [] none = refl
no_marks (e ∷ es) none =
    let here : lookup (is_at (key_cmp e.0)) (e ∷ es) ≡ Some e.1 = ap (λ (b : Bool). cond b (Some e.1) (lookup (is_at (key_cmp e.0)) es)) (key_itself e.0) in
    let gone : lookup (is_at (key_cmp e.0)) (e ∷ es) ≡ None = sym (get_entries key_total (e ∷ es) e.0) ∙ ap (λ (m : Marked). fin.get m e.0) none ∙ fin.get-empty key_cmp e.0 in
    absurd cc

-- ---- the entries of the map are those that are held

put_first : (k : Key) (v : Otc) (es : List (Key × Otc)) → IsStrictlySortedBy key_cmp (keys_of ((k, v) ∷ es)) → fin.put key_cmp k v es ≡ (k, v) ∷ es
put_first k v [] sorted = refl
put_first k v (e ∷ es) sorted = ap (λ (o : Ordering). by_order o ((k, v) ∷ e ∷ es) ((e.0, v) ∷ es) (e ∷ fin.put key_cmp k v es)) (sorted_head key_cmp k (keys_of (e ∷ es)) sorted).0

no_length : (es : List (Key × Otc)) → length es ≡ 0 → es ≡ []
no_length [] none = refl
no_length (e ∷ es) none = absurd (omega (arith, none))

pub entries_whole : (es : List (Key × Otc)) → IsStrictlySortedBy key_cmp (keys_of es) → fin.entries (marks_of es) ≡ es
entries_whole [] sorted = no_length (fin.entries (marks_of [])) (sym (fin.len-entries (marks_of [])) ∙ fin.len-empty key_cmp Otc)
entries_whole (e ∷ es) sorted = fin.entries-insert key_total (marks_of es) e.0 e.1
    ∙ ap (fin.put key_cmp e.0 e.1) (entries_whole es (sorted_tail key_cmp e.0 (keys_of es) sorted))
    ∙ put_first e.0 e.1 es sorted
