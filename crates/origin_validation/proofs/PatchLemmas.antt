-- Changes of a source's payloads: what they make of a set, and what they leave of the states that are held.
use Rattle.std.proofs.Common.{◌≡◌, ℕ, Bool, true, false, cond, List, [], ◌∷◌, Some, None, refl, sym, ap, subst, ◌∙◌, ◌⊎◌, inl, inr}
use Rattle.std.specs.declared.cmp.Ordering.{Ordering}
use Rattle.std.specs.declared.cmp.Ordering.TheVariants.{Less, Equal, Greater}
use Rattle.std.specs.declared.option.Option.{Option}
use Rattle.std.specs.BTreeMap.{insert_entry, is_at}
use Rattle.std.specs.Cmp.{Equal-is, eq_by_cmp_equiv}
use Rattle.std.specs.Cmp.Lexicographic.{nat_list_cmp_total, slice_cmp}
use Rattle.std.specs.List.{AllByRecursion}
use Rattle.std.specs.List.Sorted.{IsStrictlySortedBy}
use Rattle.std.specs.Map.{keys_of}
use Rattle.std.specs.Option.{unwrap_or}
use Rattle.std.specs.Ordering.{is_eq, match_ordering, nat_cmp}
use Rattle.std.proofs.lemmas.Map.Keys.{sorted_head, sorted_tail}
use Rattle.origin_model.specs.Covering.{Covers}
use Rattle.origin_model.specs.Current.{Parts}
use Rattle.origin_model.specs.Vrp.{Payload, payload_cmp, payload_total}
use Rattle.origin_model.specs.VrpChanges.{said}
use Rattle.origin_model.specs.VrpSet.{has}
use Rattle.origin_model.proofs.PayloadLemmas.{same_payload}
use Rattle.origin_model.proofs.SaidLemmas.{one_set}
use Rattle.origin_validation.specs.Held.{Pair, Entries, AreAlready, AreRight, IsAlready, Keeps, SameHave}
use Rattle.origin_validation.specs.Laws.{EachPatchHasOneResult}
use Rattle.origin_validation.specs.Records.{HasAsSaid, PatchesSource, or_none, source_of, with_source}
use Rattle.origin_validation.proofs.ChangedLemmas.{replaced_right}
use Rattle.origin_validation.proofs.HeldLemmas.{keeps_then, keeps_weaker}

abbrev Changes : Type 0
Changes = List (Payload × Bool)

-- ---- what changes make of a set, one after another

-- what is left makes of the set as it is now what all changes make of the set as it was
pub record Applies (all rest : Changes) (before now : List Payload) : Type 0 where
  pub same : (q : Payload) → unwrap_or (said rest q) (has now q) ≡ unwrap_or (said all q) (has before q)
  pub rising : IsStrictlySortedBy payload_cmp (keys_of rest)

-- of a payload below all that are named nothing is said
unsaid_below : (w : Payload) (cs : Changes) → AllByRecursion (λ y. payload_cmp w y ≡ Less) (keys_of cs) → said cs w ≡ None
unsaid_below w [] below = refl
unsaid_below w (c ∷ cs) below = ap (λ (o : Ordering). cond (is_eq o) (Some c.1) (said cs w)) below.0 ∙ unsaid_below w cs below.1

applied_by : (more : Changes) (now after : List Payload) (w q : Payload) (a b : Bool) → is_at (payload_cmp q) w ≡ b → said more w ≡ None → has after q ≡ cond b a (has now q)
    → unwrap_or (said more q) (has after q) ≡ unwrap_or (cond b (Some a) (said more q)) (has now q)
applied_by more now after w q a true at unsaid sets =
    ap (λ (o : Option Bool). unwrap_or o (has after q)) (ap (said more) (same_payload q w at) ∙ unsaid) ∙ sets
applied_by more now after w q a false at unsaid sets = ap (unwrap_or (said more q)) sets

pub apply_next : (all rest more : Changes) (w : Payload) (a : Bool) (before now after : List Payload) → rest ≡ (w, a) ∷ more → Applies all rest before now → HasAsSaid now w a after
    → Applies all more before after
apply_next all rest more w a before now after is applies sets =
    let rising = subst (λ (cs : Changes). IsStrictlySortedBy payload_cmp (keys_of cs)) is applies.rising in
    let unsaid = unsaid_below w more (sorted_head payload_cmp w (keys_of more) rising) in
    record {
      same = λ q.
          applied_by more now after w q a (is_at (payload_cmp q) w) refl unsaid (sets q ∙ ap (λ (b : Bool). cond b a (has now q)) ((eq_by_cmp_equiv payload_total).symm w q))
          ∙ ap (λ (cs : Changes). unwrap_or (said cs q) (has now q)) (sym is)
          ∙ applies.same q;
      rising = sorted_tail payload_cmp w (keys_of more) rising;
    }

-- ---- what changes leave of the states, one after another

-- what all say of a payload that covers the pair is so, or it is left
abbrev pub AlreadyOrLeft : List Payload → Changes → Changes → Pair → Type 0
AlreadyOrLeft payloads all rest p = (v : Payload) (announced : Bool) → Covers v.prefix p.0 → said all v ≡ Some announced → (has payloads v ≡ announced) ⊎ (said rest v ≡ Some announced)

some_bool : (a b : Bool) → Some a ≡ Some b → a ≡ b
some_bool a b e = ap (λ (o : Option Bool). unwrap_or o a) e

module _ (payloads : List Payload) (all : Changes) where
  left_by : (w v : Payload) (a announced b : Bool) (more : Changes) (p : Pair) → is_at (payload_cmp v) w ≡ b → IsAlready payloads w a p → Covers v.prefix p.0 → cond b (Some a) (said more v) ≡ Some announced
      → (has payloads v ≡ announced) ⊎ (said more v ≡ Some announced)
  left_by w v a announced true more p at already covers says =
      let same = same_payload v w at in
      inl (ap (has payloads) same ∙ already (subst (λ (u : Payload). Covers u.prefix p.0) same covers) ∙ some_bool a announced says)
  left_by w v a announced false more p at already covers says = inr says

  pub changes_next : (rest more : Changes) (w : Payload) (a : Bool) (es fs gs : Entries) → rest ≡ (w, a) ∷ more → Keeps (AlreadyOrLeft payloads all rest) es fs → Keeps (IsAlready payloads w a) fs gs
      → Keeps (AlreadyOrLeft payloads all more) es gs
  changes_next rest more w a es fs gs is f g =
      keeps_weaker (λ p. AlreadyOrLeft payloads all rest p × IsAlready payloads w a p) (AlreadyOrLeft payloads all more) es gs
      (λ p both v announced covers says. elim (both.0 v announced covers says) [
        | inl already ↦ inl already
        | inr left ↦ left_by w v a announced (is_at (payload_cmp v) w) more p refl both.1 covers (ap (λ (cs : Changes). said cs v) (sym is) ∙ left)
      ])
      (keeps_then (AlreadyOrLeft payloads all rest) (IsAlready payloads w a) es fs gs f g)

-- ---- what is held is right still

-- a payload that the changes leave as it was
as_it_was : (said_of : Option Bool) (before after : Bool) → after ≡ unwrap_or said_of before → ((announced : Bool) → said_of ≡ Some announced → before ≡ announced) → after ≡ before
as_it_was None before after is already = is
as_it_was (Some a) before after is already = is ∙ sym (already a refl)

pub patched_right : (old new : Parts) (name : List ℕ) (changes : Changes) (es fs : Entries) → PatchesSource old name changes new → AreRight old es
    → Keeps (AreAlready (or_none (source_of old.sources name)) changes) es fs → AreRight new fs
patched_right old new name changes es fs patch right k =
    subst (λ (parts : Parts). AreRight parts fs) (sym patch.puts)
    (replaced_right old name patch.payloads (or_none (source_of old.sources name)) es fs refl right
    (keeps_weaker (AreAlready (or_none (source_of old.sources name)) changes) (SameHave (or_none (source_of old.sources name)) patch.payloads) es fs
    (λ p already. record {
      to = λ v covers h. same p already v covers ∙ h;
      from = λ v covers h. sym (same p already v covers) ∙ h;
    }) k)) where
      same : (p : Pair) → AreAlready (or_none (source_of old.sources name)) changes p → (v : Payload) → Covers v.prefix p.0 → has patch.payloads v ≡ has (or_none (source_of old.sources name)) v
      same p already v covers = as_it_was (said changes v) (has (or_none (source_of old.sources name)) v) (has patch.payloads v) (patch.patches.members v) (λ announced says. already v announced covers says)

-- ---- a source that is given other payloads twice has the later ones

abbrev name_cmp : List ℕ → List ℕ → Ordering
name_cmp = slice_cmp nat_cmp

name_itself : (name : List ℕ) → name_cmp name name ≡ Equal
name_itself name = (Equal-is (name_cmp name name)).0 ((eq_by_cmp_equiv nat_list_cmp_total).refl name)

module _ (name : List ℕ) (one other : List Payload) where
  abbrev Named : Type 0
  Named = List (List ℕ × List Payload)

  twice_by : (o : Ordering) (s : List ℕ × List Payload) (ss : Named) → name_cmp name s.0 ≡ o → insert_entry name_cmp (insert_entry name_cmp ss name one) name other ≡ insert_entry name_cmp ss name other
      → insert_entry name_cmp (match_ordering o ((name, one) ∷ s ∷ ss) ((s.0, one) ∷ ss) (s ∷ insert_entry name_cmp ss name one)) name other
      ≡ match_ordering o ((name, other) ∷ s ∷ ss) ((s.0, other) ∷ ss) (s ∷ insert_entry name_cmp ss name other)
  twice_by Less s ss is more = ap (λ (o : Ordering). match_ordering o ((name, other) ∷ (name, one) ∷ s ∷ ss) ((name, other) ∷ s ∷ ss) ((name, one) ∷ insert_entry name_cmp (s ∷ ss) name other)) (name_itself name)
  twice_by Equal s ss is more = ap (λ (o : Ordering). match_ordering o ((name, other) ∷ (s.0, one) ∷ ss) ((s.0, other) ∷ ss) ((s.0, one) ∷ insert_entry name_cmp ss name other)) is
  twice_by Greater s ss is more =
      ap (λ (o : Ordering). match_ordering o ((name, other) ∷ s ∷ insert_entry name_cmp ss name one) ((s.0, other) ∷ insert_entry name_cmp ss name one) (s ∷ insert_entry name_cmp (insert_entry name_cmp ss name one) name other)) is
      ∙ ap (λ (rest : Named). s ∷ rest) more

  pub put_twice : (sources : Named) → insert_entry name_cmp (insert_entry name_cmp sources name one) name other ≡ insert_entry name_cmp sources name other
  put_twice [] = ap (λ (o : Ordering). match_ordering o ((name, other) ∷ (name, one) ∷ []) ((name, other) ∷ []) ((name, one) ∷ (name, other) ∷ [])) (name_itself name)
  put_twice (s ∷ ss) = twice_by (name_cmp name s.0) s ss refl (put_twice ss)

-- ---- one result

pub patch_has_one_result : EachPatchHasOneResult
patch_has_one_result before name changes =
    let set = one_set changes (or_none (source_of before.sources name)) in
    record {
      one = with_source before name set.one;
      is = record { payloads = set.one; patches = set.is; puts = refl };
      only = λ other patch. patch.puts ∙ ap (with_source before name) (set.only patch.payloads patch.patches);
    }
