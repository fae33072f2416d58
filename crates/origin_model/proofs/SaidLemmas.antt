-- What is said of payloads, with one more said.
use Rattle.std.proofs.Common.{◌≡◌, Bool, true, false, cond, ◌||◌, List, [], ◌∷◌, refl, sym, ap, subst, ◌∙◌, true≢false}
use Rattle.std.specs.declared.cmp.Ordering.{Ordering}
use Rattle.std.specs.declared.cmp.Ordering.TheVariants.{Less, Equal, Greater}
use Rattle.std.specs.declared.option.Option.{Option}
use Rattle.std.specs.declared.option.Option.TheVariants.{Some}
use Rattle.std.specs.BTreeMap.{insert_entry, is_at}
use Rattle.std.specs.BTreeSet.{BTreeSet, insert_key}
use Rattle.std.specs.Option.{unwrap_or}
use Rattle.std.specs.Ordering.{is_eq, match_ordering}
use Rattle.std.specs.Set.{remove_key}
use Rattle.std.specs.List.Sorted.{IsStrictlySortedBy}
use Rattle.std.proofs.lemmas.Map.Lookups.{btree_set_from_contains}
use Rattle.av_base.specs.One.{HasOne}
use Rattle.origin_model.specs.Vrp.{Payload, payload_cmp, payload_total}
use Rattle.origin_model.specs.VrpChanges.{Patches, said}
use Rattle.origin_model.specs.VrpSet.{has}
use Rattle.origin_model.proofs.ChangeLemmas.{has_inserted, removed_itself, removed_other, set_of_all, set_of_all-in_order, set_of_all-same, sorted_inserted, sorted_removed}
use Rattle.origin_model.proofs.PayloadLemmas.{payload_exact, payload_itself, same_payload}

again : {X : Type 0} (b : Bool) (x y z : X) → cond b x z ≡ cond b x (cond b y z)
again true x y z = refl
again false x y z = refl

swapped : {X : Type 0} (b c : Bool) (x y z : X) → (b ≡ true → c ≡ true → ⊥) → cond b x (cond c y z) ≡ cond c y (cond b x z)
swapped true true x y z never = absurd (never refl refl)
swapped true false x y z never = refl
swapped false c x y z never = refl

not_both : (v w q : Payload) → payload_cmp v w ≡ Greater → is_at (payload_cmp q) w ≡ true → is_at (payload_cmp q) v ≡ true → ⊥
not_both v w q greater at_w at_v =
    let same : v ≡ w = sym (same_payload q v at_v) ∙ same_payload q w at_w in
    let equal : is_at (payload_cmp v) w ≡ true = subst (λ (x : Payload). is_at (payload_cmp v) x ≡ true) same (payload_itself v) in
    true≢false (sym equal ∙ ap is_eq greater)

pub said_inserted : (v q : Payload) (announced : Bool) (cs : List (Payload × Bool)) → said (insert_entry payload_cmp cs v announced) q ≡ cond (is_at (payload_cmp q) v) (Some announced) (said cs q)
said_inserted v q announced [] = refl
said_inserted v q announced (c ∷ cs) = by_order (payload_cmp v c.0) refl (said_inserted v q announced cs) where
  by_order : (o : Ordering) → payload_cmp v c.0 ≡ o → said (insert_entry payload_cmp cs v announced) q ≡ cond (is_at (payload_cmp q) v) (Some announced) (said cs q)
      → said (match_ordering o ((v, announced) ∷ c ∷ cs) ((c.0, announced) ∷ cs) (c ∷ insert_entry payload_cmp cs v announced)) q
      ≡ cond (is_at (payload_cmp q) v) (Some announced) (cond (is_at (payload_cmp q) c.0) (Some c.1) (said cs q))
  by_order Less is rest = refl
  by_order Equal is rest = again (is_at (payload_cmp q) c.0) (Some announced) (Some c.1) (said cs q)
      ∙ ap (λ (x : Payload). cond (is_at (payload_cmp q) x) (Some announced) (cond (is_at (payload_cmp q) c.0) (Some c.1) (said cs q))) (sym (payload_exact v c.0 is))
  by_order Greater is rest = ap (λ (o : Option Bool). cond (is_at (payload_cmp q) c.0) (Some c.1) o) rest
      ∙ swapped (is_at (payload_cmp q) c.0) (is_at (payload_cmp q) v) (Some c.1) (Some announced) (said cs q) (not_both v c.0 q is)

not_at_by : (q w : Payload) (b : Bool) → is_at (payload_cmp q) w ≡ b → (w ≡ q → ⊥) → is_at (payload_cmp q) w ≡ false
not_at_by q w true is other = absurd (other (sym (same_payload q w is)))
not_at_by q w false is other = is

pub said_itself : (v : Payload) (announced : Bool) (cs : List (Payload × Bool)) → said (insert_entry payload_cmp cs v announced) v ≡ Some announced
said_itself v announced cs = said_inserted v v announced cs ∙ ap (λ (b : Bool). cond b (Some announced) (said cs v)) (payload_itself v)

pub said_other : (v q : Payload) (announced : Bool) (cs : List (Payload × Bool)) → (v ≡ q → ⊥) → said (insert_entry payload_cmp cs v announced) q ≡ said cs q
said_other v q announced cs other = said_inserted v q announced cs
    ∙ ap (λ (b : Bool). cond b (Some announced) (said cs q)) (not_at_by q v (is_at (payload_cmp q) v) refl other)

-- ---- the payloads follow what is said

or_said : (b : Bool) (s : Option Bool) (had now : Bool) → now ≡ unwrap_or s had → (b || now) ≡ unwrap_or (cond b (Some true) s) had
or_said true s had now is = refl
or_said false s had now is = is

apart : (v q : Payload) → is_at (payload_cmp q) v ≡ false → v ≡ q → ⊥
apart v q is same = true≢false (sym (subst (λ (x : Payload). is_at (payload_cmp q) x ≡ true) (sym same) (payload_itself q)) ∙ is)

pub patches_none : (before : List Payload) → IsStrictlySortedBy payload_cmp before → Patches [] before before
patches_none before sorted = record { in_order = sorted; members = λ v. refl }

pub patches_announced : (cs : List (Payload × Bool)) (before now : List Payload) (v : Payload) → Patches cs before now
    → Patches (insert_entry payload_cmp cs v true) before (insert_key payload_cmp now v)
patches_announced cs before now v patches = record {
  in_order = sorted_inserted v now patches.in_order;
  members = λ q. has_inserted v q now
      ∙ or_said (is_at (payload_cmp q) v) (said cs q) (has before q) (has now q) (patches.members q)
      ∙ ap (λ (o : Option Bool). unwrap_or o (has before q)) (sym (said_inserted v q true cs));
}

pub patches_withdrawn : (cs : List (Payload × Bool)) (before now : List Payload) (v : Payload) → Patches cs before now
    → Patches (insert_entry payload_cmp cs v false) before (remove_key (is_at (payload_cmp v)) now)
patches_withdrawn cs before now v patches = record { in_order = sorted_removed (is_at (payload_cmp v)) now patches.in_order; members = λ q. by q (is_at (payload_cmp q) v) refl } where
  by : (q : Payload) (b : Bool) → is_at (payload_cmp q) v ≡ b
      → has (remove_key (is_at (payload_cmp v)) now) q ≡ unwrap_or (said (insert_entry payload_cmp cs v false) q) (has before q)
  by q true is =
      let same : q ≡ v = same_payload q v is in
      subst (λ (x : Payload). has (remove_key (is_at (payload_cmp v)) now) x ≡ unwrap_or (said (insert_entry payload_cmp cs v false) x) (has before x)) (sym same)
      (removed_itself v now patches.in_order ∙ ap (λ (o : Option Bool). unwrap_or o (has before v)) (sym (said_itself v false cs)))
  by q false is =
      removed_other v q now (apart v q is) ∙ patches.members q
      ∙ ap (λ (o : Option Bool). unwrap_or o (has before q)) (sym (said_other v q false cs (apart v q is)))

abbrev set_of : List Payload → BTreeSet Payload
set_of payloads = record { keys = payloads }

-- what they make of payloads
abbrev made_of : List (Payload × Bool) → List Payload → List Payload
made_of [] before = set_of_all before
made_of ((v, true) ∷ more) before = insert_key payload_cmp (made_of more before) v
made_of ((v, false) ∷ more) before = remove_key (is_at (payload_cmp v)) (made_of more before)

-- one more in front is said in place of what the others say
front_announced : (v : Payload) (more : List (Payload × Bool)) (before now : List Payload) → Patches more before now → Patches ((v, true) ∷ more) before (insert_key payload_cmp now v)
front_announced v more before now patches = record {
  in_order = sorted_inserted v now patches.in_order;
  members = λ q. has_inserted v q now ∙ or_said (is_at (payload_cmp q) v) (said more q) (has before q) (has now q) (patches.members q);
}

front_withdrawn : (v : Payload) (more : List (Payload × Bool)) (before now : List Payload) → Patches more before now
    → Patches ((v, false) ∷ more) before (remove_key (is_at (payload_cmp v)) now)
front_withdrawn v more before now patches = record { in_order = sorted_removed (is_at (payload_cmp v)) now patches.in_order; members = λ q. by q (is_at (payload_cmp q) v) refl } where
  by : (q : Payload) (b : Bool) → is_at (payload_cmp q) v ≡ b → has (remove_key (is_at (payload_cmp v)) now) q ≡ unwrap_or (cond b (Some false) (said more q)) (has before q)
  by q true is =
      let same : q ≡ v = same_payload q v is in
      subst (λ (x : Payload). has (remove_key (is_at (payload_cmp v)) now) x ≡ false) (sym same) (removed_itself v now patches.in_order)
  by q false is = removed_other v q now (apart v q is) ∙ patches.members q

made_so : (changes : List (Payload × Bool)) (before : List Payload) → Patches changes before (made_of changes before)
made_so [] before = record { in_order = set_of_all-in_order before; members = set_of_all-same before }
made_so ((v, true) ∷ more) before = front_announced v more before (made_of more before) (made_so more before)
made_so ((v, false) ∷ more) before = front_withdrawn v more before (made_of more before) (made_so more before)

-- they make exactly one set of payloads
pub one_set : (changes : List (Payload × Bool)) (before : List Payload) → HasOne (Patches changes before)
one_set changes before = record {
  one = made_of changes before;
  is = made_so changes before;
  only = λ other b.
      let a = made_so changes before in
      btree_set_from_contains payload_total (set_of other) (set_of (made_of changes before)) b.in_order a.in_order (λ v. b.members v ∙ sym (a.members v)) payload_exact;
}
