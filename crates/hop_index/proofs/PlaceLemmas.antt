-- What is found of hops in a list without gaps: by the map of their places, and as one of them comes, changes or goes.
use Rattle.std.proofs.Common.{◌≡◌, ◌≢◌, ℕ, zero, suc, ◌+◌, ◌-◌, ◌<◌, ◌≤◌, ◌^◌, Bool, true, false, cond, List, [], ◌∷◌, ◌++◌, length, get_or, set, Some, None, refl, ap, sym, subst, ◌∙◌, arith, true≢false, inl, inr, ◌⊎◌}
use Rattle.std.specs.declared.option.Option.{Option}
use Rattle.std.specs.BTreeMap.{is_at}
use Rattle.std.specs.FinMap.{FinMap, empty, get, insert, remove}
use Rattle.std.specs.List.{swap_remove}
use Rattle.std.specs.Ordering.{nat_cmp}
use Rattle.std.proofs.lemmas.Bool.{cases_lt}
use Rattle.std.proofs.lemmas.List.{length-append, length-map, length-set, get_or-map, get_or-set_other, get_or-set_same, get_or_read, map-append}
use Rattle.std.proofs.Math.ListN.{get_or-append}
use Rattle.std.proofs.Math.Seq.{get_or-append_seam, map-set_same}
use Rattle.hop_index.specs.declared.pair.Pair.{Pair}
use Rattle.hop_index.specs.Lists.{Lists, at}
use Rattle.hop_index.specs.Kept.{is_pair, Updates}
use Rattle.hop_index.specs.Pairs.{pair_cmp, pair_word}
use Rattle.hop_index.specs.Places.{AreInverse, ArePlaced, hop_at, words_of}
use Rattle.hop_index.proofs.InverseLemmas.{added_inverse, cases_ne, kept_last, last_left, left_fewer, left_moved, left_others, none_at, none_inverse, other_left, same_at}
use Rattle.hop_index.proofs.PairLemmas.{pair_at, pair_itself, same_pair}

-- ---- one list
word_at : (hops : Lists) (i : ℕ) → i < length hops → get_or (words_of hops) i 0 ≡ pair_word (hop_at hops i).0
word_at hops i below = get_or-map (λ (hop : Pair × List ℕ). pair_word hop.0) hops i (record { low = 0; high = 0 }, []) 0 below

many_words : (hops : Lists) → length (words_of hops) ≡ length hops
many_words hops = length-map hops (λ (hop : Pair × List ℕ). pair_word hop.0)

same_word : (p q : Pair) → p.high < 2 ^ 32 → q.high < 2 ^ 32 → pair_word p ≡ pair_word q → p ≡ q
same_word p q sp sq e =
    let low : p.low ≡ q.low = omega (arith, e, sp, sq) in
    let high : p.high ≡ q.high = omega (arith, e, sp, sq) in
    let of_low : ℕ → Pair = λ n. record { low = n; high = p.high } in
    let of_high : ℕ → Pair = λ n. record { low = q.low; high = n } in
    ap of_low low ∙ ap of_high high

-- no hop stands there twice
abbrev Differ : Lists → Type 0
Differ hops = (i j : ℕ) → i < length hops → j < length hops → (hop_at hops i).0 ≡ (hop_at hops j).0 → i ≡ j

differ : (m : FinMap nat_cmp ℕ) (hops : Lists) → AreInverse m (words_of hops) → Differ hops
differ m hops inverse i j li lj same = same_at i j (
    sym (inverse.finds i (omega (arith, li, many_words hops)))
    ∙ ap (get m) (word_at hops i li ∙ ap pair_word same ∙ sym (word_at hops j lj))
    ∙ inverse.finds j (omega (arith, lj, many_words hops)))

-- the hop stands there with these cases
abbrev Has : Lists → Pair → List ℕ → Type 0
Has hops p cases = (i : ℕ) × (i < length hops) × (hop_at hops i ≡ (p, cases))

found_has : (p : Pair) (cases : List ℕ) (hops : Lists) → at hops p ≡ Some cases → Has hops p cases
found_has p cases [] h = absurd (true≢false (let both : ◌≡◌ {A = Option (List ℕ)} None (Some cases) = h in absurd cc))
found_has p cases (e ∷ es) h = by_test (is_at (pair_cmp p) e.0) refl h (found_has p cases es) where
  by_test : (b : Bool) → is_at (pair_cmp p) e.0 ≡ b → cond b (Some e.1) (at es p) ≡ Some cases → (at es p ≡ Some cases → Has es p cases) → Has (e ∷ es) p cases
  by_test true is here later =
      let key : e.0 ≡ p = same_pair e.0 p (sym (pair_at p e.0) ∙ is) in
      let value : e.1 ≡ cases = cc in
      (0, omega arith, ap (λ (q : Pair). (q, e.1)) key ∙ ap (λ (v : List ℕ). (p, v)) value)
  by_test false is there later = let r = later there in (suc r.0, omega (arith, r.1), r.2)

has_found : (hops : Lists) → Differ hops → (i : ℕ) → i < length hops → at hops (hop_at hops i).0 ≡ Some (hop_at hops i).1
has_found [] apart i below = absurd (omega (arith, below))
has_found (e ∷ es) apart zero below = ap (λ (b : Bool). cond b (Some e.1) (at es e.0)) (pair_at e.0 e.0 ∙ pair_itself e.0)
has_found (e ∷ es) apart (suc i) below = by_test (is_at (pair_cmp (hop_at es i).0) e.0) refl
    (has_found es (λ j k lj lk same. let s : suc j ≡ suc k = apart (suc j) (suc k) (omega (arith, lj)) (omega (arith, lk)) same in omega (arith, s)) i (omega (arith, below))) where
      by_test : (b : Bool) → is_at (pair_cmp (hop_at es i).0) e.0 ≡ b → at es (hop_at es i).0 ≡ Some (hop_at es i).1 → cond b (Some e.1) (at es (hop_at es i).0) ≡ Some (hop_at es i).1
      by_test true is later =
          let no : zero ≡ suc i = apart zero (suc i) (omega arith) below (same_pair e.0 (hop_at es i).0 (sym (pair_at (hop_at es i).0 e.0) ∙ is)) in
          absurd (omega (arith, no))
      by_test false is later = later

has_at : (hops : Lists) → Differ hops → (p : Pair) (cases : List ℕ) → Has hops p cases → at hops p ≡ Some cases
has_at hops apart p cases has =
    ap (at hops) (sym (ap (λ (hop : Pair × List ℕ). hop.0) has.2)) ∙ has_found hops apart has.0 has.1 ∙ ap (λ (hop : Pair × List ℕ). Some hop.1) has.2

module _ (m : FinMap nat_cmp ℕ) (hops : Lists) (placed : ArePlaced m hops) (pair : Pair) (small : pair.high < 2 ^ 32) where
  -- the place of a hop
  pub place_within : (place : ℕ) → get m (pair_word pair) ≡ Some place → place < length hops
  place_within place e = omega (arith, (placed.inverse.found (pair_word pair) place e).within, many_words hops)

  pub place_has : (place : ℕ) → get m (pair_word pair) ≡ Some place → (hop_at hops place).0 ≡ pair
  place_has place e =
      let within : place < length hops = place_within place e in
      same_word (hop_at hops place).0 pair (placed.small place within) small
      (sym (word_at hops place within) ∙ (placed.inverse.found (pair_word pair) place e).same)

  pub place_found : (place : ℕ) → get m (pair_word pair) ≡ Some place → at hops pair ≡ Some (hop_at hops place).1
  place_found place e =
      ap (at hops) (sym (place_has place e)) ∙ has_found hops (differ m hops placed.inverse) place (place_within place e)

  pub place_absent : get m (pair_word pair) ≡ None → at hops pair ≡ None
  place_absent e = by_found (at hops pair) refl where
    by_found : (o : Option (List ℕ)) → at hops pair ≡ o → o ≡ None
    by_found None is = refl
    by_found (Some cases) is =
        let has = found_has pair cases hops is in
        absurd (true≢false (none_at (get m (pair_word pair)) has.0 e
        (ap (get m) (sym (word_at hops has.0 has.1 ∙ ap (λ (hop : Pair × List ℕ). pair_word hop.0) has.2)) ∙ placed.inverse.finds has.0 (omega (arith, has.1, many_words hops)))))

  pub map_none : at hops pair ≡ None → get m (pair_word pair) ≡ None
  map_none absent = by_place (get m (pair_word pair)) refl where
    by_place : (o : Option ℕ) → get m (pair_word pair) ≡ o → o ≡ None
    by_place None is = refl
    by_place (Some place) is = let both : ◌≡◌ {A = Option (List ℕ)} None (Some (hop_at hops place).1) = sym absent ∙ place_found place is in absurd cc

pub map_absent : (m : FinMap nat_cmp ℕ) (hops before : Lists) → ArePlaced m hops → hops ≡ before → (pair : Pair) → pair.high < 2 ^ 32 → at before pair ≡ None → get m (pair_word pair) ≡ None
map_absent m hops before placed view pair small absent = map_none m hops placed pair small (ap (λ (es : Lists). at es pair) view ∙ absent)

-- no hops
pub none_placed : (m : FinMap nat_cmp ℕ) (hops : Lists) → m ≡ empty → hops ≡ [] → ArePlaced m hops
none_placed m hops em eh = record {
  inverse = none_inverse m (words_of hops) em (ap words_of eh);
  small = λ place below. absurd (omega (arith, below, ap (λ (es : Lists). length es) eh));
}

-- ---- from one list to another
same_option : (o q : Option (List ℕ)) → ((v : List ℕ) → o ≡ Some v → q ≡ Some v) → ((v : List ℕ) → q ≡ Some v → o ≡ Some v) → o ≡ q
same_option None None f g = refl
same_option None (Some w) f g = g w refl
same_option (Some v) q f g = sym (f v refl)

told_at : (pair p : Pair) (b : Bool) → is_at (pair_cmp pair) p ≡ b → (b ≡ true × (p ≡ pair)) ⊎ (b ≡ false × (p ≢ pair))
told_at pair p true is = inl (refl, same_pair p pair (sym (pair_at pair p) ∙ is))
told_at pair p false is = inr (refl, λ e. true≢false (sym (pair_itself pair) ∙ ap (λ (q : Pair). is_pair q pair) (sym e) ∙ sym (pair_at pair p) ∙ is))

updated : (before after : Lists) (pair : Pair) (now : Option (List ℕ)) → at after pair ≡ now → ((p : Pair) → p ≢ pair → at after p ≡ at before p) → Updates before pair now after
updated before after pair now here others p = elim (told_at pair p (is_at (pair_cmp pair) p) refl) [
  | inl h ↦ ap (at after) h.1 ∙ here ∙ ap (λ (b : Bool). cond b now (at before p)) (sym h.0)
  | inr h ↦ others p h.1 ∙ ap (λ (b : Bool). cond b now (at before p)) (sym h.0)
]

pub same_when_absent : (hops : Lists) (pair : Pair) → at hops pair ≡ None → Updates hops pair None hops
same_when_absent hops pair absent = updated hops hops pair None absent (λ p other. refl)

same_found : (before after : Lists) → Differ before → Differ after → (p : Pair) → ((v : List ℕ) → Has after p v → Has before p v) → ((v : List ℕ) → Has before p v → Has after p v)
    → at after p ≡ at before p
same_found before after apart apart' p back on = same_option (at after p) (at before p)
    (λ v e. has_at before apart p v (back v (found_has p v after e)))
    (λ v e. has_at after apart' p v (on v (found_has p v before e)))

first_of : (p q : Pair) (v w : List ℕ) → ◌≡◌ {A = Pair × List ℕ} (p, v) (q, w) → p ≡ q
first_of p q v w e = ap (λ (hop : Pair × List ℕ). hop.0) e

-- a hop has other cases
module _ (m : FinMap nat_cmp ℕ) (hops : Lists) (placed : ArePlaced m hops) (pair : Pair) (place : ℕ) (cases : List ℕ) (within : place < length hops) (is : (hop_at hops place).0 ≡ pair) where
  same_words : words_of (set hops place (pair, cases)) ≡ words_of hops
  same_words = map-set_same (λ (hop : Pair × List ℕ). pair_word hop.0) hops place (pair, cases) (record { low = 0; high = 0 }, []) (ap pair_word (sym is))

  here_set : hop_at (set hops place (pair, cases)) place ≡ (pair, cases)
  here_set = get_or-set_same hops place (pair, cases) (record { low = 0; high = 0 }, []) within

  other_set : (i : ℕ) → i ≢ place → hop_at (set hops place (pair, cases)) i ≡ hop_at hops i
  other_set i ne = get_or-set_other hops place i (pair, cases) (record { low = 0; high = 0 }, []) ne

  many_set : length (set hops place (pair, cases)) ≡ length hops
  many_set = length-set hops place (pair, cases)

  pub placed_set : ArePlaced m (set hops place (pair, cases))
  placed_set = record {
    inverse = subst (AreInverse m) (sym same_words) placed.inverse;
    small = λ i below. elim (cases_ne i place) [
      | inl e ↦ subst (λ (p : Pair). p.high < 2 ^ 32) (is ∙ sym (ap (λ (hop : Pair × List ℕ). hop.0) (ap (hop_at (set hops place (pair, cases))) e ∙ here_set))) (placed.small place within)
      | inr ne ↦ subst (λ (hop : Pair × List ℕ). hop.0.high < 2 ^ 32) (sym (other_set i ne)) (placed.small i (omega (arith, below, many_set)))
    ];
  }

  pub updates_set : Updates hops pair (Some cases) (set hops place (pair, cases))
  updates_set =
      let apart : Differ hops = differ m hops placed.inverse in
      let apart' : Differ (set hops place (pair, cases)) = differ m (set hops place (pair, cases)) placed_set.inverse in
      updated hops (set hops place (pair, cases)) pair (Some cases)
      (has_at (set hops place (pair, cases)) apart' pair cases (place, omega (arith, within, many_set), here_set))
      (λ p other. same_found hops (set hops place (pair, cases)) apart apart' p
      (λ v has. elim (cases_ne has.0 place) [
        | inl e ↦ absurd (other (sym (first_of pair p cases v (sym here_set ∙ ap (hop_at (set hops place (pair, cases))) (sym e) ∙ has.2))))
        | inr ne ↦ (has.0, omega (arith, has.1, many_set), sym (other_set has.0 ne) ∙ has.2)
      ])
      (λ v has. elim (cases_ne has.0 place) [
        | inl e ↦ absurd (other (sym (ap (λ (hop : Pair × List ℕ). hop.0) has.2) ∙ ap (λ (i : ℕ). (hop_at hops i).0) e ∙ is))
        | inr ne ↦ (has.0, omega (arith, has.1, many_set), other_set has.0 ne ∙ has.2)
      ]))

-- the same of what is read at the place
pub record HasChanged (m : FinMap nat_cmp ℕ) (hops before : Lists) (pair : Pair) (place : ℕ) (x : Pair × List ℕ) (cases : List ℕ) : Type 0 where
  pub placed : ArePlaced m (set hops place (x.0, cases))
  pub updates : Updates before pair (Some cases) (set hops place (x.0, cases))
  pub was : at before pair ≡ Some x.1

pub changed : (m : FinMap nat_cmp ℕ) (hops before : Lists) → ArePlaced m hops → hops ≡ before → (pair : Pair) → pair.high < 2 ^ 32 → (place : ℕ) → get m (pair_word pair) ≡ Some place
    → (x : Pair × List ℕ) → x ≡ get_or hops place x → (cases : List ℕ) → HasChanged m hops before pair place x cases
changed m hops before placed view pair small place there x read cases =
    let within : place < length hops = place_within m hops placed pair small place there in
    let key : (hop_at hops place).0 ≡ pair = place_has m hops placed pair small place there in
    let is : x ≡ hop_at hops place = get_or_read hops place x within read (record { low = 0; high = 0 }, []) in
    let same : pair ≡ x.0 = sym key ∙ ap (λ (hop : Pair × List ℕ). hop.0) (sym is) in
    record {
      placed = subst (λ (k : Pair). ArePlaced m (set hops place (k, cases))) same (placed_set m hops placed pair place cases within key);
      updates = subst (λ (k : Pair). Updates before pair (Some cases) (set hops place (k, cases))) same
          (subst (λ (es : Lists). Updates es pair (Some cases) (set hops place (pair, cases))) view (updates_set m hops placed pair place cases within key));
      was = subst (λ (es : Lists). at es pair ≡ Some x.1) view
          (place_found m hops placed pair small place there ∙ ap (λ (hop : Pair × List ℕ). Some hop.1) (sym is));
    }

-- a hop comes at the end
module _ (m : FinMap nat_cmp ℕ) (hops : Lists) (placed : ArePlaced m hops) (pair : Pair) (cases : List ℕ) (small : pair.high < 2 ^ 32) (absent : get m (pair_word pair) ≡ None)
    (few : length hops < 2 ^ 32 - 1) where
  more_words : words_of (hops ++ (pair, cases) ∷ []) ≡ words_of hops ++ pair_word pair ∷ []
  more_words = map-append (λ (hop : Pair × List ℕ). pair_word hop.0) hops ((pair, cases) ∷ [])

  many_more : length (hops ++ (pair, cases) ∷ []) ≡ length hops + 1
  many_more = length-append hops ((pair, cases) ∷ [])

  last_more : hop_at (hops ++ (pair, cases) ∷ []) (length hops) ≡ (pair, cases)
  last_more = get_or-append_seam hops (pair, cases) [] (record { low = 0; high = 0 }, [])

  other_more : (i : ℕ) → i < length hops → hop_at (hops ++ (pair, cases) ∷ []) i ≡ hop_at hops i
  other_more i below = get_or-append hops ((pair, cases) ∷ []) (record { low = 0; high = 0 }, []) i below

  pub placed_more : ArePlaced (insert m (pair_word pair) (length hops)) (hops ++ (pair, cases) ∷ [])
  placed_more = record {
    inverse = subst (λ (ws : List ℕ). AreInverse (insert m (pair_word pair) (length hops)) ws) (sym more_words)
        (subst (λ (n : ℕ). AreInverse (insert m (pair_word pair) n) (words_of hops ++ pair_word pair ∷ [])) (many_words hops)
        (added_inverse m (words_of hops) (pair_word pair) placed.inverse absent (omega (arith, few, many_words hops))));
    small = λ i below. elim (cases_lt i (length hops)) [
      | inl lt ↦ subst (λ (hop : Pair × List ℕ). hop.0.high < 2 ^ 32) (sym (other_more i lt)) (placed.small i lt)
      | inr ge ↦
          let e : i ≡ length hops = omega (arith, ge, below, many_more) in
          subst (λ (hop : Pair × List ℕ). hop.0.high < 2 ^ 32) (sym (ap (hop_at (hops ++ (pair, cases) ∷ [])) e ∙ last_more)) small
    ];
  }

  pub updates_more : Updates hops pair (Some cases) (hops ++ (pair, cases) ∷ [])
  updates_more =
      let apart : Differ hops = differ m hops placed.inverse in
      let apart' : Differ (hops ++ (pair, cases) ∷ []) = differ _ (hops ++ (pair, cases) ∷ []) placed_more.inverse in
      updated hops (hops ++ (pair, cases) ∷ []) pair (Some cases)
      (has_at (hops ++ (pair, cases) ∷ []) apart' pair cases (length hops, omega (arith, many_more), last_more))
      (λ p other. same_found hops (hops ++ (pair, cases) ∷ []) apart apart' p
      (λ v has. elim (cases_lt has.0 (length hops)) [
        | inl lt ↦ (has.0, lt, sym (other_more has.0 lt) ∙ has.2)
        | inr ge ↦
            let e : has.0 ≡ length hops = omega (arith, ge, has.1, many_more) in
            absurd (other (sym (first_of pair p cases v (sym last_more ∙ ap (hop_at (hops ++ (pair, cases) ∷ [])) (sym e) ∙ has.2))))
      ])
      (λ v has. (has.0, omega (arith, has.1, many_more), other_more has.0 has.1 ∙ has.2)))

-- a hop goes, and the last one gets its place
module _ (m : FinMap nat_cmp ℕ) (hops left : Lists) (placed : ArePlaced m hops) (pair : Pair) (small : pair.high < 2 ^ 32) (place : ℕ) (x : Pair × List ℕ)
    (there : get m (pair_word pair) ≡ Some place) (items : left ≡ swap_remove hops place x) where
  within : place < length hops
  within = place_within m hops placed pair small place there

  word_there : get_or (words_of hops) place 0 ≡ pair_word pair
  word_there = word_at hops place within ∙ ap pair_word (place_has m hops placed pair small place there)

  fewer : length left + 1 ≡ length hops
  fewer = left_fewer hops left place x (record { low = 0; high = 0 }, []) within items

  others : (i : ℕ) → i < length left → i ≢ place → hop_at left i ≡ hop_at hops i
  others = left_others hops left place x (record { low = 0; high = 0 }, []) within items

  moved : place < length left → hop_at left place ≡ hop_at hops (length left)
  moved = left_moved hops left place x (record { low = 0; high = 0 }, []) within items

  fewer_words : length (words_of left) + 1 ≡ length (words_of hops)
  fewer_words = omega (arith, fewer, many_words left, many_words hops)

  other_words : (i : ℕ) → i < length (words_of left) → i ≢ place → get_or (words_of left) i 0 ≡ get_or (words_of hops) i 0
  other_words i below ne =
      let lt : i < length left = omega (arith, below, many_words left) in
      word_at left i lt ∙ ap (λ (hop : Pair × List ℕ). pair_word hop.0) (others i lt ne) ∙ sym (word_at hops i (omega (arith, lt, fewer)))

  moved_word : place < length (words_of left) → get_or (words_of left) place 0 ≡ get_or (words_of hops) (length (words_of left)) 0
  moved_word mid =
      let lt : place < length left = omega (arith, mid, many_words left) in
      word_at left place lt ∙ ap (λ (hop : Pair × List ℕ). pair_word hop.0) (moved lt) ∙ sym (word_at hops (length left) (omega (arith, fewer)))
      ∙ ap (λ (n : ℕ). get_or (words_of hops) n 0) (sym (many_words left))

  small_left : (i : ℕ) → i < length left → (hop_at left i).0.high < 2 ^ 32
  small_left i below = elim (cases_ne i place) [
    | inl e ↦
        let lt : place < length left = omega (arith, below, e) in
        subst (λ (hop : Pair × List ℕ). hop.0.high < 2 ^ 32) (sym (ap (hop_at left) e ∙ moved lt)) (placed.small (length left) (omega (arith, fewer)))
    | inr ne ↦ subst (λ (hop : Pair × List ℕ). hop.0.high < 2 ^ 32) (sym (others i below ne)) (placed.small i (omega (arith, below, fewer)))
  ]

  -- it was the last one
  pub placed_last : length left ≤ place → ArePlaced (remove m (pair_word pair)) left
  placed_last end = record {
    inverse = last_left m (words_of hops) (words_of left) (pair_word pair) place placed.inverse (omega (arith, within, many_words hops)) word_there
        fewer_words other_words moved_word (omega (arith, end, many_words left));
    small = small_left;
  }

  -- or the last one gets its place
  pub placed_moved : place < length left → ArePlaced (insert (remove m (pair_word pair)) (pair_word (hop_at left place).0) place) left
  placed_moved mid = record {
    inverse = subst (λ (word : ℕ). AreInverse (insert (remove m (pair_word pair)) word place) (words_of left)) (word_at left place mid)
        (other_left m (words_of hops) (words_of left) (pair_word pair) place placed.inverse (omega (arith, within, many_words hops)) word_there
        fewer_words other_words moved_word (omega (arith, mid, many_words left)));
    small = small_left;
  }

  pub moved_there : place < length left → get (remove m (pair_word pair)) (pair_word (hop_at left place).0) ≡ Some (length (words_of left))
  moved_there mid =
      ap (get (remove m (pair_word pair))) (sym (word_at left place mid))
      ∙ kept_last m (words_of hops) (words_of left) (pair_word pair) place placed.inverse (omega (arith, within, many_words hops)) word_there
      fewer_words other_words moved_word (omega (arith, mid, many_words left))

  pub updates_left : (after : FinMap nat_cmp ℕ) → ArePlaced after left → Updates hops pair None left
  updates_left after placed' =
      let apart : Differ hops = differ m hops placed.inverse in
      let apart' : Differ left = differ after left placed'.inverse in
      let key : (hop_at hops place).0 ≡ pair = place_has m hops placed pair small place there in
      updated hops left pair None (gone apart key (at left pair) refl)
      (λ p other. same_found hops left apart apart' p
      (λ v has. elim (cases_ne has.0 place) [
        | inl e ↦
            let lt : place < length left = omega (arith, has.1, e) in
            (length left, omega (arith, fewer), sym (moved lt) ∙ ap (hop_at left) (sym e) ∙ has.2)
        | inr ne ↦ (has.0, omega (arith, has.1, fewer), sym (others has.0 has.1 ne) ∙ has.2)
      ])
      (λ v has. elim (cases_ne has.0 place) [
        | inl e ↦ absurd (other (sym (ap (λ (hop : Pair × List ℕ). hop.0) has.2) ∙ ap (λ (i : ℕ). (hop_at hops i).0) e ∙ key))
        | inr ne ↦ elim (cases_lt has.0 (length left)) [
          | inl lt ↦ (has.0, lt, others has.0 lt ne ∙ has.2)
          | inr ge ↦
              let e : length left ≡ has.0 = omega (arith, ge, has.1, fewer) in
              let lt : place < length left = omega (arith, ge, has.1, fewer, within, ne) in
              (place, lt, moved lt ∙ ap (hop_at hops) e ∙ has.2)
        ]
      ])) where
        gone : Differ hops → (hop_at hops place).0 ≡ pair → (o : Option (List ℕ)) → at left pair ≡ o → o ≡ None
        gone apart key None is = refl
        gone apart key (Some v) is =
            let has = found_has pair v left is in
            let hop : (hop_at left has.0).0 ≡ pair = ap (λ (hop : Pair × List ℕ). hop.0) has.2 in
            absurd (elim (cases_ne has.0 place) [
              | inl e ↦
                  let lt : place < length left = omega (arith, has.1, e) in
                  let same : length left ≡ place = apart (length left) place (omega (arith, fewer)) within
                  (sym (ap (λ (hop : Pair × List ℕ). hop.0) (moved lt)) ∙ ap (λ (i : ℕ). (hop_at left i).0) (sym e) ∙ hop ∙ sym key) in
                  omega (arith, same, lt)
              | inr ne ↦ ne (apart has.0 place (omega (arith, has.1, fewer)) within (sym (ap (λ (hop : Pair × List ℕ). hop.0) (others has.0 has.1 ne)) ∙ hop ∙ sym key))
            ])
