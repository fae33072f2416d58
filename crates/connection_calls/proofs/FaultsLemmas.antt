-- Where connections break, over several calls.
use Rattle.std.proofs.Common.{◌≡◌, ℕ, zero, suc, ◌<◌, ◌≤◌, inl, inr, true, List, [], ◌∷◌, ◌++◌, length, map, None, Some, IfSome, refl, sym, ap, subst, ◌∙◌, arith}
use Rattle.std.proofs.lemmas.Option.{slice_get-map, slice_get_within}
use Rattle.std.specs.Option.{option_map}
use Rattle.std.specs.Prelude.{slice_get}
use Rattle.std.specs.declared.option.Option.{Option}
use Rattle.av_base.specs.Connections.{Agrees, Link, new_standing, standing_of, stands_closed}
use Rattle.av_base.specs.Told.{Rose}
use Rattle.av_base.specs.declared.standing.Break.{Break}
use Rattle.av_base.specs.declared.standing.Standing.{Standing}
use Rattle.av_base.proofs.LinksLemmas.{length-told}
use Rattle.av_base.proofs.PlacesLemmas.{map-change_unseen}
use Rattle.connection_calls.specs.Faults.{BreaksByFault, NewAreUnbroken, broken_at}

-- ---- several calls in a row

pub sooner : (before mid now : ℕ) → before ≤ mid → Rose mid now → Rose before now
sooner before mid now later rose = omega arith

pub BreaksByFault-refl : (count : ℕ) (stands : List Standing) → BreaksByFault count count stands stands
BreaksByFault-refl count stands = record { later = omega arith; cause = inl (λ link call broken. broken) }

pub BreaksByFault-trans : {before mid now : ℕ} {stood between stands : List Standing} → BreaksByFault before mid stood between → BreaksByFault mid now between stands → BreaksByFault before now stood stands
BreaksByFault-trans {before} {mid} {now} first second = record {
  later = omega (arith, first.later, second.later);
  cause = elim first.cause [
    | inl none ↦ elim second.cause [
      | inl none_more ↦ inl (λ link call broken. none link call (none_more link call broken))
      | inr rose ↦ inr (sooner before mid now first.later rose)
    ]
    | inr rose ↦ inr (longer before mid now rose second.later)
  ];
}
  where
    longer : (before mid now : ℕ) → Rose before mid → mid ≤ now → Rose before now
    longer before mid now rose later = omega arith

-- ---- one call

-- it failed
pub breaks_failed : {before now : ℕ} (stood stands : List Standing) → before ≤ now → Rose before now → BreaksByFault before now stood stands
breaks_failed stood stands later rose = record { later = later; cause = inr rose }

-- it left how the connections stand
pub breaks_none : {before now : ℕ} (stood stands : List Standing) → before ≤ now → stands ≡ stood → BreaksByFault before now stood stands
breaks_none stood stands later same = record { later = later; cause = inl (λ link call broken. ap (λ (l : List Standing). broken_at l link) (sym same) ∙ broken) }

-- it closed one
pub breaks_closed : {before now : ℕ} (link : ℕ) (stood stands : List Standing) → before ≤ now → stands ≡ stands_closed link stood → BreaksByFault before now stood stands
breaks_closed link stood stands later is = record { later = later; cause = inl (λ other call broken. sym (same other) ∙ broken) }
  where
    same : (other : ℕ) → broken_at stands other ≡ broken_at stood other
    same other =
        ap (λ (l : List Standing). broken_at l other) is ∙ sym (slice_get-map (λ (s : Standing). s.broken) (stands_closed link stood) other)
        ∙ ap (λ (l : List (Option Break)). slice_get l other) (map-change_unseen (λ (s : Standing). s.broken) (λ s. record s { closed = true }) (λ s. refl) link stood)
        ∙ slice_get-map (λ (s : Standing). s.broken) stood other

-- it made one
broken_before : (stood : List Standing) (link : ℕ) (call : Break) → broken_at (stood ++ new_standing ∷ []) link ≡ Some (Some call) → broken_at stood link ≡ Some (Some call)
broken_before [] zero call broken = let none : ⊥ = cc in absurd none
broken_before [] (suc link) call broken = let none : ⊥ = cc in absurd none
broken_before (s ∷ stood) zero call broken = broken
broken_before (s ∷ stood) (suc link) call broken = broken_before stood link call broken

pub breaks_made : {before now : ℕ} (stood stands : List Standing) → before ≤ now → stands ≡ stood ++ new_standing ∷ [] → BreaksByFault before now stood stands
breaks_made stood stands later is = record { later = later; cause = inl (λ link call broken. broken_before stood link call (ap (λ (l : List Standing). broken_at l link) (sym is) ∙ broken)) }

-- ---- connections that were made meanwhile

unbroken_if : (broken : Option Break) → ((call : Break) → ¬ (broken ≡ Some call)) → broken ≡ None
unbroken_if None never = refl
unbroken_if (Some call) never = absurd (never call refl)

broken_within : (stood : List Standing) (link : ℕ) (call : Break) (found : Option Standing) → slice_get stood link ≡ found → option_map (λ standing. standing.broken) found ≡ Some (Some call) → link < length stood
broken_within stood link call None is broken = let none : ⊥ = cc in absurd none
broken_within stood link call (Some s) is broken = slice_get_within stood link s is

broken_told : (new : Option (List Link)) (stands : List Standing) (after : List Link) (link : ℕ) (t : Link) → Agrees new stands → new ≡ Some after → slice_get after link ≡ Some t → broken_at stands link ≡ Some t.broken
broken_told new stands after link t agrees told there =
    let same : map standing_of after ≡ stands = subst (λ (w : Option (List Link)). IfSome w (λ l. map standing_of l ≡ stands)) told agrees in
    ap (λ (l : List Standing). broken_at l link) (sym same) ∙ ap (option_map (λ (s : Standing). s.broken)) (slice_get-map standing_of after link)
    ∙ ap (λ (o : Option Link). option_map (λ (s : Standing). s.broken) (option_map standing_of o)) there

-- without a fault none of them is broken
pub new_unbroken : {faults_old faults_new : ℕ} (old new : Option (List Link)) (stood stands : List Standing) → Agrees old stood → Agrees new stands → BreaksByFault faults_old faults_new stood stands
    → ¬ Rose faults_old faults_new → NewAreUnbroken old new
new_unbroken old new stood stands agrees_old agrees_new broke quiet = record {
  each = λ before after told told_after link t behind there.
      let size = length-told before stood (subst (λ (w : Option (List Link)). Agrees w stood) told agrees_old) in
      elim broke.cause [
        | inl none ↦
            unbroken_if t.broken
            (λ call is.
            let within = broken_within stood link call (slice_get stood link) refl (none link call (broken_told new stands after link t agrees_new told_after there ∙ ap (λ (b : Option Break). Some b) is)) in
            omega (arith, within, size, behind))
        | inr rose ↦ absurd (quiet rose)
      ];
}
