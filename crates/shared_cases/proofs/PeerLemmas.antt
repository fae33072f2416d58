-- The cases of each AS, and the ASes whose role is another one.
use Rattle.std.proofs.Common.{◌≡◌, ◌≢◌, ℕ, nat_eq, ◌||◌, ◌&&◌, not, ◌⊎◌, inl, inr, Bool, true, false, List, [], ◌∷◌, None, Some, is_some, refl, ap, sym, ◌∙◌, true≢false}
use Rattle.std.specs.declared.option.Option.{Option}
use Rattle.std.specs.Cmp.{nat_eq_equiv}
use Rattle.std.proofs.Math.Bool.{and-true}
use Rattle.std.proofs.lemmas.Bool.{and_parts, or_cases, or_parts}
use Rattle.path_model.specs.Roles.{Relations, role_of}
use Rattle.shared_cases.specs.Numbers.{has}
use Rattle.shared_cases.specs.Peers.{Members, found, has_cases, is_member, HasMovedMember, HaveCases, HaveMembers}
use Rattle.shared_cases.proofs.NumberLemmas.{decide_eq, nat_eq-other}

-- ---- the ASes whose role is another one, one after another

-- the cases of these ASes are among those touched, or the roles of the ASes are the same; but for the ASes that are left
abbrev pub AreCovered : Members → Relations → Relations → List ℕ → List ℕ → List ℕ → Type 0
AreCovered members old new ases touched rest =
    (asn n : ℕ) → has ases asn ≡ true → is_member members asn n ≡ true → has touched n ≡ false → has rest asn ≡ false → role_of old asn ≡ role_of new asn

module _ (members : Members) (old new : Relations) (ases before after rest : List ℕ) (x : ℕ) where
  others_by : (asn n : ℕ) → is_member members asn n ≡ true → has after n ≡ false → has rest asn ≡ false → ((n : ℕ) → has after n ≡ (has before n || is_member members x n))
      → (has before n ≡ false → has (x ∷ rest) asn ≡ false → role_of old asn ≡ role_of new asn) → (asn ≡ x) ⊎ (asn ≢ x) → role_of old asn ≡ role_of new asn
  others_by asn n there absent unlisted adds so_far (inl e) =
      absurd (true≢false (sym there ∙ ap (λ (a : ℕ). is_member members a n) e ∙ (or_parts (has before n) (is_member members x n) (sym (adds n) ∙ absent)).1))
  others_by asn n there absent unlisted adds so_far (inr other) =
      so_far (or_parts (has before n) (is_member members x n) (sym (adds n) ∙ absent)).0 (ap (λ (b : Bool). b || has rest asn) (nat_eq-other asn x other) ∙ unlisted)

  same_by : (asn n : ℕ) → has rest asn ≡ false → role_of old x ≡ role_of new x
      → (has (x ∷ rest) asn ≡ false → role_of old asn ≡ role_of new asn) → (asn ≡ x) ⊎ (asn ≢ x) → role_of old asn ≡ role_of new asn
  same_by asn n unlisted same so_far (inl e) = ap (role_of old) e ∙ same ∙ ap (role_of new) (sym e)
  same_by asn n unlisted same so_far (inr other) = so_far (ap (λ (b : Bool). b || has rest asn) (nat_eq-other asn x other) ∙ unlisted)

  -- the AS x has the same role
  pub same_next : AreCovered members old new ases before (x ∷ rest) → role_of old x ≡ role_of new x → AreCovered members old new ases before rest
  same_next so_far same asn n asked there absent unlisted = same_by asn n unlisted same (so_far asn n asked there absent) (decide_eq asn x)

  -- the AS x has another role, and its cases are among those touched
  pub others_next : AreCovered members old new ases before (x ∷ rest) → ((n : ℕ) → has after n ≡ (has before n || is_member members x n)) → AreCovered members old new ases after rest
  others_next so_far adds asn n asked there absent unlisted = others_by asn n there absent unlisted adds (so_far asn n asked there) (decide_eq asn x)

  pub only_next : ((n : ℕ) → has before n ≡ true → HasMovedMember members old new n) → ((n : ℕ) → has after n ≡ (has before n || is_member members x n)) → role_of old x ≢ role_of new x
      → (n : ℕ) → has after n ≡ true → HasMovedMember members old new n
  only_next so_far adds other n there = elim (or_cases (has before n) (is_member members x n) (sym (adds n) ∙ there)) [
    | inl was ↦ so_far n was
    | inr member ↦ (x, (member, other))
  ]

-- ---- an AS goes
keeps_both : (h c : Bool) → (h ≡ true → c ≡ true) → h ≡ (h && c)
keeps_both true c holds = sym (holds refl)
keeps_both false c holds = refl

module _ (before after : Members) (asn : ℕ) (none : found after asn ≡ None) (others : (a : ℕ) → a ≢ asn → found after a ≡ found before a) where
  members_by : HaveMembers before → (a : ℕ) → (a ≡ asn) ⊎ (a ≢ asn) → found after a ≢ Some []
  members_by have a (inl e) = λ empty. let no : None ≡ Some [] = sym none ∙ ap (found after) (sym e) ∙ empty in absurd (cc)
  members_by have a (inr other) = λ empty. have a (sym (others a other) ∙ empty)

  -- the others have cases as before
  pub members_left : HaveMembers before → HaveMembers after
  members_left have a = members_by have a (decide_eq a asn)

  module _ (ases ases' : List ℕ) (held : HaveCases before ases) (less : (a : ℕ) → has ases' a ≡ (has ases a && not (nat_eq a asn))) where
    goes_by : (a : ℕ) → (a ≡ asn) ⊎ (a ≢ asn) → has ases' a ≡ (has ases a && has_cases after a)
    goes_by a (inl e) = less a ∙ ap (λ (b : Bool). has ases a && b)
        (ap (λ (k : ℕ). not (nat_eq a k)) (sym e) ∙ ap not (nat_eq_equiv.refl a) ∙ sym (ap (has_cases after) e ∙ ap (λ (o : Option (List ℕ)). is_some o) none))
    goes_by a (inr other) = less a ∙ ap (λ (b : Bool). has ases a && not b) (nat_eq-other a asn other) ∙ and-true (has ases a)
        ∙ keeps_both (has ases a) (has_cases after a) (λ there. ap (λ (o : Option (List ℕ)). is_some o) (others a other) ∙ held a there)

    -- and it goes from among these
    pub as_goes : (a : ℕ) → has ases' a ≡ (has ases a && has_cases after a)
    as_goes a = goes_by a (decide_eq a asn)

    pub left_have_cases : HaveCases after ases'
    left_have_cases a there = (and_parts (has ases a) (has_cases after a) (sym (as_goes a) ∙ there)).1
