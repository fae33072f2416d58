-- How the indexes keep to the cases.
use Rattle.std.proofs.Common.{◌≡◌, ◌≢◌, ℕ, zero, suc, nat_eq, ◌<◌, Bool, true, false, not, ◌||◌, ◌&&◌, [], ◌∷◌, length, None, Some, refl, ap, sym, subst, ◌∙◌, arith, slice_set, ◌⊎◌, inl, inr}
use Rattle.std.proofs.Math.Bool.{and-true, or-false}
use Rattle.std.proofs.lemmas.List.{get_or-set_same}
use Rattle.std.specs.declared.option.Option.{Option}
use Rattle.std.specs.Cmp.{nat_eq_equiv}
use Rattle.path_model.specs.Trail.{Path}
use Rattle.hop_index.specs.Hops.{has_hop}
use Rattle.shared_cases.specs.declared.case.StoredCase.{StoredCase}
use Rattle.shared_cases.specs.declared.names.Names.{Names}
use Rattle.shared_cases.specs.Cases.{Slots, at, Rewrites, IsAbsent, hops_of, is_of_peer}
use Rattle.shared_cases.specs.Kept.{with_chain, without_chain, AreIndexed, AreSameHops, Hops}
use Rattle.shared_cases.specs.Naming.{AddsName, RemovesName}
use Rattle.shared_cases.specs.Peers.{Members, is_member, AddsMember, RemovesMember}
use Rattle.shared_cases.proofs.NamingLemmas.{IsSameName, same_name-refl, name_come, name_gone, names_stay}
use Rattle.shared_cases.proofs.NumberLemmas.{decide_eq, nat_eq-other}

same_hops : (c d : Option StoredCase) (x y : ℕ) → IsSameName c d → hops_of c x y ≡ hops_of d x y
same_hops None None x y same = refl
same_hops None (Some d) x y same = absurd same
same_hops (Some c) None x y same = absurd same
same_hops (Some c) (Some d) x y same = ap (λ (p : Path). has_hop p.chain x y) same.1

pub same_peer : (c d : Option StoredCase) (asn : ℕ) → IsSameName c d → is_of_peer c asn ≡ is_of_peer d asn
same_peer None None asn same = refl
same_peer None (Some d) asn same = absurd same
same_peer (Some c) None asn same = absurd same
same_peer (Some c) (Some d) asn same = ap (nat_eq asn) same.0

-- names that stay, number by number
pub same_names : (old new : Slots) (names : Names) (hops : Hops) (peers : Members)
    → ((m : ℕ) → IsSameName (at old m) (at new m)) → AreIndexed old names hops peers → AreIndexed new names hops peers
same_names old new names hops peers same kept = record {
  named = names_stay old new names same kept.named;
  indexed = λ x y n. kept.indexed x y n ∙ same_hops (at old n) (at new n) x y (same n);
  members = λ asn n. kept.members asn n ∙ same_peer (at old n) (at new n) asn (same n);
}

same_at : (old new : Slots) (n m : ℕ) (v : Option StoredCase) → Rewrites old new n v → IsSameName (at old n) v → (m ≡ n) ⊎ (m ≢ n) → IsSameName (at old m) (at new m)
same_at old new n m v writes same (inl e) =
    subst (λ (k : ℕ). IsSameName (at old k) (at new k)) (sym e) (subst (λ (c : Option StoredCase). IsSameName (at old n) c) (sym writes.here) same)
same_at old new n m v writes same (inr other) =
    subst (λ (c : Option StoredCase). IsSameName (at old m) c) (sym (writes.others m other)) (same_name-refl (at old m))

-- a rewrite under the same name
pub rewritten : (old new : Slots) (n : ℕ) (v : Option StoredCase) (names : Names) (hops : Hops) (peers : Members)
    → Rewrites old new n v → IsSameName (at old n) v → AreIndexed old names hops peers → AreIndexed new names hops peers
rewritten old new n v names hops peers writes same kept = same_names old new names hops peers (λ m. same_at old new n m v writes same (decide_eq m n)) kept

-- a number with a case is within the list
within_cases : (cases : Slots) (n : ℕ) (c : StoredCase) → at cases n ≡ Some c → n < length cases
within_cases [] n c e = absurd (cc)
within_cases (x ∷ xs) zero c e = omega arith
within_cases (x ∷ xs) (suc n) c e = omega (arith, within_cases xs n c e)

-- what is written over a case stands there
pub written_here : (cases : Slots) (n : ℕ) (c : StoredCase) (v : Option StoredCase) → at cases n ≡ Some c → at (slice_set cases n v) n ≡ v
written_here cases n c v here = get_or-set_same cases n v None (within_cases cases n c here)

not_both : (b : Bool) → (b && not (true && b)) ≡ false
not_both true = refl
not_both false = refl

module _ (old new : Slots) (names names' : Names) (hops hops' : Hops) (peers peers' : Members) (n : ℕ) (c : StoredCase) (kept : AreIndexed old names hops peers) where
  -- ---- the case under n goes
  gone_hops : at old n ≡ Some c → Rewrites old new n None → AreSameHops (without_chain hops n c.trail.chain) hops' → (x y m : ℕ) → (m ≡ n) ⊎ (m ≢ n) → hops' x y m ≡ hops_of (at new m) x y
  gone_hops here writes hs x y m (inl e) = subst (λ (k : ℕ). hops' x y k ≡ hops_of (at new k) x y) (sym e)
      (hs x y n ∙ ap (λ (b : Bool). b && not (nat_eq n n && has_hop c.trail.chain x y)) (kept.indexed x y n ∙ ap (λ (o : Option StoredCase). hops_of o x y) here)
      ∙ ap (λ (b : Bool). has_hop c.trail.chain x y && not (b && has_hop c.trail.chain x y)) (nat_eq_equiv.refl n) ∙ not_both (has_hop c.trail.chain x y)
      ∙ ap (λ (o : Option StoredCase). hops_of o x y) (sym writes.here))
  gone_hops here writes hs x y m (inr other) =
      hs x y m ∙ ap (λ (b : Bool). hops x y m && not (b && has_hop c.trail.chain x y)) (nat_eq-other m n other) ∙ and-true (hops x y m) ∙ kept.indexed x y m
      ∙ ap (λ (o : Option StoredCase). hops_of o x y) (sym (writes.others m other))

  gone_member : at old n ≡ Some c → Rewrites old new n None → RemovesMember peers c.asn n peers' → (asn m : ℕ) → (m ≡ n) ⊎ (m ≢ n) → is_member peers' asn m ≡ is_of_peer (at new m) asn
  gone_member here writes ms asn m (inl e) = subst (λ (k : ℕ). is_member peers' asn k ≡ is_of_peer (at new k) asn) (sym e)
      (ms asn n ∙ ap (λ (b : Bool). b && not (nat_eq asn c.asn && nat_eq n n)) (kept.members asn n ∙ ap (λ (o : Option StoredCase). is_of_peer o asn) here)
      ∙ ap (λ (b : Bool). nat_eq asn c.asn && not (nat_eq asn c.asn && b)) (nat_eq_equiv.refl n) ∙ not_itself (nat_eq asn c.asn)
      ∙ ap (λ (o : Option StoredCase). is_of_peer o asn) (sym writes.here)) where
        not_itself : (b : Bool) → (b && not (b && true)) ≡ false
        not_itself true = refl
        not_itself false = refl
  gone_member here writes ms asn m (inr other) =
      ms asn m ∙ ap (λ (b : Bool). is_member peers asn m && not (nat_eq asn c.asn && b)) (nat_eq-other m n other) ∙ not_other (is_member peers asn m) (nat_eq asn c.asn) ∙ kept.members asn m
      ∙ ap (λ (o : Option StoredCase). is_of_peer o asn) (sym (writes.others m other)) where
        not_other : (a b : Bool) → (a && not (b && false)) ≡ a
        not_other true true = refl
        not_other true false = refl
        not_other false b = refl

  pub case_gone : at old n ≡ Some c → Rewrites old new n None → RemovesName names c.asn c.trail n names' → AreSameHops (without_chain hops n c.trail.chain) hops' → RemovesMember peers c.asn n peers'
      → AreIndexed new names' hops' peers'
  case_gone here writes ns hs ms = record {
    named = name_gone old new names names' n c kept.named here writes ns;
    indexed = λ x y m. gone_hops here writes hs x y m (decide_eq m n);
    members = λ asn m. gone_member here writes ms asn m (decide_eq m n);
  }

  -- ---- the case c comes under n
  come_hops : at old n ≡ None → Rewrites old new n (Some c) → AreSameHops (with_chain hops n c.trail.chain) hops' → (x y m : ℕ) → (m ≡ n) ⊎ (m ≢ n) → hops' x y m ≡ hops_of (at new m) x y
  come_hops here writes hs x y m (inl e) = subst (λ (k : ℕ). hops' x y k ≡ hops_of (at new k) x y) (sym e)
      (hs x y n ∙ ap (λ (b : Bool). b || (nat_eq n n && has_hop c.trail.chain x y)) (kept.indexed x y n ∙ ap (λ (o : Option StoredCase). hops_of o x y) here)
      ∙ ap (λ (b : Bool). b && has_hop c.trail.chain x y) (nat_eq_equiv.refl n) ∙ ap (λ (o : Option StoredCase). hops_of o x y) (sym writes.here))
  come_hops here writes hs x y m (inr other) =
      hs x y m ∙ ap (λ (b : Bool). hops x y m || (b && has_hop c.trail.chain x y)) (nat_eq-other m n other) ∙ or-false (hops x y m) ∙ kept.indexed x y m
      ∙ ap (λ (o : Option StoredCase). hops_of o x y) (sym (writes.others m other))

  come_member : at old n ≡ None → Rewrites old new n (Some c) → AddsMember peers c.asn n peers' → (asn m : ℕ) → (m ≡ n) ⊎ (m ≢ n) → is_member peers' asn m ≡ is_of_peer (at new m) asn
  come_member here writes ms asn m (inl e) = subst (λ (k : ℕ). is_member peers' asn k ≡ is_of_peer (at new k) asn) (sym e)
      (ms asn n ∙ ap (λ (b : Bool). b || (nat_eq asn c.asn && nat_eq n n)) (kept.members asn n ∙ ap (λ (o : Option StoredCase). is_of_peer o asn) here)
      ∙ ap (λ (b : Bool). nat_eq asn c.asn && b) (nat_eq_equiv.refl n) ∙ and-true (nat_eq asn c.asn)
      ∙ ap (λ (o : Option StoredCase). is_of_peer o asn) (sym writes.here))
  come_member here writes ms asn m (inr other) =
      ms asn m ∙ ap (λ (b : Bool). is_member peers asn m || (nat_eq asn c.asn && b)) (nat_eq-other m n other) ∙ or_other (is_member peers asn m) (nat_eq asn c.asn) ∙ kept.members asn m
      ∙ ap (λ (o : Option StoredCase). is_of_peer o asn) (sym (writes.others m other)) where
        or_other : (a b : Bool) → (a || (b && false)) ≡ a
        or_other true b = refl
        or_other false true = refl
        or_other false false = refl

  pub case_come : at old n ≡ None → Rewrites old new n (Some c) → AddsName names c.asn c.trail n names' → IsAbsent old c.asn c.trail → AreSameHops (with_chain hops n c.trail.chain) hops'
      → AddsMember peers c.asn n peers' → AreIndexed new names' hops' peers'
  case_come here writes ns absent hs ms = record {
    named = name_come old new names names' n c kept.named here writes absent ns;
    indexed = λ x y m. come_hops here writes hs x y m (decide_eq m n);
    members = λ asn m. come_member here writes ms asn m (decide_eq m n);
  }
