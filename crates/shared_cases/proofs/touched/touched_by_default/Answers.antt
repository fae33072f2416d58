use Rattle.std.proofs.Common.{◌≡◌, ℕ, List, ◌∷◌, ap, sym, subst, ◌∙◌, true≢false, nat_cmp}
use Rattle.std.specs.List.Sorted.{IsStrictlySortedBy}
use Rattle.std.specs.Map.Iter.{deref}
use Rattle.std.proofs.lemmas.Map.Iter.{rest_more}
use Rattle.path_model.specs.Roles.{Relations}
use Rattle.shared_cases.specs.Numbers.{has}
use Rattle.shared_cases.proofs.PeerLemmas.{AreCovered, same_next, others_next, only_next}
use Rattle.shared_cases.proofs.RoleLemmas.{same_default, own_role, other_default}
use Rattle.shared_cases.proofs.touched.touched_by_default.Goals as goal

pub returns-then-is_same_role-clause-others : goal.returns-then-is_same_role-clause-others
returns-then-is_same_role-clause-others c = λ asn n asked there absent.
    same_default c.args.roles.now c.args.before asn (c.is_same_role.ensures.0 c.if-is_same_role.true ∙ c.default.ensures)

pub returns-then-is_same_role-clause-rising : goal.returns-then-is_same_role-clause-rising
unfolding IsStrictlySortedBy
returns-then-is_same_role-clause-rising c = subst (IsStrictlySortedBy nat_cmp) (sym c.new.ensures.items) tt

pub loop-asn-init : goal.loop-asn-init
loop-asn-init c = record {
  others = λ asn n asked there absent unlisted. absurd (true≢false (sym (ap (λ (ases : List ℕ). has ases asn) (c.into_iter-asn-iterator.ensures.into_iter_gives ∙ c.defaulted-asn-items.ensures) ∙ asked) ∙ unlisted));
  only = λ n there. absurd (true≢false (sym there ∙ ap (λ (numbers : List ℕ). has numbers n) c.new-found.ensures));
}

pub loop-asn-preserved-then-has_own : goal.loop-asn-preserved-then-has_own
loop-asn-preserved-then-has_own c =
    let old : Relations = record c.args.roles.now { default = c.args.before } in
    let e : c.loop-asn.asn-iterator ≡ c.in-Some.asn.now ∷ c.next.new.self = rest_more deref c.loop-asn.asn-iterator c.next.new.self c.next.result c.in-Some.asn c.in-Some.is c.next.ensures.steps in
    record {
      others = same_next c.args.peers.now.members old c.args.roles.now c.args.peers.now.defaulted c.loop-asn.found c.loop-asn.found c.next.new.self c.in-Some.asn.now
          (subst (AreCovered c.args.peers.now.members old c.args.roles.now c.args.peers.now.defaulted c.loop-asn.found) e c.loop-asn.invariant.others)
          (own_role c.args.roles.now c.args.before c.in-Some.asn.now (sym c.has_own.ensures ∙ c.if-has_own.true));
      only = c.loop-asn.invariant.only;
    }

pub loop-asn-preserved : goal.loop-asn-preserved
loop-asn-preserved c =
    let old : Relations = record c.args.roles.now { default = c.args.before } in
    let e : c.loop-asn.asn-iterator ≡ c.in-Some.asn.now ∷ c.next.new.self = rest_more deref c.loop-asn.asn-iterator c.next.new.self c.next.result c.in-Some.asn c.in-Some.is c.next.ensures.steps in
    record {
      others = others_next c.args.peers.now.members old c.args.roles.now c.args.peers.now.defaulted c.loop-asn.found c.touch_members.new.touched c.next.new.self c.in-Some.asn.now
          (subst (AreCovered c.args.peers.now.members old c.args.roles.now c.args.peers.now.defaulted c.loop-asn.found) e c.loop-asn.invariant.others)
          c.in_ok-touch_members.ensures;
      only = only_next c.args.peers.now.members old c.args.roles.now c.args.peers.now.defaulted c.loop-asn.found c.touch_members.new.touched c.next.new.self c.in-Some.asn.now c.loop-asn.invariant.only c.in_ok-touch_members.ensures
          (other_default c.args.roles.now c.args.before c.in-Some.asn.now (sym c.has_own.ensures ∙ c.if-has_own.false)
          (λ same. true≢false (sym (c.is_same_role.ensures.1 (same ∙ sym c.default.ensures)) ∙ c.if-is_same_role.false)));
    }
