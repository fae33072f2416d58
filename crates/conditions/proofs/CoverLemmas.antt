-- The test of prefixes is that one covers the other.
use Rattle.std.proofs.Common.{◌≡◌, ◌↔◌, ℕ, ◌≤◌, nat_le, Bool, true, false, ◌&&◌, IsTrue, refl, ap, sym, ◌∙◌, subst}
use Rattle.std.specs.BTreeMap.{is_at}
use Rattle.std.specs.Bool.{one_answer}
use Rattle.std.specs.Cmp.{Equal-is}
use Rattle.std.specs.declared.option.Option.{Option}
use Rattle.std.specs.declared.option.Option.TheVariants.{Some, None}
use Rattle.std.proofs.lemmas.Bool.{le-leb, leb-true}
use Rattle.path_model.specs.Prefix.{Subnet, prefix_of, subnet_cmp}
use Rattle.path_model.proofs.OrderLemmas.{subnet_exact}
use Rattle.origin_model.specs.Covering.{Covers}
use Rattle.origin_model.proofs.PayloadLemmas.{subnet_itself}
use Rattle.conditions.specs.Meets.{is_covered, same_prefix}

same_is : (o : Option Subnet) (p : Subnet) → same_prefix o p ≡ true → o ≡ Some p
same_is None p e = absurd cc
same_is (Some q) p e = ap Some (subnet_exact q p ((Equal-is (subnet_cmp q p)).0 e))

itself_same : (p : Subnet) → same_prefix (Some p) p ≡ true
itself_same p = (Equal-is (subnet_cmp p p)).1 (subnet_itself p)

both_of : (a b : Bool) → (a && b) ≡ true → (a ≡ true) × (b ≡ true)
both_of true b e = (refl, e)
both_of false b e = absurd cc

pub covered_covers : (p q : Subnet) → is_covered p q ≡ true → Covers p q
covered_covers p q e =
    let both = both_of (nat_le p.len q.len) (same_prefix (prefix_of q.addr p.len) p) e in
    record { shorter = leb-true p.len q.len both.0; front = same_is (prefix_of q.addr p.len) p both.1 }

pub covers_covered : (p q : Subnet) → Covers p q → is_covered p q ≡ true
covers_covered p q covers =
    ap (λ (b : Bool). b && same_prefix (prefix_of q.addr p.len) p) (le-leb p.len q.len covers.shorter)
    ∙ ap (λ (o : Option Subnet). same_prefix o p) covers.front ∙ itself_same p

pub tested_by_covering : (p q : Subnet) → IsTrue (is_covered p q) ↔ Covers p q
tested_by_covering p q = (covered_covers p q, covers_covered p q)

-- an answer that tells which covers which is the test's
pub same_answer : (p q : Subnet) (b : Bool) → IsTrue b ↔ Covers p q → b ≡ is_covered p q
same_answer p q b tells = one_answer b (is_covered p q) tells (tested_by_covering p q)
