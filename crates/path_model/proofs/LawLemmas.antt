-- The laws of verdicts and witnesses.
use Rattle.std.proofs.Common.{◌≡◌, ℕ, inl, inr, List, refl, sym, ◌∙◌}
use Rattle.av_base.specs.One.{HasOne, HasOnePair}
use Rattle.path_model.specs.declared.role.Role.{Role}
use Rattle.path_model.specs.declared.role.Direction.{Direction}
use Rattle.path_model.specs.declared.verdict.Verdict.{Verdict}
use Rattle.path_model.specs.declared.verdict.Verdict.TheVariants.{Valid, Unknown, Invalid}
use Rattle.path_model.specs.declared.witness.Witness.{Witness}
use Rattle.path_model.specs.Authority.{Table}
use Rattle.path_model.specs.Trail.{Path}
use Rattle.path_model.specs.Labelling.{IsValid, direction_of}
use Rattle.path_model.specs.RightVerdict.{IsRight}
use Rattle.path_model.specs.Witness.{Facts}
use Rattle.path_model.specs.PrintedWitness.{IsPrinted}
use Rattle.path_model.specs.Laws.{FullestDecides, fullest, SameOnHops, IsWitnessToo}
use Rattle.path_model.proofs.AuthorityLemmas.{IsCompletion-fullest}
use Rattle.path_model.proofs.ValidLemmas.{AttestsToo-same, AttestsToo-completion, IsValid-more, SameOnHops-sym, CanBeValid-same}
use Rattle.path_model.proofs.WitnessLemmas.{printed_facts}
use Rattle.path_model.proofs.PrintedLemmas.{Found, some_printed, chosen_same}
use Rattle.path_model.proofs.SameHopsLemmas.{chosen_as, shows_as}

-- no two verdicts are right
pub IsRight-unique : (table : Table) (role : Role) (neighbour : ℕ) (path : Path) (one other : Verdict) → IsRight table role neighbour path one
    → IsRight table role neighbour path other → one ≡ other
IsRight-unique table role neighbour path Valid Valid a b = refl
IsRight-unique table role neighbour path Valid Unknown a b = absurd (b.1 a.1)
IsRight-unique table role neighbour path Valid Invalid a b = absurd (elim b [ inl at_once ↦ a.0 at_once | inr by_hops ↦ by_hops.0 a.1 ])
IsRight-unique table role neighbour path Unknown Valid a b = absurd (a.1 b.1)
IsRight-unique table role neighbour path Unknown Unknown a b = refl
IsRight-unique table role neighbour path Unknown Invalid a b = absurd (elim b [ inl at_once ↦ a.0 at_once | inr by_hops ↦ by_hops.1 a.2 ])
IsRight-unique table role neighbour path Invalid Valid a b = absurd (elim a [ inl at_once ↦ b.0 at_once | inr by_hops ↦ by_hops.0 b.1 ])
IsRight-unique table role neighbour path Invalid Unknown a b = absurd (elim a [ inl at_once ↦ b.0 at_once | inr by_hops ↦ by_hops.1 b.2 ])
IsRight-unique table role neighbour path Invalid Invalid a b = refl

-- some verdict is right
pub some_right : (table : Table) (role : Role) (neighbour : ℕ) (path : Path) → (v : Verdict) × IsRight table role neighbour path v
some_right table role neighbour path =
    let found : Found table role neighbour path = some_printed table role neighbour path in
    (found.0, found.2.right)

-- every case has one right verdict
pub one_right : (table : Table) (role : Role) (neighbour : ℕ) (path : Path) → HasOne (IsRight table role neighbour path)
one_right table role neighbour path =
    let found : Found table role neighbour path = some_printed table role neighbour path in
    record { one = found.0; is = found.2.right; only = λ other right. IsRight-unique table role neighbour path other found.0 right found.2.right }

-- every case has one printed witness
pub one_printed : (table : Table) (role : Role) (neighbour : ℕ) (path : Path) → HasOnePair (IsPrinted table role neighbour path)
one_printed table role neighbour path =
    let found : Found table role neighbour path = some_printed table role neighbour path in
    record {
      one = found.0;
      its = found.1;
      is = found.2;
      only = λ other also printed.
          let same : other ≡ found.0 = IsRight-unique table role neighbour path other found.0 printed.right found.2.right in
          (same, chosen_same table role neighbour path also found.1 (sym printed.verdict_shown ∙ same ∙ found.2.verdict_shown) printed.chosen found.2.chosen);
    }

-- each right verdict has a witness
pub right_has_witness : (table : Table) (role : Role) (neighbour : ℕ) (path : Path) (verdict : Verdict) → IsRight table role neighbour path verdict
    → (witness : Witness) × Facts table role neighbour path verdict witness
right_has_witness table role neighbour path verdict right =
    let found : Found table role neighbour path = some_printed table role neighbour path in
    (found.1, rw (IsRight-unique table role neighbour path verdict found.0 right found.2.right) (printed_facts table role neighbour path found.0 found.1 found.2))

-- of all completions the fullest one decides
pub fullest_decides : (table : Table) (chain : List ℕ) → FullestDecides table chain
fullest_decides table chain = record {
  completion = IsCompletion-fullest table chain;
  decides = λ direction completed completion valid. IsValid-more completed (fullest table chain) direction chain (AttestsToo-completion table chain completed completion) valid;
}

-- a path that is valid by one table is by another that says the same of its hops
valid_same : (one other : Table) (direction : Direction) (chain : List ℕ) → SameOnHops one other chain → IsValid one direction chain
    → IsValid other direction chain
valid_same one other direction chain same valid = IsValid-more one other direction chain (AttestsToo-same one other chain same) valid

-- so what is right by the one is right by the other
pub hops_decide : (one other : Table) (role : Role) (neighbour : ℕ) (path : Path) (verdict : Verdict) → SameOnHops one other path.chain
    → IsRight one role neighbour path verdict → IsRight other role neighbour path verdict
hops_decide one other role neighbour path Valid same right = (right.0, valid_same one other (direction_of role) path.chain same right.1)
hops_decide one other role neighbour path Unknown same right =
    let back = SameOnHops-sym one other path.chain same in
    (right.0, (λ valid. right.1 (valid_same other one (direction_of role) path.chain back valid)), CanBeValid-same one other (direction_of role) path.chain same right.2)
hops_decide one other role neighbour path Invalid same right =
    let back = SameOnHops-sym one other path.chain same in
    elim right [
      | inl at_once ↦ inl at_once
      | inr by_hops ↦ inr ((λ valid. by_hops.0 (valid_same other one (direction_of role) path.chain back valid)), λ can. by_hops.1 (CanBeValid-same other one (direction_of role) path.chain back can))
    ]

-- and so are witnesses
pub hops_decide_witnesses : (one other : Table) (role : Role) (neighbour : ℕ) (path : Path) (verdict : Verdict) (witness : Witness)
    → SameOnHops one other path.chain → IsWitnessToo one other role neighbour path verdict witness
hops_decide_witnesses one other role neighbour path verdict witness same = record {
  printed = λ printed. record {
    right = hops_decide one other role neighbour path verdict same printed.right;
    verdict_shown = printed.verdict_shown;
    chosen = chosen_as one other role neighbour path witness same printed.chosen;
  };
  facts = λ facts. record { verdict_shown = facts.verdict_shown; shows = shows_as one other role neighbour path witness same facts.shows };
}
