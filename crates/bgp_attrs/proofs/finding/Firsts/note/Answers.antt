use Rattle.std.proofs.Common.{ℕ, ◌==◌, ap, arith}
use Rattle.std.proofs.lemmas.Bool.Decides.{nat_tests}
use Rattle.bgp_attrs.specs.Left.{field_of}
use Rattle.bgp_attrs.proofs.FirstLemmas.{first_kept, first_passed, short_kept}
use Rattle.bgp_attrs.proofs.finding.Firsts.note.Goals as goal

pub returns-in-2 : goal.returns-in-2
returns-in-2 c = λ fields have. record {
  path = first_kept 2 fields (field_of c.args.attribute) _ _ (ap (λ (kind : ℕ). kind == 2) c.in-2.is) have.path c.keep.ensures;
  path4 = first_passed 17 fields (field_of c.args.attribute) _ (ap (λ (kind : ℕ). kind == 17) c.in-2.is) have.path4;
  aggregator = first_passed 7 fields (field_of c.args.attribute) _ (ap (λ (kind : ℕ). kind == 7) c.in-2.is) have.aggregator;
  aggregator4 = first_passed 18 fields (field_of c.args.attribute) _ (ap (λ (kind : ℕ). kind == 18) c.in-2.is) have.aggregator4;
  otc = first_passed 35 fields (field_of c.args.attribute) _ (ap (λ (kind : ℕ). kind == 35) c.in-2.is) have.otc;
  short = short_kept _ _ c.args.attribute.content.now c.args.attribute.short have.short c.keep.ensures;
}

pub returns-in-7 : goal.returns-in-7
returns-in-7 c = λ fields have. record {
  path = first_passed 2 fields (field_of c.args.attribute) _ (ap (λ (kind : ℕ). kind == 2) c.in-7.is) have.path;
  path4 = first_passed 17 fields (field_of c.args.attribute) _ (ap (λ (kind : ℕ). kind == 17) c.in-7.is) have.path4;
  aggregator = first_kept 7 fields (field_of c.args.attribute) _ _ (ap (λ (kind : ℕ). kind == 7) c.in-7.is) have.aggregator c.keep-in-7.ensures;
  aggregator4 = first_passed 18 fields (field_of c.args.attribute) _ (ap (λ (kind : ℕ). kind == 18) c.in-7.is) have.aggregator4;
  otc = first_passed 35 fields (field_of c.args.attribute) _ (ap (λ (kind : ℕ). kind == 35) c.in-7.is) have.otc;
  short = have.short;
}

pub returns-in-17 : goal.returns-in-17
returns-in-17 c = λ fields have. record {
  path = first_passed 2 fields (field_of c.args.attribute) _ (ap (λ (kind : ℕ). kind == 2) c.in-17.is) have.path;
  path4 = first_kept 17 fields (field_of c.args.attribute) _ _ (ap (λ (kind : ℕ). kind == 17) c.in-17.is) have.path4 c.keep-in-17.ensures;
  aggregator = first_passed 7 fields (field_of c.args.attribute) _ (ap (λ (kind : ℕ). kind == 7) c.in-17.is) have.aggregator;
  aggregator4 = first_passed 18 fields (field_of c.args.attribute) _ (ap (λ (kind : ℕ). kind == 18) c.in-17.is) have.aggregator4;
  otc = first_passed 35 fields (field_of c.args.attribute) _ (ap (λ (kind : ℕ). kind == 35) c.in-17.is) have.otc;
  short = have.short;
}

pub returns-in-18 : goal.returns-in-18
returns-in-18 c = λ fields have. record {
  path = first_passed 2 fields (field_of c.args.attribute) _ (ap (λ (kind : ℕ). kind == 2) c.in-18.is) have.path;
  path4 = first_passed 17 fields (field_of c.args.attribute) _ (ap (λ (kind : ℕ). kind == 17) c.in-18.is) have.path4;
  aggregator = first_passed 7 fields (field_of c.args.attribute) _ (ap (λ (kind : ℕ). kind == 7) c.in-18.is) have.aggregator;
  aggregator4 = first_kept 18 fields (field_of c.args.attribute) _ _ (ap (λ (kind : ℕ). kind == 18) c.in-18.is) have.aggregator4 c.keep-in-18.ensures;
  otc = first_passed 35 fields (field_of c.args.attribute) _ (ap (λ (kind : ℕ). kind == 35) c.in-18.is) have.otc;
  short = have.short;
}

pub returns-in-35 : goal.returns-in-35
returns-in-35 c = λ fields have. record {
  path = first_passed 2 fields (field_of c.args.attribute) _ (ap (λ (kind : ℕ). kind == 2) c.in-35.is) have.path;
  path4 = first_passed 17 fields (field_of c.args.attribute) _ (ap (λ (kind : ℕ). kind == 17) c.in-35.is) have.path4;
  aggregator = first_passed 7 fields (field_of c.args.attribute) _ (ap (λ (kind : ℕ). kind == 7) c.in-35.is) have.aggregator;
  aggregator4 = first_passed 18 fields (field_of c.args.attribute) _ (ap (λ (kind : ℕ). kind == 18) c.in-35.is) have.aggregator4;
  otc = first_kept 35 fields (field_of c.args.attribute) _ _ (ap (λ (kind : ℕ). kind == 35) c.in-35.is) have.otc c.keep-in-35.ensures;
  short = have.short;
}

pub returns-in_default : goal.returns-in_default
returns-in_default c = λ fields have. record {
  path = first_passed 2 fields (field_of c.args.attribute) _ (grind (arith, nat_tests)) have.path;
  path4 = first_passed 17 fields (field_of c.args.attribute) _ (grind (arith, nat_tests)) have.path4;
  aggregator = first_passed 7 fields (field_of c.args.attribute) _ (grind (arith, nat_tests)) have.aggregator;
  aggregator4 = first_passed 18 fields (field_of c.args.attribute) _ (grind (arith, nat_tests)) have.aggregator4;
  otc = first_passed 35 fields (field_of c.args.attribute) _ (grind (arith, nat_tests)) have.otc;
  short = have.short;
}
