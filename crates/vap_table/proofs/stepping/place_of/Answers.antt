use Rattle.std.proofs.Common.{ltb, ltb-true, ltb-false, rules}
use Rattle.std.proofs.lemmas.List.Sorted.{IsPartitionPoint-from_clause, IsPartitionedBy-ltb}
use Rattle.vap_table.specs.declared.tally.Given.{Given}
use Rattle.vap_table.proofs.SteppingLemmas.{providers_rise}
use Rattle.vap_table.proofs.stepping.place_of.Goals as goal

pub returns-clause-point : goal.returns-clause-point
returns-clause-point c =
    let parted = IsPartitionedBy-ltb (λ (g : Given). g.provider) c.args.counts.now c.args.number (providers_rise c.args.counts.now c.requires) in
    let point = IsPartitionPoint-from_clause (λ (g : Given). ltb g.provider c.args.number) c.args.counts.now _ c.partition_point.ensures.partitioned parted (λ a r q k. search rules) in
    (λ k d low high. ltb-true _ _ (point.0 k d low high), λ k d low high. ltb-false _ _ (point.1 k d low high))
