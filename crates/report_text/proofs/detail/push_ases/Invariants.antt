use Rattle.std.proofs.Common.{◌≡◌, ◌++◌, length, reverse}
use Rattle.av_text.specs.Parts.{IsGrown}
use Rattle.report_text.specs.Details.{ases_text}
use Rattle.report_text.proofs.detail.push_ases.Given as goal

abbrev pub invariant-loop-asn : goal.invariant-loop-asn
invariant-loop-asn l = record {
  so_far : l.out.items ++ ases_text (reverse l.left) ≡ l.fn.out.items ++ ases_text (reverse l.chain);
  grown : IsGrown l.fn.out.items l.out.items;
}

abbrev pub decreases-loop-asn : goal.decreases-loop-asn
decreases-loop-asn l = length l.left
