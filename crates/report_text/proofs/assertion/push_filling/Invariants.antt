use Rattle.std.proofs.Common.{◌≡◌, ◌≤◌, ◌++◌, length, take}
use Rattle.report_text.specs.Details.{ases_text}
use Rattle.report_text.proofs.assertion.push_filling.Given as goal

abbrev pub invariant-loop-asn : goal.invariant-loop-asn
invariant-loop-asn l = record {
  at : l.taken ≡ l.asn-index;
  end : l.asn-index-end ≡ length l.ases;
  within : l.taken ≤ length l.ases;
  start : l.start ≡ length l.fn.out.items;
  so_far : l.out.items ≡ l.fn.out.items ++ ases_text (take l.taken l.ases);
  fits : length (ases_text (take l.taken l.ases)) ≤ l.room;
}
