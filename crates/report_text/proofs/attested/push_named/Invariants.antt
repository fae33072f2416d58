use Rattle.std.proofs.Common.{◌≡◌, ◌++◌, length, take}
use Rattle.report_text.specs.Details.{ases_text}
use Rattle.report_text.proofs.attested.push_named.Given as goal

abbrev pub invariant-loop-provider : goal.invariant-loop-provider
invariant-loop-provider l = record {
  end : l.provider-index-end ≡ length l.providers;
  so_far : l.out.items ≡ l.fn.out.items ++ ases_text (take l.provider-index l.providers);
}
