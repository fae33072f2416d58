use Rattle.std.proofs.Common.{ap, ◌∙◌}
use Rattle.std.specs.Option.{unwrap_or}
use Rattle.aspa_top.proofs.FileLemmas.{validated_makes}
use Rattle.aspa_top.proofs.files.validated_outcome.Goals as goal

pub returns-in-Ok : goal.returns-in-Ok
returns-in-Ok c = record {
  comes = validated_makes _ _ c.in-Ok.said _ _ c.in-Ok.ensures (c.unwrap_or-payloads.ensures ∙ ap (unwrap_or c.in-Ok.said.payloads) c.new.ensures) c.source_outcome.ensures.comes;
}
