use Rattle.std.proofs.Common.{◌≡◌, ◌++◌}
use Rattle.std.specs.Prelude.{option_copied, option_to_list}
use Rattle.bgp_attrs.specs.Attributes.{contents_of}
use Rattle.bgp_attrs.specs.Left.{fields_left}
use Rattle.bgp_attrs.proofs.finding.only_content.Given as goal

abbrev pub invariant-loop-field : goal.invariant-loop-field
invariant-loop-field l = option_to_list (option_copied l.found) ++ contents_of l.kind (fields_left l.field-iterator) ≡ contents_of l.kind (fields_left l.fields)
