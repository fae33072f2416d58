use Rattle.std.proofs.Common.{◌≡◌, length}
use Rattle.std.specs.Prelude.{is_some}
use Rattle.bgp_attrs.specs.Joined.{items_of}
use Rattle.bgp_attrs.specs.Prefixes.{nlri_at}
use Rattle.bgp_attrs.proofs.whole.prefixes.Given as goal

abbrev pub invariant-loop-rest : goal.invariant-loop-rest
invariant-loop-rest l = is_some (items_of (nlri_at l.add_path l.six) l.rest) ≡ is_some (items_of (nlri_at l.add_path l.six) l.bytes)

abbrev pub decreases-loop-rest : goal.decreases-loop-rest
decreases-loop-rest l = length l.rest
