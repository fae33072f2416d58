use Rattle.std.proofs.Common.{length}
use Rattle.serde_json.specs.Data.{Members, object}
use Rattle.json_fields.proofs.TurnsLemmas.{MembersSoFar}
use Rattle.json_fields.proofs.fields.read_members.Given as goal

abbrev pub invariant-members : goal.invariant-members
invariant-members g l = (done : Members) × MembersSoFar l.depth l.initial.reader l.reader done × g.F.Fields.keeps l.kept (object done)

abbrev pub decreases-members : goal.decreases-members
decreases-members g l = length l.reader
