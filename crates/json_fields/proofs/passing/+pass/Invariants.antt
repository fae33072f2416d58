use Rattle.std.proofs.Common.{◌+◌, ◌*◌, List, length}
use Rattle.serde_json.specs.Data.{Data, Members}
use Rattle.json_fields.proofs.TurnsLemmas.{ItemsSoFar, MembersSoFar}
use Rattle.json_fields.proofs.passing.+pass.Given as goal

abbrev pub decreases-pass : goal.decreases-pass
decreases-pass l = 2 * l.depth

abbrev pub decreases-pass_items : goal.decreases-pass_items
decreases-pass_items l = 2 * l.depth + 1

abbrev pub decreases-pass_members : goal.decreases-pass_members
decreases-pass_members l = 2 * l.depth + 1

abbrev pub invariant-pass_items-items : goal.invariant-pass_items-items
invariant-pass_items-items l = (done : List Data) × ItemsSoFar l.depth l.initial.reader l.reader done

abbrev pub decreases-pass_items-items : goal.decreases-pass_items-items
decreases-pass_items-items l = length l.reader

abbrev pub invariant-pass_members-members : goal.invariant-pass_members-members
invariant-pass_members-members l = (done : Members) × MembersSoFar l.depth l.initial.reader l.reader done

abbrev pub decreases-pass_members-members : goal.decreases-pass_members-members
decreases-pass_members-members l = length l.reader
