use Rattle.std.proofs.Common.{List, length, map}
use Rattle.serde_json.specs.Data.{Data}
use Rattle.json_fields.specs.Tokens.{AreOr}
use Rattle.json_fields.proofs.TurnsLemmas.{ItemsSoFar}
use Rattle.json_fields.proofs.lists.read_items.Given as goal

abbrev pub invariant-items : goal.invariant-items
invariant-items g l = (done : List Data) × ItemsSoFar l.depth l.initial.reader l.reader done × AreOr (λ v. map g.E.Element.see v.items) g.E.Element.stands_for l.list done

abbrev pub decreases-items : goal.decreases-items
decreases-items g l = length l.reader
