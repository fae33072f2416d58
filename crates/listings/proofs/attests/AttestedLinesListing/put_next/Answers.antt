use Rattle.std.proofs.Common.{ap, ◌∙◌}
use Rattle.vap_table.specs.Entries.{entries_left}
use Rattle.report_text.proofs.AsesLemmas.{none_there, some_there}
use Rattle.listings.specs.declared.attests.AttestedLines.{AttestedLines}
use Rattle.listings.proofs.AttestsLemmas.{left_added, next_added}
use Rattle.listings.proofs.attests.AttestedLinesListing.put_next.Goals as goal
use Rattle.listings.proofs.attests.AttestedLinesListing.put_next.Goals.{then-is_empty+in-Some, else-is_empty}

pub returns-clause-steps : goal.returns-clause-steps
returns-clause-steps c = elim c.if-is_empty.branch [
  | then-is_empty+in-Some w ↦
      next_added c.if-is_empty.self.customer c.args.self.now.customer w.in-Some.customer c.if-is_empty.self.left.now c.args.self.now.left.now w.in-Some.row.now
      (entries_left c.if-is_empty.self.entries) (entries_left c.args.self.now.entries) (entries_left w.next.new.self) c.in_ok-taken.taken c.args.text.now.items c.put_assertion.new.out.items
      (none_there c.args.self.now.left.now c.is_empty.result c.is_empty.ensures w.if-is_empty.true) w.in-Some.ensures.steps
      (ap (λ (s : AttestedLines). s.customer) w.self-is) (ap (λ (s : AttestedLines). s.left.now) w.self-is ∙ w.as_slice-self.ensures) (ap (λ (s : AttestedLines). entries_left s.entries) w.self-is)
      c.in_ok-taken.ensures.filled c.in_ok-taken.ensures.ok
  | else-is_empty w ↦
      left_added c.if-is_empty.self.customer c.args.self.now.customer c.if-is_empty.self.left.now c.args.self.now.left.now
      (entries_left c.if-is_empty.self.entries) (entries_left c.args.self.now.entries) c.in_ok-taken.taken c.args.text.now.items c.put_assertion.new.out.items
      (some_there c.args.self.now.left.now c.is_empty.result c.is_empty.ensures w.if-is_empty.false)
      (ap (λ (s : AttestedLines). s.customer) w.self-is) (ap (λ (s : AttestedLines). s.left.now) w.self-is) (ap (λ (s : AttestedLines). entries_left s.entries) w.self-is)
      c.in_ok-taken.ensures.filled c.in_ok-taken.ensures.ok
]
