use Rattle.std.proofs.Common.{◌≡◌, ◌+◌, is_some}
use Rattle.std.specs.List.{count_by}
use Rattle.rib_store.specs.Numbered.{numbered_left}
use Rattle.listings.specs.EachSent.{AreSeen}
use Rattle.listings.proofs.SentStepLemmas.{Covers}
use Rattle.listings.proofs.sent_verdicts.sent_verdicts.Given as goal

abbrev pub invariant-loop-key : goal.invariant-loop-key
invariant-loop-key g l = record {
  seen : AreSeen l.fn.store l.fn.role l.fn.ases l.verdicts.items;
  covers : Covers l.fn.store l.verdicts.items (numbered_left l.key-iterator);
  ticked : l.steps ≡ l.fn.steps + count_by is_some l.verdicts.items;
}
