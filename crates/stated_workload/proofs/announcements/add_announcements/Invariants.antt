use Rattle.stated_workload.specs.Draws.{Adds}
use Rattle.stated_workload.specs.Workload.{DrawsAnnouncement}
use Rattle.stated_workload.proofs.announcements.add_announcements.Given as goal

abbrev pub invariant-loop-p : goal.invariant-loop-p
invariant-loop-p l = Adds DrawsAnnouncement l.p l.fn.rng l.fn.events.items l.events.items l.rng
