use Rattle.stated_workload.proofs.WorkloadLemmas.{loading_is}
use Rattle.stated_workload.proofs.workload.draw_loading.Goals as goal

pub returns : goal.returns
returns c = loading_is _ _ _ _ _ _ _ _ _ _ c.in_ok-rows.ensures c.in_ok-terms.ensures c.in_ok-name.ensures c.new-events.ensures.items c.in_ok-push.ensures.items
    c.in_ok-add_roles.ensures c.in_ok-add_announcements.ensures
