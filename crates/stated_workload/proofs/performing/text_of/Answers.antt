use Rattle.rib_store.specs.ChangesLeft.{changes_left}
use Rattle.stated_workload.proofs.TextLemmas.{text_is}
use Rattle.stated_workload.proofs.performing.text_of.Goals as goal

pub returns : goal.returns
returns g c =
    text_is c.args.seed c.in_ok-workload.workload.loading.items c.in_ok-workload.workload.amending.items c.in_ok-begun.begun c.in_ok-loaded.loaded c.mark.result c.in_ok-amended.amended
    c.store.result.now.state c.store-2.result.now.state c.store-3.result.now.state c.summary_of.result c.summary_of-2.result (changes_left c.changes.result) c.count_changes.result
    c.new-text.result.items c.put_summary.new.out.items c.put_summary-2.new.out.items c.put_changed.new.out.items
    c.in_ok-workload.ensures c.in_ok-begun.ensures c.in_ok-loaded.ensures c.store.ensures c.summary_of.ensures c.mark.ensures c.in_ok-amended.ensures c.store-2.ensures c.summary_of-2.ensures
    c.store-3.ensures c.changes.ensures.changes c.count_changes.ensures c.new-text.ensures.items c.in_ok-put_summary.ensures.ok c.in_ok-put_summary-2.ensures.ok c.in_ok-put_changed.ensures.ok

pub count_changes-requires : goal.count_changes-requires
count_changes-requires g c = c.changes.ensures.few
