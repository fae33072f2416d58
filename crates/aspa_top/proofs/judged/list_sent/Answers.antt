use Rattle.std.proofs.Common.{◌+◌, flat_map, refl, arith}
use Rattle.listings.specs.Sent.{sent_row}
use Rattle.aspa_top.specs.declared.task.Task.TheVariants.{Sent}
use Rattle.aspa_top.proofs.JudgedListLemmas.{judged_done, judged_err, lists_sent}
use Rattle.aspa_top.proofs.KeepLemmas.{keeps_sink}
use Rattle.aspa_top.proofs.QuestionLemmas.{sent_lines}
use Rattle.aspa_top.proofs.judged.list_sent.Goals as goal

pub returns : goal.returns
returns g c =
    let lists = c.in_ok-put_sent.ensures.lists in
    let ticks = c.in_ok-put_sent.ensures.ticks in
    let most = ticks.most in
    record {
      keeps = record { lent = refl; keeps = keeps_sink _ _ _ _ _ c.put_sent.ensures.lists.listed.grows c.put_sent.ensures.lists.listed.sink_faults };
      did = judged_done c.args.working (Sent c.args.role c.args.path.now) _ _ _ (1 + ticks.pairs) (flat_map sent_row lists.rows) c.requires.begun
          (lists_sent c.args.working c.args.role c.args.path.now _ lists.rows ticks.pairs c.store-store.ensures lists.are ticks.are)
          (sent_lines lists.rows) (omega (arith, most)) (λ world state part n. tt) _ lists.listed;
    }

pub returns-in_err-put_sent : goal.returns-in_err-put_sent
returns-in_err-put_sent g c =
    let lists = c.in_err-put_sent.ensures.lists in
    let ticks = c.in_err-put_sent.ensures.ticks in
    let most = ticks.most in
    record {
      keeps = record { lent = refl; keeps = keeps_sink _ _ _ _ _ c.put_sent.ensures.lists.listed.grows c.put_sent.ensures.lists.listed.sink_faults };
      did = judged_err c.args.working (Sent c.args.role c.args.path.now) _ _ _ (1 + ticks.pairs) (flat_map sent_row lists.rows) c.requires.begun
          (lists_sent c.args.working c.args.role c.args.path.now _ lists.rows ticks.pairs c.store-store.ensures lists.are ticks.are)
          (sent_lines lists.rows) (omega (arith, most)) (λ world state part n. tt) _ lists.listed c.from_residual.result c.from_residual.ensures.1;
    }
