use Rattle.std.proofs.Common.{map}
use Rattle.std.specs.String.{string_bytes}
use Rattle.theorems.specs.Headline.{moment}
use Rattle.theorems.proofs.HeadlineLemmas.{ending, lost_told, text_told}
use Rattle.theorems.proofs.running.headline.Goals as goal

pub returns : goal.returns
returns g c = λ words.
    let run = c.run.ensures in
    let old = moment g.S.Source g.F.Shelf g.K.Links g.W.Sink c.args.script.now c.args.shelf.now c.args.links.now c.args.out.now c.args.steps.now in
    let new = moment g.S.Source g.F.Shelf g.K.Links g.W.Sink c.run.new.script c.run.new.shelf c.run.new.links c.run.new.out c.run.new.steps in
    record {
      ran = run.ran words;
      starved = run.starved words;
      text = text_told _ old new c.run.result (run.ran words) (run.complete words);
      known = ending (map string_bytes c.args.words.now.items) c.run.result words run.known run.other_words;
      complete = run.complete words;
      at_end = run.at_end words;
      input_cause = run.input_cause;
      sink_cause = run.sink_cause;
      whole_lines = run.whole_lines words;
      few_unreachable = run.few_unreachable words;
      later = run.later;
      unbroken = run.unbroken;
      new_unbroken = run.new_unbroken;
      lost_at_end = λ fine. lost_told old new run.later (run.new_unbroken fine);
      script_faults = run.script_faults;
      shelf_faults = run.shelf_faults;
      sink_faults = run.sink_faults;
      names = run.names;
    }
