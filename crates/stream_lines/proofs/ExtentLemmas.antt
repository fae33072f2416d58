-- What was taken up to a moment, or without one, is what the line takes.
use Rattle.std.proofs.Common.{◌≡◌, ℕ, ◌-◌, ◌+◌, ◌≤◌, ◌<◌, List, [], ◌++◌, None, Some, sym, subst, append-nil, inl, inr, arith}
use Rattle.std.proofs.lemmas.Bool.{cases_Bool, cases_lt}
use Rattle.std.specs.declared.option.Option.{Option}
use Rattle.av_base.specs.Files.{Files}
use Rattle.analyser.specs.declared.progress.Progress.{Progress}
use Rattle.stream_lines.specs.Extent.{TicksWithinTaken, Took, TookSomeOf}
use Rattle.stream_lines.specs.Held.{HeldDump}
use Rattle.stream_lines.specs.Streams.{Asking, Taking, TakesUnits}
use Rattle.stream_lines.specs.TakingUntil.{TicksWithinUpTo, TookSomeUpTo, TookUpTo}
use Rattle.stream_lines.specs.Until.{TakesCount}
use Rattle.stream_lines.proofs.LawLemmas.{units_unique}
use Rattle.stream_lines.proofs.UnitsLemmas.{TakesUnits-join, TakesUnits-over}
use Rattle.stream_lines.proofs.UntilLemmas.{some_until}

-- without a moment so many units are taken, or all that come until the dump is over
all_units : (asking : Asking) (limit count : ℕ) (old : Taking) (text : List ℕ) (new : Taking) → TakesCount asking None limit count old text new → TakesUnits asking limit old text new
all_units asking limit count old text new counted = elim (cases_lt count limit) [
  | inl below ↦ elim (cases_Bool new.dump.over) [
    | inl over ↦
        let n : count + (limit - count) ≡ limit = omega (arith, below) in
        subst (λ (k : ℕ). TakesUnits asking k old text new) n
        (subst (λ (t : List ℕ). TakesUnits asking (count + (limit - count)) old t new) (append-nil text)
        (TakesUnits-join asking count (limit - count) old new new text [] counted.takes (TakesUnits-over asking (limit - count) new over)))
    | inr yet ↦ absurd (counted.stops below (yet, λ past. past))
  ]
  | inr whole ↦
      let same : count ≡ limit = omega (arith, whole, counted.within) in
      subst (λ (k : ℕ). TakesUnits asking k old text new) same counted.takes
]

module _ (asking : Asking) where
  pub took_of : (until : Option ℕ) (limit : ℕ) (dump_old dump_new : HeldDump) (progress : Progress) (files_old files_new : Option Files) (all_old all_new : Option (List ℕ)) (next : Progress)
      → TookUpTo asking until limit dump_old dump_new progress files_old files_new all_old all_new next
      → Took asking until limit dump_old dump_new progress files_old files_new all_old all_new next
  took_of None limit dump_old dump_new progress files_old files_new all_old all_new next took = λ old stands.
      let done = took old stands in (
        done.0,
        done.1,
        record {
          text = done.2.text;
          takes = all_units asking limit done.2.takes.count old done.2.text done.0 done.2.takes.counted;
          added = done.2.added;
        },
      )
  took_of (Some moment) limit dump_old dump_new progress files_old files_new all_old all_new next took = took

  pub some_of : (until : Option ℕ) (limit : ℕ) (dump : HeldDump) (progress : Progress) (files : Option Files) (all_old all_new : Option (List ℕ)) (before after : ℕ)
      → TookSomeUpTo asking until limit dump progress files all_old all_new before after → TookSomeOf asking until limit dump progress files all_old all_new before after
  some_of None limit dump progress files all_old all_new before after some = λ old stands.
      let done = some old stands in
      let first = done.some in
      record {
        first = first.first;
        new = first.new;
        took = first.took;
        reached = first.reached;
        taken = first.taken;
        one_more = first.one_more;
        within = omega (arith, first.within, done.counted.within);
        text = first.text;
        end = first.end;
        comes = first.comes;
        ticked = first.ticked;
      }
  some_of (Some moment) limit dump progress files all_old all_new before after some = some

  pub ticks_of : (until : Option ℕ) (limit : ℕ) (dump : HeldDump) (progress : Progress) (files : Option Files) (before after : ℕ)
      → TicksWithinUpTo asking until limit dump progress files before after → TicksWithinTaken asking until limit dump progress files before after
  ticks_of None limit dump progress files before after few = record {
    within = λ old new text stands takes.
        let whole = some_until asking None limit old in
        let same = units_unique asking limit old text whole.1 new whole.2 takes (all_units asking limit whole.0 old whole.1 whole.2 whole.3) in
        subst (λ (t : Taking). after + old.judgements ≤ before + t.judgements) (sym same.1) (few.within old whole.2 whole.1 stands (record { count = whole.0; counted = whole.3 }));
  }
  ticks_of (Some moment) limit dump progress files before after few = few
