-- Several units of a dump.
use Rattle.std.proofs.Common.{◌≡◌, ℕ, zero, suc, ◌+◌, ◌-◌, ◌≤◌, true, false, List, [], ◌++◌, refl, sym, ◌∙◌, ap, subst, append_assoc, append-nil, arith, zero-add}
use Rattle.std.specs.Io.KnownBytes.{append_known}
use Rattle.std.specs.declared.option.Option.{Option}
use Rattle.av_base.specs.Files.{Files}
use Rattle.av_base.proofs.ToldLemmas.{append_known-nil, append_known-append}
use Rattle.analyser.specs.declared.progress.Progress.{Progress}
use Rattle.stream_lines.specs.Held.{HeldDump}
use Rattle.stream_lines.specs.Streams.{Asking, Taking, TakesUnless, TakesUnit, TakesUnits}
use Rattle.stream_lines.specs.Taking.{TicksWithinUnits, TookUnits, TookSome}
use Rattle.stream_lines.specs.TakingSteps.{TookUnit}
use Rattle.stream_lines.proofs.LawLemmas.{some_units}

-- units are taken, and then more
pub TakesUnits-join : (asking : Asking) (first more : ℕ) (old mid new : Taking) (text rest : List ℕ) → TakesUnits asking first old text mid
    → TakesUnits asking more mid rest new → TakesUnits asking (first + more) old (text ++ rest) new
TakesUnits-join asking zero more old mid new text rest takes goes_on = rw (zero-add more, takes.0, ← takes.1) goes_on
TakesUnits-join asking (suc first) more old mid new text rest takes goes_on =
    let n : suc first + more ≡ suc (first + more) = omega arith in
    subst (λ (k : ℕ). TakesUnits asking k old (text ++ rest) new) (sym n) (record {
      first = takes.first;
      rest = takes.rest ++ rest;
      mid = takes.mid;
      takes = takes.takes;
      goes_on = TakesUnits-join asking first more takes.mid mid new takes.rest rest takes.goes_on goes_on;
      text_is = ap (λ (t : List ℕ). t ++ rest) takes.text_is ∙ append_assoc takes.first takes.rest rest;
    })

-- a dump that is over gives nothing
pub TakesUnits-over : (asking : Asking) (count : ℕ) (old : Taking) → old.dump.over ≡ true → TakesUnits asking count old [] old
TakesUnits-over asking zero old over = (refl, refl)
TakesUnits-over asking (suc count) old over = record {
  first = [];
  rest = [];
  mid = old;
  takes = subst (λ b. TakesUnless b asking old [] old) (sym over) (refl, refl);
  goes_on = TakesUnits-over asking count old over;
  text_is = refl;
}

-- one unit alone
pub TakesUnits-one : (asking : Asking) (old new : Taking) (text : List ℕ) → TakesUnit asking old text new → TakesUnits asking 1 old text new
TakesUnits-one asking old new text takes = record { first = text; rest = []; mid = new; takes = takes; goes_on = (refl, refl); text_is = sym (append-nil text) }

module _ (asking : Asking) (old : HeldDump) (progress : Progress) (files : Option Files) (all : Option (List ℕ)) where
  pub TookUnits-start : TookUnits asking 0 old old progress files files all all progress
  TookUnits-start = λ start stands. (
    start,
    stands,
    record { text = []; takes = (refl, refl); added = sym (append_known-nil all) },
  )

  -- one unit more
  pub TookUnits-next : (count : ℕ) (mid new : HeldDump) (before after : Progress) (files_mid files_new : Option Files) (all_mid all_new written : Option (List ℕ)) (text_old text_new : List ℕ)
      → TookUnits asking count old mid progress files files_mid all all_mid before → mid.over ≡ false
      → TookUnit asking mid new before files_mid files_new text_old text_new after → all_mid ≡ append_known written text_old → all_new ≡ append_known written text_new
      → TookUnits asking (count + 1) old new progress files files_new all all_new after
  TookUnits-next count mid new before after files_mid files_new all_mid all_new written text_old text_new so_far open_yet took held_old held_new = λ start stands.
      let done = so_far start stands in
      let one = took open_yet done.0 done.1 in (
        one.0,
        one.1,
        record {
          text = done.2.text ++ one.2.text;
          takes = TakesUnits-join asking count 1 _ done.0 one.0 done.2.text one.2.text done.2.takes
              (TakesUnits-one asking done.0 one.0 one.2.text one.2.takes);
          added = held_new ∙ ap (append_known written) one.2.added ∙ sym (append_known-append written text_old one.2.text)
              ∙ ap (λ (m : Option (List ℕ)). append_known m one.2.text) (sym held_old ∙ done.2.added) ∙ append_known-append all done.2.text one.2.text;
        },
      )

  -- the dump is over
  pub TookUnits-over : (count more : ℕ) (new : HeldDump) (after : Progress) (files_new : Option Files) (all_new : Option (List ℕ)) → count ≤ more
      → TookUnits asking count old new progress files files_new all all_new after → new.over ≡ true
      → TookUnits asking more old new progress files files_new all all_new after
  TookUnits-over count more new after files_new all_new within so_far over = λ start stands.
      let done = so_far start stands in
      let n : count + (more - count) ≡ more = omega arith in (
        done.0,
        done.1,
        record {
          text = done.2.text;
          takes = subst (λ (k : ℕ). TakesUnits asking k start done.2.text done.0) n
              (subst (λ (t : List ℕ). TakesUnits asking (count + (more - count)) start t done.0) (append-nil done.2.text)
              (TakesUnits-join asking count (more - count) _ done.0 done.0 done.2.text [] done.2.takes (TakesUnits-over asking (more - count) done.0 (sym done.1.holds.over ∙ over))));
          added = done.2.added;
        },
      )

  -- what was taken is some first of more, and it came to these, or to one more
  pub TookUnits-some : (count reached more : ℕ) (new : HeldDump) (next : Progress) (files_new : Option Files) (all_new all_end : Option (List ℕ)) (before after : ℕ)
      → count ≤ reached → reached ≤ count + 1 → reached ≤ more → TookUnits asking count old new progress files files_new all all_new next → all_end ≡ all_new
      → TicksWithinUnits asking reached old progress files before after → TookSome asking more old progress files all all_end before after
  TookUnits-some count reached more new next files_new all_new all_end before after taken one_more within so_far same few = λ start stands.
      let done = so_far start stands in
      let came = some_units asking reached start in
      record {
        first = count;
        new = done.0;
        took = record { text = done.2.text; takes = done.2.takes; added = same ∙ done.2.added };
        reached = reached;
        taken = taken;
        one_more = one_more;
        within = within;
        text = came.0;
        end = came.1;
        comes = came.2;
        ticked = few.within start came.1 came.0 stands came.2;
      }
