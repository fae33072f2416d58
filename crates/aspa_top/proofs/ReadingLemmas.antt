-- A script that is read piece by piece: what was done when it was read so far, and what comes of it where the reading ends.
use Rattle.std.proofs.Common.{◌≡◌, ◌≢◌, ℕ, ◌+◌, ◌-◌, ◌<◌, ◌≤◌, ◌⊎◌, true, false, List, [], ◌++◌, length, take, drop, Some, None, Ok, Err, inl, inr, refl, sym, ap, subst, ◌∙◌, arith, append_assoc, append-nil}
use Rattle.std.specs.Io.KnownBytes.{prepend_known, IsAtEnd}
use Rattle.std.specs.declared.option.Option.{Option}
use Rattle.std.proofs.lemmas.List.{length-append, length-take}
use Rattle.std.proofs.lemmas.List.Elements.{All-nil}
use Rattle.av_text.specs.Lines.{lines_in}
use Rattle.av_text.proofs.LineLemmas.{lines_read, lines_split, whole-append}
use Rattle.report_text.specs.Reported.{AddsFront}
use Rattle.report_text.proofs.ReportedLemmas.{adds_front, adds_more, adds_more_front, adds_none}
use Rattle.av_base.specs.declared.stop.Stop.{Stop}
use Rattle.av_base.specs.declared.stop.Stop.TheVariants as stops
use Rattle.aspa_top.specs.declared.working.Working.{Working}
use Rattle.aspa_top.specs.Evaluated.{AllDone, Evaluated, EvaluatedIn, ReadSoFar, RunsSource, Stopped, StoppedByFault, status_of}
use Rattle.aspa_top.specs.Lines.{performed}
use Rattle.aspa_top.specs.Outside.{Keeps, Outside}
use Rattle.aspa_top.specs.Performing.{Performing}
use Rattle.aspa_top.specs.Program.{IsEnding, IsWhole, WentThrough}
use Rattle.aspa_top.specs.Script.{CameEnd, CameMore, CameOver, ComesMore, ReadAs, held_of}
use Rattle.aspa_top.specs.Standing.{IsReady, StandsFor}
use Rattle.aspa_top.specs.Tasks.{start}
use Rattle.aspa_top.specs.World.{BeginsAt, Meets, World}
use Rattle.aspa_top.proofs.BeginningLemmas.{Tells-names}
use Rattle.aspa_top.proofs.KeepLemmas.{Keeps-trans, keeps_all}
use Rattle.aspa_top.proofs.ProgramLemmas.{runs_failed, runs_source, runs_stopped, runs_whole}
use Rattle.aspa_top.proofs.ReportingLemmas.{front_none}
use Rattle.aspa_top.proofs.RunLemmas.{Performing-start, ended_all, starved_at_start, starved_between}
use Rattle.aspa_top.proofs.ScriptLemmas.{Brought, brought, held_lines, performed-after, performed-front, performed-whole, prepend_known-append}
use Rattle.aspa_top.proofs.StopLemmas.{rose_later}

-- ---- before the first read

pub read_start : (limit : ℕ) (left : Option (List ℕ)) (begun : Outside) (working : Working) (held : List ℕ) → held ≡ [] → working.lines ≡ 0
    → ((world : World) → BeginsAt world begun.links → StandsFor begun.files begun.links working (start world)) → IsReady (record begun { held = [] }) working
    → ReadSoFar limit limit left left held begun (record begun { held = [] }) working
read_start limit left begun working held none zero stands ready = rw none (record {
  front = [];
  part = [];
  told = sym (nothing left);
  whole = inl refl;
  is_part = All-nil (λ byte. byte ≢ 10);
  held_is = refl;
  size = omega arith;
  few = omega (arith, zero);
  so_far = λ world tells begins more. Performing-start world more begun working [] (stands world begins) refl;
  ready = ready;
  keeps = keeps_all begun [] begun.ticks;
  adds = adds_none begun.written begun.link_faults begun.link_faults (omega arith);
}) where
  nothing : (left : Option (List ℕ)) → prepend_known [] left ≡ left
  nothing None = refl
  nothing (Some bytes) = refl

-- ---- what is told, and what stopped the lines

-- a source that told its bytes told those that were read, and others
record Told (left : Option (List ℕ)) (read bytes : List ℕ) : Type 0 where
  rest : List ℕ
  left_is : left ≡ Some rest
  bytes_are : bytes ≡ read ++ rest

told_bytes : (left_old left_new : Option (List ℕ)) (read bytes : List ℕ) → left_old ≡ prepend_known read left_new → left_old ≡ Some bytes → Told left_new read bytes
told_bytes left_old None read bytes told is = absurd (let no : ⊥ = cc in no)
told_bytes left_old (Some rest) read bytes told is = let same : bytes ≡ read ++ rest = cc in record { rest = rest; left_is = refl; bytes_are = same }

ending_of : (stop : Stop) → IsEnding (status_of stop)
ending_of stops.Shelf = inr (inr (inl refl))
ending_of stops.Sink = inr (inr (inr (inl refl)))
ending_of stops.NoMemory = inr (inr (inr (inr (inl refl))))

not_at_end : (stop : Stop) → (status_of stop ≡ 0) ⊎ (status_of stop ≡ 1) → ⊥
not_at_end stops.Shelf done = elim done [ inl zero ↦ omega (arith, zero) | inr one ↦ omega (arith, one) ]
not_at_end stops.Sink done = elim done [ inl zero ↦ omega (arith, zero) | inr one ↦ omega (arith, one) ]
not_at_end stops.NoMemory done = elim done [ inl zero ↦ omega (arith, zero) | inr one ↦ omega (arith, one) ]

shelf_of : (stop : Stop) → status_of stop ≡ 3 → stop ≡ stops.Shelf
shelf_of stops.Shelf same = refl
shelf_of stops.Sink same = absurd (omega (arith, same))
shelf_of stops.NoMemory same = absurd (omega (arith, same))

not_whole : (stop : Stop) → IsWhole (status_of stop) → ⊥
not_whole stops.Shelf done = elim done [ inl zero ↦ omega (arith, zero) | inr a ↦ elim a [ inl one ↦ omega (arith, one) | inr six ↦ omega (arith, six) ] ]
not_whole stops.Sink done = elim done [ inl zero ↦ omega (arith, zero) | inr a ↦ elim a [ inl one ↦ omega (arith, one) | inr six ↦ omega (arith, six) ] ]
not_whole stops.NoMemory done = elim done [ inl zero ↦ omega (arith, zero) | inr a ↦ elim a [ inl one ↦ omega (arith, one) | inr six ↦ omega (arith, six) ] ]

shelf_stopped : (stop : Stop) → IsWhole (status_of stop) ⊎ (status_of stop ≡ 3) → stop ≡ stops.Shelf
shelf_stopped stop either = elim either [ inl done ↦ absurd (not_whole stop done) | inr same ↦ shelf_of stop same ]

sink_of : (stop : Stop) → status_of stop ≡ 4 → stop ≡ stops.Sink
sink_of stops.Shelf same = absurd (omega (arith, same))
sink_of stops.Sink same = refl
sink_of stops.NoMemory same = absurd (omega (arith, same))

cause_later : (begun now new : Outside) (stop : Stop) → Keeps begun now → StoppedByFault now new stop → StoppedByFault begun new stop
cause_later begun now new stop keeps cause = record {
  shelf = λ is. rose_later begun.shelf_faults now.shelf_faults new.shelf_faults keeps.shelf_faults (cause.shelf is);
  sink = λ is. rose_later begun.sink_faults now.sink_faults new.sink_faults keeps.sink_faults (cause.sink is);
}

-- a source over which something stopped the lines
source_stopped : (limit : ℕ) (left_old left_new : Option (List ℕ)) (script_failed : Type 0) (begun new : Outside) (stop : Stop) → StoppedByFault begun new stop
    → ((bytes : List ℕ) → left_old ≡ Some bytes → Evaluated (performed limit bytes) begun new (Err stop)) → AddsFront begun.written new.written begun.link_faults new.link_faults
    → RunsSource limit left_old left_new script_failed begun new (status_of stop)
source_stopped limit left_old left_new script_failed begun new stop cause evaluated adds =
    runs_source limit left_old left_new script_failed begun new (status_of stop) (ending_of stop) (λ bytes is. runs_stopped limit bytes left_new script_failed begun new stop (evaluated bytes is) cause)
    (λ done. absurd (not_at_end stop done)) (λ same. inr (cause.shelf (shelf_of stop same))) (λ same. cause.sink (sink_of stop same))
    (λ same none. absurd (none (cause.shelf (shelf_stopped stop same)))) adds

no_fault : (begun now : Outside) → StoppedByFault begun now stops.NoMemory
no_fault begun now = record { shelf = λ is. let no : ⊥ = cc in absurd no; sink = λ is. let no : ⊥ = cc in absurd no }

-- no memory was to be had before the first read
pub read_none : (limit : ℕ) (left : Option (List ℕ)) (script_failed : Type 0) (begun : Outside) → begun.held ≡ [] → RunsSource limit left left script_failed begun begun 5
read_none limit left script_failed begun none =
    source_stopped limit left left script_failed begun begun stops.NoMemory (no_fault begun begun) (λ bytes is world meets. starved_at_start world (performed limit bytes) begun none meets)
    (front_none begun.written begun.written begun.link_faults begun.link_faults (omega arith) refl)

-- ---- after a read

module _ (limit room : ℕ) (left_old left : Option (List ℕ)) (held : List ℕ) (begun now : Outside) (working : Working)
    (so_far : ReadSoFar limit room left_old left held begun now working) where
  -- what came stands after what had come
  came_told : (left_new : Option (List ℕ)) (bytes : List ℕ) → left ≡ prepend_known bytes left_new → left_old ≡ prepend_known (so_far.front ++ (so_far.part ++ bytes)) left_new
  came_told left_new bytes told =
      so_far.told ∙ ap (prepend_known (so_far.front ++ so_far.part)) told ∙ prepend_known-append (so_far.front ++ so_far.part) bytes left_new
      ∙ ap (λ (l : List ℕ). prepend_known l left_new) (append_assoc so_far.front so_far.part bytes)

  -- ---- a read that brought more

  module _ (left_new : Option (List ℕ)) (held_new lines : List ℕ) (count end : ℕ) (came : CameMore room left left_new held held_new count end) (cut : lines ≡ take end held_new) where
    more : Brought so_far.part held_new end (came.lines ++ came.rest)
    more = brought room left left_new so_far.part held held_new count end so_far.is_part so_far.held_is came

    pub read_ends : end ≤ length held_new
    read_ends = more.ends

    all_came : (so_far.front ++ more.lines) ++ more.rest ≡ so_far.front ++ (so_far.part ++ (came.lines ++ came.rest))
    all_came = append_assoc so_far.front more.lines more.rest ∙ ap (λ (l : List ℕ). so_far.front ++ l) more.all

    told_now : left_old ≡ prepend_known ((so_far.front ++ more.lines) ++ more.rest) left_new
    told_now = came_told left_new (came.lines ++ came.rest) came.told ∙ ap (λ (l : List ℕ). prepend_known l left_new) (sym all_came)

    size_now : length ((so_far.front ++ more.lines) ++ more.rest) + (room - count) ≡ limit
    size_now = omega (
      arith,
      so_far.size,
      came.size,
      came.within,
      ap length all_came,
      length-append so_far.front so_far.part,
      length-append so_far.front (so_far.part ++ (came.lines ++ came.rest)),
      length-append so_far.part (came.lines ++ came.rest),
    )

    reads : ReadAs (lines_in false more.lines) (lines_in false lines)
    reads = subst (λ (l : List ℕ). ReadAs (lines_in false more.lines) (lines_in false l)) (sym cut) more.reads

    pub read_room : working.lines + length lines ≤ limit
    read_room = omega (
      arith,
      so_far.few,
      more.few,
      size_now,
      ap length cut,
      length-append so_far.front more.lines,
      length-append (so_far.front ++ more.lines) more.rest,
    )

    -- its lines were performed
    pub read_next : (new : Outside) (next : Working) → AllDone working (lines_in false lines) now new next → next.lines ≤ working.lines + length lines → Keeps now new
        → ReadSoFar limit (room - count) left_old left_new (held_of (drop end held_new)) begun new next
    read_next new next done few keeps =
        let front = so_far.front in
        let split = lines_split false front more.lines so_far.whole in
        record {
          front = front ++ more.lines;
          part = more.rest;
          told = told_now;
          whole = whole-append front more.lines so_far.whole more.whole;
          is_part = more.is_part;
          held_is = more.held;
          size = size_now;
          few = omega (arith, few, so_far.few, more.few, length-append front more.lines, ap length cut);
          so_far = λ world tells begins after.
              let before = so_far.so_far world tells begins (lines_in false more.lines ++ after) in
              let all : lines_in false front ++ (lines_in false more.lines ++ after) ≡ lines_in false (front ++ more.lines) ++ after =
              sym (append_assoc (lines_in false front) (lines_in false more.lines) after) ∙ ap (λ (ls : List (List ℕ)). ls ++ after) (sym split) in
              done.goes world (Tells-names begun.files now.files world so_far.keeps.names tells) begun (lines_in false (front ++ more.lines) ++ after) after (lines_in false more.lines) reads
              (subst (λ (ls : List (List ℕ)). Performing world ls (lines_in false more.lines ++ after) begun now working) all before);
          ready = done.ready;
          keeps = Keeps-trans so_far.keeps keeps;
          adds = adds_more begun.written now.written new.written begun.link_faults now.link_faults new.link_faults so_far.adds done.adds;
        }

  -- ---- where the reading ends

  -- the lines in front are performed first
  front_first : (left_new : Option (List ℕ)) (read bytes : List ℕ) → left_old ≡ prepend_known (so_far.front ++ read) left_new → left_old ≡ Some bytes
      → (rest : List (List ℕ)) × (performed limit bytes ≡ lines_in false so_far.front ++ rest)
  front_first left_new read bytes told is =
      let known = told_bytes left_old left_new (so_far.front ++ read) bytes told is in
      let within : length so_far.front ≤ limit = omega (arith, so_far.size, length-append so_far.front so_far.part) in
      let after = performed-after limit so_far.front (read ++ known.rest) so_far.whole within in
      (after.0, ap (performed limit) (known.bytes_are ∙ append_assoc so_far.front read known.rest) ∙ after.1)

  -- something stopped the lines after them
  stopped_after : (left_new : Option (List ℕ)) (script_failed : Type 0) (new : Outside) (stop : Stop) (lines own : List (List ℕ)) → ReadAs own lines → Stopped working lines now new stop
      → ((bytes : List ℕ) → left_old ≡ Some bytes → (rest : List (List ℕ)) × (performed limit bytes ≡ lines_in false so_far.front ++ (own ++ rest)))
      → RunsSource limit left_old left_new script_failed begun new (status_of stop)
  stopped_after left_new script_failed new stop lines own reads stopped after =
      source_stopped limit left_old left_new script_failed begun new stop (cause_later begun now new stop so_far.keeps stopped.cause)
      (λ bytes is world meets.
      let rest = after bytes is in
      subst (λ (ls : List (List ℕ)). EvaluatedIn world ls begun new (Err stop)) (sym rest.1)
      (stopped.goes world begun (lines_in false so_far.front ++ (own ++ rest.0)) rest.0 own reads so_far.keeps meets (so_far.so_far world meets.tells meets.begins (own ++ rest.0))))
      (adds_more_front begun.written now.written new.written begun.link_faults now.link_faults new.link_faults so_far.adds stopped.adds)

  -- something stopped the lines that a read brought
  pub read_stopped : (left_new : Option (List ℕ)) (script_failed : Type 0) (held_new lines : List ℕ) (count end : ℕ) (new : Outside) (stop : Stop)
      → (came : CameMore room left left_new held held_new count end) → lines ≡ take end held_new → Stopped working (lines_in false lines) now new stop
      → RunsSource limit left_old left_new script_failed begun new (status_of stop)
  read_stopped left_new script_failed held_new lines count end new stop came cut stopped =
      let front = so_far.front in
      let own = more left_new held_new lines count end came cut in
      let told = told_now left_new held_new lines count end came cut in
      stopped_after left_new script_failed new stop (lines_in false lines) (lines_in false own.lines) (reads left_new held_new lines count end came cut) stopped (λ bytes is.
      let known = told_bytes left_old left_new ((front ++ own.lines) ++ own.rest) bytes told is in
      let within : length (front ++ own.lines) ≤ limit = omega (arith, size_now left_new held_new lines count end came cut, length-append (front ++ own.lines) own.rest) in
      let after = performed-after limit (front ++ own.lines) (own.rest ++ known.rest) (whole-append front own.lines so_far.whole own.whole) within in (
        after.0,
        ap (performed limit) (known.bytes_are ∙ append_assoc (front ++ own.lines) own.rest known.rest) ∙ after.1
            ∙ ap (λ (ls : List (List ℕ)). ls ++ after.0) (lines_split false front own.lines so_far.whole)
            ∙ append_assoc (lines_in false front) (lines_in false own.lines) after.0,
      ))

  -- ---- the script was read to its end

  module _ (left_new : Option (List ℕ)) (held_new last : List ℕ) (came : CameEnd left left_new held held_new) (same : last ≡ held_new) where
    end_told : (bytes : List ℕ) → left_old ≡ Some bytes → bytes ≡ so_far.front ++ so_far.part
    end_told bytes is =
        let read = so_far.front ++ so_far.part in
        let known = told_bytes left_old left_new read bytes (so_far.told ∙ ap (prepend_known read) (sym came.same)) is in
        known.bytes_are ∙ ap (λ (l : List ℕ). read ++ l) (subst IsAtEnd known.left_is came.at_end) ∙ append-nil read

    end_lines : (bytes : List ℕ) → left_old ≡ Some bytes → performed limit bytes ≡ lines_in false so_far.front ++ (lines_in true so_far.part ++ [])
    end_lines bytes is =
        let read = so_far.front ++ so_far.part in
        let within : length read ≤ limit = omega (arith, so_far.size) in
        ap (performed limit) (end_told bytes is) ∙ performed-whole limit read within ∙ lines_split true so_far.front so_far.part so_far.whole
        ∙ ap (λ (ls : List (List ℕ)). lines_in false so_far.front ++ ls) (sym (append-nil (lines_in true so_far.part)))

    end_reads : ReadAs (lines_in true so_far.part) (lines_in true last)
    end_reads =
        let held_last : last ≡ held_of so_far.part = same ∙ came.held ∙ so_far.held_is in
        let reads = held_lines true so_far.part [] so_far.is_part in
        subst (λ (l : List ℕ). ReadAs (lines_in true so_far.part) (lines_in true l)) (append-nil (held_of so_far.part) ∙ sym held_last)
        (subst (λ (l : List ℕ). ReadAs (lines_in true l) (lines_in true (held_of so_far.part ++ []))) (append-nil so_far.part) reads)

    pub end_room : working.lines + length last ≤ limit
    end_room = omega (
      arith,
      so_far.few,
      so_far.size,
      ap length (same ∙ came.held ∙ so_far.held_is),
      length-take {A = ℕ} 4098 so_far.part,
      length-append so_far.front so_far.part,
    )

    pub read_stopped_last : (script_failed : Type 0) (new : Outside) (stop : Stop) → Stopped working (lines_in true last) now new stop
        → RunsSource limit left_old left_new script_failed begun new (status_of stop)
    read_stopped_last script_failed new stop stopped =
        stopped_after left_new script_failed new stop (lines_in true last) (lines_in true so_far.part) end_reads stopped (λ bytes is. ([], end_lines bytes is))

    -- all lines were performed
    pub read_whole : (script_failed : Type 0) (new : Outside) (next : Working) (status : ℕ) → AllDone working (lines_in true last) now new next → Keeps now new → new.held ≡ []
        → (status ≡ 0) ⊎ (status ≡ 1) → (status ≡ 0 → next.progress.refused ≡ 0) → (status ≡ 1 → 0 < next.progress.refused)
        → RunsSource limit left_old left_new script_failed begun (record new { held = [] }) status
    read_whole script_failed new next status done keeps none known clean refused =
        let own = lines_in true so_far.part in
        let front = lines_in false so_far.front in
        let end : Outside = record new { held = [] } in
        let kept = Keeps-trans so_far.keeps keeps in
        let all_added = adds_more begun.written now.written new.written begun.link_faults now.link_faults new.link_faults so_far.adds done.adds in
        let fits : (bytes : List ℕ) → left_old ≡ Some bytes → length bytes ≤ limit = λ bytes is. omega (arith, so_far.size, ap length (end_told bytes is)) in
        runs_source limit left_old left_new script_failed begun end status (elim known [ inl zero ↦ inl zero | inr one ↦ inr (inl one) ])
        (λ bytes is. runs_whole limit bytes left_new script_failed begun end status next.progress.refused (elim known [ inl zero ↦ inl zero | inr one ↦ inr (inl one) ])
        (λ world meets. subst (λ (ls : List (List ℕ)). EvaluatedIn world ls begun end (Ok next.progress.refused)) (sym (end_lines bytes is))
        (ended_all world (front ++ (own ++ [])) begun begun.files begun.links [] next new meets
        (done.goes world (Tells-names begun.files now.files world so_far.keeps.names meets.tells) begun (front ++ (own ++ [])) [] own end_reads (so_far.so_far world meets.tells meets.begins (own ++ [])))
        kept.grows refl none))
        (λ zero. (clean zero, fits bytes is)) (λ one. (refused one, fits bytes is)) (λ six. absurd (elim known [ inl zero ↦ omega (arith, zero, six) | inr one ↦ omega (arith, one, six) ])))
        (λ either. came.at_end) (λ three. absurd (elim known [ inl zero ↦ omega (arith, zero, three) | inr one ↦ omega (arith, one, three) ]))
        (λ four. absurd (elim known [ inl zero ↦ omega (arith, zero, four) | inr one ↦ omega (arith, one, four) ]))
        (λ either shelf. all_added) (adds_front begun.written new.written begun.link_faults new.link_faults all_added)

  -- there was no memory for what a read brought
  pub read_starved : (left_new : Option (List ℕ)) (script_failed : Type 0) → ComesMore left left_new → now.held ≡ []
      → RunsSource limit left_old left_new script_failed begun (record now { held = [] }) 5
  read_starved left_new script_failed came none =
      source_stopped limit left_old left_new script_failed begun (record now { held = [] }) stops.NoMemory (no_fault begun (record now { held = [] }))
      (λ bytes is world meets.
      let first = front_first left_new (so_far.part ++ came.bytes) bytes (came_told left_new came.bytes came.told) is in
      subst (λ (ls : List (List ℕ)). EvaluatedIn world ls begun (record now { held = [] }) (Err stops.NoMemory)) (sym first.1)
      (starved_between world (lines_in false so_far.front ++ first.0) begun begun.files begun.links first.0 working now meets (so_far.so_far world meets.tells meets.begins first.0) so_far.keeps.grows none))
      (adds_front begun.written now.written begun.link_faults now.link_faults so_far.adds)

  -- the lines so far, all of them performed
  all_so_far : (world : World) → Meets begun.files begun.links now.links world → now.held ≡ []
      → EvaluatedIn world (lines_in false (so_far.front ++ so_far.part)) begun (record now { held = [] }) (Ok working.progress.refused)
  all_so_far world meets none =
      let front = so_far.front in
      subst (λ (ls : List (List ℕ)). EvaluatedIn world ls begun (record now { held = [] }) (Ok working.progress.refused))
      (append-nil (lines_in false front) ∙ sym (lines_read front so_far.part so_far.whole so_far.is_part))
      (ended_all world (lines_in false front ++ []) begun begun.files begun.links [] working now meets (so_far.so_far world meets.tells meets.begins []) so_far.keeps.grows refl none)

  -- the script failed
  pub read_failed : (left_new : Option (List ℕ)) (script_failed : Type 0) → left_new ≡ left → script_failed → now.held ≡ []
      → RunsSource limit left_old left_new script_failed begun (record now { held = [] }) 3
  read_failed left_new script_failed same failed none =
      let end : Outside = record now { held = [] } in
      let read = so_far.front ++ so_far.part in
      let told : left_old ≡ prepend_known read left_new = so_far.told ∙ ap (prepend_known read) (sym same) in
      runs_source limit left_old left_new script_failed begun end 3 (inr (inr (inl refl)))
      (λ bytes is. runs_failed limit bytes left_new script_failed begun end failed
      (λ world meets.
      let first = front_first left_new so_far.part bytes told is in
      subst (λ (ls : List (List ℕ)). WentThrough world ls begun.written now.written begun.ticks now.ticks) (sym first.1)
      (starved_between world (lines_in false so_far.front ++ first.0) begun begun.files begun.links first.0 working now meets (so_far.so_far world meets.tells meets.begins first.0) so_far.keeps.grows none).went)
      (λ world meets. record {
        taken = read;
        told = sym is ∙ told;
        within = omega (arith, so_far.size);
        refusals = working.progress.refused;
        ended = (all_so_far world meets none).ended;
      }))
      (λ done. absurd (elim done [ inl zero ↦ omega (arith, zero) | inr one ↦ omega (arith, one) ])) (λ three. inl failed) (λ four. absurd (omega (arith, four)))
      (λ either shelf. so_far.adds)
      (adds_front begun.written now.written begun.link_faults now.link_faults so_far.adds)

  -- more came than may
  pub read_over : (left_new : Option (List ℕ)) (script_failed : Type 0) (held_new : List ℕ) → CameOver room left left_new held held_new → now.held ≡ []
      → RunsSource limit left_old left_new script_failed begun (record now { held = [] }) 6
  read_over left_new script_failed held_new came none =
      let end : Outside = record now { held = [] } in
      let front = so_far.front in
      let read = front ++ so_far.part in
      let full : length read ≡ limit = omega (arith, so_far.size, came.none) in
      let told = came_told left_new came.bytes came.told in
      let known : (bytes : List ℕ) → left_old ≡ Some bytes → (more : List ℕ) × (bytes ≡ read ++ more) × (0 < length more) = λ bytes is.
      let all = told_bytes left_old left_new (front ++ (so_far.part ++ came.bytes)) bytes told is in (
        came.bytes ++ all.rest,
        all.bytes_are ∙ ap (λ (l : List ℕ). l ++ all.rest) (sym (append_assoc front so_far.part came.bytes)) ∙ append_assoc read came.bytes all.rest,
        omega (arith, came.some, length-append came.bytes all.rest),
      ) in
      runs_source limit left_old left_new script_failed begun end 6 (inr (inr (inr (inr (inr refl)))))
      (λ bytes is.
      let more = known bytes is in
      let lines : performed limit bytes ≡ lines_in false read = ap (performed limit) more.1 ∙ performed-front limit read more.0 full more.2 in
      runs_whole limit bytes left_new script_failed begun end 6 working.progress.refused (inr (inr refl))
      (λ world meets. subst (λ (ls : List (List ℕ)). EvaluatedIn world ls begun end (Ok working.progress.refused)) (sym lines) (all_so_far world meets none))
      (λ zero. absurd (omega (arith, zero))) (λ one. absurd (omega (arith, one))) (λ six. omega (arith, full, more.2, ap length more.1, length-append read more.0)))
      (λ done. absurd (elim done [ inl zero ↦ omega (arith, zero) | inr one ↦ omega (arith, one) ])) (λ three. absurd (omega (arith, three))) (λ four. absurd (omega (arith, four)))
      (λ either shelf. so_far.adds)
      (adds_front begun.written now.written begun.link_faults now.link_faults so_far.adds)
