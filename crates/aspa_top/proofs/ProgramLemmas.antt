-- What a run has done, status by status.
use Rattle.std.proofs.Common.{◌≡◌, ◌⊎◌, inl, inr, ℕ, ◌<◌, ◌≤◌, List, length, Some, None, Ok, Err, refl, sym, ap, ◌∙◌, arith, IfSome}
use Rattle.std.specs.Io.KnownBytes.{IsAtEnd}
use Rattle.std.specs.declared.option.Option.{Option}
use Rattle.av_base.specs.Connections.{Attempt, Link}
use Rattle.av_base.specs.Files.{Files}
use Rattle.av_base.specs.Told.{Rose}
use Rattle.aspa_top.specs.Lines.{performed}
use Rattle.report_text.specs.Reported.{AddsFront, AddsLines}
use Rattle.av_base.specs.declared.stop.Stop.{Stop}
use Rattle.av_base.specs.declared.stop.Stop.TheVariants as stops
use Rattle.aspa_top.specs.Evaluated.{Evaluated, Runs, RunsSource, StoppedByFault, status_of}
use Rattle.aspa_top.specs.Outside.{Outside}
use Rattle.aspa_top.specs.Program.{AreTold, WentThrough, Ended, StarvedIfTold, StopsAtFile, StopsAtRead, StopsWithin, WritesPart, IsEnding, IsWhole, Ran, RanIfTold}
use Rattle.aspa_top.specs.World.{BeginsAt, Links, Meets, World, count_of, world_of}
use Rattle.aspa_top.proofs.LawLemmas.{runs_write_fronts}

not_whole : (status : ℕ) → 1 < status → status < 6 → IsWhole status → ⊥
not_whole status above below whole = elim whole [ inl a ↦ omega arith | inr b ↦ elim b [ inl c ↦ omega arith | inr d ↦ omega arith ] ]

module _ (limit : ℕ) (world : World) (script : List ℕ) (left : Option (List ℕ)) (script_failed shelf_failed : Type 0) (old new : Option (List ℕ))
    (ticks_old ticks_new : ℕ) where
  -- a run that ended early
  pub Ran-early : (status : ℕ) → 1 < status → status < 6
      → WentThrough world (performed limit script) old new ticks_old ticks_new
      → (status ≡ 3 → (script_failed × StopsAtRead limit world script left old new ticks_old ticks_new)
      ⊎ (shelf_failed × StopsAtFile world (performed limit script) old new ticks_old ticks_new))
      → (status ≡ 4 → AreTold world → WritesPart world (performed limit script) old new)
      → Ran limit world script left script_failed shelf_failed old new ticks_old ticks_new status
  Ran-early status above below went stopped cut = record {
    front = λ told. runs_write_fronts world told (performed limit script) old new ticks_old ticks_new went;
    went = went;
    refusals = 0;
    ended = λ whole. absurd (not_whole status above below whole);
    clean = λ same. absurd (omega arith);
    refused = λ same. absurd (omega arith);
    over = λ same. absurd (omega arith);
    stopped = stopped;
    cut = cut;
  }

  -- a run that performed all its lines
  pub Ran-whole : (status refusals : ℕ) → IsWhole status
      → WentThrough world (performed limit script) old new ticks_old ticks_new
      → Ended world (performed limit script) old new ticks_old ticks_new refusals
      → (status ≡ 0 → (refusals ≡ 0) × (length script ≤ limit)) → (status ≡ 1 → (0 < refusals) × (length script ≤ limit))
      → (status ≡ 6 → limit < length script)
      → Ran limit world script left script_failed shelf_failed old new ticks_old ticks_new status
  Ran-whole status refusals whole went ended clean refused over = record {
    front = λ told. runs_write_fronts world told (performed limit script) old new ticks_old ticks_new went;
    went = went;
    refusals = refusals;
    ended = λ again. ended;
    clean = clean;
    refused = refused;
    over = over;
    stopped = λ same. absurd (not_whole status (omega arith) (omega arith) whole);
    cut = λ same. absurd (not_whole status (omega arith) (omega arith) whole);
  }

-- how many attempts were made, where they are told
pub begins_at : (files : Files) (before attempts : Option (List Attempt)) (connections : List Link) (links : Links) → links.attempts ≡ before
    → BeginsAt (world_of files before attempts connections) links
begins_at files before attempts connections links same = λ told is. ap count_of (sym same ∙ is)

-- where the shelf tells its files and the links their connections, the run ends in this world
meets_told : (files : Option Files) (before after : Links) (told : Files) (connections : List Link) → files ≡ Some told → after.wire ≡ Some connections
    → Meets files before after (world_of told before.attempts after.attempts connections)
meets_told files before after told connections is same = record {
  tells = record { told = told; is = is; named = refl };
  begins = begins_at told before.attempts after.attempts connections before refl;
  attempts = refl;
  wire = same;
}

-- what holds in each world that the run may end in holds in the one that is told
in_world : (files : Option Files) (before after : Links) (P : World → Type 0) → ((world : World) → Meets files before after world → P world)
    → IfSome files (λ told. IfSome after.wire (λ connections. P (world_of told before.attempts after.attempts connections)))
in_world files before after P holds = by files after.wire refl refl
  where
    by : (given : Option Files) (wire : Option (List Link)) → files ≡ given → after.wire ≡ wire
        → IfSome given (λ told. IfSome wire (λ connections. P (world_of told before.attempts after.attempts connections)))
    by None wire is same = tt
    by (Some told) None is same = tt
    by (Some told) (Some connections) is same = holds (world_of told before.attempts after.attempts connections) (meets_told files before after told connections is same)

-- ---- one status and another

module _ (limit : ℕ) (script : List ℕ) (left : Option (List ℕ)) (script_failed : Type 0) (old new : Outside) where
  -- all lines were performed
  pub runs_whole : (status refusals : ℕ) → IsWhole status → Evaluated (performed limit script) old new (Ok refusals) → (status ≡ 0 → (refusals ≡ 0) × (length script ≤ limit))
      → (status ≡ 1 → (0 < refusals) × (length script ≤ limit)) → (status ≡ 6 → limit < length script) → Runs limit script left script_failed old new status
  runs_whole status refusals whole evaluated clean refused over = record {
    ran = λ world meets.
        let is = evaluated world meets in
        Ran-whole limit world script left script_failed (Rose old.shelf_faults new.shelf_faults) old.written new.written old.ticks new.ticks status refusals whole is.went is.ended clean refused over;
    starved = λ same. absurd (not_whole status (omega (arith, same)) (omega (arith, same)) whole);
    within = λ done. elim done [ inl zero ↦ (clean zero).1 | inr one ↦ (refused one).1 ];
    over = over;
  }

  -- the script failed where the text of all lines that had come was written
  pub runs_failed : script_failed → ((world : World) → Meets old.files old.links new.links world → WentThrough world (performed limit script) old.written new.written old.ticks new.ticks)
      → ((world : World) → Meets old.files old.links new.links world → StopsAtRead limit world script left old.written new.written old.ticks new.ticks)
      → Runs limit script left script_failed old new 3
  runs_failed failed went stops = record {
    ran = λ world meets.
        Ran-early limit world script left script_failed (Rose old.shelf_faults new.shelf_faults) old.written new.written old.ticks new.ticks 3 (omega arith) (omega arith) (went world meets)
        (λ same. inl (failed, stops world meets)) (λ same. absurd (omega (arith, same)));
    starved = λ same. absurd (omega (arith, same));
    within = λ done. absurd (elim done [ inl zero ↦ omega (arith, zero) | inr one ↦ omega (arith, one) ]);
    over = λ same. absurd (omega (arith, same));
  }

  -- something stopped the lines
  pub runs_stopped : (stop : Stop) → Evaluated (performed limit script) old new (Err stop) → StoppedByFault old new stop → Runs limit script left script_failed old new (status_of stop)
  runs_stopped stops.Shelf evaluated cause = record {
    ran = λ world meets.
        let is = evaluated world meets in
        Ran-early limit world script left script_failed (Rose old.shelf_faults new.shelf_faults) old.written new.written old.ticks new.ticks 3 (omega arith) (omega arith) is.went
        (λ same. inr (cause.shelf refl, is.stopped refl)) (λ same. absurd (omega (arith, same)));
    starved = λ same. absurd (omega (arith, same));
    within = λ done. absurd (elim done [ inl zero ↦ omega (arith, zero) | inr one ↦ omega (arith, one) ]);
    over = λ same. absurd (omega (arith, same));
  }
  runs_stopped stops.Sink evaluated cause = record {
    ran = λ world meets.
        let is = evaluated world meets in
        Ran-early limit world script left script_failed (Rose old.shelf_faults new.shelf_faults) old.written new.written old.ticks new.ticks 4 (omega arith) (omega arith) is.went
        (λ same. absurd (omega (arith, same))) (λ same. is.cut refl);
    starved = λ same. absurd (omega (arith, same));
    within = λ done. absurd (elim done [ inl zero ↦ omega (arith, zero) | inr one ↦ omega (arith, one) ]);
    over = λ same. absurd (omega (arith, same));
  }
  runs_stopped stops.NoMemory evaluated cause = record {
    ran = λ world meets.
        let is = evaluated world meets in
        Ran-early limit world script left script_failed (Rose old.shelf_faults new.shelf_faults) old.written new.written old.ticks new.ticks 5 (omega arith) (omega arith) is.went
        (λ same. absurd (omega (arith, same))) (λ same. absurd (omega (arith, same)));
    starved = λ same fine world meets. (evaluated world meets).starved refl fine;
    within = λ done. absurd (elim done [ inl zero ↦ omega (arith, zero) | inr one ↦ omega (arith, one) ]);
    over = λ same. absurd (omega (arith, same));
  }

-- ---- the source

-- the run of a source is that of the bytes that it tells
pub runs_source : (limit : ℕ) (left_old left_new : Option (List ℕ)) (script_failed : Type 0) (old new : Outside) (status : ℕ) → IsEnding status
    → ((bytes : List ℕ) → left_old ≡ Some bytes → Runs limit bytes left_new script_failed old new status)
    → ((status ≡ 0) ⊎ (status ≡ 1) → IsAtEnd left_new) → (status ≡ 3 → script_failed ⊎ Rose old.shelf_faults new.shelf_faults) → (status ≡ 4 → Rose old.sink_faults new.sink_faults)
    → (IsWhole status ⊎ (status ≡ 3) → ¬ Rose old.shelf_faults new.shelf_faults → AddsLines old.written new.written old.link_faults new.link_faults)
    → AddsFront old.written new.written old.link_faults new.link_faults → RunsSource limit left_old left_new script_failed old new status
runs_source limit left_old left_new script_failed old new status known runs at_end input_cause sink_cause whole_lines adds = record {
  ran = ran left_old runs;
  starved = λ same fine. starved left_old runs same fine;
  at_end = at_end;
  input_cause = input_cause;
  sink_cause = sink_cause;
  complete = record {
    within = λ source shelf sink bytes told few. elim known [
      | inl zero ↦ inl zero
      | inr a ↦ elim a [
        | inl one ↦ inr (inl one)
        | inr b ↦ elim b [
          | inl three ↦ absurd (elim (input_cause three) [ inl failed ↦ source failed | inr rose ↦ shelf rose ])
          | inr c ↦ elim c [
            | inl four ↦ absurd (sink (sink_cause four))
            | inr d ↦ elim d [ inl five ↦ inr (inr five) | inr six ↦ let more = (runs bytes told).over six in absurd (omega (arith, few, more)) ]
          ]
        ]
      ]
    ];
    beyond = λ source shelf sink bytes told many. elim known [
      | inl zero ↦ let less = (runs bytes told).within (inl zero) in absurd (omega (arith, many, less))
      | inr a ↦ elim a [
        | inl one ↦ let less = (runs bytes told).within (inr one) in absurd (omega (arith, many, less))
        | inr b ↦ elim b [
          | inl three ↦ absurd (elim (input_cause three) [ inl failed ↦ source failed | inr rose ↦ shelf rose ])
          | inr c ↦ elim c [
            | inl four ↦ absurd (sink (sink_cause four))
            | inr d ↦ elim d [ inl five ↦ inr five | inr six ↦ inl six ]
          ]
        ]
      ]
    ];
  };
  whole_lines = whole_lines;
  adds = adds;
} where
  ran : (left : Option (List ℕ)) → ((bytes : List ℕ) → left ≡ Some bytes → Runs limit bytes left_new script_failed old new status)
      → RanIfTold limit left left_new old.files old.links new.links script_failed (Rose old.shelf_faults new.shelf_faults) old.written new.written old.ticks new.ticks status
  ran None each = tt
  ran (Some bytes) each =
      in_world old.files old.links new.links (λ world. Ran limit world bytes left_new script_failed (Rose old.shelf_faults new.shelf_faults) old.written new.written old.ticks new.ticks status) (each bytes refl).ran

  starved : (left : Option (List ℕ)) → ((bytes : List ℕ) → left ≡ Some bytes → Runs limit bytes left_new script_failed old new status) → status ≡ 5 → ¬ Rose old.sink_faults new.sink_faults
      → StarvedIfTold limit left old.files old.links new.links old.written new.written old.ticks new.ticks
  starved None each same fine = tt
  starved (Some bytes) each same fine =
      in_world old.files old.links new.links (λ world. StopsWithin world (performed limit bytes) old.written new.written old.ticks new.ticks) ((each bytes refl).starved same fine)
