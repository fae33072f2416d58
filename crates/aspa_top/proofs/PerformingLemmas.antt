-- One line performed.
use Rattle.std.proofs.Common.{◌≡◌, ℕ, ◌^◌, ◌<◌, ◌≤◌, ◌==◌, true, false, List, [], ◌∷◌, ◌++◌, length, Ok, Err, Some, inl, inr, refl, sym, subst, arith}
use Rattle.std.specs.declared.option.Option.{Option}
use Rattle.std.proofs.lemmas.Bool.Decides.{nat_tests}
use Rattle.report_text.specs.declared.cause.Cause.{Cause}
use Rattle.report_text.specs.Refusals.{of_line, refusal_text}
use Rattle.script_lines.specs.declared.commands.Command.{Command}
use Rattle.script_lines.specs.declared.commands.Command.TheVariants.{Idle, Take, Ask, Sync, Serve, Judge, Explain}
use Rattle.script_lines.specs.declared.fault.LineFault.{LineFault}
use Rattle.script_lines.specs.Grammar.{IsReading}
use Rattle.script_lines.proofs.CommandLemmas.{reading_bounded}
use Rattle.stream_lines.proofs.FrameLemmas.{Leaves-refl}
use Rattle.aspa_top.specs.declared.working.Working.{Working}
use Rattle.aspa_top.specs.Bounds.{IsWithinBounds, most}
use Rattle.aspa_top.specs.Evaluation.{line_cause}
use Rattle.aspa_top.specs.Outside.{Outside}
use Rattle.aspa_top.specs.Performing.{DidLine, Done}
use Rattle.aspa_top.specs.Standing.{IsBegun, IsReady}
use Rattle.aspa_top.specs.Working.{counted_in, refused_in}
use Rattle.aspa_top.proofs.DidLemmas.{done_refused}
use Rattle.aspa_top.proofs.ReadyLemmas.{begun}
use Rattle.aspa_top.proofs.MemoryLemmas.{idle}

-- a count that a line may name is no more than the most that a line takes
within_most : {count : ℕ} → count ≤ 100000000 → count ≤ most
within_most {count} within = omega (arith, within)

-- a line is too short for a path that is too long, and names no count over the most
pub IsWithinBounds-IsReading : (line : List ℕ) (command : Command) → IsReading line (Ok command) → IsWithinBounds command
IsWithinBounds-IsReading line (Take name count) is = within_most (reading_bounded line (Take name count) is).1
IsWithinBounds-IsReading line (Ask name) is = omega arith
IsWithinBounds-IsReading line (Sync name count) is = within_most (reading_bounded line (Sync name count) is).1
IsWithinBounds-IsReading line (Serve place session count) is = within_most (reading_bounded line (Serve place session count) is).1
IsWithinBounds-IsReading line (Judge role neighbour path) is = let few = reading_bounded line (Judge role neighbour path) is in omega (arith, few)
IsWithinBounds-IsReading line (Explain role neighbour path) is = let few = reading_bounded line (Explain role neighbour path) is in omega (arith, few)
IsWithinBounds-IsReading line other is = tt

-- a line that isn't read so is refused
pub line_refused : (working next : Working) (fault : LineFault) (cause : Cause) (old : Outside) (held : List ℕ) → IsBegun old working → line_cause fault ≡ Some cause
    → held ≡ old.held ++ refusal_text working.lines of_line cause → next ≡ refused_in working
    → Done working (Err (line_cause fault)) old (record old { held = held }) next
line_refused working next fault cause old held begun is added next_is =
    subst (λ (c : Option Cause). Done working (Err c) old (record old { held = held }) next) (sym is)
    (done_refused working (Err (Some cause)) old (record old { held = held }) next of_line cause tt (Leaves-refl (λ other. Unit {0}) old.files) (λ n d e. tt)
    refl refl refl (omega arith) refl refl added next_is begun (λ world tells state stands. (refl, refl)))

-- a line without a byte is counted, and nothing else
pub no_bytes : (line : List ℕ) → (length line == 0) ≡ true → line ≡ []
no_bytes [] none = refl
no_bytes (byte ∷ line) none = let full : (length (byte ∷ line) == 0) ≡ false = grind (arith, nat_tests) in absurd (let no : ⊥ = cc in no)

pub idle_line : (working : Working) (now : Outside) → working.lines < 2 ^ 31 → IsReady now working → DidLine working [] now now (Ok (counted_in working))
idle_line working now room ready = record {
  reading = Ok Idle;
  reads = inl (inr (record { no_comment = λ is. let no : ⊥ = cc in no; short = omega arith }, refl), refl);
  did = idle (counted_in working) now (begun now working room ready);
}
