-- What stopped the lines.
use Rattle.std.proofs.Common.{◌≡◌, ℕ, ◌≤◌, List, [], Ok, Err, IfOk, IsErrAnd, sym, subst, arith}
use Rattle.std.specs.declared.option.Option.{Option}
use Rattle.std.specs.declared.result.Result.{Result}
use Rattle.av_base.specs.Told.{Rose}
use Rattle.av_base.specs.declared.stop.Stop.{Stop}
use Rattle.av_base.specs.declared.stop.Stop.TheVariants as stops
use Rattle.aspa_top.specs.declared.working.Working.{Working}
use Rattle.aspa_top.specs.Evaluated.{Performed, Poured, Stopped, StoppedByFault}
use Rattle.aspa_top.specs.Outside.{Keeps, Outside}
use Rattle.aspa_top.specs.Performing.{DidLine}

-- a count that rose later rose from what it was before
pub rose_later : (a b c : ℕ) → a ≤ b → Rose b c → Rose a c
rose_later a b c later rose = omega (arith, later, rose)

rose_before : (a b c : ℕ) → b ≤ c → Rose a b → Rose a c
rose_before a b c later rose = omega (arith, later, rose)

-- where the shelf or the sink did, it counted a fault
pub stopped_by : (working : Working) (line : List ℕ) (begun now mid : Outside) (written : Option (List ℕ)) (faults : ℕ) (held : List ℕ) (stop then : Stop)
    → DidLine working line now mid (Err stop) → Poured stop then mid.held held (Rose mid.sink_faults faults) → Keeps begun now → Keeps now mid → mid.sink_faults ≤ faults
    → StoppedByFault begun (record mid { written = written; sink_faults = faults; held = [] }) then
stopped_by working line begun now mid written faults held stops.Shelf stops.Shelf did poured kept keeps later =
    record { shelf = λ is. rose_later begun.shelf_faults now.shelf_faults mid.shelf_faults kept.shelf_faults did.did.cause.1; sink = λ is. let no : ⊥ = cc in absurd no }
stopped_by working line begun now mid written faults held stops.Shelf stops.Sink did poured kept keeps later =
    record { shelf = λ is. let no : ⊥ = cc in absurd no; sink = λ is. rose_later begun.sink_faults mid.sink_faults faults (omega (arith, kept.sink_faults, keeps.sink_faults)) poured.1 }
stopped_by working line begun now mid written faults held stops.Shelf stops.NoMemory did poured kept keeps later = absurd poured
stopped_by working line begun now mid written faults held stops.Sink stops.Shelf did poured kept keeps later = absurd poured
stopped_by working line begun now mid written faults held stops.Sink stops.Sink did poured kept keeps later = record {
  shelf = λ is. let no : ⊥ = cc in absurd no;
  sink = λ is. rose_before begun.sink_faults mid.sink_faults faults later (rose_later begun.sink_faults now.sink_faults mid.sink_faults kept.sink_faults did.did.cause.1);
}
stopped_by working line begun now mid written faults held stops.Sink stops.NoMemory did poured kept keeps later = absurd poured
stopped_by working line begun now mid written faults held stops.NoMemory stops.Shelf did poured kept keeps later = absurd poured
stopped_by working line begun now mid written faults held stops.NoMemory stops.Sink did poured kept keeps later = absurd poured
stopped_by working line begun now mid written faults held stops.NoMemory stops.NoMemory did poured kept keeps later =
    record { shelf = λ is. let no : ⊥ = cc in absurd no; sink = λ is. let no : ⊥ = cc in absurd no }

-- the sink stopped them between two lines
pub sink_performed : (working : Working) (lines : List (List ℕ)) (old new : Outside) (result : Result Working Stop) → IsErrAnd result (λ e. e ≡ stops.Sink)
    → Stopped working lines old new stops.Sink → Performed working lines old new result
sink_performed working lines old new (Ok next) is stopped = absurd is
sink_performed working lines old new (Err e) is stopped = subst (λ (stop : Stop). Stopped working lines old new stop) (sym is) stopped

-- nothing is said of another result then
pub none_performed : (result : Result Working Stop) (P : Working → Type 0) → IsErrAnd result (λ e. e ≡ stops.Sink) → IfOk result P
none_performed (Ok next) P is = absurd is
none_performed (Err e) P is = tt

pub sink_stopped : (old now new : Outside) → Keeps old now → Rose now.sink_faults new.sink_faults → StoppedByFault old new stops.Sink
sink_stopped old now new keeps rose = record {
  shelf = λ same. let no : ⊥ = cc in absurd no;
  sink = λ same. rose_later old.sink_faults now.sink_faults new.sink_faults keeps.sink_faults rose;
}
