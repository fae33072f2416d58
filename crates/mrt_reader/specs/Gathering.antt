-- What is gathered of bytes, or that they are out of form; only private contracts cite it.
use Rattle.std.specs.Prelude.{◌≡◌, Some, None, Ok, Err}
use Rattle.std.specs.declared.option.Option.{Option}
use Rattle.std.specs.declared.result.Result.{Result}
use Rattle.mrt_reader.specs.declared.body.Body.{Body}
use Rattle.mrt_reader.specs.declared.fault.BodyFault.{BodyFault}
use Rattle.mrt_reader.specs.declared.fault.BodyFault.TheVariants as faults

abbrev pub Gives : {X Y : Type 0} → (X → Y) → Result X BodyFault → Option Y → Type 0
Gives view (Ok x) read = read ≡ Some (view x)
Gives view (Err faults.Body) read = read ≡ None
Gives view (Err faults.NoPeerTable) read = ⊥
Gives view (Err faults.PeerIndex) read = ⊥
Gives view (Err faults.Message) read = ⊥
Gives view (Err faults.Attributes) read = ⊥
Gives view (Err faults.NoPath) read = ⊥
Gives view (Err faults.NoMemory) read = Unit {0}

-- what the parts say, or that there are none
abbrev pub ByParts : {A : Type 0} → Option A → (A → Result Body BodyFault → Type 0) → Result Body BodyFault → Type 0
ByParts None Says reading = reading ≡ Err faults.Body
ByParts (Some parts) Says reading = Says parts reading
