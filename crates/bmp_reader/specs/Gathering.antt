-- What the parts of a body say, or that there are none; only private contracts cite it.
use Rattle.std.specs.Prelude.{◌≡◌, Some, None, Err}
use Rattle.std.specs.declared.option.Option.{Option}
use Rattle.std.specs.declared.result.Result.{Result}
use Rattle.bmp_reader.specs.declared.body.Body.{Body}
use Rattle.bmp_reader.specs.declared.fault.BmpFault.{BmpFault}
use Rattle.bmp_reader.specs.declared.fault.BmpFault.TheVariants as faults

abbrev pub ByParts : {A : Type 0} → Option A → (A → Result Body BmpFault → Type 0) → Result Body BmpFault → Type 0
ByParts None Says reading = reading ≡ Err faults.Body
ByParts (Some parts) Says reading = Says parts reading
