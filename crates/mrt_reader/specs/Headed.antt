-- The header of a whole record, or why there is none; only private contracts cite it.
use Rattle.std.specs.Prelude.{◌≡◌, ℕ, ◌+◌, ◌≤◌, List, length, None, Some, Ok, Err}
use Rattle.std.specs.declared.option.Option.{Option}
use Rattle.std.specs.declared.result.Result.{Result}
use Rattle.mrt_reader.specs.declared.fault.FrameFault.{FrameFault}
use Rattle.mrt_reader.specs.declared.fault.FrameFault.TheVariants as faults
use Rattle.mrt_reader.specs.declared.heading.Heading.{Heading}
use Rattle.mrt_reader.specs.Coming.{IsTooLong, IsPartial}
use Rattle.mrt_reader.specs.Records.{Head, head_at, limit}

abbrev pub head_of : Heading → Head
head_of h = record { stamp = h.stamp; mrt_type = h.mrt_type; subtype = h.subtype; size = h.size }

abbrev pub IsHeaded : List ℕ → Result (Option Heading) FrameFault → Type 0
IsHeaded bytes (Ok None) = IsPartial bytes
IsHeaded bytes (Ok (Some h)) = (head_at bytes ≡ Some (head_of h)) × (h.size ≤ limit) × (12 + h.size ≤ length bytes)
IsHeaded bytes (Err faults.TooLong) = IsTooLong bytes
IsHeaded bytes (Err faults.CutShort) = ⊥
