-- What a call answers that reads a part of a text.
use Rattle.json_fields.specs.declared.fault.JsonFault.{JsonFault}
use Rattle.json_fields.specs.declared.fault.JsonFault.TheVariants.{Json, NoMemory}

-- want of memory is free, and else this is so
abbrev pub MemoryOr : JsonFault → Type 0 → Type 0
MemoryOr NoMemory due = Unit {0}
MemoryOr Json due = due
