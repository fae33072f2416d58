-- Faults that are passed on.
use Rattle.json_fields.specs.Answers.{MemoryOr}
use Rattle.json_fields.specs.declared.fault.JsonFault.{JsonFault}
use Rattle.json_fields.specs.declared.fault.JsonFault.TheVariants.{Json, NoMemory}

-- what is no value within makes the whole no value
pub fault_by : {P Q : Type 0} (fault : JsonFault) → (P → Q) → MemoryOr fault P → MemoryOr fault Q
fault_by NoMemory f h = tt
fault_by Json f h = f h

pub no_json : {P : Type 0} (fault : JsonFault) → P → MemoryOr fault P
no_json NoMemory h = tt
no_json Json h = h
