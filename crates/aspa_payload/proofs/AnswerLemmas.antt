-- Want of memory, or what is due.
use Rattle.std.proofs.Common.{◌≡◌, refl}
use Rattle.aspa_payload.specs.Answers.{MemoryOr}
use Rattle.aspa_payload.specs.declared.fault.PayloadFault.{PayloadFault}
use Rattle.aspa_payload.specs.declared.fault.PayloadFault.TheVariants.{NotDer, Version, NoProviders, Order, SelfProvider, Base64, Moment, NoMemory}

-- what follows from it is due then
pub memory_or : (fault : PayloadFault) (P Q : Type 0) → (P → Q) → MemoryOr fault P → MemoryOr fault Q
memory_or NoMemory P Q f h = tt
memory_or NotDer P Q f h = f h
memory_or Version P Q f h = f h
memory_or NoProviders P Q f h = f h
memory_or Order P Q f h = f h
memory_or SelfProvider P Q f h = f h
memory_or Base64 P Q f h = f h
memory_or Moment P Q f h = f h

-- a fault that isn't want of memory is due
pub due : (fault : PayloadFault) (P : Type 0) → (fault ≡ NoMemory → ⊥) → MemoryOr fault P → P
due NoMemory P other h = absurd (other refl)
due NotDer P other h = h
due Version P other h = h
due NoProviders P other h = h
due Order P other h = h
due SelfProvider P other h = h
due Base64 P other h = h
due Moment P other h = h
