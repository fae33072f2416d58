-- What a payload attests, and the rules that it keeps (draft-ietf-sidrops-aspa-profile, section 3).
use Rattle.std.specs.Prelude.{◌≢◌, ◌≡◌, ℕ, List, []}
use Rattle.std.specs.List.{Contains}
use Rattle.std.specs.List.Sorted.{IsStrictlyIncreasing}
use Rattle.path_model.specs.Union.{Attestation}
use Rattle.aspa_payload.specs.declared.fault.PayloadFault.{PayloadFault}
use Rattle.aspa_payload.specs.declared.fault.PayloadFault.TheVariants.{NotDer, Version, NoProviders, Order, SelfProvider, Base64, Moment, NoMemory}

abbrev pub attestation : ℕ → List ℕ → Attestation
attestation customer providers = record { customer = customer; providers = providers }

-- there are providers, they strictly ascend, and the customer isn't among them
pub record IsPayload (attestation : Attestation) : Type 0 where
  pub some : attestation.providers ≢ []
  pub ascending : IsStrictlyIncreasing attestation.providers
  pub no_self : Contains attestation.providers attestation.customer → ⊥

-- the first of these rules that doesn't hold
abbrev pub IsUnfit : Attestation → PayloadFault → Type 0
IsUnfit a NoProviders = a.providers ≡ []
IsUnfit a Order = (a.providers ≢ []) × (IsStrictlyIncreasing a.providers → ⊥)
IsUnfit a SelfProvider = (a.providers ≢ []) × IsStrictlyIncreasing a.providers × Contains a.providers a.customer
IsUnfit a NotDer = ⊥
IsUnfit a Version = ⊥
IsUnfit a Base64 = ⊥
IsUnfit a Moment = ⊥
IsUnfit a NoMemory = ⊥
