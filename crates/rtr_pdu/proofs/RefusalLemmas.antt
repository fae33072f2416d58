-- At most one refusal comes, and its code.
use Rattle.std.proofs.Common.{◌≡◌, ◌≢◌, ℕ, ◌≤◌, false, inl, inr, List, length, refl, sym, ap, subst, ◌∙◌, arith}
use Rattle.std.specs.Prelude.{slice_index, nat_eq}
use Rattle.std.specs.declared.option.Option.TheVariants.{Some}
use Rattle.std.specs.declared.result.Result.TheVariants.{Err}
use Rattle.rtr_pdu.specs.declared.kind.Kind.{Kind}
use Rattle.rtr_pdu.specs.declared.kind.Kind.TheVariants.{Ipv4Prefix, Ipv6Prefix, ErrorReport, Aspa}
use Rattle.rtr_pdu.specs.declared.pdu.PduFault.{PduFault}
use Rattle.rtr_pdu.specs.declared.pdu.PduFault.TheVariants.{PduVersion, PduLength, PduType, NoProviders, PrefixRecord, NoMemory}
use Rattle.rtr_pdu.specs.Pdus.{IsHeader, FitsLength, code_of}
use Rattle.rtr_pdu.specs.Units.{Answers, IsRefused, IsRefusedNow, HasWhole, HasWrongLength, code_on_refusal, code_for}
use Rattle.rtr_pdu.proofs.FrameLemmas.{IsHeader-more}
use Rattle.rtr_pdu.proofs.KindLemmas.{kind_at}

pub whole_header : (held : List ℕ) (kind : Kind) (unit : HasWhole held kind) → IsHeader held kind (length unit.bytes)
whole_header held kind unit = subst (λ (l : List ℕ). IsHeader l kind (length unit.bytes)) (sym unit.whole) (IsHeader-more unit.bytes unit.rest kind (length unit.bytes) unit.header)

pub not_wrong : (held : List ℕ) (kind : Kind) (len : ℕ) → IsHeader held kind len → HasWrongLength held → ⊥
not_wrong held kind len header wrong = elim wrong.1 [
  | inl any ↦ any (subst (λ n. (8 ≤ n) × (n ≤ 262144)) (sym header.says) header.any)
  | inr one ↦ one.2 (subst (λ n. FitsLength one.0 n) (sym header.says) (subst (λ (k : Kind). FitsLength k len) (kind_at kind one.0 (sym header.code ∙ one.1)) header.fits))
]

apart : (held : List ℕ) → HasWhole held ErrorReport → HasWhole held Aspa → ⊥
apart held one other =
    let same : code_of ErrorReport ≡ code_of Aspa = sym (whole_header held ErrorReport one).code ∙ (whole_header held Aspa other).code in
    omega (arith, same)

-- a whole prefix PDU is held, of either family
pub record HasPrefixPdu (held : List ℕ) : Type 0 where
  pub kind : Kind
  pub unit : HasWhole held kind
  pub no_report : kind ≢ ErrorReport
  pub no_aspa : kind ≢ Aspa

pub prefix_pdu : (held : List ℕ) → IsRefused held PrefixRecord → HasPrefixPdu held
prefix_pdu held (inl four) = record { kind = Ipv4Prefix; unit = four.0; no_report = λ e. let never : ⊥ = cc in never; no_aspa = λ e. let never : ⊥ = cc in never }
prefix_pdu held (inr six) = record { kind = Ipv6Prefix; unit = six.0; no_report = λ e. let never : ⊥ = cc in never; no_aspa = λ e. let never : ⊥ = cc in never }

-- two whole PDUs of one stream have one type
same_kind : (held : List ℕ) (one other : Kind) → HasWhole held one → HasWhole held other → one ≡ other
same_kind held one other a b = kind_at one other (sym (whole_header held one a).code ∙ (whole_header held other b).code)

-- a prefix PDU that is refused isn't refused for anything else
lengths_alone : (held : List ℕ) → IsRefused held PrefixRecord → IsRefused held PduLength → ⊥
lengths_alone held refused (inl wrong) = let it = prefix_pdu held refused in not_wrong held it.kind _ (whole_header held it.kind it.unit) wrong
lengths_alone held refused (inr report) = let it = prefix_pdu held refused in it.no_report (same_kind held it.kind ErrorReport it.unit report.0)

versions_alone : (held : List ℕ) → IsRefused held PrefixRecord → IsRefused held PduVersion → ⊥
versions_alone held refused bad = let it = prefix_pdu held refused in bad.1 (whole_header held it.kind it.unit).version

providers_alone : (held : List ℕ) → IsRefused held PrefixRecord → IsRefused held NoProviders → ⊥
providers_alone held refused bad = let it = prefix_pdu held refused in it.no_aspa (same_kind held it.kind Aspa it.unit bad.0)

pub not_typed : (held : List ℕ) (kind : Kind) (len : ℕ) → IsHeader held kind len → IsRefused held PduType → ⊥
not_typed held kind len header typed = typed.2 kind header.code

types_alone : (held : List ℕ) → IsRefused held PrefixRecord → IsRefused held PduType → ⊥
types_alone held refused typed = let it = prefix_pdu held refused in not_typed held it.kind _ (whole_header held it.kind it.unit) typed

typed_wrong : (held : List ℕ) → IsRefused held PduType → HasWrongLength held → ⊥
typed_wrong held typed wrong = elim wrong.1 [
  | inl any ↦ any typed.1
  | inr one ↦ typed.2 one.0 one.1
]

-- at most one refusal comes
pub refused_once : (held : List ℕ) (one other : PduFault) → one ≢ NoMemory → other ≢ NoMemory → IsRefused held one → IsRefused held other → one ≡ other
refused_once held NoMemory other known known' a b = absurd (known refl)
refused_once held one NoMemory known known' a b = absurd (known' refl)
refused_once held PduVersion PduVersion known known' a b = refl
refused_once held PduLength PduLength known known' a b = refl
refused_once held PduType PduType known known' a b = refl
refused_once held NoProviders NoProviders known known' a b = refl
refused_once held PduVersion PduLength known known' a b = elim b [ inl w ↦ absurd (a.1 w.0.version) | inr w ↦ absurd (a.1 (whole_header held ErrorReport w.0).version) ]
refused_once held PduVersion PduType known known' a b = absurd (a.1 b.0.version)
refused_once held PduVersion NoProviders known known' a b = absurd (a.1 (whole_header held Aspa b.0).version)
refused_once held PduLength PduVersion known known' a b = elim a [ inl w ↦ absurd (b.1 w.0.version) | inr w ↦ absurd (b.1 (whole_header held ErrorReport w.0).version) ]
refused_once held PduType PduVersion known known' a b = absurd (b.1 a.0.version)
refused_once held NoProviders PduVersion known known' a b = absurd (b.1 (whole_header held Aspa a.0).version)
refused_once held PduLength PduType known known' a b = elim a [ inl w ↦ absurd (typed_wrong held b w) | inr w ↦ absurd (not_typed held ErrorReport _ (whole_header held ErrorReport w.0) b) ]
refused_once held PduType PduLength known known' a b = elim b [ inl w ↦ absurd (typed_wrong held a w) | inr w ↦ absurd (not_typed held ErrorReport _ (whole_header held ErrorReport w.0) a) ]
refused_once held PduLength NoProviders known known' a b = elim a [ inl w ↦ absurd (not_wrong held Aspa _ (whole_header held Aspa b.0) w) | inr w ↦ absurd (apart held w.0 b.0) ]
refused_once held NoProviders PduLength known known' a b = elim b [ inl w ↦ absurd (not_wrong held Aspa _ (whole_header held Aspa a.0) w) | inr w ↦ absurd (apart held w.0 a.0) ]
refused_once held PduType NoProviders known known' a b = absurd (not_typed held Aspa _ (whole_header held Aspa b.0) a)
refused_once held NoProviders PduType known known' a b = absurd (not_typed held Aspa _ (whole_header held Aspa a.0) b)
refused_once held PrefixRecord PrefixRecord known known' a b = refl
refused_once held PrefixRecord PduVersion known known' a b = absurd (versions_alone held a b)
refused_once held PrefixRecord PduLength known known' a b = absurd (lengths_alone held a b)
refused_once held PrefixRecord PduType known known' a b = absurd (types_alone held a b)
refused_once held PrefixRecord NoProviders known known' a b = absurd (providers_alone held a b)
refused_once held PduVersion PrefixRecord known known' a b = absurd (versions_alone held b a)
refused_once held PduLength PrefixRecord known known' a b = absurd (lengths_alone held b a)
refused_once held PduType PrefixRecord known known' a b = absurd (types_alone held b a)
refused_once held NoProviders PrefixRecord known known' a b = absurd (providers_alone held b a)

-- the code of whatever refusal it is
pub codes_same : (held : List ℕ) (one : PduFault) (byte : nat_eq (slice_index held 1) 10 ≡ false) → one ≢ NoMemory → IsRefused held one → (fault : PduFault) → fault ≢ NoMemory → IsRefused held fault → Some (code_for one) ≡ code_on_refusal held fault
codes_same held one byte known refused fault known' refused' =
    rw byte (ap (λ (f : PduFault). Some (code_for f)) (refused_once held one fault known known' refused refused'))

-- a header that is allowed belongs to a PDU refused for its body
pub codes_whole : (held : List ℕ) (kind : Kind) (len : ℕ) (byte : nat_eq (slice_index held 1) 10 ≡ false) → IsHeader held kind len → (fault : PduFault) → fault ≢ NoMemory → IsRefused held fault → Some 0 ≡ code_on_refusal held fault
codes_whole held kind len byte header PduVersion known refused = absurd (refused.1 header.version)
codes_whole held kind len byte header PduLength known refused = rw byte refl
codes_whole held kind len byte header PduType known refused = absurd (not_typed held kind len header refused)
codes_whole held kind len byte header NoProviders known refused = rw byte refl
codes_whole held kind len byte header PrefixRecord known refused = rw byte refl
codes_whole held kind len byte header NoMemory known refused = absurd (known refl)

-- what `report` needs, behind a refusal by `next`
pub refused_now : (old new : List ℕ) (fault : PduFault) → fault ≢ NoMemory → Answers old new (Err fault) → IsRefusedNow new
refused_now old new fault known answers = record { fault = fault; known = known; refused = subst (λ (l : List ℕ). IsRefused l fault) (sym answers.1) answers.0 }
