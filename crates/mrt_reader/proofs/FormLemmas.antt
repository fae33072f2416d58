-- What a body says by its form, where what was read is exactly what has the form.
use Rattle.std.proofs.Common.{◌≡◌, inl, inr, Some, None, Ok, Err, refl, sym, ◌∙◌, subst}
use Rattle.std.specs.declared.option.Option.{Option}
use Rattle.std.specs.declared.result.Result.{Result}
use Rattle.std.proofs.lemmas.Option.{same_Some}
use Rattle.mrt_reader.specs.declared.body.Body.{Body}
use Rattle.mrt_reader.specs.declared.fault.BodyFault.{BodyFault}
use Rattle.mrt_reader.specs.declared.fault.BodyFault.TheVariants as faults
use Rattle.mrt_reader.specs.Bodies.{ByForm, OrNoMemory}
use Rattle.mrt_reader.specs.Gathering.{ByParts}
use Rattle.bgp_attrs.proofs.FixedLemmas.{Reads}

abbrev pub Says : (Result Body BodyFault → Type 0) → Type 0
Says P = (reading : Result Body BodyFault) × P reading

no_form : {A : Type 0} (HasForm : A → Type 0) → Reads HasForm None → (value : A) → HasForm value → ⊥
no_form HasForm r value is = let e = r.only value is in cc

by_form : {A : Type 0} (HasForm : A → Type 0) (S : A → Result Body BodyFault → Type 0) (found : Option A) (reading : Result Body BodyFault) → Reads HasForm found → ByParts found S reading → ByForm HasForm S reading
by_form HasForm S None reading r says = inl (no_form HasForm r, says)
by_form HasForm S (Some value) reading r says = inr (value, r.finds value refl, says)

pub or_by_form : {A : Type 0} (HasForm : A → Type 0) (S : A → Result Body BodyFault → Type 0) (found : Option A) (result : Result Body BodyFault) → Reads HasForm found → OrNoMemory (λ r. ByParts found S r) result
    → OrNoMemory (λ r. ByForm HasForm S r) result
or_by_form HasForm S found (Ok body) r says = by_form HasForm S found (Ok body) r says
or_by_form HasForm S found (Err faults.Body) r says = by_form HasForm S found (Err faults.Body) r says
or_by_form HasForm S found (Err faults.NoPeerTable) r says = by_form HasForm S found (Err faults.NoPeerTable) r says
or_by_form HasForm S found (Err faults.PeerIndex) r says = by_form HasForm S found (Err faults.PeerIndex) r says
or_by_form HasForm S found (Err faults.Message) r says = by_form HasForm S found (Err faults.Message) r says
or_by_form HasForm S found (Err faults.Attributes) r says = by_form HasForm S found (Err faults.Attributes) r says
or_by_form HasForm S found (Err faults.NoPath) r says = by_form HasForm S found (Err faults.NoPath) r says
or_by_form HasForm S found (Err faults.NoMemory) r says = tt

-- ---- one reading

pub form_same : {A : Type 0} (HasForm : A → Type 0) (S : A → Result Body BodyFault → Type 0) (found : Option A) (one other : Result Body BodyFault) → Reads HasForm found
    → ((value : A) → S value one → S value other → one ≡ other) → ByForm HasForm S one → ByForm HasForm S other → one ≡ other
form_same HasForm S found one other r same (inl p) (inl q) = p.1 ∙ sym q.1
form_same HasForm S found one other r same (inl p) (inr q) = absurd (p.0 q.0 q.1)
form_same HasForm S found one other r same (inr p) (inl q) = absurd (q.0 p.0 p.1)
form_same {A} HasForm S found one other r same (inr p) (inr q) =
    let values = same_Some q.0 p.0 (sym (r.only q.0 q.1) ∙ r.only p.0 p.1) in
    same p.0 p.2 (subst (λ (value : A). S value other) values q.2)

pub form_some : {A : Type 0} (HasForm : A → Type 0) (S : A → Result Body BodyFault → Type 0) (found : Option A) → Reads HasForm found → ((value : A) → Says (S value)) → Says (ByForm HasForm S)
form_some HasForm S None r some = (Err faults.Body, inl (no_form HasForm r, refl))
form_some HasForm S (Some value) r some = let says = some value in (says.0, inr (value, r.finds value refl, says.1))

pub form_reads : {A : Type 0} (HasForm : A → Type 0) (S : A → Result Body BodyFault → Type 0) → ((value : A) → S value (Err faults.NoMemory) → ⊥) → ByForm HasForm S (Err faults.NoMemory) → ⊥
form_reads HasForm S never (inl p) = let e = p.1 in cc
form_reads HasForm S never (inr p) = never p.0 p.2
