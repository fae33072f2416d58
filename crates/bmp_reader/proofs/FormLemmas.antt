-- Bodies are read exactly where they are; and what a body says by its form, where what was read is exactly what has the form.
use Rattle.std.proofs.Common.{◌≡◌, inl, inr, ℕ, List, ◌∷◌, Some, None, Ok, Err, refl, sym, ap, subst, ◌∙◌}
use Rattle.std.specs.declared.option.Option.{Option}
use Rattle.std.specs.declared.result.Result.{Result}
use Rattle.std.proofs.lemmas.Option.{same_Some}
use Rattle.held_bytes.specs.Units.{Begins}
use Rattle.bgp_attrs.proofs.FixedLemmas.{and_then_some, Reads, and_then_is, cut_at, cut_finds, byte_finds}
use Rattle.bmp_reader.specs.declared.body.Body.{Body}
use Rattle.bmp_reader.specs.declared.fault.BmpFault.{BmpFault}
use Rattle.bmp_reader.specs.declared.fault.BmpFault.TheVariants as faults
use Rattle.bmp_reader.specs.declared.header.PeerHeader.{PeerHeader}
use Rattle.bmp_reader.specs.Bodies.{ByForm, OrNoMemory}
use Rattle.bmp_reader.specs.Forms.{Up, IsRouteMonitoring, IsPeerDown, IsPeerUp}
use Rattle.bmp_reader.specs.Gathering.{ByParts}
use Rattle.bmp_reader.specs.Headers.{IsPeerHeader}
use Rattle.bgp_attrs.specs.Fixed.{cut, byte_at}
use Rattle.bmp_reader.specs.Readers.{header_at, down_at, open_at, up_at}
use Rattle.bmp_reader.proofs.HeaderLemmas.{header_reader}
use Rattle.bmp_reader.proofs.OpenLemmas.{open_reader}

-- ---- the bodies

pub monitoring_reads : (body : List ℕ) → Reads (λ (it : PeerHeader × List ℕ). IsRouteMonitoring body it.0 it.1) (header_at body)
monitoring_reads body = record { finds = λ it e. header_reader.finds body it.0 it.1 e; only = λ it is. header_reader.only body it.0 it.1 is }

down_finds : (body : List ℕ) (header : PeerHeader) → down_at body ≡ Some header → IsPeerDown body header
unfolding down_at
down_finds body header e =
    let a = and_then_some _ (header_at body) header e in
    let b = and_then_some _ (byte_at a.0.1) header a.2 in
    let same = same_Some a.0.0 header b.2 in
    let found = header_reader.finds body a.0.0 a.0.1 a.1 in
    (b.0.0, b.0.1, subst (λ (h : PeerHeader). Begins IsPeerHeader body h (b.0.0 ∷ b.0.1)) same (subst (λ (rest : List ℕ). Begins IsPeerHeader body a.0.0 rest) (byte_finds a.0.1 b.0.0 b.0.1 b.1) found))

down_only : (body : List ℕ) (header : PeerHeader) → IsPeerDown body header → down_at body ≡ Some header
unfolding down_at
down_only body header is = and_then_is _ (header_at body) (header, is.0 ∷ is.1) (Some header) (header_reader.only body header (is.0 ∷ is.1) is.2) refl

pub down_reads : (body : List ℕ) → Reads (IsPeerDown body) (down_at body)
down_reads body = record { finds = down_finds body; only = down_only body }

up_finds : (body : List ℕ) (up : Up) → up_at body ≡ Some up → IsPeerUp body up
unfolding up_at
up_finds body up e =
    let a = and_then_some _ (header_at body) up e in
    let b = and_then_some _ (cut 20 a.0.1) up a.2 in
    let c = and_then_some _ (open_at b.0.1) up b.2 in
    let d = and_then_some _ (open_at c.0.1) up c.2 in
    let l = cut_finds 20 a.0.1 b.0 b.1 in
    subst (IsPeerUp body) (same_Some (record { header = a.0.0; sent = c.0.0; received = d.0.0 }) up d.2) (record {
      behind = a.0.1;
      local = b.0.0;
      opens = b.0.1;
      second = c.0.1;
      information = d.0.1;
      header = header_reader.finds body a.0.0 a.0.1 a.1;
      twenty = l.0;
      whole = l.1;
      sent = open_reader.finds b.0.1 c.0.0 c.0.1 c.1;
      received = open_reader.finds c.0.1 d.0.0 d.0.1 d.1;
    })

up_only : (body : List ℕ) (up : Up) → IsPeerUp body up → up_at body ≡ Some up
unfolding up_at
up_only body up is =
    and_then_is _ (header_at body) (up.header, is.behind) (Some up) (header_reader.only body up.header is.behind is.header)
    (and_then_is _ (cut 20 is.behind) (is.local, is.opens) (Some up) (ap (cut 20) is.whole ∙ cut_at 20 is.local is.opens is.twenty)
    (and_then_is _ (open_at is.opens) (up.sent, is.second) (Some up) (open_reader.only is.opens up.sent is.second is.sent)
    (and_then_is _ (open_at is.second) (up.received, is.information) (Some up) (open_reader.only is.second up.received is.information is.received) refl)))

pub up_reads : (body : List ℕ) → Reads (IsPeerUp body) (up_at body)
up_reads body = record { finds = up_finds body; only = up_only body }

-- ---- by their forms

abbrev pub Says : (Result Body BmpFault → Type 0) → Type 0
Says P = (reading : Result Body BmpFault) × P reading

no_form : {A : Type 0} (HasForm : A → Type 0) → Reads HasForm None → (value : A) → HasForm value → ⊥
no_form HasForm r value is = let e = r.only value is in cc

by_form : {A : Type 0} (HasForm : A → Type 0) (S : A → Result Body BmpFault → Type 0) (found : Option A) (reading : Result Body BmpFault) → Reads HasForm found → ByParts found S reading → ByForm HasForm S reading
by_form HasForm S None reading r says = inl (no_form HasForm r, says)
by_form HasForm S (Some value) reading r says = inr (value, r.finds value refl, says)

pub or_by_form : {A : Type 0} (HasForm : A → Type 0) (S : A → Result Body BmpFault → Type 0) (found : Option A) (result : Result Body BmpFault) → Reads HasForm found → OrNoMemory (λ r. ByParts found S r) result
    → OrNoMemory (λ r. ByForm HasForm S r) result
or_by_form HasForm S found (Ok body) r says = by_form HasForm S found (Ok body) r says
or_by_form HasForm S found (Err faults.Body) r says = by_form HasForm S found (Err faults.Body) r says
or_by_form HasForm S found (Err faults.Message) r says = by_form HasForm S found (Err faults.Message) r says
or_by_form HasForm S found (Err faults.Attributes) r says = by_form HasForm S found (Err faults.Attributes) r says
or_by_form HasForm S found (Err faults.NoPath) r says = by_form HasForm S found (Err faults.NoPath) r says
or_by_form HasForm S found (Err faults.NoMemory) r says = tt

-- what holds of an answer holds of it or it is want of memory
pub or_no_memory : (P : Result Body BmpFault → Type 0) (result : Result Body BmpFault) → P result → OrNoMemory P result
or_no_memory P (Ok body) p = p
or_no_memory P (Err faults.Body) p = p
or_no_memory P (Err faults.Message) p = p
or_no_memory P (Err faults.Attributes) p = p
or_no_memory P (Err faults.NoPath) p = p
or_no_memory P (Err faults.NoMemory) p = tt

-- ---- one reading

pub form_same : {A : Type 0} (HasForm : A → Type 0) (S : A → Result Body BmpFault → Type 0) (found : Option A) (one other : Result Body BmpFault) → Reads HasForm found
    → ((value : A) → S value one → S value other → one ≡ other) → ByForm HasForm S one → ByForm HasForm S other → one ≡ other
form_same HasForm S found one other r same (inl p) (inl q) = p.1 ∙ sym q.1
form_same HasForm S found one other r same (inl p) (inr q) = absurd (p.0 q.0 q.1)
form_same HasForm S found one other r same (inr p) (inl q) = absurd (q.0 p.0 p.1)
form_same {A} HasForm S found one other r same (inr p) (inr q) =
    let values = same_Some q.0 p.0 (sym (r.only q.0 q.1) ∙ r.only p.0 p.1) in
    same p.0 p.2 (subst (λ (value : A). S value other) values q.2)

pub form_some : {A : Type 0} (HasForm : A → Type 0) (S : A → Result Body BmpFault → Type 0) (found : Option A) → Reads HasForm found → ((value : A) → Says (S value)) → Says (ByForm HasForm S)
form_some HasForm S None r some = (Err faults.Body, inl (no_form HasForm r, refl))
form_some HasForm S (Some value) r some = let says = some value in (says.0, inr (value, r.finds value refl, says.1))

pub form_reads : {A : Type 0} (HasForm : A → Type 0) (S : A → Result Body BmpFault → Type 0) → ((value : A) → S value (Err faults.NoMemory) → ⊥) → ByForm HasForm S (Err faults.NoMemory) → ⊥
form_reads HasForm S never (inl p) = let e = p.1 in cc
form_reads HasForm S never (inr p) = never p.0 p.2
