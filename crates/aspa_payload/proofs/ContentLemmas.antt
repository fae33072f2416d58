-- Content that is none.
use Rattle.std.proofs.Common.{◌≡◌, ℕ, List, [], Option, Some, None, refl, sym, ap, ◌∙◌, subst, slice_get}
use Rattle.der_reader.specs.Value.{Begins}
use Rattle.der_reader.specs.Integer.{TakesInteger}
use Rattle.der_reader.proofs.FrontLemmas.{one_front, one_integer_front, begins_tag}
use Rattle.aspa_payload.specs.Answers.{Misses}
use Rattle.aspa_payload.specs.Content.{TakesExplicit, TakesVersion, AreIntegers, IsContent}
use Rattle.aspa_payload.specs.declared.content.Parts.{Parts}
use Rattle.aspa_payload.specs.declared.fault.PayloadFault.{PayloadFault}
use Rattle.aspa_payload.specs.declared.fault.PayloadFault.TheVariants.{NotDer, Version, NoProviders, Order, SelfProvider, Base64, Moment, NoMemory}

-- what a part doesn't have, the whole doesn't have
pub misses_by : {A B : Type 0} (cause : PayloadFault) (P : A → Type 0) (Q : B → Type 0) (fault : PayloadFault)
    → (((a : A) → P a → ⊥) → (b : B) → Q b → ⊥) → Misses cause fault P → Misses cause fault Q
misses_by cause P Q NoMemory f h = tt
misses_by cause P Q NotDer f h = (h.0, f h.1)
misses_by cause P Q Version f h = (h.0, f h.1)
misses_by cause P Q NoProviders f h = (h.0, f h.1)
misses_by cause P Q Order f h = (h.0, f h.1)
misses_by cause P Q SelfProvider f h = (h.0, f h.1)
misses_by cause P Q Base64 f h = (h.0, f h.1)
misses_by cause P Q Moment f h = (h.0, f h.1)

same_option : (v w : ℕ) → v ≡ w → ◌≡◌ {A = Option ℕ} (Some v) (Some w)
same_option v w e = ap Some e

pub one_version_front : (bytes : List ℕ) (v w : Option ℕ) (x y : List ℕ) → TakesVersion bytes v x → TakesVersion bytes w y
    → (v ≡ w) × (x ≡ y)
one_version_front bytes None None x y s t = (refl, s.1 ∙ sym t.1)
one_version_front bytes None (Some w) x y s t = absurd (s.0 (begins_tag 160 bytes t.inner y t.begins))
one_version_front bytes (Some v) None x y s t = absurd (t.0 (begins_tag 160 bytes s.inner x s.begins))
one_version_front bytes (Some v) (Some w) x y s t =
    let outer = one_front 160 bytes s.inner t.inner x y s.begins t.begins in
    let inner = one_integer_front t.inner v w [] [] (subst (λ (b : List ℕ). TakesInteger b v []) outer.0 s.alone) t.alone in
    (same_option v w inner.0, outer.1)

pub no_explicit : (bytes : List ℕ) → slice_get bytes 0 ≡ Some 160 → ((v : ℕ) (x : List ℕ) → TakesExplicit bytes v x → ⊥)
    → (y : Option ℕ × List ℕ) → TakesVersion bytes y.0 y.1 → ⊥
no_explicit bytes first none (None, x) t = t.0 first
no_explicit bytes first none (Some v, x) t = none v x t

pub no_inner : (bytes : List ℕ) → ((c x : List ℕ) → Begins 160 bytes c x → ⊥) → (v : ℕ) (x : List ℕ)
    → TakesExplicit bytes v x → ⊥
no_inner bytes none v x t = none t.inner x t.begins

pub no_number : (bytes inner rest : List ℕ) → Begins 160 bytes inner rest
    → ((n : ℕ) (r : List ℕ) → TakesInteger inner n r → ⊥) → (v : ℕ) (x : List ℕ) → TakesExplicit bytes v x → ⊥
no_number bytes inner rest begins none v x t =
    let same = one_front 160 bytes t.inner inner x rest t.begins begins in
    none v [] (subst (λ (b : List ℕ). TakesInteger b v []) same.0 t.alone)

pub not_alone : (bytes inner rest after : List ℕ) (n : ℕ) → Begins 160 bytes inner rest → TakesInteger inner n after
    → (after ≡ [] → ⊥) → (v : ℕ) (x : List ℕ) → TakesExplicit bytes v x → ⊥
not_alone bytes inner rest after n begins number some v x t =
    let same = one_front 160 bytes t.inner inner x rest t.begins begins in
    some (one_integer_front inner n v after [] number (subst (λ (b : List ℕ). TakesInteger b v []) same.0 t.alone)).1

-- ---- the content's parts, as far as they are read

module _ (content rest : List ℕ) (v : Option ℕ) (version : TakesVersion content v rest) where
  at_customer : (parts : Parts) (s : IsContent content parts) → TakesInteger rest parts.customer s.after_customer
  at_customer parts s = subst (λ (r : List ℕ). TakesInteger r parts.customer s.after_customer) (one_version_front content parts.version v s.after_version rest s.version version).1 s.customer

  pub no_customer : ((n : ℕ) (more : List ℕ) → TakesInteger rest n more → ⊥) → (parts : Parts) → IsContent content parts → ⊥
  no_customer none parts s = none parts.customer s.after_customer (at_customer parts s)

  module _ (more : List ℕ) (n : ℕ) (customer : TakesInteger rest n more) where
    at_list : (parts : Parts) (s : IsContent content parts) → Begins 48 more s.list []
    at_list parts s = subst (λ (r : List ℕ). Begins 48 r s.list []) (one_integer_front rest parts.customer n s.after_customer more (at_customer parts s) customer).1 s.last

    pub no_list : ((c x : List ℕ) → Begins 48 more c x → ⊥) → (parts : Parts) → IsContent content parts → ⊥
    no_list none parts s = none s.list [] (at_list parts s)

    pub no_end : (list after : List ℕ) → Begins 48 more list after → (after ≡ [] → ⊥) → (parts : Parts)
        → IsContent content parts → ⊥
    no_end list after begins some parts s = some (one_front 48 more list s.list after [] begins (at_list parts s)).1

    pub no_providers : (list after : List ℕ) → Begins 48 more list after → ((ns : List ℕ) → AreIntegers list ns → ⊥)
        → (parts : Parts) → IsContent content parts → ⊥
    no_providers list after begins none parts s = none parts.providers (subst (λ (l : List ℕ). AreIntegers l parts.providers) (one_front 48 more s.list list [] after (at_list parts s) begins).0 s.providers)
