-- A content says one thing, or breaks one rule first; so do bytes.
use Rattle.std.proofs.Common.{◌≡◌, ℕ, ◌⊎◌, inl, inr, List, [], ◌∷◌, Some, refl, sym, ap, ◌∙◌, subst}
use Rattle.der_reader.specs.Value.{Begins}
use Rattle.der_reader.specs.Integer.{TakesInteger}
use Rattle.der_reader.proofs.FrontLemmas.{one_front, one_integer_front, begins_some, begins_more}
use Rattle.path_model.specs.Union.{Attestation}
use Rattle.aspa_payload.specs.Payload.{IsPayload, IsUnfit}
use Rattle.aspa_payload.specs.Content.{AreIntegers, IsContent, Says}
use Rattle.aspa_payload.specs.Reading.{TakesPayload, SaysUnfit, IsContentRefused, IsRefused}
use Rattle.aspa_payload.specs.Laws.{WrittenIsReadAgain, OnePayloadAtTheFront}
use Rattle.aspa_payload.specs.declared.content.Parts.{Parts}
use Rattle.aspa_payload.specs.declared.fault.PayloadFault.{PayloadFault}
use Rattle.aspa_payload.specs.declared.fault.PayloadFault.TheVariants.{NotDer, Version, NoProviders, Order, SelfProvider, Base64, Moment, NoMemory}
use Rattle.aspa_payload.proofs.ContentLemmas.{one_version_front}

pub one_integers : (bytes : List ℕ) (ns ms : List ℕ) → AreIntegers bytes ns → AreIntegers bytes ms → ns ≡ ms
one_integers bytes [] [] s t = refl
one_integers bytes [] (m ∷ ms) s t = absurd (begins_some 2 bytes t.1.content t.0 t.1.begins s)
one_integers bytes (n ∷ ns) [] s t = absurd (begins_some 2 bytes s.1.content s.0 s.1.begins t)
one_integers bytes (n ∷ ns) (m ∷ ms) s t =
    let same = one_integer_front bytes n m s.0 t.0 s.1 t.1 in
    let more = one_integers t.0 ns ms (subst (λ (r : List ℕ). AreIntegers r ns) same.1 s.2) t.2 in
    λ i. same.0 i ∷ more i

pub one_content : (content : List ℕ) (p q : Parts) → IsContent content p → IsContent content q → p ≡ q
one_content content p q s t =
    let v = one_version_front content p.version q.version s.after_version t.after_version s.version t.version in
    let c = one_integer_front t.after_version p.customer q.customer s.after_customer t.after_customer (subst (λ (r : List ℕ). TakesInteger r p.customer s.after_customer) v.1 s.customer) t.customer in
    let l = one_front 48 t.after_customer s.list t.list [] [] (subst (λ (r : List ℕ). Begins 48 r s.list []) c.1 s.last) t.last in
    let n = one_integers t.list p.providers q.providers (subst (λ (r : List ℕ). AreIntegers r p.providers) l.0 s.providers) t.providers in
    λ i. record { version = v.0 i; customer = c.0 i; providers = n i }

pub one_saying : (content : List ℕ) (a b : Attestation) → Says content a → Says content b → a ≡ b
one_saying content a b s t =
    let same = one_content content _ _ s t in
    λ i. record { customer = (same i).customer; providers = (same i).providers }

-- ---- the first rule that is broken

pub one_unfit : (a : Attestation) (f g : PayloadFault) → IsUnfit a f → IsUnfit a g → f ≡ g
one_unfit a NotDer g h k = absurd h
one_unfit a Version g h k = absurd h
one_unfit a Base64 g h k = absurd h
one_unfit a Moment g h k = absurd h
one_unfit a NoMemory g h k = absurd h
one_unfit a NoProviders NoProviders h k = refl
one_unfit a NoProviders Order h k = absurd (k.0 h)
one_unfit a NoProviders SelfProvider h k = absurd (k.0 h)
one_unfit a NoProviders NotDer h k = absurd k
one_unfit a NoProviders Version h k = absurd k
one_unfit a NoProviders Base64 h k = absurd k
one_unfit a NoProviders Moment h k = absurd k
one_unfit a NoProviders NoMemory h k = absurd k
one_unfit a Order NoProviders h k = absurd (h.0 k)
one_unfit a Order Order h k = refl
one_unfit a Order SelfProvider h k = absurd (h.1 k.1)
one_unfit a Order NotDer h k = absurd k
one_unfit a Order Version h k = absurd k
one_unfit a Order Base64 h k = absurd k
one_unfit a Order Moment h k = absurd k
one_unfit a Order NoMemory h k = absurd k
one_unfit a SelfProvider NoProviders h k = absurd (h.0 k)
one_unfit a SelfProvider Order h k = absurd (k.1 h.1)
one_unfit a SelfProvider SelfProvider h k = refl
one_unfit a SelfProvider NotDer h k = absurd k
one_unfit a SelfProvider Version h k = absurd k
one_unfit a SelfProvider Base64 h k = absurd k
one_unfit a SelfProvider Moment h k = absurd k
one_unfit a SelfProvider NoMemory h k = absurd k

fit_or_unfit : (a : Attestation) (f : PayloadFault) → IsPayload a → IsUnfit a f → ⊥
fit_or_unfit a NotDer p h = h
fit_or_unfit a Version p h = h
fit_or_unfit a Base64 p h = h
fit_or_unfit a Moment p h = h
fit_or_unfit a NoMemory p h = h
fit_or_unfit a NoProviders p h = p.some h
fit_or_unfit a Order p h = h.1 p.ascending
fit_or_unfit a SelfProvider p h = p.no_self h.2

-- the three ways in which a content is refused
pub Ways : List ℕ → PayloadFault → Type 0
Ways content f =
    ((f ≡ NotDer) × ((parts : Parts) → IsContent content parts → ⊥))
    ⊎ (((f ≡ Version) × ((parts : Parts) × IsContent content parts × (parts.version ≡ Some 1 → ⊥)))
    ⊎ SaysUnfit content f)

ways : (content : List ℕ) (f : PayloadFault) → IsContentRefused content f → Ways content f
unfolding Ways
ways content NotDer h = inl (refl, h)
ways content Version h = inr (inl (refl, h))
ways content Base64 h = absurd h
ways content Moment h = absurd h
ways content NoMemory h = absurd h
ways content NoProviders h = inr (inr h)
ways content Order h = inr (inr h)
ways content SelfProvider h = inr (inr h)

other_version : (content : List ℕ) (parts : Parts) (a : Attestation) → IsContent content parts → (parts.version ≡ Some 1 → ⊥)
    → Says content a → ⊥
other_version content parts a h other says = other (ap (λ (p : Parts). p.version) (one_content content parts _ h says))

by_ways : (content : List ℕ) (f g : PayloadFault) → Ways content f → Ways content g → f ≡ g
unfolding Ways
by_ways content f g (inl h) (inl k) = h.0 ∙ sym k.0
by_ways content f g (inl h) (inr (inl k)) = absurd (h.1 k.1.0 k.1.1)
by_ways content f g (inl h) (inr (inr k)) = absurd (h.1 _ k.1)
by_ways content f g (inr (inl h)) (inl k) = absurd (k.1 h.1.0 h.1.1)
by_ways content f g (inr (inl h)) (inr (inl k)) = h.0 ∙ sym k.0
by_ways content f g (inr (inl h)) (inr (inr k)) = absurd (other_version content h.1.0 k.0 h.1.1 h.1.2 k.1)
by_ways content f g (inr (inr h)) (inl k) = absurd (k.1 _ h.1)
by_ways content f g (inr (inr h)) (inr (inl k)) = absurd (other_version content k.1.0 h.0 k.1.1 k.1.2 h.1)
by_ways content f g (inr (inr h)) (inr (inr k)) =
    one_unfit k.0 f g (subst (λ (a : Attestation). IsUnfit a f) (one_saying content h.0 k.0 h.1 k.1) h.2) k.2

pub one_refusal : (content : List ℕ) (f g : PayloadFault) → IsContentRefused content f → IsContentRefused content g → f ≡ g
one_refusal content f g h k = by_ways content f g (ways content f h) (ways content g k)

said_or_refused_by : (content : List ℕ) (a : Attestation) (f : PayloadFault) → Says content a → IsPayload a → Ways content f
    → ⊥
unfolding Ways
said_or_refused_by content a f says fit (inl h) = h.1 _ says
said_or_refused_by content a f says fit (inr (inl h)) = other_version content h.1.0 a h.1.1 h.1.2 says
said_or_refused_by content a f says fit (inr (inr h)) = fit_or_unfit a f fit (subst (λ (b : Attestation). IsUnfit b f) (one_saying content h.0 a h.1 says) h.2)

pub said_or_refused : (content : List ℕ) (a : Attestation) (f : PayloadFault) → Says content a → IsPayload a
    → IsContentRefused content f → ⊥
said_or_refused content a f says fit h = said_or_refused_by content a f says fit (ways content f h)

-- ---- bytes

-- either they have no content of the shape, or a content is refused
pub OuterWays : (List ℕ → List ℕ → Type 0) → PayloadFault → Type 0
OuterWays Outer f =
    ((f ≡ NotDer) × ((content rest : List ℕ) → Outer content rest → (parts : Parts) → IsContent content parts → ⊥))
    ⊎ ((content : List ℕ) × ((rest : List ℕ) × Outer content rest × IsContentRefused content f))

outer_ways : (Outer : List ℕ → List ℕ → Type 0) (f : PayloadFault) → IsRefused Outer f → OuterWays Outer f
unfolding OuterWays
outer_ways Outer NotDer h = inl (refl, h)
outer_ways Outer Version h = inr h
outer_ways Outer Base64 h = inr h
outer_ways Outer Moment h = inr h
outer_ways Outer NoMemory h = inr h
outer_ways Outer NoProviders h = inr h
outer_ways Outer Order h = inr h
outer_ways Outer SelfProvider h = inr h

-- a content that has no parts is refused by the first rule
no_parts : (content : List ℕ) (f : PayloadFault) → ((parts : Parts) → IsContent content parts → ⊥) → Ways content f
    → f ≡ NotDer
unfolding Ways
no_parts content f none (inl h) = h.0
no_parts content f none (inr (inl h)) = absurd (none h.1.0 h.1.1)
no_parts content f none (inr (inr h)) = absurd (none _ h.1)

module _ (Outer : List ℕ → List ℕ → Type 0) (one : (c d x y : List ℕ) → Outer c x → Outer d y → c ≡ d) where
  by_outer : (f g : PayloadFault) → OuterWays Outer f → OuterWays Outer g → f ≡ g
  unfolding OuterWays
  by_outer f g (inl h) (inl k) = h.0 ∙ sym k.0
  by_outer f g (inl h) (inr k) = h.0 ∙ sym (no_parts k.0 g (h.1 k.0 k.1.0 k.1.1) (ways k.0 g k.1.2))
  by_outer f g (inr h) (inl k) = no_parts h.0 f (k.1 h.0 h.1.0 h.1.1) (ways h.0 f h.1.2) ∙ sym k.0
  by_outer f g (inr h) (inr k) =
      one_refusal k.0 f g (subst (λ (c : List ℕ). IsContentRefused c f) (one h.0 k.0 h.1.0 k.1.0 h.1.1 k.1.1) h.1.2) k.1.2

  pub one_refused : (f g : PayloadFault) → IsRefused Outer f → IsRefused Outer g → f ≡ g
  one_refused f g h k = by_outer f g (outer_ways Outer f h) (outer_ways Outer g k)

  taken_or_refused_by : (content rest : List ℕ) (a : Attestation) (f : PayloadFault) → Outer content rest → Says content a
      → IsPayload a → OuterWays Outer f → ⊥
  unfolding OuterWays
  taken_or_refused_by content rest a f outer says fit (inl h) = h.1 content rest outer _ says
  taken_or_refused_by content rest a f outer says fit (inr h) =
      said_or_refused content a f says fit (subst (λ (c : List ℕ). IsContentRefused c f) (one h.0 content h.1.0 rest h.1.1 outer) h.1.2)

  pub taken_or_refused : (content rest : List ℕ) (a : Attestation) (f : PayloadFault) → Outer content rest → Says content a
      → IsPayload a → IsRefused Outer f → ⊥
  taken_or_refused content rest a f outer says fit h = taken_or_refused_by content rest a f outer says fit (outer_ways Outer f h)

pub one_payload : OnePayloadAtTheFront
one_payload bytes a b rest more s t =
    let same = one_front 48 bytes s.content t.content rest more s.begins t.begins in
    (one_saying t.content a b (subst (λ (c : List ℕ). Says c a) same.0 s.says) t.says, same.1)

pub read_again : WrittenIsReadAgain
read_again front a t rest = record { content = t.content; begins = begins_more 48 front t.content [] rest t.begins; says = t.says; fit = t.fit }

-- a payload is taken, or refused, and never both
pub unit_once : (bytes : List ℕ) (a : Attestation) (rest : List ℕ) (f : PayloadFault) → TakesPayload bytes a rest
    → IsRefused (Begins 48 bytes) f → ⊥
unit_once bytes a rest f t h =
    taken_or_refused (Begins 48 bytes) (λ c d x y s k. (one_front 48 bytes c d x y s k).0) t.content rest a f t.begins t.says t.fit h

pub one_unit_refused : (bytes : List ℕ) (f g : PayloadFault) → IsRefused (Begins 48 bytes) f → IsRefused (Begins 48 bytes) g
    → f ≡ g
one_unit_refused bytes f g h k = one_refused (Begins 48 bytes) (λ c d x y s t. (one_front 48 bytes c d x y s t).0) f g h k
