-- What is written is a payload.
use Rattle.std.proofs.Math.Seq.{take-suc}
use Rattle.std.proofs.Common.{◌≡◌, ℕ, ◌+◌, ◌<◌, List, [], ◌∷◌, ◌++◌, length, take, get_or, refl, sym, ap, ◌∙◌, subst, append_assoc, append-nil, add-one, arith, inl}
use Rattle.der_reader.specs.Value.{Spells}
use Rattle.der_reader.specs.Integer.{TakesInteger}
use Rattle.der_reader.specs.Writing.{PutsInteger, PutsValue}
use Rattle.der_reader.proofs.FrontLemmas.{takes_more}
use Rattle.path_model.specs.Union.{Attestation}
use Rattle.aspa_payload.specs.Payload.{IsPayload}
use Rattle.aspa_payload.specs.Content.{AreIntegers, Says}
use Rattle.aspa_payload.specs.Writing.{PutsIntegers, PutsPayload}

integers_push : (bytes front : List ℕ) (ns : List ℕ) (n : ℕ) → AreIntegers bytes ns → TakesInteger front n []
    → AreIntegers (bytes ++ front) (ns ++ n ∷ [])
integers_push bytes front [] n are t = ([], subst (λ (b : List ℕ). TakesInteger (b ++ front) n []) (sym are) t, refl)
integers_push bytes front (m ∷ ns) n are t = (are.0 ++ front, takes_more bytes m are.0 front are.1, integers_push are.0 front ns n are.2 t)

take_next : (xs : List ℕ) (i : ℕ) → i < length xs → take (i + 1) xs ≡ take i xs ++ get_or xs i 0 ∷ []
take_next xs i h = rw add-one (take-suc xs i 0 h)

pub puts_next : (old mid new numbers : List ℕ) (i n : ℕ) → i < length numbers → n ≡ get_or numbers i 0
    → PutsIntegers old mid (take i numbers) → PutsInteger mid new n → PutsIntegers old new (take (i + 1) numbers)
puts_next old mid new numbers i n h is so_far p = record {
  front = so_far.front ++ p.front;
  are = rw (take_next numbers i h, sym is) (integers_push so_far.front p.front (take i numbers) n so_far.are p.is);
  whole = p.whole ∙ ap (λ (b : List ℕ). b ++ p.front) so_far.whole ∙ append_assoc old so_far.front p.front;
}

one_inner : TakesInteger (2 ∷ 1 ∷ 1 ∷ []) 1 []
one_inner = record {
  content = 1 ∷ [];
  begins = record { front = 2 ∷ 1 ∷ 1 ∷ []; spelled = record { octets = 1 ∷ []; length_is = inl (omega arith, refl); whole = refl }; whole = refl };
  value = record { shortest = tt; positive = omega arith; value = refl; small = omega arith };
}

-- the parts of the content, joined, are the content
pub says_joined : (customer last list : List ℕ) (a : Attestation) → TakesInteger customer a.customer [] → Spells 48 list last
    → AreIntegers list a.providers → Says (160 ∷ 3 ∷ 2 ∷ 1 ∷ 1 ∷ (customer ++ last)) a
says_joined customer last list a t s are = record {
  after_version = customer ++ last;
  version = record {
    inner = 2 ∷ 1 ∷ 1 ∷ [];
    begins = record { front = 160 ∷ 3 ∷ 2 ∷ 1 ∷ 1 ∷ []; spelled = record { octets = 3 ∷ []; length_is = inl (omega arith, refl); whole = refl }; whole = refl };
    alone = one_inner;
  };
  after_customer = last;
  customer = takes_more customer a.customer [] last t;
  list = list;
  last = record { front = last; spelled = s; whole = sym (append-nil last) };
  providers = are;
}

-- the list, the version, the customer, the list's value and the outer one, one after another
puts_payload : (old new list head with_customer content : List ℕ) (a : Attestation) → IsPayload a
    → PutsIntegers [] list a.providers → head ≡ 160 ∷ 3 ∷ 2 ∷ 1 ∷ 1 ∷ []
    → PutsInteger head with_customer a.customer → PutsValue with_customer content 48 list → PutsValue old new 48 content
    → PutsPayload old new a
puts_payload old new list head with_customer content a fit ints h n v w =
    let parts : content ≡ 160 ∷ 3 ∷ 2 ∷ 1 ∷ 1 ∷ (n.front ++ v.front) = v.whole ∙ ap (λ (b : List ℕ). b ++ v.front) (n.whole ∙ ap (λ (b : List ℕ). b ++ n.front) h) in
    let are : AreIntegers list a.providers = subst (λ (b : List ℕ). AreIntegers b a.providers) (sym ints.whole) ints.are in
    record {
      front = w.front;
      is = record {
        content = content;
        begins = record { front = w.front; spelled = w.spelled; whole = sym (append-nil w.front) };
        says = subst (λ (b : List ℕ). Says b a) (sym parts) (says_joined n.front v.front list a n.is v.spelled are);
        fit = fit;
      };
      whole = w.whole;
    }

-- the same from what each call was given
pub puts_all : (old new start list list_given numbers head with_customer content content_given : List ℕ) (n : ℕ) (a : Attestation)
    → IsPayload a → start ≡ [] → numbers ≡ a.providers → PutsIntegers start list numbers
    → head ≡ 160 ∷ 3 ∷ 2 ∷ 1 ∷ 1 ∷ [] → n ≡ a.customer → PutsInteger head with_customer n → list_given ≡ list
    → PutsValue with_customer content 48 list_given → content_given ≡ content
    → PutsValue old new 48 content_given → PutsPayload old new a
puts_all old new start list list_given numbers head with_customer content content_given n a fit e1 e2 ints h e3 p e4 v e5 w =
    puts_payload old new list head with_customer content a fit
    (subst (λ (s : List ℕ). PutsIntegers s list a.providers) e1 (subst (λ (s : List ℕ). PutsIntegers start list s) e2 ints)) h
    (subst (λ (x : ℕ). PutsInteger head with_customer x) e3 p)
    (subst (λ (s : List ℕ). PutsValue with_customer content 48 s) e4 v)
    (subst (λ (s : List ℕ). PutsValue old new 48 s) e5 w)
