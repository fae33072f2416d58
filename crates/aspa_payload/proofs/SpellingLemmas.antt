-- Each attestation that can be written has one payload.
use Rattle.std.proofs.Common.{◌≡◌, ℕ, ◌-◌, ◌*◌, ◌<◌, ◌≤◌, ◌^◌, List, [], ◌∷◌, ◌++◌, length, refl, sym, ◌∙◌, subst, append-nil, length-append, arith}
use Rattle.std.specs.List.{All}
use Rattle.std.proofs.lemmas.List.Elements.{All-head, All-tail}
use Rattle.der_reader.specs.Number.{IsBytes}
use Rattle.der_reader.specs.Value.{Begins}
use Rattle.der_reader.specs.Integer.{TakesInteger}
use Rattle.der_reader.proofs.BytesLemmas.{no_bytes, one_more, both_bytes, content_bytes, rest_bytes}
use Rattle.der_reader.proofs.FrontLemmas.{takes_more}
use Rattle.der_reader.proofs.LawLemmas.{each_content}
use Rattle.der_reader.proofs.LengthLemmas.{one_value_before, one_integer_before}
use Rattle.der_reader.proofs.SizeLemmas.{spelled_integer, short_value}
use Rattle.path_model.specs.Union.{Attestation}
use Rattle.aspa_payload.specs.Content.{TakesExplicit, AreIntegers, Says}
use Rattle.aspa_payload.specs.Laws.{IsPayloadOf, IsWritable, EachAttestationHasOnePayload}
use Rattle.aspa_payload.proofs.WritingLemmas.{says_joined}

-- ---- at most one

one_list : (a b ns : List ℕ) → IsBytes a → IsBytes b → AreIntegers a ns → AreIntegers b ns → a ≡ b
one_list a b [] p q s t = s ∙ sym t
one_list a b (n ∷ ns) p q s t =
    let rest = one_list s.0 t.0 ns (rest_bytes 2 a s.1.content s.0 s.1.begins p) (rest_bytes 2 b t.1.content t.0 t.1.begins q) s.2 t.2 in
    one_integer_before a b n t.0 p q (subst (λ (r : List ℕ). TakesInteger a n r) rest s.1) t.1

one_explicit : (a b rest : List ℕ) (n : ℕ) → IsBytes a → IsBytes b → TakesExplicit a n rest → TakesExplicit b n rest → a ≡ b
one_explicit a b rest n p q s t =
    let inner = one_integer_before s.inner t.inner n [] (content_bytes 160 a s.inner rest s.begins p) (content_bytes 160 b t.inner rest t.begins q) s.alone t.alone in
    one_value_before 160 a b t.inner rest p q (subst (λ (c : List ℕ). Begins 160 a c rest) inner s.begins) t.begins

one_content : (a b : List ℕ) (says : Attestation) → IsBytes a → IsBytes b → Says a says → Says b says → a ≡ b
one_content a b says p q s t =
    let p1 = rest_bytes 160 a s.version.inner s.after_version s.version.begins p in
    let q1 = rest_bytes 160 b t.version.inner t.after_version t.version.begins q in
    let p2 = rest_bytes 2 s.after_version s.customer.content s.after_customer s.customer.begins p1 in
    let q2 = rest_bytes 2 t.after_version t.customer.content t.after_customer t.customer.begins q1 in
    let list = one_list s.list t.list says.providers (content_bytes 48 s.after_customer s.list [] s.last p2) (content_bytes 48 t.after_customer t.list [] t.last q2) s.providers t.providers in
    let last = one_value_before 48 s.after_customer t.after_customer t.list [] p2 q2 (subst (λ (c : List ℕ). Begins 48 s.after_customer c []) list s.last) t.last in
    let customer = one_integer_before s.after_version t.after_version says.customer t.after_customer p1 q1 (subst (λ (r : List ℕ). TakesInteger s.after_version says.customer r) last s.customer) t.customer in
    one_explicit a b t.after_version 1 p q (subst (λ (r : List ℕ). TakesExplicit a 1 r) customer s.version) t.version

one_payload_of : (a : Attestation) (one other : List ℕ) → IsPayloadOf a one → IsPayloadOf a other → one ≡ other
one_payload_of a one other s t =
    let content = one_content s.takes.content t.takes.content a (content_bytes 48 one s.takes.content [] s.takes.begins s.bytes) (content_bytes 48 other t.takes.content [] t.takes.begins t.bytes) s.takes.says t.takes.says in
    one_value_before 48 one other t.takes.content [] s.bytes t.bytes (subst (λ (c : List ℕ). Begins 48 one c []) content s.takes.begins) t.takes.begins

-- ---- at least one

record SpelledList (ns : List ℕ) : Type 0 where
  list : List ℕ
  bytes : IsBytes list
  short : length list ≤ 7 * length ns
  are : AreIntegers list ns

spelled_list : (ns : List ℕ) → All (λ n. n < 2 ^ 32) ns → SpelledList ns
spelled_list [] h = record { list = []; bytes = no_bytes; short = omega arith; are = refl }
spelled_list (n ∷ ns) h =
    let first = spelled_integer n (All-head (λ m. m < 2 ^ 32) n ns h) in
    let more = spelled_list ns (All-tail (λ m. m < 2 ^ 32) n ns h) in
    record {
      list = first.front ++ more.list;
      bytes = both_bytes first.front more.list first.bytes more.bytes;
      short = let l = length-append first.front more.list in let a = first.short in let b = more.short in omega arith;
      are = (more.list, takes_more first.front n [] more.list first.takes, more.are);
    }

abbrev version_bytes : List ℕ
version_bytes = 160 ∷ 3 ∷ 2 ∷ 1 ∷ 1 ∷ []

version_are_bytes : IsBytes version_bytes
version_are_bytes =
    one_more 160 (3 ∷ 2 ∷ 1 ∷ 1 ∷ []) (omega arith) (one_more 3 (2 ∷ 1 ∷ 1 ∷ []) (omega arith) (one_more 2 (1 ∷ 1 ∷ []) (omega arith) (one_more 1 (1 ∷ []) (omega arith) (one_more 1 [] (omega arith) no_bytes))))

some_payload : (a : Attestation) → IsWritable a → (spelling : List ℕ) × IsPayloadOf a spelling
some_payload a can =
    let list = spelled_list a.providers can.providers in
    let few : length list.list < 2 ^ 32 - 100 = let s = list.short in let f = can.few in omega arith in
    let last = each_content 48 list.list (omega arith) list.bytes (omega (arith, few)) in
    let customer = spelled_integer a.customer can.customer in
    let content : List ℕ = version_bytes ++ (customer.front ++ last.one) in
    let content_are : IsBytes (version_bytes ++ (customer.front ++ last.one)) = both_bytes version_bytes (customer.front ++ last.one) version_are_bytes (both_bytes customer.front last.one customer.bytes last.is.bytes) in
    let size : length (version_bytes ++ (customer.front ++ last.one)) < 2 ^ 32 =
    let l = length-append customer.front last.one in let s = customer.short in let t = short_value 48 list.list last.one last.is.spells in omega (arith, few, l, s, t) in
    let whole = each_content 48 (version_bytes ++ (customer.front ++ last.one)) (omega arith) content_are size in (
      whole.one,
      record {
        bytes = whole.is.bytes;
        takes = record {
          content = version_bytes ++ (customer.front ++ last.one);
          begins = record { front = whole.one; spelled = whole.is.spells; whole = sym (append-nil whole.one) };
          says = says_joined customer.front last.one list.list a customer.takes last.is.spells list.are;
          fit = can.fit;
        };
      },
    )

pub each_attestation : EachAttestationHasOnePayload
each_attestation a can =
    let found = some_payload a can in
    record { one = found.0; is = found.1; only = λ other is. one_payload_of a other found.0 is found.1 }
