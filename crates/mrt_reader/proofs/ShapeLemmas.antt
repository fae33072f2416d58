-- The parts of a RIB record are found exactly where they are.
use Rattle.std.proofs.Common.{◌≡◌, ℕ, ◌+◌, ◌<◌, ◌≤◌, get_or, Bool, true, List, [], ◌∷◌, ◌++◌, length, take, drop, Some, None, refl, sym, ap, subst, ◌∙◌, arith}
use Rattle.std.specs.Prelude.{option_map, unwrap_or, is_some}
use Rattle.std.specs.declared.option.Option.{Option}
use Rattle.std.specs.Int.{w16, from_be_bytes}
use Rattle.std.proofs.lemmas.Option.{some_pair_parts}
use Rattle.std.proofs.lemmas.List.{take-append-drop, drop_at, length-take, length-append}
use Rattle.bgp_attrs.specs.Joined.{IsJoined, IsReader, items_of}
use Rattle.bgp_attrs.proofs.JoinedLemmas.{Shortens, items-nil, items-none, items-step, items_from}
use Rattle.bgp_attrs.specs.Prefixes.{prefix_at}
use Rattle.path_model.specs.Prefix.{Subnet}
use Rattle.bgp_attrs.proofs.PrefixLemmas.{prefix_reader}
use Rattle.mrt_reader.specs.Ribs.{Entry, Rib, IsEntry, IsCounted, IsRib}

-- so many items before, and those that are left
abbrev pub number_with : {A : Type 0} → ℕ → Option (List A) → Option ℕ
number_with n items = option_map (λ xs. n + length xs) items

pub number-step : {A : Type 0} (first : List ℕ → Option (A × List ℕ)) → Shortens first → (n : ℕ) (bytes : List ℕ) (item : A) (rest : List ℕ) → first bytes ≡ Some (item, rest) → number_with (n + 1) (items_of first rest) ≡ number_with n (items_of first bytes)
number-step {A} first short n bytes item rest e = mapped (items_of first rest) ∙ sym (ap (number_with n) (items-step first short bytes item rest e))
  where
    mapped : (o : Option (List A)) → number_with (n + 1) o ≡ number_with n (option_map (λ (xs : List A). item ∷ xs) o)
    mapped None = refl
    mapped (Some xs) = ap Some (omega arith)

is_some_number : {A : Type 0} (o : Option (List A)) (n : ℕ) → number_with 0 o ≡ Some n → (is_some o ≡ true) × (length (unwrap_or o []) ≡ n)
is_some_number None n e = absurd cc
is_some_number (Some xs) n e = (refl, (let f : 0 + length xs ≡ n = cc in omega (arith, f)))

pub number-end : {A : Type 0} (first : List ℕ → Option (A × List ℕ)) (n : ℕ) (bytes rest : List ℕ) → length rest ≤ 0 → number_with n (items_of first rest) ≡ number_with 0 (items_of first bytes)
    → (is_some (items_of first bytes) ≡ true) × (length (unwrap_or (items_of first bytes) []) ≡ n)
number-end first n bytes [] empty same = is_some_number (items_of first bytes) n (sym same ∙ ap (number_with n) (items-nil first) ∙ ap Some (omega arith))
number-end first n bytes (b ∷ rest) empty same = absurd (omega arith)

pub number-none : {A : Type 0} {S : List ℕ → A → Type 0} {first : List ℕ → Option (A × List ℕ)} → IsReader S first → (n : ℕ) (bytes rest : List ℕ) → 0 < length rest → first rest ≡ None
    → number_with n (items_of first rest) ≡ number_with 0 (items_of first bytes) → (items : List A) → IsJoined S bytes items → ⊥
number-none {A} {S} {first} r n bytes rest some none same items joined =
    let found = ap (number_with 0) (items_from r bytes items joined) in
    let not_found = ap (number_with n) (items-none first rest some none) in
    cc

heads : (count other : List ℕ) (r s : List ℕ) → length count ≡ 2 → length other ≡ 2 → count ++ r ≡ other ++ s → (count ≡ other) × (r ≡ s)
heads (a ∷ b ∷ []) (c ∷ d ∷ []) r s p q e = (cc, cc)
heads [] other r s p q e = absurd (omega arith)
heads (a ∷ []) other r s p q e = absurd (omega arith)
heads (a ∷ b ∷ x ∷ more) other r s p q e = absurd (omega arith)
heads (a ∷ b ∷ []) [] r s p q e = absurd (omega arith)
heads (a ∷ b ∷ []) (c ∷ []) r s p q e = absurd (omega arith)
heads (a ∷ b ∷ []) (c ∷ d ∷ x ∷ more) r s p q e = absurd (omega arith)

-- ---- entries behind their count

pub counted_of : (add_path : Bool) (bytes : List ℕ) (entries : List Entry) → 2 ≤ length bytes → IsCounted add_path bytes entries → IsJoined (IsEntry add_path) (drop 2 bytes) entries × (from_be_bytes w16 (get_or bytes 0 0 ∷ get_or bytes 1 0 ∷ []) ≡ length entries)
counted_of add_path [] entries long is = absurd (omega arith)
counted_of add_path (a ∷ []) entries long is = absurd (omega arith)
counted_of add_path (a ∷ b ∷ rest) entries long is =
    let h = heads (a ∷ b ∷ []) is.count rest is.behind refl is.two is.whole in
    (subst (λ (bytes : List ℕ). IsJoined (IsEntry add_path) bytes entries) (sym h.1) is.are_entries, ap (from_be_bytes w16) h.0 ∙ is.counts)

pub counted_long : (add_path : Bool) (bytes : List ℕ) (entries : List Entry) → IsCounted add_path bytes entries → 2 ≤ length bytes
counted_long add_path bytes entries is = omega (arith, is.two, ap length is.whole, length-append is.count is.behind)

-- ---- the whole record

behind_is : (add_path six : Bool) (body : List ℕ) (rib : Rib) (is : IsRib add_path six body rib) → drop 4 body ≡ is.behind
behind_is add_path six body rib is = ap (drop 4) is.whole ∙ drop_at is.sequence is.behind 4 is.four

pub rib_long : (add_path six : Bool) (body : List ℕ) → length body < 4 → (rib : Rib) → IsRib add_path six body rib → ⊥
rib_long add_path six body short rib is = omega (arith, is.four, ap length is.whole, length-append is.sequence is.behind)

pub read_prefix : (add_path six : Bool) (body : List ℕ) (rib : Rib) (is : IsRib add_path six body rib) → prefix_at six (drop 4 body) ≡ Some (rib.prefix, is.counted)
read_prefix add_path six body rib is = ap (prefix_at six) (behind_is add_path six body rib is) ∙ (prefix_reader six).only is.behind rib.prefix is.counted is.prefix

pub rib_no_prefix : (add_path six : Bool) (body : List ℕ) → prefix_at six (drop 4 body) ≡ None → (rib : Rib) → IsRib add_path six body rib → ⊥
rib_no_prefix add_path six body none rib is = let e = read_prefix add_path six body rib is in cc

pub rib_no_entries : (add_path six : Bool) (body : List ℕ) (prefix : Subnet) (rest : List ℕ) → prefix_at six (drop 4 body) ≡ Some (prefix, rest) → ((entries : List Entry) → IsCounted add_path rest entries → ⊥) → (rib : Rib) → IsRib add_path six body rib → ⊥
rib_no_entries add_path six body prefix rest e none rib is =
    let p = some_pair_parts rib.prefix prefix is.counted rest (sym (read_prefix add_path six body rib is) ∙ e) in
    none rib.entries (subst (λ (bytes : List ℕ). IsCounted add_path bytes rib.entries) p.1 is.entries)

pub rib_made : (add_path six : Bool) (body : List ℕ) (prefix : Subnet) (rest : List ℕ) (entries : List Entry) → 4 ≤ length body → prefix_at six (drop 4 body) ≡ Some (prefix, rest) → IsCounted add_path rest entries → IsRib add_path six body (record { prefix = prefix; entries = entries })
rib_made add_path six body prefix rest entries long e counted = record {
  sequence = take 4 body;
  behind = drop 4 body;
  counted = rest;
  four = omega (arith, length-take 4 body);
  whole = sym (take-append-drop 4 body);
  prefix = (prefix_reader six).finds (drop 4 body) prefix rest e;
  entries = counted;
}
