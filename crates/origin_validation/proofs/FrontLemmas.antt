-- From one prefix that covers to the next shorter one.
use Rattle.std.proofs.Common.{◌≡◌, ℕ, ◌+◌, ◌<◌, ◌≤◌, true, List, Some, None, IfNone, IfSome, sym, ap, subst, ◌∙◌, arith, ◌⊎◌, inl, inr}
use Rattle.std.specs.declared.option.Option.{Option}
use Rattle.path_model.specs.Prefix.{Subnet, IsSubnet, prefix_of}
use Rattle.origin_model.specs.declared.origin_state.OriginState.{OriginState}
use Rattle.origin_model.specs.declared.prefix_filter.PrefixFilter.{PrefixFilter}
use Rattle.origin_model.specs.Covering.{Covers}
use Rattle.origin_model.specs.OriginState.{HasState, better}
use Rattle.origin_model.specs.Vrp.{Payload}
use Rattle.origin_model.specs.VrpSet.{HasNoneBefore, IsLastBefore, has}
use Rattle.origin_model.proofs.CoverLemmas.{begins, begun, covers_between, some_is}
use Rattle.origin_model.proofs.StateLemmas.{has_like, has_or}
use Rattle.origin_validation.specs.Fronts.{HasNoCommon, HasNoFront, IsCommon, IsCommonOf, IsLongestCommon, IsNextFront}
use Rattle.origin_validation.specs.Records.{IsUnhitIn, IsUnhitUpTo}
use Rattle.origin_validation.proofs.CoverLemmas.{covers_before, shorter_before}

-- ---- prefixes of one length that cover one prefix

pub start_len : (other start : Subnet) (len : ℕ) → prefix_of other.addr len ≡ Some start → start.len ≡ len
start_len other start len is = sym (ap (λ (p : Subnet). p.len) (begins other.addr len start is).is)

pub start_covers : (other start : Subnet) (len : ℕ) → prefix_of other.addr len ≡ Some start → len ≤ other.len → Covers start other
start_covers other start len is within =
    let e = start_len other start len is in record { shorter = omega (arith, e, within); front = ap (prefix_of other.addr) e ∙ is }

pub same_front : (p q r : Subnet) → Covers p r → Covers q r → p.len ≡ q.len → p ≡ q
same_front p q r one other e = some_is p q (sym one.front ∙ ap (prefix_of r.addr) e ∙ other.front)

-- ---- the longest that covers both

pub common_found : (one other start : Subnet) (len : ℕ) → prefix_of other.addr len ≡ Some start → len ≤ other.len → Covers start one → IsCommonOf one other len start
common_found one other start len is within covers = record { covers_one = covers; covers_other = start_covers other start len is within; is_len = start_len other start len is }

pub common_none : (one other : Subnet) (len : ℕ) → prefix_of other.addr len ≡ None → (q : Subnet) → IsCommonOf one other len q → ⊥
common_none one other len none q is =
    let e : ◌≡◌ {A = Option Subnet} None (Some q) = sym none ∙ ap (prefix_of other.addr) (sym is.is_len) ∙ is.covers_other.front in absurd cc

pub common_other : (one other start : Subnet) (len : ℕ) → prefix_of other.addr len ≡ Some start → len ≤ other.len → (¬ Covers start one) → (q : Subnet) → IsCommonOf one other len q → ⊥
common_other one other start len is within apart q common =
    let e = same_front q start other common.covers_other (start_covers other start len is within) (common.is_len ∙ sym (start_len other start len is)) in
    apart (subst (λ (p : Subnet). Covers p one) e common.covers_one)

-- every common prefix is shorter than this
abbrev pub AreShorter : Subnet → Subnet → ℕ → ℕ → Type 0
AreShorter one other end len = (q : Subnet) → IsCommon one other end q → q.len < len

below_or : (m n : ℕ) → m < n + 1 → (m ≡ n) ⊎ (m < n)
below_or m n lt = search arith

pub shorter_next : (one other : Subnet) (end len : ℕ) → AreShorter one other end (len + 1) → ((q : Subnet) → IsCommonOf one other len q → ⊥) → AreShorter one other end len
shorter_next one other end len shorter none q common = elim (below_or q.len len (shorter q common)) [
  | inl same ↦ absurd (none q (record { covers_one = common.covers_one; covers_other = common.covers_other; is_len = same }))
  | inr less ↦ less
]

pub longest_found : (one other p : Subnet) (end len : ℕ) → AreShorter one other end (len + 1) → len < end → IsCommonOf one other len p → IsLongestCommon one other end p
longest_found one other p end len shorter within is = record {
  is = record { covers_one = is.covers_one; covers_other = is.covers_other; short = omega (arith, is.is_len, within) };
  longest = λ q common. let lt = shorter q common in omega (arith, lt, is.is_len);
}

-- ---- the next one

module _ (payloads : List Payload) (front before : Subnet) (is : IsSubnet before) (last : IsLastBefore payloads front before) (end : ℕ)
    (within : end ≤ front.len) (long : (n : ℕ) → n < front.len → n ≤ before.len → n < end) where
  common_with : (v : Payload) → has payloads v ≡ true → Covers v.prefix front → v.prefix.len < front.len → IsCommon before front end v.prefix
  common_with v there covers less =
      let also = covers_before payloads front before is last v there covers less in
      record { covers_one = also; covers_other = covers; short = long v.prefix.len less also.shorter }

  pub next_found : (next : Subnet) → IsLongestCommon before front end next → IsNextFront payloads front next
  next_found next found = record {
    covers = found.is.covers_other;
    shorter = omega (arith, found.is.short, within);
    all = λ v there covers less. found.longest v.prefix (common_with v there covers less);
  }

  pub next_none : HasNoCommon before front end → HasNoFront payloads front
  next_none none v there covers less = none v.prefix (common_with v there covers less)

pub none_before : (payloads : List Payload) (front : Subnet) → HasNoneBefore payloads front → HasNoFront payloads front
none_before payloads front none v there covers less = none v there (shorter_before v.prefix front covers less)

-- ---- states by those up to a length

module _ (payloads : List Payload) (filters : List PrefixFilter) (prefix : Subnet) (origin : Option ℕ) (front : Subnet) (len : ℕ) (is : prefix_of prefix.addr len ≡ Some front) (within : len ≤ prefix.len) where
  abbrev UpTo : ℕ → Payload → Type 0
  UpTo n = IsUnhitUpTo payloads filters n

  abbrev At : Payload → Type 0
  At = IsUnhitIn payloads filters front

  covering_front : Covers front prefix
  covering_front = start_covers prefix front len is within

  front_len : front.len ≡ len
  front_len = start_len prefix front len is

  at_up_to : (v : Payload) → At v → UpTo len v
  at_up_to v a = let e : v.prefix.len ≡ front.len = ap (λ (p : Subnet). p.len) a.0 in (omega (arith, e, front_len), a.1)

  below_or_at : (v : Payload) → Covers v.prefix prefix → UpTo len v → At v ⊎ ((v.prefix.len < front.len) × Covers v.prefix front)
  below_or_at v covers a = elim (below_or v.prefix.len len (omega (arith, a.0))) [
    | inl same ↦ inl (same_front v.prefix front prefix covers covering_front (same ∙ sym front_len), a.1)
    | inr less ↦
        let shorter : v.prefix.len < front.len = omega (arith, less, front_len) in
        inr (shorter, covers_between v.prefix front prefix covers covering_front (omega (arith, shorter)))
  ]

  pub up_to_front : (s : OriginState) → HasNoFront payloads front → HasState At prefix origin s → HasState (UpTo len) prefix origin s
  up_to_front s none h = has_like prefix origin At (UpTo len) s
      (λ v covers a. at_up_to v a)
      (λ v covers a. elim (below_or_at v covers a) [ inl at ↦ at | inr below ↦ absurd (none v a.1.0 below.1 below.0) ]) h

  pub up_to_next : (next : Subnet) (s t : OriginState) → IsNextFront payloads front next → HasState At prefix origin s → HasState (UpTo next.len) prefix origin t
      → HasState (UpTo len) prefix origin (better s t)
  up_to_next next s t found h k = has_like prefix origin (λ v. At v ⊎ UpTo next.len v) (UpTo len) (better s t)
      (λ v covers a. elim a [ inl at ↦ at_up_to v at | inr less ↦ (omega (arith, less.0, found.shorter, front_len), less.1) ])
      (λ v covers a. elim (below_or_at v covers a) [ inl at ↦ inl at | inr below ↦ inr (found.all v a.1.0 below.1 below.0, a.1) ])
      (has_or prefix origin At (UpTo next.len) s t h k)

pub no_front : (prefix : Subnet) (len : ℕ) → IsSubnet prefix → len ≤ prefix.len → prefix_of prefix.addr len ≡ None → ⊥
no_front prefix len is within none =
    let e = sym none ∙ begun prefix.addr len (omega (arith, is.within, within)) in absurd cc

-- ---- answers of a call that are the caller's

pub some_gives : {A : Type 0} (o : Option A) (P Q : A → Type 0) → ((a : A) → P a → Q a) → IfSome o P → IfSome o Q
some_gives None P Q gives h = h
some_gives (Some a) P Q gives h = gives a h

pub none_gives : {A : Type 0} (o : Option A) (P Q : Type 0) → (P → Q) → IfNone o P → IfNone o Q
none_gives None P Q gives h = gives h
none_gives (Some a) P Q gives h = h
