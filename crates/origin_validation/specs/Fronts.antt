-- The prefixes that a look-up of what covers a prefix goes through: private contracts alone cite it.
use Rattle.std.specs.Prelude.{◌≡◌, ℕ, true, ◌<◌, ◌≤◌, List}
use Rattle.path_model.specs.Prefix.{Subnet}
use Rattle.origin_model.specs.Covering.{Covers}
use Rattle.origin_model.specs.Vrp.{Payload}
use Rattle.origin_model.specs.VrpSet.{has}

-- the prefix covers both of these, and has fewer bits than this
pub record IsCommon (one other : Subnet) (end : ℕ) (p : Subnet) : Type 0 where
  pub covers_one : Covers p one
  pub covers_other : Covers p other
  pub short : p.len < end

-- and is the longest such prefix
pub record IsLongestCommon (one other : Subnet) (end : ℕ) (p : Subnet) : Type 0 where
  pub is : IsCommon one other end p
  pub longest : (q : Subnet) → IsCommon one other end q → q.len ≤ p.len

-- there is none
abbrev pub HasNoCommon : Subnet → Subnet → ℕ → Type 0
HasNoCommon one other end = (q : Subnet) → ¬ IsCommon one other end q

-- the prefix has this length, and covers both
pub record IsCommonOf (one other : Subnet) (len : ℕ) (p : Subnet) : Type 0 where
  pub covers_one : Covers p one
  pub covers_other : Covers p other
  pub is_len : p.len ≡ len

-- there is none
abbrev pub HasNoCommonOf : Subnet → Subnet → ℕ → Type 0
HasNoCommonOf one other len = (q : Subnet) → ¬ IsCommonOf one other len q

-- a shorter prefix that covers a prefix; and no payload's prefix between the two in length does
pub record IsNextFront (payloads : List Payload) (front next : Subnet) : Type 0 where
  pub covers : Covers next front
  pub shorter : next.len < front.len
  pub all : (v : Payload) → has payloads v ≡ true → Covers v.prefix front → v.prefix.len < front.len → v.prefix.len ≤ next.len

-- no payload's prefix that is shorter covers the prefix
abbrev pub HasNoFront : List Payload → Subnet → Type 0
HasNoFront payloads front = (v : Payload) → has payloads v ≡ true → Covers v.prefix front → ¬ (v.prefix.len < front.len)
