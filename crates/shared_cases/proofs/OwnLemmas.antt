-- What cases say of their ASes' roles, and that it is so.
use Rattle.std.proofs.Common.{◌≡◌, ℕ, nat_eq, Bool, true, false, not, is_some, ◌||◌, ◌&&◌, List, None, Some, refl, ap, sym, subst, ◌∙◌, inl, inr, true≢false}
use Rattle.std.specs.declared.option.Option.{Option}
use Rattle.std.specs.Cmp.{nat_eq_equiv}
use Rattle.std.proofs.lemmas.Bool.{and_from, false_from_ne_true, or_cases, or_left, or_right, or_parts}
use Rattle.std.proofs.lemmas.Map.Views.{exact_unsigned_eq}
use Rattle.path_model.specs.declared.role.Role.{Role}
use Rattle.path_model.specs.Roles.{Relations, role_of}
use Rattle.shared_cases.specs.declared.case.StoredCase.{StoredCase}
use Rattle.shared_cases.specs.Cases.{Slots, at, differs, has_differed, is_of_peer, IsSameCase, AreSameCases, IsSettled}
use Rattle.shared_cases.specs.Differed.{AreNewlyDiffering, HaveDiffered}
use Rattle.shared_cases.specs.Grounds.{Grounds, has_own, HasOwnAsSaid, IsRightCase}
use Rattle.shared_cases.specs.Numbers.{has}
use Rattle.shared_cases.specs.Owning.{owned, owned_of, says_own, IsOwnOrAmong}
use Rattle.shared_cases.specs.Peers.{Members, found, found_has, has_cases, is_member}
use Rattle.shared_cases.specs.Touched.{IsRoleMove}
use Rattle.shared_cases.proofs.NamingLemmas.{IsSameName}
use Rattle.shared_cases.proofs.RoleLemmas.{own_role}

-- ---- among which ASes its AS is

-- a case that is judged anew
pub same_among : (ases : List ℕ) (c d : Option StoredCase) → IsSameCase c d → says_own d ≡ says_own c → IsOwnOrAmong ases c → IsOwnOrAmong ases d
same_among ases None None same say is = tt
same_among ases None (Some d) same say is = absurd same
same_among ases (Some c) None same say is = tt
same_among ases (Some c) (Some d) same say is = λ unsaid. ap (has ases) (sym same.0) ∙ is (sym say ∙ unsaid)

-- an AS comes to these, unless it has a role of its own
module _ (before after : List ℕ) (asn : ℕ) (own : Bool) (more : (a : ℕ) → has after a ≡ (has before a || (nat_eq a asn && not own))) where
  pub still_among : (c : Option StoredCase) → IsOwnOrAmong before c → IsOwnOrAmong after c
  still_among None is = tt
  still_among (Some c) is = λ unsaid. more c.asn ∙ or_left (has before c.asn) (nat_eq c.asn asn && not own) (is unsaid)

  pub newly_among : own ≡ false → has after asn ≡ true
  newly_among unsaid = more asn ∙ or_right (has before asn) (nat_eq asn asn && not own) (and_from (nat_eq asn asn) (not own) (nat_eq_equiv.refl asn) (ap not unsaid))

-- those without cases go
member_has_cases : (members : Members) (asn n : ℕ) → is_member members asn n ≡ true → has_cases members asn ≡ true
member_has_cases members asn n there = by (found members asn) there where
  by : (o : Option (List ℕ)) → found_has o n ≡ true → is_some o ≡ true
  by None there = there
  by (Some numbers) there = refl

pub left_among : (before after : List ℕ) (members : Members) (n : ℕ) → ((a : ℕ) → has after a ≡ (has before a && has_cases members a))
    → (c : Option StoredCase) → ((asn : ℕ) → is_member members asn n ≡ is_of_peer c asn) → IsOwnOrAmong before c → IsOwnOrAmong after c
left_among before after members n less None member is = tt
left_among before after members n less (Some c) member is = λ unsaid. less c.asn
    ∙ and_from (has before c.asn) (has_cases members c.asn) (is unsaid) (member_has_cases members c.asn n (member c.asn ∙ nat_eq_equiv.refl c.asn))

-- ---- the cases of an AS say that it has a role of its own
pub owned_twice : (c : Option StoredCase) → owned (owned c) ≡ owned c
owned_twice None = refl
owned_twice (Some c) = refl

-- those of the AS say so, and the others say what they said
owned_by : (asn : ℕ) (c d : Option StoredCase) (b : Bool) → is_of_peer c asn ≡ b → (b ≡ true → d ≡ owned c) → (b ≡ false → d ≡ c) → d ≡ owned_of asn c
owned_by asn None d true is own other = own refl
owned_by asn None d false is own other = other refl
owned_by asn (Some c) d true is own other = own refl ∙ ap (λ (b : Bool). Some (record c { own = b || c.own })) (sym is)
owned_by asn (Some c) d false is own other = other refl ∙ ap (λ (b : Bool). Some (record c { own = b || c.own })) (sym is)

module _ (asn : ℕ) (old : Slots) (members : Members) (are : (n : ℕ) → is_member members asn n ≡ is_of_peer (at old n) asn) where
  pub owned_all : (new : Slots) (numbers : List ℕ) → found members asn ≡ Some numbers → ((n : ℕ) → has numbers n ≡ true → at new n ≡ owned (at old n))
      → ((n : ℕ) → has numbers n ≡ false → at new n ≡ at old n) → (n : ℕ) → at new n ≡ owned_of asn (at old n)
  owned_all new numbers is own others n = owned_by asn (at old n) (at new n) (has numbers n) (sym (are n) ∙ ap (λ (o : Option (List ℕ)). found_has o n) is) (own n) (others n)

  pub owned_none : found members asn ≡ None → (n : ℕ) → at old n ≡ owned_of asn (at old n)
  owned_none none n = owned_by asn (at old n) (at old n) false (sym (are n) ∙ ap (λ (o : Option (List ℕ)). found_has o n) none) (λ e. absurd (true≢false (sym e))) (λ e. refl)

-- where the AS isn't among these, its cases say so already
said_already : (own this : Bool) → (own ≡ false → this ≡ false) → own ≡ (this || own)
said_already true true isnt = refl
said_already true false isnt = refl
said_already false this isnt = sym (ap (λ (b : Bool). b || false) (isnt refl))

pub owned_already : (ases : List ℕ) (asn : ℕ) (c : Option StoredCase) → IsOwnOrAmong ases c → has ases asn ≡ false → c ≡ owned_of asn c
owned_already ases asn None is isnt = refl
owned_already ases asn (Some c) is isnt = ap (λ (b : Bool). Some (record c { own = b })) (said_already c.own (nat_eq asn c.asn) (λ unsaid. false_from_ne_true (nat_eq asn c.asn)
    (λ e. true≢false (sym (is unsaid) ∙ ap (has ases) (sym (exact_unsigned_eq asn c.asn e)) ∙ isnt))))

-- ---- what stays of a case that says so
pub owned_name : (asn : ℕ) (c : Option StoredCase) → IsSameName c (owned_of asn c)
owned_name asn None = tt
owned_name asn (Some c) = (refl, refl)

pub owned_differed : (asn : ℕ) (c : Option StoredCase) → has_differed (owned_of asn c) ≡ has_differed c
owned_differed asn None = refl
owned_differed asn (Some c) = refl

pub owned_settled : (asn : ℕ) (c : Option StoredCase) → IsSettled c → IsSettled (owned_of asn c)
owned_settled asn None is = tt
owned_settled asn (Some c) is = is

pub owned_right : (g : Grounds) (asn : ℕ) (c : Option StoredCase) → IsRightCase g c → IsRightCase g (owned_of asn c)
owned_right g asn None is = tt
owned_right g asn (Some c) is = is

pub owned_among : (before after : List ℕ) (asn : ℕ) → ((a : ℕ) → has after a ≡ (has before a && not (nat_eq a asn))) → (c : Option StoredCase)
    → IsOwnOrAmong before c → IsOwnOrAmong after (owned_of asn c)
owned_among before after asn less None is = tt
owned_among before after asn less (Some c) is = λ unsaid. let parts = or_parts (nat_eq asn c.asn) c.own unsaid in
    less c.asn ∙ and_from (has before c.asn) (not (nat_eq c.asn asn)) (is parts.1) (ap not (nat_eq_equiv.symm c.asn asn ∙ parts.0))

owned_same : (asn : ℕ) (c d : Option StoredCase) → IsSameCase (owned_of asn c) d → IsSameCase c d
owned_same asn None d same = same
owned_same asn (Some c) None same = same
owned_same asn (Some c) (Some d) same = same

module _ (asn : ℕ) (old between new : Slots) (own : (n : ℕ) → at between n ≡ owned_of asn (at old n)) where
  differed_then : (n : ℕ) → has_differed (at between n) ≡ has_differed (at old n)
  differed_then n = ap has_differed (own n) ∙ owned_differed asn (at old n)

  pub same_through : AreSameCases between new → AreSameCases old new
  same_through same n = owned_same asn (at old n) (at new n) (subst (λ (o : Option StoredCase). IsSameCase o (at new n)) (own n) (same n))

  pub differed_through : HaveDiffered between new → HaveDiffered old new
  differed_through have n = have n ∙ ap (λ (b : Bool). b || differs (at new n)) (differed_then n)

  pub newly_through : (newly : List ℕ) → AreNewlyDiffering between new newly → AreNewlyDiffering old new newly
  newly_through newly told n = told n ∙ ap (λ (b : Bool). has_differed (at new n) && not b) (differed_then n)

-- ---- that it is so
pub said_same : (relations : Relations) (c d : Option StoredCase) → IsSameCase c d → says_own d ≡ says_own c → HasOwnAsSaid relations c → HasOwnAsSaid relations d
said_same relations None None same say said = tt
said_same relations None (Some d) same say said = absurd same
said_same relations (Some c) None same say said = tt
said_same relations (Some c) (Some d) same say said = λ own. ap (has_own relations) (sym same.0) ∙ said (sym say ∙ own)

pub said_owned : (asn : ℕ) (before : Role) (old new : Relations) → IsRoleMove asn before old new → (c : Option StoredCase) → HasOwnAsSaid old c → HasOwnAsSaid new (owned_of asn c)
said_owned asn before old new move None said = tt
said_owned asn before old new move (Some c) said = λ own. elim (or_cases (nat_eq asn c.asn) c.own own) [
  | inl here ↦ ap (has_own new) (sym (exact_unsigned_eq asn c.asn here)) ∙ move.own
  | inr own_already ↦ move.kept c.asn (said own_already)
]

-- the role of a case's AS stays at another default, where those of these ASes do
pub default_same : (ases : List ℕ) (roles : Relations) (before : Role) (c : Option StoredCase) → IsOwnOrAmong ases c → HasOwnAsSaid (record roles { default = before }) c
    → ((asn : ℕ) → has ases asn ≡ true → is_of_peer c asn ≡ true → role_of (record roles { default = before }) asn ≡ role_of roles asn)
    → (asn : ℕ) → is_of_peer c asn ≡ true → role_of (record roles { default = before }) asn ≡ role_of roles asn
default_same ases roles before None among said others asn of_peer = absurd (true≢false (sym of_peer))
default_same ases roles before (Some c) among said others asn of_peer = by c.own refl where
  by : (b : Bool) → c.own ≡ b → role_of (record roles { default = before }) asn ≡ role_of roles asn
  by true own = own_role roles before asn (ap (has_own roles) (exact_unsigned_eq asn c.asn of_peer) ∙ said own)
  by false unsaid = others asn (ap (has ases) (exact_unsigned_eq asn c.asn of_peer) ∙ among unsaid) of_peer
