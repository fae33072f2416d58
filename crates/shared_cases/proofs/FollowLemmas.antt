-- What is judged anew, and that it is enough.
use Rattle.std.proofs.Common.{◌≡◌, ◌≢◌, ◌↔◌, ℕ, ◌≤◌, Bool, true, false, List, length, refl, ap, sym, subst, ◌∙◌, ◌⊎◌, inl, inr, true≢false}
use Rattle.std.specs.declared.option.Option.{Option}
use Rattle.std.specs.List.Sorted.{IsStrictlySortedBy}
use Rattle.std.specs.Ordering.{nat_cmp}
use Rattle.path_model.specs.declared.role.Role.{Role}
use Rattle.path_model.specs.Authority.{Table}
use Rattle.path_model.specs.Roles.{Relations, role_of}
use Rattle.hop_index.specs.Index.{Entries, has as hops_have}
use Rattle.attestations.specs.declared.moves.RowMove.{RowMove}
use Rattle.attestations.specs.Moves.{AreMoves}
use Rattle.shared_cases.specs.declared.case.StoredCase.{StoredCase}
use Rattle.shared_cases.specs.declared.names.Names.{Names}
use Rattle.shared_cases.specs.Cases.{Slots, at, is_of_peer, AreSameCases}
use Rattle.shared_cases.specs.Grounds.{Grounds, by_table, HasOwnAsSaid, IsJudged, IsRightCase}
use Rattle.shared_cases.specs.Kept.{AreIndexed}
use Rattle.shared_cases.specs.Numbers.{has}
use Rattle.shared_cases.specs.Owning.{owned_of, IsOwnOrAmong, SayTheSame}
use Rattle.shared_cases.specs.Peers.{Members, is_member, HasMovedMember, IsMovedMember}
use Rattle.shared_cases.specs.Touched.{AreWithinTouched, IsRoleMove}
use Rattle.shared_cases.specs.Touching.{IsTouchedBy}
use Rattle.shared_cases.proofs.MoveLemmas.{still_judged, moves_touch}
use Rattle.shared_cases.proofs.NumberLemmas.{decide_eq}
use Rattle.shared_cases.proofs.OwnLemmas.{default_same, owned_right, said_owned, said_same}
use Rattle.shared_cases.proofs.RoleLemmas.{same_role_judged, other_role_touches}
use Rattle.shared_cases.proofs.TouchLemmas.{within_touched}

-- a case is judged anew, or keeps its right judgement
followed_by : (old new : Grounds) (before after : Option StoredCase) (b : Bool) → (b ≡ true → IsRightCase new after) → (b ≡ false → IsRightCase new before → IsRightCase new after)
    → (b ≡ false → IsJudged old before → IsRightCase new before) → (HasOwnAsSaid old.roles before → HasOwnAsSaid new.roles after) → IsJudged old before → IsJudged new after
followed_by old new before after true judged same keeps said right = (judged refl, said right.1)
followed_by old new before after false judged same keeps said right = (same refl (keeps refl right), said right.1)

module _ (cases after : Slots) (names : Names) (index : Entries) (peers : Members) (kept : AreIndexed cases names (hops_have index) peers) (touched : List ℕ) where
  -- ---- another table
  module _ (old new : Table) (roles : Relations) (moves : List RowMove) (are : AreMoves old new moves) (found : (n : ℕ) → (has touched n ≡ true) ↔ IsTouchedBy index moves n) where
    pub table_followed : ((n : ℕ) → has touched n ≡ true → IsRightCase (by_table new roles) (at after n)) → ((n : ℕ) → has touched n ≡ false → at after n ≡ at cases n)
        → AreSameCases cases after → SayTheSame cases after → (n : ℕ) → IsJudged (by_table old roles) (at cases n) → IsJudged (by_table new roles) (at after n)
    table_followed judged others same say n right = followed_by (by_table old roles) (by_table new roles) (at cases n) (at after n) (has touched n) (judged n)
        (λ absent was. subst (λ (o : Option StoredCase). IsRightCase (by_table new roles) o) (sym (others n absent)) was)
        (λ absent was. still_judged old new index roles moves are n (at cases n) (λ x y. kept.indexed x y n) (λ t. true≢false (sym ((found n).1 t) ∙ absent)) was.0)
        (said_same roles (at cases n) (at after n) (same n) (say n)) right

    pub table_touches : (ticks : ℕ) → IsStrictlySortedBy nat_cmp touched → ticks ≤ length touched → AreWithinTouched (by_table old roles) (by_table new roles) cases ticks
    table_touches ticks rising few = within_touched (by_table old roles) (by_table new roles) cases kept.named.distinct touched ticks rising
        (λ n there. moves_touch old new index roles moves are n (at cases n) (λ x y. kept.indexed x y n) ((found n).0 there)) few

  -- ---- other roles
  module _ (table : Table) (old new : Relations) where
    roles_followed : ((n asn : ℕ) → has touched n ≡ false → HasOwnAsSaid old (at cases n) → is_of_peer (at cases n) asn ≡ true → role_of old asn ≡ role_of new asn)
        → ((n : ℕ) → has touched n ≡ true → IsRightCase (by_table table new) (at after n))
        → ((n : ℕ) → has touched n ≡ false → IsRightCase (by_table table new) (at cases n) → IsRightCase (by_table table new) (at after n))
        → ((n : ℕ) → HasOwnAsSaid old (at cases n) → HasOwnAsSaid new (at after n))
        → (n : ℕ) → IsJudged (by_table table old) (at cases n) → IsJudged (by_table table new) (at after n)
    roles_followed same_roles judged same said n right = followed_by (by_table table old) (by_table table new) (at cases n) (at after n) (has touched n) (judged n) (same n)
        (λ absent was. same_role_judged table old new (at cases n) (λ asn of_peer. same_roles n asn absent was.1 of_peer) was.0) (said n) right

    pub roles_touch : ((n : ℕ) → has touched n ≡ true → HasMovedMember peers old new n)
        → (ticks : ℕ) → IsStrictlySortedBy nat_cmp touched → ticks ≤ length touched → AreWithinTouched (by_table table old) (by_table table new) cases ticks
    roles_touch only ticks rising few = within_touched (by_table table old) (by_table table new) cases kept.named.distinct touched ticks rising
        (λ n there. let moved = only n there in other_role_touches table old new (at cases n) moved.0 (sym (kept.members moved.0 n) ∙ moved.1.0) moved.1.1) few

  -- ---- another default
  pub default_followed : (table : Table) (roles : Relations) (before : Role) (ases : List ℕ) → ((n : ℕ) → IsOwnOrAmong ases (at cases n))
      → ((asn n : ℕ) → has ases asn ≡ true → is_member peers asn n ≡ true → has touched n ≡ false → role_of (record roles { default = before }) asn ≡ role_of roles asn)
      → ((n : ℕ) → has touched n ≡ true → IsRightCase (by_table table roles) (at after n)) → ((n : ℕ) → has touched n ≡ false → at after n ≡ at cases n)
      → AreSameCases cases after → SayTheSame cases after
      → (n : ℕ) → IsJudged (by_table table (record roles { default = before })) (at cases n) → IsJudged (by_table table roles) (at after n)
  default_followed table roles before ases among others judged stay same say = roles_followed table (record roles { default = before }) roles
      (λ n asn absent said. default_same ases roles before (at cases n) (among n) said (λ a asked of_peer. others a n asked (kept.members a n ∙ of_peer) absent) asn)
      judged
      (λ n absent was. subst (λ (o : Option StoredCase). IsRightCase (by_table table roles) o) (sym (stay n absent)) was)
      (λ n said. said_same roles (at cases n) (at after n) (same n) (say n) said)

  -- ---- another role of one AS, whose cases say from then on that it has one of its own
  pub role_followed : (table : Table) (asn : ℕ) (before : Role) (old new : Relations) → IsRoleMove asn before old new
      → ((a n : ℕ) → is_member peers a n ≡ true → has touched n ≡ false → role_of old a ≡ role_of new a)
      → (between : Slots) → ((n : ℕ) → at between n ≡ owned_of asn (at cases n))
      → ((n : ℕ) → has touched n ≡ true → IsRightCase (by_table table new) (at after n)) → ((n : ℕ) → has touched n ≡ false → at after n ≡ at between n)
      → AreSameCases between after → SayTheSame between after
      → (n : ℕ) → IsJudged (by_table table old) (at cases n) → IsJudged (by_table table new) (at after n)
  role_followed table asn before old new move others between own judged stay same say = roles_followed table old new
      (λ n a absent said of_peer. others a n (kept.members a n ∙ of_peer) absent)
      judged
      (λ n absent was. subst (λ (o : Option StoredCase). IsRightCase (by_table table new) o) (sym (stay n absent ∙ own n)) (owned_right (by_table table new) asn (at cases n) was))
      (λ n said. said_same new (at between n) (at after n) (same n) (say n)
      (subst (λ (o : Option StoredCase). HasOwnAsSaid new o) (sym (own n)) (said_owned asn before old new move (at cases n) said)))

-- ---- the cases of one AS
module _ (peers : Members) (asn : ℕ) (touched : List ℕ) (before after : Role) (old new : Relations) (move : IsRoleMove asn before old new) (is_after : after ≡ role_of new asn) where
  others_by : ((n : ℕ) → is_member peers asn n ≡ true → has touched n ≡ false → before ≡ after)
      → (a n : ℕ) → is_member peers a n ≡ true → has touched n ≡ false → (a ≡ asn) ⊎ (a ≢ asn) → role_of old a ≡ role_of new a
  others_by others a n there absent (inl e) = ap (role_of old) e ∙ move.here
      ∙ others n (sym (ap (λ (k : ℕ). is_member peers k n) e) ∙ there) absent ∙ is_after ∙ ap (role_of new) (sym e)
  others_by others a n there absent (inr other) = move.others a other

  pub role_others : ((n : ℕ) → is_member peers asn n ≡ true → has touched n ≡ false → before ≡ after)
      → (a n : ℕ) → is_member peers a n ≡ true → has touched n ≡ false → role_of old a ≡ role_of new a
  role_others others a n there absent = others_by others a n there absent (decide_eq a asn)

  pub role_only : ((n : ℕ) → has touched n ≡ true → IsMovedMember peers asn before after n) → (n : ℕ) → has touched n ≡ true → HasMovedMember peers old new n
  role_only only n there = let moved = only n there in (asn, (moved.0, λ same. moved.1 (sym move.here ∙ same ∙ sym is_after)))
