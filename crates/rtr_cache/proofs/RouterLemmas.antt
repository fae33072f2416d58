-- A router takes what is told of customers.
use Rattle.std.proofs.Common.{◌≡◌, ◌≢◌, ℕ, nat_eq, Bool, true, false, cond, not, ◌||◌, inl, inr, List, [], ◌∷◌, refl, sym, ap, subst, ◌∙◌, arith}
use Rattle.std.specs.Prelude.{IsSome}
use Rattle.std.specs.declared.option.Option.{Option}
use Rattle.std.specs.declared.option.Option.TheVariants.{Some, None}
use Rattle.std.specs.Ordering.{nat_cmp}
use Rattle.std.specs.FinMap as map
use Rattle.std.specs.List.Sorted.{IsStrictlyIncreasing, IsStrictlySortedBy}
use Rattle.std.proofs.lemmas.Bool.Decides.{eqb_tells, nat_tests}
use Rattle.path_model.specs.Authority.{has}
use Rattle.path_model.specs.Rows.{RowMap, PatchMap}
use Rattle.path_model.specs.Sets.{IsSetOf}
use Rattle.rtr_session.specs.declared.act.Act.TheVariants.{Nothing}
use Rattle.rtr_session.specs.declared.act.Phase.{Phase}
use Rattle.rtr_session.specs.declared.act.Phase.TheVariants.{ReceivingWhole, ReceivingChanges}
use Rattle.rtr_session.specs.State.{State}
use Rattle.rtr_session.specs.Client.{Announces, Client, without_zero}
use Rattle.rtr_session.proofs.SetLemmas.{some_set}
use Rattle.rtr_cache.specs.Served.{providers_told, told, told_of}
use Rattle.origin_model.specs.Vrp.{Payload}
use Rattle.rtr_cache.specs.Kept.{with_row}
use Rattle.rtr_cache.specs.Laws.{Takes}
use Rattle.rtr_cache.proofs.RowLemmas.{apart, get_with, own_set}
use Rattle.rtr_cache.proofs.TakingLemmas.{nothings}

-- a row as the current table has them
pub record IsRow (row : List ℕ) : Type 0 where
  pub ascending : IsStrictlyIncreasing row
  pub no_zero : has row 0 ≡ false

abbrev pub AreGood : RowMap → Type 0
AreGood rows = (x : ℕ) (row : List ℕ) → map.get rows x ≡ Some row → IsRow row

abbrev pub receiving : Bool → Phase
receiving true = ReceivingWhole
receiving false = ReceivingChanges

-- a router that receives everything, or changes, and was told nothing of payloads
abbrev pub at : Bool → ℕ → ℕ → RowMap → PatchMap → List Payload → State
at whole session serial rows changes payloads = record { phase = receiving whole; session = session; serial = serial; rows = rows; changes = changes; payloads = payloads; payload_changes = [] }

-- ---- an announcement

both_false : (b c : Bool) → (b || c) ≡ false → (b ≡ false) × (c ≡ false)
both_false true c e = let never : ⊥ = cc in absurd never
both_false false c e = (refl, e)

pub without_zero_same : (row : List ℕ) → has row 0 ≡ false → without_zero row ≡ row
without_zero_same [] e = refl
without_zero_same (x ∷ xs) e =
    let parts = both_false (nat_eq x 0) (has xs 0) e in
    rw parts.0 (ap (λ (l : List ℕ). x ∷ l) (without_zero_same xs parts.1))

told_set : (row : List ℕ) → IsRow row → IsSetOf (without_zero (providers_told row)) row
told_set [] is = some_set []
told_set (y ∷ ys) is = subst (λ (l : List ℕ). IsSetOf l (y ∷ ys)) (sym (without_zero_same (y ∷ ys) is.no_zero)) (own_set (y ∷ ys) is.ascending)

announced : (old : State) (x : ℕ) (row : List ℕ) → IsRow row
    → Announces x (providers_told row) old Nothing (record old { rows = map.insert old.rows x row; changes = map.insert old.changes x (Some row) })
announced old x row is = record { row = row; is_set = told_set row is; goes = record { act_is = refl; new_is = refl } }

-- ---- one customer

pub takes_one : (whole : Bool) (session serial : ℕ) (rows : RowMap) (changes : PatchMap) (vs : List Payload) (x : ℕ) (row : Option (List ℕ)) → ((list : List ℕ) → row ≡ Some list → IsRow list) → map.get rows x ≢ row
    → Client (at whole session serial rows changes vs) (told x row) Nothing (at whole session serial (with_row rows x row) (map.insert changes x row) vs)
takes_one true session serial rows changes vs x (Some row) good differs = announced (at true session serial rows changes vs) x row (good row refl)
takes_one false session serial rows changes vs x (Some row) good differs = announced (at false session serial rows changes vs) x row (good row refl)
takes_one true session serial rows changes vs x None good differs = inl (some_other (map.get rows x) differs, record { act_is = refl; new_is = refl })
  where
    some_other : (o : Option (List ℕ)) → o ≢ None → IsSome o
    some_other None differ = absurd (differ refl)
    some_other (Some row) differ = refl
takes_one false session serial rows changes vs x None good differs = inl (some_other (map.get rows x) differs, record { act_is = refl; new_is = refl })
  where
    some_other : (o : Option (List ℕ)) → o ≢ None → IsSome o
    some_other None differ = absurd (differ refl)
    some_other (Some row) differ = refl

-- ---- all of them

-- what a router has of rows once these customers were told
pub record Took (whole : Bool) (session serial : ℕ) (from : RowMap) (changes : PatchMap) (vs : List Payload) (to : RowMap) (customers : List ℕ) : Type 0 where
  pub rows : RowMap
  pub named : PatchMap
  pub takes : Takes (at whole session serial from changes vs) (told_of to customers) (nothings customers) (at whole session serial rows named vs)
  pub gets : (q : ℕ) → map.get rows q ≡ cond (has customers q) (map.get to q) (map.get from q)

over : (c d : Bool) (one mid from : Option (List ℕ)) → (c ≡ true → d ≡ false) → mid ≡ cond c one from → (c ≡ true → one ≡ one) → cond d one mid ≡ cond (c || d) one from
over true d one mid from apart' e h = rw (apart' refl) e
over false d one mid from apart' e h = ap (λ (o : Option (List ℕ)). cond d one o) e

joined : (x q : ℕ) (customers : List ℕ) (to : RowMap) (rows from : Option (List ℕ)) → has customers x ≡ false → rows ≡ cond (nat_eq x q) (map.get to x) from
    → cond (has customers q) (map.get to q) rows ≡ cond (nat_eq x q || has customers q) (map.get to q) from
joined x q customers to rows from new e = elim (eqb_tells x q) [
  | inl same ↦ let out : has customers q ≡ false = subst (λ (z : ℕ). has customers z ≡ false) same.1 new in
      rw (out, same.0) (e ∙ rw same.0 (ap (λ (z : ℕ). map.get to z) same.1))
  | inr other ↦ rw other.0 (ap (λ (o : Option (List ℕ)). cond (has customers q) (map.get to q) o) (e ∙ rw other.0 refl))
]

pub takes_told : (whole : Bool) (session serial : ℕ) (to : RowMap) (customers : List ℕ) (from : RowMap) (changes : PatchMap) (vs : List Payload) → AreGood to → IsStrictlySortedBy nat_cmp customers
    → ((x : ℕ) → has customers x ≡ true → map.get from x ≢ map.get to x) → Took whole session serial from changes vs to customers
unfolding IsStrictlySortedBy
takes_told whole session serial to [] from changes vs good rising differ = record { rows = from; named = changes; takes = (refl, refl); gets = λ q. refl }
takes_told whole session serial to (x ∷ more) from changes vs good rising differ =
    let new : has more x ≡ false = apart x more rising.0 in
    let next : RowMap = with_row from x (map.get to x) in
    let one = takes_one whole session serial from changes vs x (map.get to x) (good x) (differ x (grind (arith, nat_tests))) in
    let got : (q : ℕ) → map.get next q ≡ cond (nat_eq x q) (map.get to x) (map.get from q) = get_with from x (map.get to x) in
    let rest = takes_told whole session serial to more next (map.insert changes x (map.get to x)) vs good rising.1
    (λ q among. λ same. elim (eqb_tells x q) [
      | inl is ↦ (let never : ⊥ = (let out : has more q ≡ false = subst (λ (z : ℕ). has more z ≡ false) is.1 new in cc) in absurd never)
      | inr not ↦ differ q (rw not.0 among) (sym (got q ∙ rw not.0 refl) ∙ same)
    ]) in
    record {
      rows = rest.rows;
      named = rest.named;
      takes = (Nothing, at whole session serial next (map.insert changes x (map.get to x)) vs, nothings more, one, rest.takes, refl);
      gets = λ q. rest.gets q ∙ joined x q more to (map.get next q) (map.get from q) new (got q);
    }
