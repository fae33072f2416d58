-- The rows that list the state of each route, one after another; and that there is one list.
use Rattle.std.proofs.Common.{◌≡◌, List, [], ◌∷◌, ◌++◌, refl, sym, ◌∙◌}
use Rattle.std.specs.FinMap as fin
use Rattle.path_model.specs.declared.key.Key.{Key}
use Rattle.path_model.specs.Trail.{Path}
use Rattle.origin_model.specs.declared.origin_state.OriginState.{OriginState}
use Rattle.origin_model.specs.Current.{Parts}
use Rattle.origin_model.specs.OriginState.{IsStateOf}
use Rattle.origin_model.proofs.LawLemmas.{one_for_each_route}
use Rattle.origin_validation.specs.Laws.{RoutesHaveOneListOfStates}
use Rattle.origin_validation.specs.Rows.{AreRowsOf}

module _ (parts : Parts) where
  -- rows of some routes and then of more
  pub rows_both : (routes more : List (Key × Path)) (rows others : List (Key × OriginState)) → AreRowsOf parts routes rows → AreRowsOf parts more others
      → AreRowsOf parts (routes ++ more) (rows ++ others)
  rows_both [] more [] others are also = also
  rows_both [] more (row ∷ rows) others are also = absurd are
  rows_both (route ∷ routes) more [] others are also = absurd are
  rows_both (route ∷ routes) more (row ∷ rows) others are also = (are.0, rows_both routes more rows others are.1 also)

  -- routes have rows
  pub some_rows : (routes : List (Key × Path)) → (rows : List (Key × OriginState)) × AreRowsOf parts routes rows
  some_rows [] = ([], tt)
  some_rows (route ∷ routes) =
      let one = one_for_each_route parts route.0 route.1 in
      let more = some_rows routes in
      ((route.0, one.one) ∷ more.0, (record { key = refl; state = one.is }, more.1))

  one_state : (key : Key) (path : Path) (s t : OriginState) → IsStateOf parts key path s → IsStateOf parts key path t → t ≡ s
  one_state key path s t is other =
      let one = one_for_each_route parts key path in
      one.only t other ∙ sym (one.only s is)

  -- and no others
  pub same_rows : (routes : List (Key × Path)) (rows others : List (Key × OriginState)) → AreRowsOf parts routes rows → AreRowsOf parts routes others → others ≡ rows
  same_rows [] [] [] are other = refl
  same_rows [] [] (o ∷ others) are other = absurd other
  same_rows [] (r ∷ rows) others are other = absurd are
  same_rows (route ∷ routes) [] others are other = absurd are
  same_rows (route ∷ routes) (r ∷ rows) [] are other = absurd other
  same_rows (route ∷ routes) (r ∷ rows) (o ∷ others) are other =
      let key : o.0 ≡ r.0 = other.0.key ∙ sym are.0.key in
      let state : o.1 ≡ r.1 = one_state route.0 route.1 r.1 o.1 are.0.state other.0.state in
      let more = same_rows routes rows others are.1 other.1 in
      λ i. (key i, state i) ∷ more i

pub has_one_list : RoutesHaveOneListOfStates
has_one_list routes parts =
    let some = some_rows parts (fin.entries routes) in
    record { one = some.0; is = some.1; only = λ other are. same_rows parts (fin.entries routes) some.0 other some.1 are }
