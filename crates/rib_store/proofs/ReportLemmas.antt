-- Each state has one list of rows, one current verdict for each route, and one set of counts.
use Rattle.std.proofs.Common.{◌≡◌, List, [], ◌∷◌, length, Some, arith, refl, ap, sym, subst, ◌∙◌}
use Rattle.std.specs.Prelude.{map, All}
use Rattle.std.specs.declared.option.Option.{Option}
use Rattle.std.specs.Option.{unwrap_or}
use Rattle.std.specs.FinMap as fin
use Rattle.std.proofs.lemmas.List.Elements.{All-head, All-tail}
use Rattle.path_model.specs.declared.key.Key.{Key}
use Rattle.path_model.specs.declared.verdict.Verdict.{Verdict}
use Rattle.path_model.specs.Authority.{Table}
use Rattle.path_model.specs.RightVerdict.{IsRight}
use Rattle.path_model.specs.Roles.{role_of}
use Rattle.path_model.specs.Trail.{Path}
use Rattle.path_model.proofs.LawLemmas.{IsRight-unique}
use Rattle.attestations.proofs.PartsLemmas.{parts_have_one_table}
use Rattle.rib_store.specs.declared.counts.Counts.{Counts}
use Rattle.rib_store.specs.Counts.{AreCounts, counted}
use Rattle.rib_store.specs.Rows.{rows_of, current_verdict}
use Rattle.rib_store.specs.State.{State, IsCurrent, AreRows}
use Rattle.av_base.specs.One.{HasOne}
use Rattle.rib_store.proofs.RowLemmas.{are_rows, current_by}

-- a key has one current verdict
pub one_current : (state : State) (key : Key) (one other : Verdict) → IsCurrent state key one → IsCurrent state key other → one ≡ other
one_current state key one other a b =
    let path : a.path ≡ b.path = ap (λ (o : Option Path). unwrap_or o a.path) (sym a.route ∙ b.route) in
    let tables = parts_have_one_table state.parts in
    let table : a.table ≡ b.table = λ i x. (tables.only a.table a.current x ∙ sym (tables.only b.table b.current x)) i in
    IsRight-unique b.table (role_of state.roles key.peer.asn) key.peer.asn b.path one other
    (subst (λ (p : Path). IsRight b.table (role_of state.roles key.peer.asn) key.peer.asn p one) path
    (subst (λ (t : Table). IsRight t (role_of state.roles key.peer.asn) key.peer.asn a.path one) table a.right))
    b.right

abbrev first_of : Key → List Key → Key
first_of k [] = k
first_of k (x ∷ xs) = x

abbrev rest_of : List Key → List Key
rest_of [] = []
rest_of (x ∷ xs) = xs

abbrev keys_in : List (Key × Verdict) → List Key
keys_in rows = map (λ (row : Key × Verdict). row.0) rows

-- rows of the same keys are the same where each key has one verdict
same_rows : (P : Key × Verdict → Type 0) → ((key : Key) (one other : Verdict) → P (key, one) → P (key, other) → one ≡ other) → (xs ys : List (Key × Verdict)) → keys_in xs ≡ keys_in ys → All P xs → All P ys → xs ≡ ys
same_rows P unique [] [] keys all each = refl
same_rows P unique [] (y ∷ ys) keys all each = absurd (omega (arith, ap length keys))
same_rows P unique (x ∷ xs) [] keys all each = absurd (omega (arith, ap length keys))
same_rows P unique (x ∷ xs) (y ∷ ys) keys all each =
    let key : x.0 ≡ y.0 = ap (first_of x.0) keys in
    let verdict : x.1 ≡ y.1 = unique y.0 x.1 y.1 (subst (λ (k : Key). P (k, x.1)) key (All-head P x xs all)) (All-head P y ys each) in
    let more : xs ≡ ys = same_rows P unique xs ys (ap rest_of keys) (All-tail P x xs all) (All-tail P y ys each) in
    λ i. (key i, verdict i) ∷ more i

-- some rows are a state's
pub some_report : (state : State) → (rows : List (Key × Verdict)) × AreRows state rows
some_report state = (rows_of state.parts state.roles (fin.entries state.routes), are_rows state)

-- and no others
pub one_report : (state : State) (rows other : List (Key × Verdict)) → AreRows state rows → AreRows state other → other ≡ rows
one_report state rows other a b = same_rows (λ row. IsCurrent state row.0 row.1) (one_current state) other rows (b.keys ∙ sym a.keys) b.current a.current

pub has_one_report : (state : State) → HasOne (AreRows state)
has_one_report state = record {
  one = rows_of state.parts state.roles (fin.entries state.routes);
  is = are_rows state;
  only = λ other are. one_report state (rows_of state.parts state.roles (fin.entries state.routes)) other (are_rows state) are;
}

-- ---- what else is read of a state

-- a route has a current verdict
pub some_current : (state : State) (key : Key) (path : Path) → fin.get state.routes key ≡ Some path → (verdict : Verdict) × IsCurrent state key verdict
some_current state key path route = (current_verdict state.parts state.roles key path, current_by state key path (current_verdict state.parts state.roles key path) route refl)

-- some counts are those of a state
pub some_counts : (state : State) → (counts : Counts) × AreCounts state counts
some_counts state = let report = some_report state in (counted report.0, record { rows = report.0; are = report.1; counted = refl })

-- and no others
pub one_counts : (state : State) (one other : Counts) → AreCounts state one → AreCounts state other → other ≡ one
one_counts state one other a b = b.counted ∙ ap counted (one_report state a.rows b.rows a.are b.are) ∙ sym a.counted
