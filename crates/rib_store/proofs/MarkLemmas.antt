-- What marking makes of a state.
use Rattle.std.proofs.Common.{◌≡◌, Bool, true, false, cond, List, [], ◌∷◌, None, Some, refl, ap, sym, ◌∙◌}
use Rattle.std.specs.declared.option.Option.{Option}
use Rattle.std.specs.FinMap as fin
use Rattle.std.specs.Ordering.{eq_by_cmp}
use Rattle.path_model.specs.declared.key.Key.{Key}
use Rattle.path_model.specs.declared.verdict.Verdict.{Verdict}
use Rattle.attestations.specs.CurrentTable.{Parts}
use Rattle.path_model.specs.Key.{key_cmp}
use Rattle.path_model.specs.Order.{key_total}
use Rattle.path_model.specs.Roles.{Relations}
use Rattle.path_model.specs.Routes.{Routes}
use Rattle.path_model.specs.Trail.{Path}
use Rattle.path_model.proofs.OrderLemmas.{key_exact}
use Rattle.rib_store.specs.Changes.{StandsAs, IsMarked}
use Rattle.rib_store.specs.ChangesLeft.{present_verdict}
use Rattle.av_base.specs.One.{HasOne}
use Rattle.rib_store.specs.Rows.{current_verdict, current_verdicts, rows_of}
use Rattle.rib_store.specs.State.{State, Marked}
use Rattle.rib_store.proofs.KeyLemmas.{same_key}
use Rattle.rib_store.proofs.ReportLemmas.{one_current}
use Rattle.rib_store.proofs.RowLemmas.{current_by}

-- ---- the state

found_row : (parts : Parts) (relations : Relations) (q : Key) (es : List (Key × Path)) → fin.find key_cmp q (rows_of parts relations es) ≡ present_verdict parts relations q (fin.find key_cmp q es)
found_row parts relations q [] = refl
found_row parts relations q (e ∷ es) = by (found_row parts relations q es) (eq_by_cmp key_cmp q e.0) refl where
  by : fin.find key_cmp q (rows_of parts relations es) ≡ present_verdict parts relations q (fin.find key_cmp q es) → (b : Bool) → eq_by_cmp key_cmp q e.0 ≡ b
      → cond b (Some (current_verdict parts relations e.0 e.1)) (fin.find key_cmp q (rows_of parts relations es)) ≡ present_verdict parts relations q (cond b (Some e.1) (fin.find key_cmp q es))
  by ih true t = ap (λ (k : Key). Some (current_verdict parts relations k e.1)) (sym (same_key q e.0 t))
  by ih false t = ih

-- the current verdict of a key
pub current_at : (parts : Parts) (relations : Relations) (routes : Routes) (q : Key) → fin.get (current_verdicts parts relations routes) q ≡ present_verdict parts relations q (fin.get routes q)
current_at parts relations routes q = fin.get-from_entries key_total (rows_of parts relations (fin.entries routes)) q ∙ found_row parts relations q (fin.entries routes)
    ∙ ap (present_verdict parts relations q) (sym (fin.get-entries routes q))

-- a key stands as the verdict of its path
pub stands_now : (state : State) (key : Key) (path : Option Path) → fin.get state.routes key ≡ path → StandsAs state key (present_verdict state.parts state.roles key path)
stands_now state key None e = e
stands_now state key (Some path) e = current_by state key path (current_verdict state.parts state.roles key path) e refl

-- and as nothing else
pub one_standing : (state : State) (key : Key) (one other : Option Verdict) → StandsAs state key one → StandsAs state key other → one ≡ other
one_standing state key None None a b = refl
one_standing state key None (Some w) a b = absurd (let no : None ≡ Some b.path = sym a ∙ b.route in cc)
one_standing state key (Some v) None a b = absurd (let no : None ≡ Some a.path = sym b ∙ a.route in cc)
one_standing state key (Some v) (Some w) a b = ap Some (one_current state key v w a b)

pub marked_by : (state : State) (marked : Marked) → marked ≡ current_verdicts state.parts state.roles state.routes → IsMarked state (record state { marked = marked })
marked_by state marked is = record {
  marked = λ key. rw (ap (λ (m : Marked). fin.get m key) is ∙ current_at state.parts state.roles state.routes key) (stands_now state key (fin.get state.routes key) refl);
  others = refl;
}

pub one_marking : (state one other : State) → IsMarked state one → IsMarked state other → other ≡ one
one_marking state one other a b =
    let same : other.marked ≡ one.marked = fin.same_map key_total key_exact other.marked one.marked (λ q. one_standing state q _ _ (b.marked q) (a.marked q)) in
    b.others ∙ ap (λ (m : Marked). record state { marked = m }) same ∙ sym a.others

pub has_one_marking : (state : State) → HasOne (IsMarked state)
has_one_marking state = record {
  one = record state { marked = current_verdicts state.parts state.roles state.routes };
  is = marked_by state (current_verdicts state.parts state.roles state.routes) refl;
  only = λ other is. one_marking state (record state { marked = current_verdicts state.parts state.roles state.routes }) other (marked_by state (current_verdicts state.parts state.roles state.routes) refl) is;
}
