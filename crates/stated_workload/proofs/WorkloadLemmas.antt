-- The events of a workload, as they are made.
use Rattle.std.proofs.Common.{◌≡◌, ◌≢◌, ℕ, zero, suc, ◌+◌, ◌%◌, List, [], ◌∷◌, ◌++◌, refl, sym, ap, subst, ◌∙◌, arith, append_assoc, append-nil}
use Rattle.analyser.specs.declared.event.Event.{Event}
use Rattle.analyser.specs.declared.event.Event.TheVariants.{Table, Role}
use Rattle.rand_pcg.specs.Lcg.{Lcg}
use Rattle.path_model.specs.Rows.{RowMap}
use Rattle.attestations.specs.Terms.{TermMap, terms_of}
use Rattle.vap_table.specs.declared.change.TableChange.TheVariants.{Replace, Filter, Unfilter, Assert, Unassert}
use Rattle.stated_workload.specs.Draws.{DrawsAs, Adds}
use Rattle.stated_workload.specs.Rows.{DrawsRows}
use Rattle.stated_workload.specs.Workload.{role_numbered, role_events, DrawsAnnouncement, DrawsAmended, DrawsLoading, source_name}

-- ---- roles

pub roles_none : (before : List Event) → before ≡ before ++ role_events 0
unfolding role_events
roles_none before = sym (append-nil before)

one_more : (q : ℕ) → suc q ≡ q + 1
one_more q = omega arith

pub roles_more : (before after : List Event) (q : ℕ) → after ≡ before ++ role_events q → after ++ Role (1 + q) (role_numbered (q % 6)) ∷ [] ≡ before ++ role_events (q + 1)
unfolding role_events
roles_more before after q so_far = ap (λ (l : List Event). l ++ Role (1 + q) (role_numbered (q % 6)) ∷ []) so_far ∙ append_assoc before (role_events q) (Role (1 + q) (role_numbered (q % 6)) ∷ [])
    ∙ ap (λ (k : ℕ). before ++ role_events k) (one_more q)

pub ruleset role_steps = (roles_none, roles_more)

-- ---- amendments

pub amended_filter : (m x : ℕ) (g : Lcg) → m ≡ 0 → DrawsAmended m x g (Filter x) g
amended_filter m x g e = subst (λ (k : ℕ). DrawsAmended k x g (Filter x) g) (sym e) (refl, refl)

pub amended_unfilter : (m x : ℕ) (g : Lcg) → m ≡ 1 → DrawsAmended m x g (Unfilter x) g
amended_unfilter m x g e = subst (λ (k : ℕ). DrawsAmended k x g (Unfilter x) g) (sym e) (refl, refl)

pub amended_assert : (m x provider : ℕ) (old new : Lcg) (list : List ℕ) → m ≡ 2 → DrawsAs old provider new → list ≡ provider ∷ [] → DrawsAmended m x old (Assert x list) new
amended_assert m x provider old new list e draws is = subst (λ (k : ℕ). DrawsAmended k x old (Assert x list) new) (sym e) (provider, draws, ap (λ (l : List ℕ). Assert x l) is)

pub amended_unassert : (m x : ℕ) (g : Lcg) → m ≢ 0 → m ≢ 1 → m ≢ 2 → DrawsAmended m x g (Unassert x) g
amended_unassert zero x g e f h = absurd (e refl)
amended_unassert (suc zero) x g e f h = absurd (f refl)
amended_unassert (suc (suc zero)) x g e f h = absurd (h refl)
amended_unassert (suc (suc (suc m))) x g e f h = (refl, refl)

pub ruleset amendment_steps = (amended_filter, amended_unfilter, amended_assert, amended_unassert)

-- ---- what loads

pub loading_is : (old mid new : Lcg) (rows : RowMap) (terms : TermMap) (name : List ℕ) (none first second all : List Event) → DrawsRows 2000 old rows mid
    → terms ≡ terms_of rows → name ≡ source_name → none ≡ [] → first ≡ none ++ Table (Replace name terms) ∷ [] → second ≡ first ++ role_events 20
    → Adds DrawsAnnouncement 20000 mid second all new → DrawsLoading old all new
loading_is old mid new rows terms name none first second all draws of named empty one two adds = record {
  rows = rows;
  announcements = adds.added;
  after_rows = mid;
  rows_drawn = draws;
  announcements_drawn = adds.drawn;
  are = adds.is ∙ ap (λ (l : List Event). l ++ adds.added) (two ∙ ap (λ (l : List Event). l ++ role_events 20) (one ∙ (λ i. empty i ++ Table (Replace (named i) (of i)) ∷ [])));
}
