-- Each seed has one workload.
use Rattle.std.proofs.Common.{◌≡◌, ℕ, zero, suc, ◌+◌, ◌%◌, false, List, [], ◌∷◌, ◌++◌, refl, sym, ap, subst, ◌∙◌}
use Rattle.rand_pcg.specs.Lcg.{Lcg}
use Rattle.rand_pcg.specs.Pcg.{pcg32}
use Rattle.path_model.specs.declared.change.Change.TheVariants.{Announce}
use Rattle.path_model.specs.Rows.{RowMap}
use Rattle.attestations.specs.Terms.{terms_of}
use Rattle.path_model.specs.Trail.{path_of}
use Rattle.vap_table.specs.declared.change.TableChange.{TableChange}
use Rattle.vap_table.specs.declared.change.TableChange.TheVariants.{Replace, Filter, Unfilter, Assert, Unassert}
use Rattle.analyser.specs.declared.event.Event.{Event}
use Rattle.analyser.specs.declared.event.Event.TheVariants.{Routes, Table}
use Rattle.stated_workload.specs.Draws.{DrawsAs, generator_of}
use Rattle.stated_workload.specs.Workload.{DrawsAnnouncement, DrawsAmended, DrawsAmendment, DrawsLoading, IsWorkload, key_of, role_events, source_name}
use Rattle.av_base.specs.One.{HasOnePair}
use Rattle.stated_workload.proofs.DrawsLemmas.{Same, IsOne, IsSome, one_draw, some_draw, one_all, some_all, one_as, some_as}
use Rattle.stated_workload.proofs.RowsLemmas.{one_rows, some_rows}

-- ---- announcements

abbrev announced : ℕ → ℕ → List ℕ → Event
announced p q ases = Routes (Announce (key_of q p) (path_of false ((1 + q) ∷ ases)) ∷ [])

one_announcement : IsOne DrawsAnnouncement
one_announcement p g h s t a b e d f =
    let q = one_draw 20 g h d.after_q f.after_q d.q f.q e d.q_drawn f.q_drawn in
    let n = one_draw 6 d.after_q f.after_q d.after_n f.after_n d.n f.n q.1 d.n_drawn f.n_drawn in
    let ases = one_all (λ _. DrawsAs) one_as d.n f.n d.after_n f.after_n s t d.ases f.ases n.0 n.1 d.ases_drawn f.ases_drawn in
    (d.is ∙ (λ i. announced p (q.0 i) (ases.0 i)) ∙ sym f.is, ases.1)

some_announcement : IsSome DrawsAnnouncement
some_announcement p g =
    let q = (pcg32 g).0 % 20 in
    let n = (pcg32 (pcg32 g).1).0 % 6 in
    let ases = some_all (λ _. DrawsAs) some_as n (pcg32 (pcg32 g).1).1 in (
      announced p q ases.0,
      ases.1,
      record {
        q = q;
        n = n;
        ases = ases.0;
        after_q = (pcg32 g).1;
        after_n = (pcg32 (pcg32 g).1).1;
        q_drawn = some_draw 20 g;
        n_drawn = some_draw 6 (pcg32 g).1;
        ases_drawn = ases.2;
        is = refl;
      },
    )

-- ---- amendments

one_amended : (m x : ℕ) (g s t : Lcg) (a b : TableChange) → DrawsAmended m x g a s → DrawsAmended m x g b t → Same a b s t
one_amended zero x g s t a b d f = (d.0 ∙ sym f.0, d.1 ∙ sym f.1)
one_amended (suc zero) x g s t a b d f = (d.0 ∙ sym f.0, d.1 ∙ sym f.1)
one_amended (suc (suc zero)) x g s t a b d f = let one = one_as 0 g g s t d.0 f.0 refl d.1 f.1 in (d.2 ∙ ap (λ (y : ℕ). Assert x (y ∷ [])) one.0 ∙ sym f.2, one.1)
one_amended (suc (suc (suc m))) x g s t a b d f = (d.0 ∙ sym f.0, d.1 ∙ sym f.1)

some_amended : (m x : ℕ) (g : Lcg) → (change : TableChange) × (s : Lcg) × DrawsAmended m x g change s
some_amended zero x g = (Filter x, g, (refl, refl))
some_amended (suc zero) x g = (Unfilter x, g, (refl, refl))
some_amended (suc (suc zero)) x g = let provider = some_as 0 g in (Assert x (provider.0 ∷ []), provider.1, (provider.0, provider.2, refl))
some_amended (suc (suc (suc m))) x g = (Unassert x, g, (refl, refl))

one_amendment : IsOne (λ _. DrawsAmendment)
one_amendment k g h s t a b e d f =
    let x = one_as 0 g h d.after_x f.after_x d.x f.x e d.x_drawn f.x_drawn in
    let m = one_draw 4 d.after_x f.after_x d.after_m f.after_m d.m f.m x.1 d.m_drawn f.m_drawn in
    let change = one_amended f.m f.x f.after_m s t d.change f.change
    (subst (λ (g : Lcg). DrawsAmended f.m f.x g d.change s) m.1 (subst (λ (y : ℕ). DrawsAmended f.m y d.after_m d.change s) x.0 (subst (λ (n : ℕ). DrawsAmended n d.x d.after_m d.change s) m.0 d.change_drawn)))
    f.change_drawn in
    (d.is ∙ ap Table change.0 ∙ sym f.is, change.1)

some_amendment : IsSome (λ _. DrawsAmendment)
some_amendment k g =
    let x = some_as 0 g in
    let m = (pcg32 x.1).0 % 4 in
    let change = some_amended m x.0 (pcg32 x.1).1 in
    (Table change.0, change.1, record { x = x.0; m = m; change = change.0; after_x = x.1; after_m = (pcg32 x.1).1; x_drawn = x.2; m_drawn = some_draw 4 x.1; change_drawn = change.2; is = refl })

-- ---- the whole

abbrev loaded : RowMap → List Event → List Event
loaded rows announcements = Table (Replace source_name (terms_of rows)) ∷ role_events 20 ++ announcements

one_loading : (g s t : Lcg) (a b : List Event) → DrawsLoading g a s → DrawsLoading g b t → Same a b s t
one_loading g s t a b d f =
    let rows = one_rows 2000 g d.after_rows f.after_rows d.rows f.rows d.rows_drawn f.rows_drawn in
    let announcements = one_all DrawsAnnouncement one_announcement 20000 20000 d.after_rows f.after_rows s t d.announcements f.announcements refl rows.1 d.announcements_drawn f.announcements_drawn in
    (d.are ∙ (λ i. loaded (rows.0 i) (announcements.0 i)) ∙ sym f.are, announcements.1)

some_loading : (g : Lcg) → (events : List Event) × (s : Lcg) × DrawsLoading g events s
some_loading g =
    let rows = some_rows 2000 g in
    let announcements = some_all DrawsAnnouncement some_announcement 20000 rows.1 in
    (loaded rows.0 announcements.0, announcements.1, record { rows = rows.0; announcements = announcements.0; after_rows = rows.1; rows_drawn = rows.2; announcements_drawn = announcements.2; are = refl })

pub one_workload : (seed : ℕ) (loading amending load amend : List Event) → IsWorkload seed loading amending → IsWorkload seed load amend → (load ≡ loading) × (amend ≡ amending)
one_workload seed loading amending load amend a b =
    let first = one_loading (generator_of seed) b.after_loading a.after_loading load loading b.loading_drawn a.loading_drawn in
    let second = one_all (λ _. DrawsAmendment) one_amendment 1000 1000 b.after_loading a.after_loading b.after a.after amend amending refl first.1 b.amending_drawn a.amending_drawn in
    (first.0, second.0)

pub some_workload : (seed : ℕ) → (loading : List Event) × (amending : List Event) × IsWorkload seed loading amending
some_workload seed =
    let first = some_loading (generator_of seed) in
    let second = some_all (λ _. DrawsAmendment) some_amendment 1000 first.1 in
    (first.0, second.0, record { after_loading = first.1; after = second.1; loading_drawn = first.2; amending_drawn = second.2 })

pub has_one_workload : (seed : ℕ) → HasOnePair (IsWorkload seed)
has_one_workload seed = let some = some_workload seed in record {
  one = some.0;
  its = some.1;
  is = some.2;
  only = λ load amend is. one_workload seed some.0 some.1 load amend some.2 is;
}
