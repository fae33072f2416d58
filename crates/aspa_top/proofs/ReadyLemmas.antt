-- What is sound between two lines stays so through each.
use Rattle.std.proofs.Common.{◌≡◌, ◌≢◌, ℕ, ◌+◌, ◌-◌, ◌*◌, ◌^◌, ◌<◌, ◌≤◌, ◌⊎◌, inl, inr, Bool, true, false, cond, List, Some, refl, sym, ◌∙◌, ap, subst, arith}
use Rattle.std.specs.FinMap as fin
use Rattle.std.specs.declared.option.Option.{Option}
use Rattle.av_base.specs.declared.standing.Standing.{Standing}
use Rattle.rtr_client.specs.declared.feed.Feeds.{Feeds}
use Rattle.rtr_client.specs.Holding.{IsSound as FeedsAreSound}
use Rattle.stream_lines.specs.Held.{HeldDump}
use Rattle.aspa_top.specs.declared.working.Working.{Working}
use Rattle.aspa_top.specs.Bounds.{most}
use Rattle.aspa_top.specs.Outside.{Outside}
use Rattle.aspa_top.specs.Standing.{AreFewUpdates, AreSound, IsBegun, IsReady, IsSound}
use Rattle.aspa_top.specs.Tasks.{same_name}
use Rattle.aspa_top.specs.Working.{KeepsStreams, cache_in, counted_in, dump_in, refused_in}
use Rattle.aspa_top.proofs.StandsLemmas.{differ, is_same}

-- ---- dumps

-- no dump changed
pub IsSound-kept : (opened more fewer lines : ℕ) (working next : Working) → fewer + 1 ≤ lines → opened ≤ more → IsSound opened fewer working
    → ((q : List ℕ) → dump_in next q ≡ dump_in working q) → next.progress.passed ≤ working.progress.passed + most → next.progress.refused ≤ working.progress.refused + 2 * most
    → IsSound more lines next
IsSound-kept opened more fewer lines working next later within sound dumps passed refused = record {
  given = λ n d e. let g = sound.given n d (sym (dumps n) ∙ e) in (omega (arith, g.0, within), omega (arith, g.1, later));
  apart = λ a b d e differ x y. sound.apart a b d e differ (sym (dumps a) ∙ x) (sym (dumps b) ∙ y);
  passed = omega (arith, sound.passed, passed, later);
  refused = omega (arith, sound.refused, refused, later);
}

found_put : (b : Bool) (new d : HeldDump) (old : Option HeldDump) → cond b (Some new) old ≡ Some d
    → ((b ≡ true) × (new ≡ d)) ⊎ ((b ≡ false) × (old ≡ Some d))
found_put true new d old is = inl (refl, (let e : new ≡ d = cc in e))
found_put false new d old is = inr (refl, is)

-- one dump was put in its place, or under a new name
module _ (opened more fewer lines : ℕ) (name : List ℕ) (new : HeldDump) (working next : Working) (later : fewer + 1 ≤ lines) (within : opened ≤ more)
    (sound : IsSound opened fewer working) (dumps : (q : List ℕ) → dump_in next q ≡ cond (same_name name q) (Some new) (dump_in working q))
    (given : new.file < more) (few : new.taken ≤ lines * most)
    (others : (q : List ℕ) (d : HeldDump) → name ≢ q → dump_in working q ≡ Some d → new.file ≢ d.file) where
  given_put : (q : List ℕ) (d : HeldDump) → ((same_name name q ≡ true) × (new ≡ d)) ⊎ ((same_name name q ≡ false) × (dump_in working q ≡ Some d))
      → (d.file < more) × (d.taken ≤ lines * most)
  given_put q d (inl here) = subst (λ (o : HeldDump). (o.file < more) × (o.taken ≤ lines * most)) here.1 (given, few)
  given_put q d (inr there) = let g = sound.given q d there.1 in (omega (arith, g.0, within), omega (arith, g.1, later))

  apart_put : (a b : List ℕ) (d e : HeldDump) → a ≢ b → ((same_name name a ≡ true) × (new ≡ d)) ⊎ ((same_name name a ≡ false) × (dump_in working a ≡ Some d))
      → ((same_name name b ≡ true) × (new ≡ e)) ⊎ ((same_name name b ≡ false) × (dump_in working b ≡ Some e)) → d.file ≢ e.file
  apart_put a b d e apart (inl x) (inl y) = absurd (apart (sym (is_same name a x.0) ∙ is_same name b y.0))
  apart_put a b d e apart (inl x) (inr y) = λ same. others b e (differ name b y.0) y.1 (ap (λ (o : HeldDump). o.file) x.1 ∙ same)
  apart_put a b d e apart (inr x) (inl y) = λ same. others a d (differ name a x.0) x.1 (ap (λ (o : HeldDump). o.file) y.1 ∙ sym same)
  apart_put a b d e apart (inr x) (inr y) = sound.apart a b d e apart x.1 y.1

  pub IsSound-put : next.progress.passed ≤ working.progress.passed + most → next.progress.refused ≤ working.progress.refused + 2 * most → IsSound more lines next
  IsSound-put passed refused = record {
    given = λ q d e. given_put q d (found_put (same_name name q) new d (dump_in working q) (sym (dumps q) ∙ e));
    apart = λ a b d e apart x y. apart_put a b d e apart (found_put (same_name name a) new d (dump_in working a) (sym (dumps a) ∙ x)) (found_put (same_name name b) new e (dump_in working b) (sym (dumps b) ∙ y));
    passed = omega (arith, sound.passed, passed, later);
    refused = omega (arith, sound.refused, refused, later);
  }

-- ---- feeds

-- more PDUs may have been taken
pub sound_weaker : (stands : List Standing) (few many : ℕ) (feeds : Feeds) → few ≤ many → FeedsAreSound stands few feeds → FeedsAreSound stands many feeds
sound_weaker stands few many feeds within sound = record {
  fit = λ name kept is. let fit = sound.fit name kept is in (fit.0, fit.1, omega (arith, within, fit.2));
  apart = sound.apart;
}

-- the feeds stayed
pub feeds_kept : (stands : List Standing) (fewer lines : ℕ) (working next : Working) → fewer ≤ lines → next.feeds ≡ working.feeds → AreSound stands fewer working → AreSound stands lines next
feeds_kept stands fewer lines working next later same sound =
    sound_weaker stands (fewer * most) (lines * most) next.feeds (omega (arith, later)) (subst (λ (held : Feeds). FeedsAreSound stands (fewer * most) held) (sym same) sound)

-- the caches stayed
pub caches_kept : (fewer lines : ℕ) (working next : Working) → fewer ≤ lines → ((session : ℕ) → cache_in next session ≡ cache_in working session) → AreFewUpdates fewer working → AreFewUpdates lines next
caches_kept fewer lines working next later same few = λ session cache is. let below = few session cache (sym (same session) ∙ is) in omega (arith, below, later)

-- ---- lines

-- a line begins
pub begun : (now : Outside) (working : Working) → working.lines < 2 ^ 31 → IsReady now working → IsBegun now (counted_in working)
begun now working few ready =
    let same : working.lines ≡ working.lines + 1 - 1 = omega arith in
    record {
      counted = omega arith;
      few = omega (arith, few);
      sound = subst (λ (n : ℕ). IsSound now.opened n (counted_in working)) same
          (record { given = ready.sound.given; apart = ready.sound.apart; passed = ready.sound.passed; refused = ready.sound.refused });
      caches = subst (λ (n : ℕ). AreFewUpdates n (counted_in working)) same ready.caches;
      feeds = subst (λ (n : ℕ). AreSound now.standings n (counted_in working)) same ready.feeds;
    }

-- so few lines were refused so far
pub few_refused : (now : Outside) (working : Working) → IsBegun now working → working.progress.refused < 2 ^ 62
few_refused now working begun = omega (arith, begun.sound.refused, begun.few)

-- and so few PDUs taken of a feed
pub few_taken : (now : Outside) (working : Working) → IsBegun now working → FeedsAreSound now.standings (2 ^ 61) working.feeds
few_taken now working begun = sound_weaker now.standings ((working.lines - 1) * most) (2 ^ 61) working.feeds (omega (arith, begun.few)) begun.feeds

-- a line that keeps the streams leaves all ready
pub ready_streams : (old new : Outside) (working next : Working) → old.opened ≤ new.opened → new.standings ≡ old.standings → IsBegun old working → KeepsStreams working next → IsReady new next
ready_streams old new working next opened stands begun keeps = record {
  sound = IsSound-kept old.opened new.opened (working.lines - 1) next.lines working next (omega (arith, keeps.lines, begun.counted)) opened begun.sound keeps.dumps (omega (arith, keeps.passed)) (omega (arith, keeps.refused));
  caches = caches_kept (working.lines - 1) next.lines working next (omega (arith, keeps.lines)) keeps.caches begun.caches;
  feeds = subst (λ (s : List Standing). AreSound s next.lines next) (sym stands) (feeds_kept old.standings (working.lines - 1) next.lines working next (omega (arith, keeps.lines)) keeps.feeds begun.feeds);
}

-- ---- lines that keep the streams

pub kept_all : (working : Working) → KeepsStreams working working
kept_all working = record { feeds = refl; caches = λ session. refl; dumps = λ name. refl; lines = refl; passed = refl; refused = omega arith }

pub kept_refused : (working next : Working) → next ≡ refused_in working → KeepsStreams working next
kept_refused working next is =
    let refused : next.progress.refused ≡ working.progress.refused + 1 = ap (λ (w : Working). w.progress.refused) is in
    record {
      feeds = ap (λ (w : Working). w.feeds) is;
      caches = λ session. ap (λ (w : Working). cache_in w session) is;
      dumps = λ name. ap (λ (w : Working). dump_in w name) is;
      lines = ap (λ (w : Working). w.lines) is;
      passed = ap (λ (w : Working). w.progress.passed) is;
      refused = omega (arith, refused);
    }

pub kept_analysed : (working next : Working) → next ≡ record working { progress = record working.progress { analyser = next.progress.analyser } } → KeepsStreams working next
kept_analysed working next is =
    let refused : next.progress.refused ≡ working.progress.refused = ap (λ (w : Working). w.progress.refused) is in
    record {
      feeds = ap (λ (w : Working). w.feeds) is;
      caches = λ session. ap (λ (w : Working). cache_in w session) is;
      dumps = λ name. ap (λ (w : Working). dump_in w name) is;
      lines = ap (λ (w : Working). w.lines) is;
      passed = ap (λ (w : Working). w.progress.passed) is;
      refused = omega (arith, refused);
    }

pub kept_cleared : (working next : Working) → next ≡ record working { progress = record working.progress { analyser = record working.progress.analyser { routes = fin.empty }; marks = fin.empty } } → KeepsStreams working next
kept_cleared working next is =
    let refused : next.progress.refused ≡ working.progress.refused = ap (λ (w : Working). w.progress.refused) is in
    record {
      feeds = ap (λ (w : Working). w.feeds) is;
      caches = λ session. ap (λ (w : Working). cache_in w session) is;
      dumps = λ name. ap (λ (w : Working). dump_in w name) is;
      lines = ap (λ (w : Working). w.lines) is;
      passed = ap (λ (w : Working). w.progress.passed) is;
      refused = omega (arith, refused);
    }
