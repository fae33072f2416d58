-- How all that is kept of the cases fits together.
use Rattle.std.proofs.Common.{◌≡◌, ℕ, nat_eq, Bool, true, false, not, ◌&&◌, ◌||◌, ◌≤◌, List, [], None, refl, ap, sym, subst, ◌∙◌, true≢false}
use Rattle.std.specs.declared.option.Option.{Option}
use Rattle.shared_cases.specs.declared.case.StoredCase.{StoredCase}
use Rattle.std.proofs.Math.Bool.{and-true}
use Rattle.std.specs.FinMap.{empty}
use Rattle.hop_index.specs.declared.gone.GoneHop.{GoneHop}
use Rattle.hop_index.specs.Gone.{has_gone}
use Rattle.hop_index.specs.Hops.{has_hop}
use Rattle.hop_index.specs.Index.{Entries, has as hops_have}
use Rattle.shared_cases.specs.declared.kept.Kept.{Kept}
use Rattle.shared_cases.specs.declared.totals.Totals.{Totals}
use Rattle.shared_cases.specs.Cases.{Slots, at, hops_of, AreSameCases, Rewrites}
use Rattle.shared_cases.specs.Differed.{AreNewlyDiffering, HaveDiffered}
use Rattle.shared_cases.specs.Kept.{staying, without_chain, AreKept, AreOnlyRejudged, AreSameHops, FitBy, FitTogether, Hops}
use Rattle.shared_cases.specs.Numbers.{has}
use Rattle.shared_cases.specs.Owning.{SayTheSame}
use Rattle.shared_cases.specs.Peers.{ByPeer}
use Rattle.shared_cases.specs.Taking.{lowered_by, users_or}
use Rattle.shared_cases.specs.Totals.{some_users, minus, no_users, totals_of}
use Rattle.shared_cases.specs.Verdicts.{AreVerdictsOf}
use Rattle.shared_cases.proofs.KeptLemmas.{lowered_kept, none_kept, rejudged_kept}
use Rattle.shared_cases.proofs.NamingLemmas.{none_named}
use Rattle.shared_cases.proofs.TotalsLemmas.{lowered_totals}
use Rattle.shared_cases.proofs.VerdictLemmas.{lowered_verdicts, none_verdicts}

-- no cases
pub fit_none : (kept : Kept) → kept.names.words ≡ empty → kept.names.twins.entries ≡ [] → ((x y n : ℕ) → hops_have kept.index x y n ≡ false)
    → kept.peers ≡ record { members = []; defaulted = [] } → kept.totals ≡ no_users → kept.verdicts ≡ [] → FitTogether [] kept
fit_none kept words twins nothing unled uncounted unjudged = (
  subst (λ (ps : ByPeer). AreKept [] kept.names (hops_have kept.index) ps kept.differed) (sym unled)
      (none_kept kept.names (hops_have kept.index) kept.differed (none_named kept.names words twins) nothing),
  uncounted,
  none_verdicts [] kept.verdicts refl unjudged,
)

-- one case with so many users less
pub fit_lowered : (hops : Hops) (old new : Slots) (n k : ℕ) (kept : Kept) (next less : Totals)
    → Rewrites old new n (lowered_by k (at old n)) → k ≤ users_or (at old n) → less ≡ some_users k (at old n) → next ≡ minus kept.totals less
    → FitBy hops old kept → FitBy hops new (record kept { totals = next })
fit_lowered hops old new n k kept next less writes few some is fit = (
  lowered_kept old new n kept.names hops kept.peers kept.differed fit.0 k writes,
  lowered_totals old new n kept.totals next less fit.1 k writes few some is,
  lowered_verdicts k old new kept.verdicts fit.2 n writes,
)

-- the same hops, however they are kept
pub fit_same : (hops hops' : Hops) (cases : Slots) (kept : Kept) → AreSameHops hops hops' → FitBy hops cases kept → FitBy hops' cases kept
fit_same hops hops' cases kept same fit = (
  record {
    indexed = record {
      named = fit.0.indexed.named;
      indexed = λ x y n. same x y n ∙ fit.0.indexed.indexed x y n;
      members = fit.0.indexed.members;
    };
    settled = fit.0.settled;
    listed = fit.0.listed;
    defaulted = fit.0.defaulted;
  },
  fit.1,
  fit.2,
)

-- cases that were judged anew, of which those that newly differ have come to the others
pub fit_rejudged : (old new : Slots) (before after : Kept) (differed newly : List ℕ) → FitTogether old before → AreSameCases old new → SayTheSame old new → HaveDiffered old new
    → AreNewlyDiffering old new newly → AreOnlyRejudged before after → ((n : ℕ) → has differed n ≡ (has after.differed n || has newly n))
    → after.totals ≡ totals_of new → AreVerdictsOf new after.verdicts → FitTogether new (record after { differed = differed })
fit_rejudged old new before after differed newly fit same say have told only more counted verdicts = (
  subst (λ (k : Kept). ((n : ℕ) → has differed n ≡ (has k.differed n || has newly n)) → AreKept new k.names (hops_have k.index) k.peers differed) (sym only)
      (λ more. rejudged_kept old new before.names (hops_have before.index) before.peers before.differed differed newly fit.0 same say have told more) more,
  counted,
  verdicts,
)

and_false : (b : Bool) → (b && false) ≡ false
and_false true = refl
and_false false = refl

-- where a case went with its chain, that had all its hops
pub whole_chain : (cases : Slots) (hops : Hops) (n : ℕ) (chain : List ℕ) → ((x y m : ℕ) → without_chain hops n chain x y m ≡ hops_of (at cases m) x y) → at cases n ≡ None
    → (x y : ℕ) → hops x y n ≡ true → has_hop chain x y ≡ true
whole_chain cases hops n chain indexed none x y there = by (has_hop chain x y) refl where
  by : (t : Bool) → has_hop chain x y ≡ t → t ≡ true
  by true told = refl
  by false told = absurd (true≢false (
      sym (ap (λ (b : Bool). b && not (nat_eq n n && has_hop chain x y)) there ∙ ap (λ (b : Bool). not (nat_eq n n && b)) told ∙ ap not (and_false (nat_eq n n)))
      ∙ indexed x y n ∙ ap (λ (case : Option StoredCase). hops_of case x y) none
      ))

-- and so far none go
pub staying_all : (index : Entries) (gone : List GoneHop) → ((x y n : ℕ) → has_gone gone x y n ≡ false) → AreSameHops (hops_have index) (staying index gone)
staying_all index gone none x y n = ap (λ (b : Bool). hops_have index x y n && not b) (none x y n) ∙ and-true (hops_have index x y n)
