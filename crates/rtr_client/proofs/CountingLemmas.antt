-- What was done to a feed, with the change that follows and what it may cost.
use Rattle.std.proofs.Common.{◌≡◌, ℕ, ◌+◌, inl, inr, List, [], ◌∷◌, None, Some, refl, sym, ◌∙◌, ap, subst, arith}
use Rattle.std.specs.Prelude.{OnOk}
use Rattle.std.specs.Result.{IsErr}
use Rattle.std.specs.declared.option.Option.{Option}
use Rattle.std.specs.declared.result.Result.{Result}
use Rattle.std.specs.declared.result.Result.TheVariants.{Ok, Err}
use Rattle.av_base.specs.Connections.{Agrees, IsUsable, Link}
use Rattle.av_base.specs.declared.standing.Standing.{Standing}
use Rattle.origin_model.specs.Current.{Parts}
use Rattle.origin_model.proofs.SaidLemmas.{one_set}
use Rattle.origin_validation.specs.Records.{or_none, source_of, with_source}
use Rattle.rib_store.specs.State.{State as Analysis}
use Rattle.analyser.specs.declared.event.Event.TheVariants.{Table}
use Rattle.analyser.specs.declared.progress.Progress.{Progress}
use Rattle.analyser.specs.Events.{Happens}
use Rattle.analyser.specs.Touched.{TicksWithin}
use Rattle.analyser.proofs.CostLemmas.{some_cost}
use Rattle.analyser.proofs.EventLemmas.{some_outcome}
use Rattle.rtr_client.specs.declared.changing.PayloadsChange.{PayloadsChange}
use Rattle.rtr_client.specs.declared.changing.PayloadsChange.TheVariants.{Replace as ReplacePayloads, Patch as PatchPayloads}
use Rattle.rtr_client.specs.declared.changing.SourceChange.{SourceChange}
use Rattle.rtr_client.specs.declared.feed.OpenFeed.{OpenFeed}
use Rattle.rtr_client.specs.declared.taking.Outcome.{Outcome}
use Rattle.rtr_client.specs.declared.taking.Outcome.TheVariants.{Open as GoesOn, Ended}
use Rattle.rtr_client.specs.declared.telling.Telling.{Telling}
use Rattle.connection_calls.specs.Connection.{Now}
use Rattle.connection_calls.specs.Moves.{KeepsSent}
use Rattle.rtr_client.specs.Feeds.{Feed, Taking, Changes, ChangesPayloads, Stays, Follows}
use Rattle.rtr_client.specs.Holding.{AreWithin, StandsFor}
use Rattle.rtr_client.specs.Steps.{Before, Halted, Made, MayDo, MovedAs, OutcomeFits, Passes, StaysBeside, TookAs, going, made, over, taking}
use Rattle.connection_calls.proofs.ConnectionLemmas.{Now-map, Ever-map}
use Rattle.connection_calls.proofs.StandingLemmas.{still_open}

-- ---- what stays

pub beside_trans : (old mid new : Progress) → StaysBeside old mid → StaysBeside mid new → StaysBeside old new
beside_trans old mid new first then = then ∙ ap (λ (p : Progress). record p { analyser = new.analyser; origins = new.origins }) first

-- ---- changes

-- some records are what a change makes of others
some_payloads : (name : List ℕ) (change : PayloadsChange) (old : Parts) → (new : Parts) × ChangesPayloads name change old new
some_payloads name (ReplacePayloads payloads) old = (with_source old name payloads, refl)
some_payloads name (PatchPayloads changes) old =
    let one = one_set changes (or_none (source_of old.sources name)) in
    (with_source old name one.one, record { payloads = one.one; patches = one.is; puts = refl })

-- what is said of a result that is no error
on_no_ok : {A E : Type 0} (P : Type 0) (result : Result A E) → IsErr result → OnOk result P
on_no_ok P (Ok x) is = let none : ⊥ = cc in absurd none
on_no_ok P (Err e) is = tt

-- a change is made, whether or not there is memory for it
module _ {E : Type 0} (before after : ℕ) (change : SourceChange) (old : Taking) (slot : Option Feed) (few : TicksWithin old.state (Table change.rows) before after) where
  changes : (result : Result (Unit {0}) E) (got next : Made) → OnOk result (got ≡ next) → Happens old.state (Table change.rows) next.analysis
      → ChangesPayloads change.name change.payloads old.parts next.parts → Passes result got before after old (Changes old change) slot
  changes result got next is happens payloads =
      let cost = some_cost old.state (Table change.rows) next.analysis in
      let most = few next.analysis cost.0 happens cost.1 in
      record {
        state = next;
        judgements = old.judgements + cost.0;
        is = is;
        within = omega (arith, most);
        done = record { happens = happens; cost = cost.0; costs = cost.1; counted = refl; payloads = payloads };
      }

  -- all of it
  pub change_passes : (next : Made) → Happens old.state (Table change.rows) next.analysis → ChangesPayloads change.name change.payloads old.parts next.parts
      → Passes {E = E} (Ok tt) next before after old (Changes old change) slot
  change_passes next happens payloads = changes (Ok tt) next next refl happens payloads

  -- there was no memory for the records
  pub records_fail : (result : Result (Unit {0}) E) (got : Made) (next : Analysis) → IsErr result → Happens old.state (Table change.rows) next → Passes result got before after old (Changes old change) slot
  records_fail result got next is happens =
      let some = some_payloads change.name change.payloads old.parts in
      changes result got (made next some.0) (on_no_ok (got ≡ made next some.0) result is) happens some.1

  -- there was none for the event
  pub event_fails : (result : Result (Unit {0}) E) (got : Made) → IsErr result → Passes result got before after old (Changes old change) slot
  event_fails result got is = let one = some_outcome old.state (Table change.rows) in records_fail result got one.0 is one.1

-- none was due
pub stays_passes : {E : Type 0} (steps : ℕ) (state : Made) (old : Taking) (slot : Option Feed) → old.state ≡ state.analysis → old.parts ≡ state.parts
    → Passes {E = E} (Ok tt) state steps steps old (Stays old) slot
stays_passes steps state old slot from from_parts = record {
  state = made old.state old.parts;
  judgements = old.judgements;
  is = λ i. made (sym from i) (sym from_parts i);
  within = omega arith;
  done = refl;
}

-- ---- with the feed

-- the next analysis and records, where there was memory for them
passed : {E : Type 0} (after : Made) (steps_old steps_new : ℕ) (old : Taking) (does : Taking → Type 0) (slot : Option Feed) → Passes {E = E} (Ok tt) after steps_old steps_new old does slot
    → (judgements : ℕ) × AreWithin steps_old steps_new old.judgements judgements × does (taking slot after judgements)
passed after steps_old steps_new old does slot passes =
    (passes.judgements, passes.within, subst (λ (s : Made). does (taking slot s passes.judgements)) (sym passes.is) passes.done)

module _ {E : Type 0} (wire : Option (List Link)) (link : ℕ) (change : Option SourceChange) (takes : Link → Taking → List Telling → Taking → Type 0) (after : Made) (steps_old steps_new : ℕ) (old : Taking) where
  pub moved_took : (outcome : Outcome) → MovedAs wire link (λ t. Before change (takes t)) outcome → ((slot : Option Feed) → Passes {E = E} (Ok tt) after steps_old steps_new old (Follows change old) slot)
      → TookAs wire link (AreWithin steps_old steps_new old.judgements) (λ t. takes t old) outcome after
  moved_took (GoesOn kept) moved passes =
      let had = passed after steps_old steps_new old (Follows change old) (Some moved.0) (passes (Some moved.0)) in
      (moved.0, had.0, moved.1, moved.2, had.1, Ever-map (λ t before. before old (going moved.0 after had.0) refl had.2) moved.3)
  moved_took (Ended telling) moved passes =
      let had = passed after steps_old steps_new old (Follows change old) None (passes None) in
      (had.0, had.1, Ever-map (λ t before. before old (over after had.0) refl had.2) moved)

  -- for want of memory at the event
  pub moved_halted : (result : Result (Unit {0}) E) (outcome : Outcome) → MovedAs wire link (λ t. Before change (takes t)) outcome → ((slot : Option Feed) → Passes result after steps_old steps_new old (Follows change old) slot)
      → (standings : List Standing) (most : ℕ) → Agrees wire standings → OutcomeFits standings link most outcome
      → Halted wire link (AreWithin steps_old steps_new old.judgements) (λ t. MayDo (takes t old) old)
  moved_halted result (GoesOn kept) moved passes standings most agrees fits =
      let had = passes (Some moved.0) in
      let stands : StandsFor wire kept moved.0 = moved.1 in
      record {
        end = going moved.0 had.state had.judgements;
        few = had.within;
        done = Ever-map (λ t before. inr ([], before old (going moved.0 had.state had.judgements) refl had.done)) moved.3;
        sent = (
          moved.2,
          still_open wire standings link moved.0.sent agrees (subst (λ k. IsUsable standings k) fits.1 fits.0.usable)
              (subst (λ k. Now wire k (λ t. t.sent ≡ moved.0.sent)) (stands.link ∙ moved.2) (Now-map (λ t has. has.gave) stands.now)),
        );
      }
  moved_halted result (Ended telling) moved passes standings most agrees fits =
      let had = passes None in
      record {
        end = over had.state had.judgements;
        few = had.within;
        done = Ever-map (λ t before. inr (telling ∷ [], before old (over had.state had.judgements) refl had.done)) moved;
        sent = tt;
      }

-- nothing was done
pub none_halted : (old new : Option (List Link)) (kept : OpenFeed) (takes : Link → List Telling → Taking → Type 0) (state : Made) (steps : ℕ) (feed : Feed) (judgements : ℕ) → StandsFor old kept feed → KeepsSent kept.link old new
    → (standings : List Standing) → Agrees new standings → IsUsable standings kept.link
    → Halted new kept.link (AreWithin steps steps judgements) (λ t. MayDo (takes t) (going feed state judgements))
none_halted old new kept takes state steps feed judgements stands keeps standings agrees usable = record {
  end = going feed state judgements;
  few = omega arith;
  done = λ links final told goes t there. inl refl;
  sent = (sym stands.link, still_open new standings kept.link feed.sent agrees usable (keeps.keeps feed.sent (Now-map (λ t had. had.gave) stands.now)));
}
