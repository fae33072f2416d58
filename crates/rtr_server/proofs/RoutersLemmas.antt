-- Routers one after another.
use Rattle.std.proofs.Common.{◌≡◌, ◌≢◌, ℕ, zero, suc, ◌+◌, ◌<◌, ◌≤◌, true, false, inl, inr, List, [], ◌∷◌, ◌++◌, length, refl, sym, ap, subst, ◌∙◌, arith, append-nil, length-append}
use Rattle.std.specs.Prelude.{slice_get}
use Rattle.std.specs.Io.KnownBytes.{append_known}
use Rattle.std.specs.declared.option.Option.{Option}
use Rattle.std.specs.declared.option.Option.TheVariants.{Some, None}
use Rattle.av_base.specs.Connections.{AddsAttempt, Agrees, Attempt, IsUsable, Link, Made, ToldLater, Unaccepted}
use Rattle.av_base.specs.declared.standing.Standing.{Standing}
use Rattle.av_base.proofs.ToldLemmas.{append_known-append, append_known-nil}
use Rattle.rtr_cache.specs.Cache.{Versions}
use Rattle.connection_calls.specs.Connection.{Has, Now, Spares}
use Rattle.connection_calls.specs.Moves.{Ever}
use Rattle.connection_calls.specs.World.{AddsAttempts, ComesTo, InEnd, World}
use Rattle.connection_calls.proofs.ConnectionLemmas.{Ever-later, Ever-now, Spares-trans, Spares-weaker}
use Rattle.connection_calls.proofs.GoingLemmas.{ComesTo-earlier, Now-later, in_end, is_attempt, one_more}
use Rattle.connection_calls.proofs.StandingLemmas.{still_open}
use Rattle.rtr_server.specs.declared.outcome.Outcome.{Outcome}
use Rattle.rtr_server.specs.declared.routers.Served.{Served}
use Rattle.rtr_server.specs.Outcomes.{all_lines, lines_in, outcomes_text, outcome_text, routers_text}
use Rattle.rtr_server.specs.Routers.{AnswersFirst, AreMade, AreServed, Halts, HaltedAs, IsServed, NoneMore, ServedAs, Unreached, Unreported}
use Rattle.rtr_server.specs.Serving.{Serves, started}
use Rattle.rtr_server.specs.Steps.{Halted, ServedSoFar, TurnHalted, TurnedAs}
use Rattle.rtr_server.proofs.OutcomesLemmas.{all_answers-push, all_lines-push, outcomes_text-push, push_cases}

-- ---- one attempt

made_one : {old new : Option (List Attempt)} (attempt : Attempt) → AddsAttempt old new attempt → (before : ℕ) → AreMade old before → AreMade new (before + 1)
made_one attempt adds before are now told = let had = one_more attempt adds now told in let same = are had.0 had.1 in omega (arith, had.2, same)

made_none : (attempts : Option (List Attempt)) (before : ℕ) → AreMade attempts before → AreMade attempts (before + 0)
made_none attempts before are now told = let same = are now told in omega (arith, same)

-- of a router that was accepted
module _ (attempts_old attempts_new : Option (List Attempt)) (wire_mid wire_new : Option (List Link)) (cache : Versions) (place : List ℕ) (link : ℕ)
    (adds : AddsAttempt attempts_old attempts_new (Made link)) (here : Now wire_mid link (λ t. (t.place ≡ place) × Has [] [] t)) (later : ToldLater wire_mid wire_new) where
  -- what will be so of its connection, which is at the place
  accepted_in_end : (p : Link → Type 0) → Ever wire_new link p → (world : World) → ComesTo attempts_new wire_new world → InEnd world link (λ t. (t.place ≡ place) × p t)
  accepted_in_end p ever world comes =
      in_end link (Now-later link later here)
      (λ links final is goes t there. ((Ever-later link (λ u. u.place ≡ place) later (Ever-now (λ t u h after. after.place ∙ h.0) here)) links final is goes t there, ever links final is goes t there)) world comes

  is_served : (out : Outcome) → Ever wire_new link (λ t. Serves t cache 65536 started out) → (before : ℕ) → AreMade attempts_old before → (world : World) → ComesTo attempts_new wire_new world → IsServed world cache place before out
  is_served out ever before are world comes = record {
    link = link;
    accepted = is_attempt (Made link) adds before are world comes;
    serves = accepted_in_end (λ t. Serves t cache 65536 started out) ever world comes;
  }

  pub turned_served : (line : ℕ) (out : Outcome) (all_old all_new : Option (List ℕ)) → Ever wire_new link (λ t. Serves t cache 65536 started out) → all_new ≡ append_known all_old (outcome_text line out)
      → TurnedAs attempts_old attempts_new wire_new cache line place (Some out) all_old all_new
  turned_served line out all_old all_new ever added = record { added = added; made = made_one (Made link) adds; serves = is_served out ever }

  -- there was no memory for the report
  pub halted_unreported : (out : Outcome) (all_old all_new : Option (List ℕ)) → Ever wire_new link (λ t. Serves t cache 65536 started out) → all_new ≡ all_old
      → TurnHalted attempts_old attempts_new wire_new cache place all_old all_new
  halted_unreported out all_old all_new ever same = record { begun = Unreported out; same = same; made = made_one (Made link) adds; sent = tt; begins = is_served out ever }

  -- or for a reply
  pub halted_router : (stands : List Standing) (all_old all_new : Option (List ℕ)) → Agrees wire_new stands → IsUsable stands link → Halted wire_new link cache → all_new ≡ all_old
      → TurnHalted attempts_old attempts_new wire_new cache place all_old all_new
  halted_router stands all_old all_new agrees usable halted same = record {
    begun = Halts link halted.state;
    same = same;
    made = made_one (Made link) adds;
    sent = still_open wire_new stands link halted.state.sent agrees usable halted.sent;
    begins = λ before are world comes.
        let last = accepted_in_end (λ t. AnswersFirst t cache place halted.state) at_place world comes in
        (is_attempt (Made link) adds before are world comes, record { t = last.t; there = last.there; so = last.so.1 });
  }
    where
      at_place : Ever wire_new link (λ t. AnswersFirst t cache place halted.state)
      at_place = λ links final is goes t there. record {
        there = (Ever-later link (λ u. u.place ≡ place) later (Ever-now (λ t u h after. after.place ∙ h.0) here)) links final is goes t there;
        count = halted.count;
        few = halted.few;
        first = halted.first links final is goes t there;
      }

-- of one that failed
module _ (attempts_old attempts_new : Option (List Attempt)) (wire : Option (List Link)) (cache : Versions) (place : List ℕ) (adds : AddsAttempt attempts_old attempts_new (Unaccepted place)) where
  pub turned_failed : (line : ℕ) (all_old all_new : Option (List ℕ)) → all_new ≡ append_known all_old (routers_text line [] false) → TurnedAs attempts_old attempts_new wire cache line place None all_old all_new
  turned_failed line all_old all_new added = record { added = added; made = made_one (Unaccepted place) adds; serves = is_attempt (Unaccepted place) adds }

  pub halted_unreached : (all_old all_new : Option (List ℕ)) → all_new ≡ all_old → TurnHalted attempts_old attempts_new wire cache place all_old all_new
  halted_unreached all_old all_new same = record { begun = Unreached; same = same; made = made_one (Unaccepted place) adds; sent = tt; begins = is_attempt (Unaccepted place) adds }

-- none was made
pub halted_none : (attempts : Option (List Attempt)) (wire : Option (List Link)) (cache : Versions) (place : List ℕ) (all_old all_new : Option (List ℕ)) → all_new ≡ all_old → TurnHalted attempts attempts wire cache place all_old all_new
halted_none attempts wire cache place all_old all_new same = record { begun = NoneMore; same = same; made = made_none attempts; sent = tt; begins = λ before are world comes. tt }

-- ---- one after another

pub so_far_start : (attempts : Option (List Attempt)) (wire : Option (List Link)) (cache : Versions) (line : ℕ) (place : List ℕ) (all : Option (List ℕ)) → ServedSoFar attempts attempts wire cache line place 0 0 0 all all
so_far_start attempts wire cache line place all = record {
  outcomes = [];
  size = refl;
  answers_are = refl;
  refused_are = refl;
  added = sym (append_known-nil all);
  made = made_none attempts;
  are = λ before are world comes k out is. let none : ⊥ = cc in absurd none;
}

module _ (attempts_old attempts_now attempts_new : Option (List Attempt)) (wire_now wire_new : Option (List Link)) (cache : Versions) (line : ℕ) (place : List ℕ) (done answers refused : ℕ)
    (all_old all_now all_new : Option (List ℕ)) (so_far : ServedSoFar attempts_old attempts_now wire_now cache line place done answers refused all_old all_now)
    (adds : AddsAttempts wire_now attempts_now attempts_new) (later : ToldLater wire_now wire_new) where
  -- what came of the routers so far
  still_served : (before : ℕ) → AreMade attempts_old before → (world : World) → ComesTo attempts_new wire_new world → AreServed world cache place before so_far.outcomes
  still_served before are world comes = so_far.are before are world (ComesTo-earlier adds later world comes)

  -- one more is reported
  module _ (out : Outcome) (turned : TurnedAs attempts_now attempts_new wire_new cache line place (Some out) all_now all_new) where
    all_served : (before : ℕ) → AreMade attempts_old before → (world : World) → ComesTo attempts_new wire_new world → AreServed world cache place before (so_far.outcomes ++ out ∷ [])
    all_served before are world comes k one is = elim (push_cases so_far.outcomes out one k is) [
      | inl had ↦ still_served before are world comes k one had
      | inr last ↦
          subst (λ (o : Outcome). IsServed world cache place (before + k) o) (sym last.1)
          (subst (λ n. IsServed world cache place (before + n) out) (sym last.0) (turned.serves (before + length so_far.outcomes) (so_far.made before are) world comes))
    ]

    pub so_far_next : ServedSoFar attempts_old attempts_new wire_new cache line place (done + 1) (answers + out.answers) (refused + lines_in out) all_old all_new
    so_far_next = record {
      outcomes = so_far.outcomes ++ out ∷ [];
      size = length-append so_far.outcomes (out ∷ []) ∙ ap (λ n. n + 1) so_far.size;
      answers_are = ap (λ n. n + out.answers) so_far.answers_are ∙ sym (all_answers-push so_far.outcomes out);
      refused_are = ap (λ n. n + lines_in out) so_far.refused_are ∙ sym (all_lines-push so_far.outcomes out);
      added =
          turned.added ∙ ap (λ (m : Option (List ℕ)). append_known m (outcome_text line out)) so_far.added
          ∙ append_known-append all_old (outcomes_text line so_far.outcomes) (outcome_text line out)
          ∙ ap (append_known all_old) (sym (outcomes_text-push line so_far.outcomes out));
      made = λ before are.
          subst (AreMade attempts_new) (more before) (turned.made (before + length so_far.outcomes) (so_far.made before are));
      are = all_served;
    }
      where
        more : (before : ℕ) → before + length so_far.outcomes + 1 ≡ before + length (so_far.outcomes ++ out ∷ [])
        more before = omega (arith, length-append so_far.outcomes (out ∷ []))

  -- none is accepted any more
  pub served_failed : (count : ℕ) (served : Served) → TurnedAs attempts_now attempts_new wire_new cache line place None all_now all_new → done < count
      → served ≡ record { accepted = done; answers = answers; refused = refused + 1; reached = false } → ServedAs attempts_old attempts_new wire_new cache line place count served all_old all_new
  served_failed count served turned few is = rw is (record {
    outcomes = so_far.outcomes;
    text = routers_text line so_far.outcomes false;
    reports = record { text_is = refl; accepted = sym so_far.size; answers = so_far.answers_are; refused = ap (λ n. n + 1) so_far.refused_are };
    added =
        turned.added ∙ ap (λ (m : Option (List ℕ)). append_known m (routers_text line [] false)) so_far.added
        ∙ append_known-append all_old (outcomes_text line so_far.outcomes) (routers_text line [] false);
    made = λ before are. subst (AreMade attempts_new) (sizes before) (turned.made (before + length so_far.outcomes) (so_far.made before are));
    serves = λ before are world comes. record {
      are = still_served before are world comes;
      ends = (omega (arith, so_far.size, few), turned.serves (before + length so_far.outcomes) (so_far.made before are) world comes);
    };
  })
    where
      sizes : (before : ℕ) → before + length so_far.outcomes + 1 ≡ before + (done + 1)
      sizes before = omega (arith, so_far.size)

  -- it ended early
  pub served_halted : (count : ℕ) → done ≤ count → TurnHalted attempts_now attempts_new wire_new cache place all_now all_new → HaltedAs attempts_old attempts_new wire_new cache line place count all_old all_new
  served_halted count few halted = record {
    outcomes = so_far.outcomes;
    begun = halted.begun;
    added = halted.same ∙ so_far.added;
    made = λ before are. halted.made (before + length so_far.outcomes) (so_far.made before are);
    sent = halted.sent;
    serves = λ before are world comes. record {
      are = still_served before are world comes;
      few = omega (arith, so_far.size, few);
      begins = halted.begins (before + length so_far.outcomes) (so_far.made before are) world comes;
    };
  }

-- there were as many as were asked for
pub served_all : (attempts_old attempts_now : Option (List Attempt)) (wire_now : Option (List Link)) (cache : Versions) (line : ℕ) (place : List ℕ) (done answers refused : ℕ)
    (all_old all_now : Option (List ℕ)) (so_far : ServedSoFar attempts_old attempts_now wire_now cache line place done answers refused all_old all_now) (count : ℕ) (served : Served) → done ≡ count
    → served ≡ record { accepted = count; answers = answers; refused = refused; reached = true } → ServedAs attempts_old attempts_now wire_now cache line place count served all_old all_now
served_all attempts_old attempts_now wire_now cache line place done answers refused all_old all_now so_far count served all is = rw is (record {
  outcomes = so_far.outcomes;
  text = routers_text line so_far.outcomes true;
  reports = record { text_is = refl; accepted = sym (so_far.size ∙ all); answers = so_far.answers_are; refused = so_far.refused_are ∙ plus_none (all_lines so_far.outcomes) };
  added = so_far.added ∙ ap (append_known all_old) (sym (nothing_more (outcomes_text line so_far.outcomes)));
  made = λ before are. subst (AreMade attempts_now) (sizes before) (so_far.made before are);
  serves = λ before are world comes. record { are = so_far.are before are world comes; ends = so_far.size ∙ all };
})
  where
    nothing_more : (text : List ℕ) → text ++ [] ≡ text
    nothing_more text = append-nil text

    plus_none : (n : ℕ) → n ≡ n + 0
    plus_none n = omega arith

    sizes : (before : ℕ) → before + length so_far.outcomes ≡ before + (count + 0)
    sizes before = omega (arith, so_far.size, all)

-- ---- the connections before

-- a router was accepted and served
pub spares_router : {one two three : Option (List Link)} {a b c : List Standing} (link : ℕ) → link ≡ length a → Spares (λ other. other ≢ length a) one two a b → Spares (λ other. other ≢ link) two three b c
    → Spares (λ other. other < length a) one three a c
spares_router {one} {two} {three} {a} {b} {c} link number made served =
    Spares-trans (Spares-weaker made (λ other below. λ e. let never : ⊥ = omega (arith, below, e) in never)) (Spares-weaker served (λ other below. λ e. let never : ⊥ = omega (arith, below, number, e) in never))

-- one turn more
pub spares_more : {one two three : Option (List Link)} {a b c : List Standing} → Spares (λ other. other < length a) one two a b → length a ≤ length b → Spares (λ other. other < length b) two three b c
    → Spares (λ other. other < length a) one three a c
spares_more {one} {two} {three} {a} {b} {c} first longer next = Spares-trans first (Spares-weaker next (λ other below. omega (arith, below, longer)))

keeps_length : (n : ℕ) (stood stands : List Standing) → ((other : ℕ) → other < n → slice_get stands other ≡ slice_get stood other) → n ≤ length stood → n ≤ length stands
keeps_length zero stood stands same within = omega arith
keeps_length (suc n) [] stands same within = let never : ⊥ = omega (arith, within) in absurd never
keeps_length (suc n) (x ∷ stood) [] same within = let never : ⊥ = (let e = same 0 (omega arith) in cc) in absurd never
keeps_length (suc n) (x ∷ stood) (y ∷ stands) same within =
    let more = keeps_length n stood stands (λ other below. same (suc other) (omega (arith, below))) (omega (arith, within)) in omega (arith, more)

pub still_long : {old new : Option (List Link)} (stood stands : List Standing) → Spares (λ other. other < length stood) old new stood stands → length stood ≤ length stands
still_long stood stands spares = keeps_length (length stood) stood stands spares.standing (omega arith)
