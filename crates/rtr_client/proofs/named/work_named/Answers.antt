use Rattle.std.proofs.Common.{◌≡◌, ◌+◌, ◌^◌, None, Some, sym, ap, ◌∙◌, arith}
use Rattle.std.specs.declared.option.Option.{Option}
use Rattle.rtr_client.specs.declared.feed.OpenFeed.{OpenFeed}
use Rattle.rtr_client.specs.declared.telling.Telling.TheVariants.{NoName, StreamOver}
use Rattle.rtr_client.specs.Holding.{feed_in}
use Rattle.rtr_client.specs.Lines.{units_of}
use Rattle.rtr_client.specs.Steps.{made_in}
use Rattle.connection_calls.proofs.ConnectionLemmas.{Spares-refl, Spares-weaker}
use Rattle.connection_calls.proofs.FaultsLemmas.{BreaksByFault-refl}
use Rattle.rtr_client.proofs.TakingLemmas.{on_err}
use Rattle.rtr_client.proofs.NamedLemmas.{works_named, began_named, refused_named, no_name, is_over, Puts-over, Puts-twice, IsSound-same, IsSound-put, on_its_own, SlotFits-more, there_some}
use Rattle.rtr_client.proofs.named.work_named.Goals as goal

-- ---- no feed has the name

pub returns-in-None-clause-works : goal.returns-in-None-clause-works
returns-in-None-clause-works g c =
    refused_named _ (g.K.Links.wire c.args.links.now) c.args.name.now c.args.work c.args.feeds.now c.lend.new.feeds NoName (made_in c.args.progress.now) c.args.steps.now c.in-None.ensures.same
    (λ world old holds. no_name (g.K.Links.wire c.args.links.now) c.args.name.now c.args.work (feed_in c.args.feeds.now c.args.name.now) (sym c.lend.ensures.was ∙ c.in-None.is) world old (old.feeds c.args.name.now) holds)

pub returns-in-None-clause-sound : goal.returns-in-None-clause-sound
returns-in-None-clause-sound g c = λ most sound. IsSound-same _ most (most + units_of c.args.work) c.args.feeds.now c.lend.new.feeds (omega arith) c.in-None.ensures.same sound

pub returns-in-None-clause-others : goal.returns-in-None-clause-others
returns-in-None-clause-others g c = Spares-refl _ _ _

-- ---- its session is over

pub returns-in-Some-None-clause-works : goal.returns-in-Some-None-clause-works
returns-in-Some-None-clause-works g c =
    let there : feed_in c.args.feeds.now c.args.name.now ≡ Some None = sym c.lend.ensures.was ∙ c.in-Some-None.is ∙ ap (λ (s : Option OpenFeed). Some s) c.in-Some-None.field-0-is in
    refused_named _ (g.K.Links.wire c.args.links.now) c.args.name.now c.args.work c.args.feeds.now c.lend.new.feeds StreamOver (made_in c.args.progress.now) c.args.steps.now
    (Puts-over c.args.feeds.now c.lend.new.feeds c.args.name.now there c.in-Some-None.ensures.now)
    (λ world old holds. is_over (g.K.Links.wire c.args.links.now) c.args.name.now c.args.work (feed_in c.args.feeds.now c.args.name.now) there world old (old.feeds c.args.name.now) holds)

pub returns-in-Some-None-clause-sound : goal.returns-in-Some-None-clause-sound
returns-in-Some-None-clause-sound g c = λ most sound.
    let there : feed_in c.args.feeds.now c.args.name.now ≡ Some None = sym c.lend.ensures.was ∙ c.in-Some-None.is ∙ ap (λ (s : Option OpenFeed). Some s) c.in-Some-None.field-0-is in
    IsSound-same _ most (most + units_of c.args.work) c.args.feeds.now c.lend.new.feeds (omega arith) (Puts-over c.args.feeds.now c.lend.new.feeds c.args.name.now there c.in-Some-None.ensures.now) sound

pub returns-in-Some-None-clause-others : goal.returns-in-Some-None-clause-others
returns-in-Some-None-clause-others g c = Spares-refl _ _ _

-- ---- it is worked on

pub work_on-requires-clause-fit : goal.work_on-requires-clause-fit
work_on-requires-clause-fit g c =
    let had = c.requires.sound.fit c.args.name.now c.in-Some-Some.feed (sym c.lend.ensures.was ∙ c.in-Some-Some.is ∙ ap (λ (s : Option OpenFeed). Some s) c.in-Some-Some.field-0-is) in
    record { usable = had.0; phase = had.1 }

pub work_on-requires-clause-room : goal.work_on-requires-clause-room
work_on-requires-clause-room g c =
    let had = c.requires.sound.fit c.args.name.now c.in-Some-Some.feed (sym c.lend.ensures.was ∙ c.in-Some-Some.is ∙ ap (λ (s : Option OpenFeed). Some s) c.in-Some-Some.field-0-is) in
    omega (arith, had.2)

pub returns-in_err-slot-in-Some-Some-clause-halts : goal.returns-in_err-slot-in-Some-Some-clause-halts
returns-in_err-slot-in-Some-Some-clause-halts g c =
    on_err c.from_residual.result c.from_residual.ensures.0
    (began_named (g.K.Links.attempts c.args.links.now) (g.K.Links.attempts c.work_on.new.links) (g.K.Links.wire c.args.links.now) (g.K.Links.wire c.work_on.new.links)
    (g.K.Links.standings c.args.links.now) (g.K.Links.standings c.work_on.new.links) c.args.name.now c.args.work c.args.feeds.now c.in-Some-Some.feed (made_in c.args.progress.now)
    c.args.steps.now c.work_on.new.steps c.work_on.ensures.attempts (2 ^ 61) c.requires.sound (sym c.lend.ensures.was ∙ c.in-Some-Some.is ∙ ap (λ (s : Option OpenFeed). Some s) c.in-Some-Some.field-0-is) c.work_on.ensures.only
    (g.met.K.Links.agrees c.work_on.new.links) c.in_err-slot-in-Some-Some.ensures.halts)

pub returns-in_err-slot-in-Some-Some-clause-others : goal.returns-in_err-slot-in-Some-Some-clause-others
returns-in_err-slot-in-Some-Some-clause-others g c =
    Spares-weaker c.work_on.ensures.only
    (λ other free. free.apart c.args.name.now c.in-Some-Some.feed (sym c.lend.ensures.was ∙ c.in-Some-Some.is ∙ ap (λ (s : Option OpenFeed). Some s) c.in-Some-Some.field-0-is))

pub give-requires : goal.give-requires
give-requires g c = there_some c.args.feeds.now c.lend.new.feeds c.args.name.now None c.in-Some-Some.ensures.now

pub returns-in_ok-slot-in-Some-Some-clause-works : goal.returns-in_ok-slot-in-Some-Some-clause-works
returns-in_ok-slot-in-Some-Some-clause-works g c =
    works_named (g.K.Links.attempts c.args.links.now) (g.K.Links.attempts c.work_on.new.links) (g.K.Links.wire c.args.links.now) (g.K.Links.wire c.work_on.new.links)
    (g.K.Links.standings c.args.links.now) (g.K.Links.standings c.work_on.new.links) c.args.name.now c.args.work c.args.feeds.now c.in-Some-Some.feed (made_in c.args.progress.now)
    c.args.steps.now c.work_on.new.steps c.work_on.ensures.attempts (2 ^ 61) c.requires.sound (sym c.lend.ensures.was ∙ c.in-Some-Some.is ∙ ap (λ (s : Option OpenFeed). Some s) c.in-Some-Some.field-0-is) c.work_on.ensures.only
    c.lend.new.feeds c.give.new.feeds c.in_ok-slot-in-Some-Some.slot c.in_ok-slot-in-Some-Some.told (made_in c.work_on.new.progress) c.in-Some-Some.ensures.now c.give.ensures c.in_ok-slot-in-Some-Some.ensures.works

pub returns-in_ok-slot-in-Some-Some-clause-sound : goal.returns-in_ok-slot-in-Some-Some-clause-sound
returns-in_ok-slot-in-Some-Some-clause-sound g c = λ most sound.
    let there = sym c.lend.ensures.was ∙ c.in-Some-Some.is ∙ ap (λ (s : Option OpenFeed). Some s) c.in-Some-Some.field-0-is in
    let had = sound.fit c.args.name.now c.in-Some-Some.feed there in
    IsSound-put c.args.name.now c.args.feeds.now c.give.new.feeds c.in_ok-slot-in-Some-Some.slot c.in-Some-Some.feed.link most (most + units_of c.args.work) (omega arith) sound
    (Puts-twice c.args.feeds.now c.lend.new.feeds c.give.new.feeds c.args.name.now c.in_ok-slot-in-Some-Some.slot c.in-Some-Some.ensures.now c.give.ensures) c.work_on.ensures.only
    (on_its_own _ most c.args.name.now c.args.feeds.now c.in-Some-Some.feed sound there)
    (SlotFits-more _ c.in-Some-Some.feed.link (c.in-Some-Some.feed.taken + units_of c.args.work) (most + units_of c.args.work) c.in_ok-slot-in-Some-Some.slot (omega (arith, had.2)) c.in_ok-slot-in-Some-Some.ensures.fits)

pub returns-in_ok-slot-in-Some-Some-clause-others : goal.returns-in_ok-slot-in-Some-Some-clause-others
returns-in_ok-slot-in-Some-Some-clause-others g c =
    Spares-weaker c.work_on.ensures.only
    (λ other free. free.apart c.args.name.now c.in-Some-Some.feed (sym c.lend.ensures.was ∙ c.in-Some-Some.is ∙ ap (λ (s : Option OpenFeed). Some s) c.in-Some-Some.field-0-is))

pub returns-in-None-clause-broke : goal.returns-in-None-clause-broke
returns-in-None-clause-broke g c = BreaksByFault-refl _ _

pub returns-in-Some-None-clause-broke : goal.returns-in-Some-None-clause-broke
returns-in-Some-None-clause-broke g c = BreaksByFault-refl _ _
