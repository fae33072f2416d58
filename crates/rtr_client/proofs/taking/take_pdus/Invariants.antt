use Rattle.std.proofs.Common.{◌≡◌, ℕ, ◌+◌, ◌≤◌}
use Rattle.rtr_client.specs.declared.taking.Outcome.TheVariants.{Open as GoesOn}
use Rattle.connection_calls.specs.Faults.{BreaksByFault}
use Rattle.connection_calls.specs.Moves.{Only}
use Rattle.rtr_client.specs.Feeds.{Feed, TakesPdus}
use Rattle.rtr_client.specs.Holding.{AreWithin, StandsFor}
use Rattle.rtr_client.specs.Steps.{IsFit, StaysBeside, TookAs, going, made_in}
use Rattle.rtr_client.proofs.taking.take_pdus.Given as goal

abbrev pub invariant-loop-turn : goal.invariant-loop-turn
invariant-loop-turn g l = record {
  took : (state : Feed) (judgements : ℕ) → StandsFor (g.K.Links.wire l.fn.links) l.fn.feed state
      → TookAs (g.K.Links.wire l.links) l.fn.feed.link (AreWithin l.fn.steps l.steps judgements) (λ t. TakesPdus t l.wanted.until_ready l.wanted.name.now l._turn (going state (made_in l.fn.progress) judgements)) (GoesOn l.feed) (made_in l.progress);
  within : l._turn ≤ l.wanted.count;
  fit : IsFit (g.K.Links.standings l.links) l.feed;
  same : l.feed.link ≡ l.fn.feed.link;
  most : l.feed.taken ≤ l.fn.feed.taken + l._turn;
  only : Only l.fn.feed.link (g.K.Links.wire l.fn.links) (g.K.Links.wire l.links) (g.K.Links.standings l.fn.links) (g.K.Links.standings l.links);
  stays : StaysBeside l.fn.progress l.progress;
  attempts : g.K.Links.attempts l.links ≡ g.K.Links.attempts l.fn.links;
  broke : BreaksByFault (g.K.Links.faults l.fn.links) (g.K.Links.faults l.links) (g.K.Links.standings l.fn.links) (g.K.Links.standings l.links);
}
