-- What the layer above knows of feeds that are held.
use Rattle.std.proofs.Common.{◌≡◌, ℕ, is_some, List, length, None, Some, refl}
use Rattle.std.specs.declared.option.Option.{Option}
use Rattle.av_base.specs.Connections.{Attempt, Link}
use Rattle.av_base.specs.declared.standing.Standing.{Standing}
use Rattle.rtr_client.specs.declared.feed.Feeds.{Feeds}
use Rattle.rtr_client.specs.declared.feed.OpenFeed.{OpenFeed}
use Rattle.rtr_client.specs.Feeds.{Feed}
use Rattle.rtr_client.specs.Holding.{HoldsFeeds, HoldsOr, IsSound, feed_in}
use Rattle.rtr_client.specs.Lines.{State}

-- ---- before the first line

none_holds : (wire : Option (List Link)) (found : Option (Option OpenFeed)) (held : Option (Option Feed)) → found ≡ None → held ≡ None → HoldsOr wire found held
none_holds wire None None is none = tt
none_holds wire None (Some s) is none = let no_feed : ⊥ = cc in absurd no_feed
none_holds wire (Some s) held is none = let no_feed : ⊥ = cc in absurd no_feed

-- no name is a feed's
pub start_holds : (attempts : Option (List Attempt)) (wire : Option (List Link)) (feeds : Feeds) (state : State) → ((name : List ℕ) → feed_in feeds name ≡ None) → ((name : List ℕ) → state.feeds name ≡ None)
    → ((now : List Attempt) → attempts ≡ Some now → state.made ≡ length now) → HoldsFeeds attempts wire feeds state
start_holds attempts wire feeds state none_kept none_held made = record {
  made = made;
  each = λ name. none_holds wire (feed_in feeds name) (state.feeds name) (none_kept name) (none_held name);
}

pub start_sound : (stands : List Standing) (most : ℕ) (feeds : Feeds) → ((name : List ℕ) → feed_in feeds name ≡ None) → IsSound stands most feeds
start_sound stands most feeds none_kept = record {
  fit = λ name kept is. let none = none_kept name in let no_feed : ⊥ = cc in absurd no_feed;
  apart = λ one other a b differs is is_other. let none = none_kept one in let no_feed : ⊥ = cc in absurd no_feed;
}

-- ---- a name

-- both tell whether the name is a feed's
pub HoldsOr-is_some : (wire : Option (List Link)) (found : Option (Option OpenFeed)) (held : Option (Option Feed)) → HoldsOr wire found held → is_some found ≡ is_some held
HoldsOr-is_some wire None None holds = refl
HoldsOr-is_some wire None (Some s) holds = absurd holds
HoldsOr-is_some wire (Some None) None holds = absurd holds
HoldsOr-is_some wire (Some None) (Some None) holds = refl
HoldsOr-is_some wire (Some None) (Some (Some feed)) holds = absurd holds
HoldsOr-is_some wire (Some (Some kept)) None holds = absurd holds
HoldsOr-is_some wire (Some (Some kept)) (Some None) holds = absurd holds
HoldsOr-is_some wire (Some (Some kept)) (Some (Some feed)) holds = refl
