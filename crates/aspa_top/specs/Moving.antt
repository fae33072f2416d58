-- What the attempts and the connections say of a state.
use Rattle.std.specs.Prelude.{List}
use Rattle.std.specs.declared.option.Option.{Option}
use Rattle.av_base.specs.Connections.{Attempt, Link}
use Rattle.rtr_client.specs.Holding.{HasMoved as FeedsMoved}
use Rattle.rtr_server.specs.Routers.{HasSentAll}
use Rattle.aspa_top.specs.Tasks.{State, feeds_of}

-- As many attempts were made as in this state. These bytes were sent on the connections of the feeds that go on, none of which is closed or
-- broken, and to the router that is served still, if one is.
pub record HaveMoved (attempts : Option (List Attempt)) (wire : Option (List Link)) (state : State) : Type 0 where
  pub feeds : FeedsMoved attempts wire (feeds_of state)
  pub router : HasSentAll wire state.begun
