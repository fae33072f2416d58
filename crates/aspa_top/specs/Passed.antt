-- All that a run is passed down, as one parameter; private contracts alone cite it.
use Rattle.std.specs.Prelude.{◌≡◌, ℕ, []}
use Rattle.av_base.specs.declared.links.Links.{Ghosts as LinksOf}
use Rattle.av_base.specs.declared.shelf.Shelf.{Ghosts as ShelfOf}
use Rattle.av_base.specs.declared.sink.Sink.{Ghosts as SinkOf}
use Rattle.aspa_top.specs.declared.outside.Outside.{Outside as Passed}
use Rattle.aspa_top.specs.Outside.{Keeps, Outside, outside}

-- the names under which all is lent
pub record Names : Type 0 where
  pub shelf : ℕ
  pub links : ℕ
  pub out : ℕ
  pub text : ℕ
  pub steps : ℕ

abbrev pub names_of : {F K W L : Type 0} → Passed F K W L → Names
names_of o =
    record { shelf = o.shelf.ghost_name; links = o.links.ghost_name; out = o.out.ghost_name; text = o.text.ghost_name; steps = o.steps.ghost_name }

module _ {F K W L : Type 0} (shelf : ShelfOf F) (links : LinksOf K) (sink : SinkOf W) where
  -- what it tells
  abbrev pub told : Passed F K W L → Outside
  told o = outside shelf links sink o.shelf.now o.links.now o.out.now o.text.now.items o.steps.now

  -- the same where nothing is held
  abbrev pub told_unheld : Passed F K W L → Outside
  told_unheld o = outside shelf links sink o.shelf.now o.links.now o.out.now [] o.steps.now

  -- what every call keeps of it: the same objects are lent
  pub record KeepsAll (old new : Passed F K W L) : Type 0 where
    pub lent : names_of new ≡ names_of old
    pub keeps : Keeps (told_unheld old) (told_unheld new)
