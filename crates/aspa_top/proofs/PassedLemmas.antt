-- What is kept of what is passed down, from call to call.
use Rattle.std.proofs.Common.{◌∙◌, ℕ, List}
use Rattle.av_base.specs.declared.links.Links.{Ghosts as LinksOf}
use Rattle.av_base.specs.declared.shelf.Shelf.{Ghosts as ShelfOf}
use Rattle.av_base.specs.declared.sink.Sink.{Ghosts as SinkOf}
use Rattle.aspa_top.specs.declared.outside.Outside.{Outside as Passed}
use Rattle.aspa_top.specs.Outside.{Keeps, Outside}
use Rattle.aspa_top.specs.Passed.{KeepsAll}
use Rattle.aspa_top.proofs.KeepLemmas.{Keeps-trans}

-- whatever is held
pub Keeps-held : {old new : Outside} (before after : List ℕ) → Keeps old new → Keeps (record old { held = before }) (record new { held = after })
Keeps-held before after keeps = record { names = keeps.names; shelf_faults = keeps.shelf_faults; later = keeps.later; broke = keeps.broke; grows = keeps.grows; sink_faults = keeps.sink_faults }

module _ {F K W L : Type 0} {shelf : ShelfOf F} {links : LinksOf K} {sink : SinkOf W} where
  pub KeepsAll-trans : {old mid new : Passed F K W L} → KeepsAll shelf links sink old mid → KeepsAll shelf links sink mid new → KeepsAll shelf links sink old new
  KeepsAll-trans first second = record {
    lent = second.lent ∙ first.lent;
    keeps = Keeps-trans first.keeps second.keeps;
  }
