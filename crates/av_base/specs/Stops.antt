-- How a failed read ends a run.
use Rattle.av_base.specs.declared.stop.ReadFault.{ReadFault}
use Rattle.av_base.specs.declared.stop.ReadFault.TheVariants.{Source, NoMemory}
use Rattle.av_base.specs.declared.stop.Stop.{Stop}
use Rattle.av_base.specs.declared.stop.Stop.TheVariants.{Shelf, NoMemory as OutOfMemory}

abbrev pub stop_of : ReadFault → Stop
stop_of Source = Shelf
stop_of NoMemory = OutOfMemory
