-- What places stand for.
use Rattle.report_text.specs.declared.place.Place.{Place}
use Rattle.report_text.specs.declared.place.Place.TheVariants.{Line, Unit as AtUnit}
use Rattle.report_text.specs.Refusals.{AnyPlace, of_line, of_unit}

-- the place by its texts and numbers
abbrev pub place_of : Place → AnyPlace
place_of Line = of_line
place_of (AtUnit name unit) = of_unit name.now unit
