-- The parts of an UPDATE as they are held; only private contracts cite it.
use Rattle.bgp_attrs.specs.Left.{prefixes_left}
use Rattle.bgp_update.specs.declared.parting.Parts.{Parts}
use Rattle.bgp_update.specs.Updates.{Update}

abbrev pub update_of : Parts → Update
update_of parts = record { withdrawn = prefixes_left parts.withdrawn; attributes = parts.attributes.now; announced = prefixes_left parts.announced }
