-- The parts of a Peer Up and of its OPENs as they are held; only private contracts cite it.
use Rattle.bmp_reader.specs.declared.opening.OpenParts.{OpenParts}
use Rattle.bmp_reader.specs.declared.opening.OpenTriple.{OpenTriple}
use Rattle.bmp_reader.specs.declared.up.UpParts.{UpParts}
use Rattle.bmp_reader.specs.Forms.{Up}
use Rattle.bmp_reader.specs.Opens.{Open, Triple}

abbrev pub open_of : OpenParts → Open
open_of parts = record { count = parts.count; parameters = parts.parameters.now }

abbrev pub triple_of : OpenTriple → Triple
triple_of triple = record { code = triple.code; value = triple.value.now }

abbrev pub up_of : UpParts → Up
up_of parts = record { header = parts.header; sent = open_of parts.sent; received = open_of parts.received }
