-- Which body a message has, by its type (RFC 7854, section 4.1).
use Rattle.std.specs.Prelude.{ℕ, ◌==◌, if◌then◌else◌}
use Rattle.bmp_reader.specs.declared.kind.Kind.{Kind}
use Rattle.bmp_reader.specs.declared.kind.Kind.TheVariants.{RouteMonitoring, PeerDown, PeerUp, Other}

abbrev pub kind_of : ℕ → Kind
kind_of kind = if kind == 0 then RouteMonitoring else (if kind == 2 then PeerDown else (if kind == 3 then PeerUp else Other))
