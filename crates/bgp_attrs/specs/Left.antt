-- What the iterators have still to give.
use Rattle.std.specs.Prelude.{ℕ, List, [], unwrap_or}
use Rattle.path_model.specs.declared.nlri.Nlri.{Nlri}
use Rattle.bgp_attrs.specs.declared.pieces.Ases.{Ases}
use Rattle.bgp_attrs.specs.declared.pieces.Segments.{Segments}
use Rattle.bgp_attrs.specs.declared.pieces.Prefixes.{Prefixes}
use Rattle.bgp_attrs.specs.declared.pieces.Attribute.{Attribute}
use Rattle.bgp_attrs.specs.declared.pieces.AttributeList.{AttributeList}
use Rattle.bgp_attrs.specs.Attributes.{Field, field_at}
use Rattle.bgp_attrs.specs.Joined.{items_of}
use Rattle.bgp_attrs.specs.Prefixes.{nlri_at}
use Rattle.bgp_attrs.specs.Segments.{Segment, ases_of, segment_at}

-- the ASes
abbrev pub ases_left : Ases → List ℕ
ases_left ases = ases_of ases.wide ases.rest.now

-- each segment's kind and ASes
abbrev pub segments_left : Segments → List Segment
segments_left segments = unwrap_or (items_of (segment_at segments.wide) segments.rest.now) []

-- the prefixes, each with its path identifier if it has one
abbrev pub prefixes_left : Prefixes → List Nlri
prefixes_left prefixes = unwrap_or (items_of (nlri_at prefixes.add_path prefixes.six) prefixes.rest.now) []

-- an attribute's type and content
abbrev pub field_of : Attribute → Field
field_of attribute = record { kind = attribute.kind; content = attribute.content.now }

-- the attributes
abbrev pub fields_left : AttributeList → List Field
fields_left attributes = unwrap_or (items_of field_at attributes.rest.now) []
