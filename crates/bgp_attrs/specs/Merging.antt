-- The path that AS_PATH and AS4_PATH give together (RFC 6793, section 4.2.3; confederation segments: RFC 5065, section 5).
use Rattle.std.specs.Prelude.{ℕ, ◌==◌, ◌-◌, nat_lt, Bool, true, false, ◌&&◌, not, if◌then◌else◌, List, [], ◌∷◌, ◌++◌, length, take, map, Some, None, option_map}
use Rattle.std.specs.declared.option.Option.{Option}
use Rattle.std.specs.List.{flat_map}
use Rattle.path_model.specs.Trail.{Path, path_of}
use Rattle.bgp_attrs.specs.declared.items.Item.{Item}
use Rattle.bgp_attrs.specs.declared.items.Item.TheVariants.{As, Set}
use Rattle.bgp_attrs.specs.Reading.{Reading}
use Rattle.bgp_attrs.specs.Segments.{Segment}

-- a set is one item, each AS of a sequence is one; confederation segments give none
abbrev pub segment_items : Segment → List Item
segment_items segment = if segment.0 == 1 then Set ∷ [] else (if segment.0 == 2 then map As segment.1 else [])

-- the items of a path, most recent first
abbrev pub items_in : List Segment → List Item
items_in segments = flat_map segment_items segments

-- the first items of the path, as many as it has more than the other one, and then the other one; the path alone where the other has more
abbrev pub merged : List Item → List Item → List Item
merged items others = if nat_lt (length items) (length others) then items else take (length items - length others) items ++ others

-- whether some item is a set
abbrev pub has_set : List Item → Bool
has_set [] = false
has_set (As x ∷ items) = has_set items
has_set (Set ∷ items) = true

-- the ASes that are items
abbrev pub ases_in : List Item → List ℕ
ases_in [] = []
ases_in (As x ∷ items) = x ∷ ases_in items
ases_in (Set ∷ items) = ases_in items

-- the path as it is judged
abbrev pub path_of_items : List Item → Path
path_of_items items = path_of (has_set items) (ases_in items)

-- both aggregators are there, and AGGREGATOR's AS isn't AS_TRANS: a speaker that knows two bytes alone aggregated behind the AS4_PATH
abbrev pub is_outdated : Option ℕ → Bool → Bool
is_outdated None there = false
is_outdated (Some x) there = there && not (x == 23456)

-- the AS4_PATH that is used
abbrev pub used : Bool → Option (List Segment) → Option (List Segment)
used outdated path4 = if outdated then None else path4

-- the items of an AS_PATH with the AS4_PATH that is used
abbrev pub merged_with : List Segment → Option (List Segment) → List Item
merged_with path None = items_in path
merged_with path (Some path4) = merged (items_in path) (items_in path4)

-- the AS4_PATH of the attributes, where it is used
abbrev pub used_in : Reading → Option (List Segment)
used_in reading = used (is_outdated reading.aggregator reading.aggregator4) reading.path4

-- the path that the attributes give, or None where they have no AS_PATH
abbrev pub trail_in : Reading → Option Path
trail_in reading = option_map (λ path. path_of_items (merged_with path (used_in reading))) reading.path
