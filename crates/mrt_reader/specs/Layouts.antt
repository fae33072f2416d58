-- Which layout a record's body has, by its type and subtype (RFC 6396, section 4; extended timestamps: section 3; path identifiers: RFC
-- 8050, sections 3 and 4).
use Rattle.std.specs.Prelude.{ℕ, ◌==◌, Bool, true, false, if◌then◌else◌}
use Rattle.mrt_reader.specs.declared.layout.Layout.{Layout}
use Rattle.mrt_reader.specs.declared.layout.Layout.TheVariants.{PeerIndex, Rib, Dump, Message, State, Other}

-- TABLE_DUMP: the subtypes are families
abbrev pub dump_layout : ℕ → Layout
dump_layout subtype = if subtype == 1 then Dump false else (if subtype == 2 then Dump true else Other)

-- TABLE_DUMP_V2: PEER_INDEX_TABLE, RIB_IPV4_UNICAST, RIB_IPV6_UNICAST, and the last two with path identifiers: RIB_IPV4_UNICAST_ADDPATH,
-- RIB_IPV6_UNICAST_ADDPATH
abbrev pub table_layout : ℕ → Layout
table_layout subtype =
    if subtype == 1 then PeerIndex
    else (if subtype == 2 then Rib false false else (if subtype == 4 then Rib true false else (if subtype == 8 then Rib false true else (if subtype == 10 then Rib true true else Other))))

-- BGP4MP: STATE_CHANGE, MESSAGE, MESSAGE_AS4, STATE_CHANGE_AS4, and messages with path identifiers: MESSAGE_ADDPATH, MESSAGE_AS4_ADDPATH
abbrev pub session_layout : Bool → ℕ → Layout
session_layout timed subtype =
    if subtype == 0 then State timed false
    else (if subtype == 1 then Message timed false false else (if subtype == 4 then Message timed true false
    else (if subtype == 5 then State timed true else (if subtype == 8 then Message timed false true else (if subtype == 9 then Message timed true true else Other)))))

abbrev pub layout_of : ℕ → ℕ → Layout
layout_of mrt_type subtype =
    if mrt_type == 12 then dump_layout subtype else (if mrt_type == 13 then table_layout subtype else (if mrt_type == 16 then session_layout false subtype else (if mrt_type == 17 then session_layout true subtype else Other)))
