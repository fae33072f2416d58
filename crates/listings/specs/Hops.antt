-- The hops of a path, with what the two ASes of each attest of each other, and the text that explains a path.
use Rattle.std.specs.Prelude.{◌≡◌, ℕ, ◌+◌, ◌-◌, if◌then◌else◌, List, [], ◌++◌, length, map, flat_map, slice_index}
use Rattle.std.specs.List.{range_with_len}
use Rattle.path_model.specs.declared.verdict.Verdict.{Verdict}
use Rattle.path_model.specs.declared.witness.Witness.{Witness}
use Rattle.path_model.specs.Authority.{Table}
use Rattle.path_model.specs.Labelling.{downward, upward}
use Rattle.path_model.specs.Trail.{Path}
use Rattle.report_text.specs.declared.hop.Hop.{Hop}
use Rattle.report_text.specs.Hops.{hop_text}
use Rattle.report_text.specs.Why.{why_text}

-- the hop that joins the ASes at this place and the next of a chain; like a witness it counts hops from 1, at the origin
abbrev pub hop_at : Table → List ℕ → ℕ → Hop
hop_at table chain place = record {
  number = place + 1;
  from = slice_index chain place;
  to = slice_index chain (place + 1);
  climb = upward table chain place;
  descend = downward table chain place;
}

-- all hops of a chain, from the origin on
abbrev pub hops_of : Table → List ℕ → List Hop
hops_of table chain = map (hop_at table chain) (range_with_len 0 (length chain - 1))

-- those of a path; none where it has an AS_SET
abbrev pub path_hops : Table → Path → List Hop
path_hops table path = if path.set then [] else hops_of table path.chain

abbrev pub AreHops : Table → Path → List Hop → Type 0
AreHops table path hops = hops ≡ path_hops table path

-- the line of one
abbrev pub hop_row : Hop → List ℕ
hop_row = hop_text

-- The text that explains a path: why it has its verdict, and the lines of its hops.
abbrev pub explained_text : Table → Path → Verdict → Witness → List ℕ
explained_text table path verdict witness = why_text verdict witness ++ flat_map hop_row (path_hops table path)
