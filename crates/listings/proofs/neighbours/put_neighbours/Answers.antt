use Rattle.std.proofs.Common.{map, sym, subst}
use Rattle.attestations.specs.ComputedTable.{table_of}
use Rattle.listings.specs.EachNeighbour.{row_of}
use Rattle.listings.specs.Neighbours.{AreNeighboursOf, neighbour_row}
use Rattle.listings.proofs.ListingLemmas.{all_listed}
use Rattle.listings.proofs.neighbours.put_neighbours.Goals as goal

pub returns : goal.returns
returns g c =
    let state = c.args.store.now.state in
    all_listed (AreNeighboursOf state c.args.asn) neighbour_row (map (row_of (table_of c.table.result.now) c.args.asn) c.iter.result) _ _ _
    (subst (AreNeighboursOf state c.args.asn) (λ i. map (row_of (table_of (sym c.table.ensures i)) c.args.asn) (sym c.iter.ensures.rest i)) c.in_ok-found.ensures)
    c.put_all.ensures.listed
