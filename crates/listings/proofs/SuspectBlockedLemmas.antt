-- Each route that no completion makes valid has a valley among the suspects.
use Rattle.path_model.specs.declared.verdict.Verdict.TheVariants.{Invalid}
use Rattle.path_model.specs.Roles.{role_of}
use Rattle.valleys.proofs.LawLemmas.{blocked_has}
use Rattle.listings.specs.Laws.{BlockedRoutesAreSuspected}
use Rattle.listings.specs.Suspects.{IsBlockedWith}
use Rattle.listings.specs.Tallies.{IsRouteWith}

pub blocked_are_suspected : BlockedRoutesAreSuspected
blocked_are_suspected state rows are key path first last route printed =
    let has = blocked_has are.table (role_of state.roles key.peer.asn) key.peer.asn path Invalid first last printed in
    let with : IsRouteWith (IsBlockedWith are.table state.roles) state has.0 key =
    record { path = path; is = route; has = record { first = first; last = last; printed = printed; has = has.1 } } in
    (has.0, are.tallied.all has.0 key with, with)
