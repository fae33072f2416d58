use Rattle.std.proofs.Common.{◌≡◌, ℕ, true}
use Rattle.path_model.specs.Authority.{has}
use Rattle.vap_table.proofs.LastsLemmas.{Listing}
use Rattle.vap_table.proofs.listing.with.Given as goal

abbrev pub invariant-loop-customer : goal.invariant-loop-customer
invariant-loop-customer l = Listing l.sources l.fn.lasts l.names l.customer-iterator l.lasts × ((q : ℕ) → has l.customer-iterator q ≡ true → has l.names q ≡ true)
