-- What the listings of a question add; private contracts alone cite this module.
use Rattle.std.specs.Prelude.{ℕ}
use Rattle.std.specs.declared.option.Option.{Option}
use Rattle.std.specs.declared.option.Option.TheVariants.{Some, None}
use Rattle.std.specs.declared.result.Result.{Result}
use Rattle.av_base.specs.declared.stop.Stop.{Stop}
use Rattle.attestations.specs.CurrentTable.{Parts}
use Rattle.report_text.specs.Attested.{with_lf}
use Rattle.listings.specs.Attests.{AreAttested, attested_row}
use Rattle.listings.specs.AttestsOf.{AreAttestsOf}
use Rattle.listings.specs.Listing.{Lists, Pouring}

-- the current table as a script, or where the row of one customer comes from
abbrev pub ListsAttested : {T : Type 0} → Parts → Option ℕ → Pouring → Pouring → Result T Stop → Type 0
ListsAttested parts None old new result = Lists (AreAttested parts) attested_row old new result
ListsAttested parts (Some customer) old new result = Lists (AreAttestsOf parts customer) with_lf old new result
