-- What is lent of a customer's attestations.
use Rattle.std.specs.Prelude.{List, [], ◌∷◌}
use Rattle.std.specs.declared.option.Option.{Option}
use Rattle.std.specs.declared.option.Option.TheVariants.{Some, None}
use Rattle.attestations.specs.declared.attested.Attested.{Attested}
use Rattle.attestations.specs.declared.attested.Attested.TheVariants.{Row, Terms}
use Rattle.attestations.specs.declared.term.Term.{Term}
use Rattle.attestations.specs.Terms.{lasting}

-- all of them, in their order
abbrev pub listed : Attested → List Term
listed (Row row) = lasting row.now ∷ []
listed (Terms terms) = terms.now

-- the same, where there may be none
abbrev pub attested_list : Option Attested → List Term
attested_list None = []
attested_list (Some attested) = listed attested
