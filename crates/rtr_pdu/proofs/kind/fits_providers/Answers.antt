use Rattle.std.proofs.lemmas.Bool.{eqb-true, eq-eqb}
use Rattle.rtr_pdu.proofs.NumberLemmas.{length_of_providers, providers_of_length}
use Rattle.rtr_pdu.proofs.kind.fits_providers.Goals as goal

pub returns : goal.returns
returns c = (
  λ rest. length_of_providers c.args.length c.if-length-lt12.false (eqb-true _ _ rest),
  λ many. eq-eqb _ _ (providers_of_length c.args.length many),
)
