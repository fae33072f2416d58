use Rattle.std.proofs.Common.{ap, sym, ◌∙◌}
use Rattle.attestations.specs.Attested.{listed}
use Rattle.attestations.proofs.TermLemmas.{same_lists}
use Rattle.attestations.proofs.attested.Attested.is_same.Goals as goal

pub returns-in-Terms-Terms : goal.returns-in-Terms-Terms
returns-in-Terms-Terms c =
    let same = same_lists c.in-Terms-Terms.one.now c.in-Terms-Terms.other.now c.eq-in-Terms-Terms.result c.eq-in-Terms-Terms.ensures in
    (λ t. ap listed c.in-Terms-Terms.is-0 ∙ same.0 t ∙ sym (ap listed c.in-Terms-Terms.is-1), λ e. same.1 (sym (ap listed c.in-Terms-Terms.is-0) ∙ e ∙ ap listed c.in-Terms-Terms.is-1))
