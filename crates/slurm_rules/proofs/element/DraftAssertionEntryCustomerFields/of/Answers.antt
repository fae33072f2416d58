use Rattle.std.proofs.Common.{codes}
use Rattle.json_fields.specs.Tokens.{items_view}
use Rattle.serde_json.specs.View.{number_view}
use Rattle.json_fields.specs.Object.{ArrayIs, IsNumber}
use Rattle.json_fields.proofs.ValuesLemmas.{holds_none}
use Rattle.slurm_rules.proofs.element.DraftAssertionEntryCustomerFields.of.Goals as goal

pub returns-in_err-providers : goal.returns-in_err-providers
returns-in_err-providers c = λ d is. rw c.from_residual-in_err-providers.ensures (λ a h.
    holds_none (items_view number_view) (ArrayIs IsNumber (codes "providerAsns") d) c.args.kept.providers c.in_err-providers.was is.providers a.providers
    (record { items = h.providers; is = h.attests; each = h.numbers }))
