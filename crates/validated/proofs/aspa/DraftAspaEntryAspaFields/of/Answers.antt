use Rattle.std.proofs.Common.{codes}
use Rattle.json_fields.specs.Tokens.{items_view}
use Rattle.json_fields.specs.Object.{ArrayIs}
use Rattle.validated.specs.Form.{IsAsNumeral, numeral_view}
use Rattle.json_fields.proofs.ValuesLemmas.{holds_none}
use Rattle.validated.proofs.aspa.DraftAspaEntryAspaFields.of.Goals as goal

pub returns-in_err-providers : goal.returns-in_err-providers
returns-in_err-providers c = λ d is. rw c.from_residual-in_err-providers.ensures (λ a h.
    holds_none (items_view numeral_view) (ArrayIs IsAsNumeral (codes "providers") d) c.args.kept.providers c.in_err-providers.was is.providers a.providers h.providers)
