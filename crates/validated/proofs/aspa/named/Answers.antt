use Rattle.std.proofs.Common.{codes, option_map}
use Rattle.serde_json.specs.Find.{get}
use Rattle.json_fields.specs.Each.{IfThere}
use Rattle.validated.specs.Form.{IsAsNumeral, numeral_view}
use Rattle.json_fields.proofs.ValuesLemmas.{holds_none}
use Rattle.validated.proofs.KeptLemmas.{first_other}
use Rattle.validated.proofs.aspa.named.Goals as goal

pub returns-in_err-asid : goal.returns-in_err-asid
returns-in_err-asid c = λ d first second. rw c.from_residual.ensures (first_other IsAsNumeral (get (codes "customer_asid") d) (get (codes "customer") d)
    (holds_none (option_map numeral_view) (IfThere IsAsNumeral (get (codes "customer_asid") d)) c.args.asid c.in_err-asid.was first))
