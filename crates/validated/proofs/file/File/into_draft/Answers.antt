use Rattle.std.proofs.Common.{codes}
use Rattle.json_fields.specs.Tokens.{items_view}
use Rattle.json_fields.specs.Object.{ArrayIs}
use Rattle.validated.specs.Form.{IsAspa, aspa_view}
use Rattle.json_fields.proofs.ValuesLemmas.{holds_none}
use Rattle.validated.proofs.file.File.into_draft.Goals as goal

pub returns-in_err-aspas : goal.returns-in_err-aspas
returns-in_err-aspas c = λ d is. rw c.from_residual.ensures (λ form h.
    holds_none (items_view aspa_view) (ArrayIs IsAspa (codes "aspas") d) c.args.self.aspas c.in_err-aspas.was is.aspas form.aspas h.aspas)
