use Rattle.std.proofs.Common.{List, map, subst}
use Rattle.std.proofs.lemmas.Result.{err_from_is_err_and}
use Rattle.validated.specs.Answers.{Misses}
use Rattle.validated.specs.Content.{AreAttestations}
use Rattle.validated.specs.Form.{aspa_view, draft_view}
use Rattle.validated.specs.declared.draft.DraftAspa.{DraftAspa}
use Rattle.validated.specs.declared.fault.ValidatedFault.TheVariants.{Number}
use Rattle.validated.proofs.AnswerLemmas.{no_attestations, no_records}
use Rattle.validated.proofs.content.read_content.Goals as goal

pub returns-in_err-attestations : goal.returns-in_err-attestations
returns-in_err-attestations c =
    let p = err_from_is_err_and c.from_residual.result c.from_residual.ensures.1 in
    rw (p.1, p.2) (no_attestations (draft_view c.args.draft) _
    (subst (λ (ds : List DraftAspa). Misses Number c.in_err-attestations.field-0.0 (AreAttestations (map aspa_view ds))) c.deref.ensures.value c.in_err-attestations.ensures))

pub returns-in_err-payloads : goal.returns-in_err-payloads
returns-in_err-payloads c =
    let p = err_from_is_err_and c.from_residual-in_err-payloads.result c.from_residual-in_err-payloads.ensures.1 in
    rw (p.1, p.2) (no_records (draft_view c.args.draft) c.in_ok-attestations.attestations
    (subst (λ (ds : List DraftAspa). AreAttestations (map aspa_view ds) c.in_ok-attestations.attestations) c.deref.ensures.value c.in_ok-attestations.ensures) _ c.in_err-payloads.ensures)
