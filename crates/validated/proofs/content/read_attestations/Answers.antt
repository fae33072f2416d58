use Rattle.std.proofs.Common.{map, arith}
use Rattle.std.proofs.lemmas.Result.{err_from_is_err_and}
use Rattle.validated.specs.Form.{aspa_view}
use Rattle.validated.specs.Content.{Attests, AreAttestations, attested_view}
use Rattle.validated.specs.declared.fault.ValidatedFault.TheVariants.{Number}
use Rattle.json_fields.proofs.EachLemmas.{each_refused}
use Rattle.validated.proofs.AnswerLemmas.{misses_by}
use Rattle.validated.proofs.GatheringLemmas.{gathering_start, gathering_next, gathering_end}
use Rattle.validated.proofs.content.read_attestations.Goals as goal

pub loop-aspa-init : goal.loop-aspa-init
loop-aspa-init c = gathering_start c.args.aspas.now c.new-gathered.result c.new-gathered.ensures

pub returns-in_err-attested : goal.returns-in_err-attested
returns-in_err-attested c =
    let p = err_from_is_err_and c.from_residual.result c.from_residual.ensures.1 in
    rw (p.1, p.2) (misses_by Number (Attests (aspa_view c.aspa-item.result)) (AreAttestations (map aspa_view c.args.aspas.now)) _
    (λ never terms h. each_refused Attests aspa_view c.args.aspas.now c.loop-aspa.aspa-index c.aspa-item.result c.loop-aspa-test.true c.aspa-item.is never h.units h.each)
    c.in_err-attested.ensures)

pub loop-aspa-preserved : goal.loop-aspa-preserved
loop-aspa-preserved c =
    gathering_next c.args.aspas.now c.loop-aspa.aspa-index c.aspa-item.result c.loop-aspa.gathered c.gather.new.self (attested_view c.in_ok-attested.attested) c.as_slice-providers.result.now c.loop-aspa-test.true c.aspa-item.is
    c.loop-aspa.invariant c.in_ok-attested.ensures c.as_slice-providers.ensures c.in_ok-gather.ensures.ok

pub returns : goal.returns
returns c =
    gathering_end c.args.aspas.now c.loop-aspa.gathered c.in_ok-into_terms.field-0 c.loop-aspa.aspa-index (omega arith) c.loop-aspa.invariant c.in_ok-into_terms.ensures
