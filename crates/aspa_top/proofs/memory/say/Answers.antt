use Rattle.std.proofs.Common.{ℕ, List, ◌++◌, ap, refl, ◌∙◌, arith}
use Rattle.std.specs.Io.KnownBytes.{append_known}
use Rattle.report_text.specs.Sayings.{said_text}
use Rattle.av_base.specs.declared.stop.Stop.TheVariants as stops
use Rattle.aspa_top.proofs.DidLemmas.{did_err, nothing}
use Rattle.aspa_top.proofs.KeepLemmas.{keeps_all}
use Rattle.aspa_top.proofs.MemoryLemmas.{said}
use Rattle.aspa_top.proofs.memory.say.Goals as goal

pub returns : goal.returns
returns g c = record {
  keeps = record { lent = refl; keeps = keeps_all _ _ _ };
  did = said c.args.working _ c.requires.begun c.args.saying.now _ c.text.ensures.said
      (c.in_ok-put_said.ensures.ok ∙ ap (λ (t : List ℕ). c.args.outside.now.text.now.items ++ said_text t) c.text.ensures.text);
}

pub returns-in_err-put_said : goal.returns-in_err-put_said
returns-in_err-put_said g c = record {
  keeps = record { lent = refl; keeps = keeps_all _ _ _ };
  did = did_err c.args.working _ _ _ c.from_residual.result stops.NoMemory c.from_residual.ensures.1
      (nothing c.args.working _ _ _ refl (ap (append_known (g.W.Sink.written c.args.outside.now.out.now)) c.in_err-put_said.ensures.err) refl (omega arith));
}
