use Rattle.std.proofs.Common.{sym, ◌∙◌}
use Rattle.av_text.proofs.AddrFormLemmas.{six_told}
use Rattle.av_text.proofs.host_port.is_six.Goals as goal

pub returns : goal.returns
returns c =
    let told = six_told c.args.text.now c.parse_ascii.result c.parse_ascii.ensures in
    (λ yes. told.0 (sym c.is_ok.ensures.value ∙ yes), λ six. c.is_ok.ensures.value ∙ told.1 six)
