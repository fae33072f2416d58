use Rattle.av_text.proofs.AddrFormLemmas.{no_four, not_any}
use Rattle.av_text.proofs.host_port.is_four.Goals as goal

pub returns-in-Some-V6 : goal.returns-in-Some-V6
returns-in-Some-V6 c = (λ yes. absurd (cc), no_four c.args.text.now c.in-Some-V6.field-0 c.in-Some-V6.field-0-0 c.in-Some-V6.field-0-is c.in-Some-V6.ensures.again)

pub returns-in-None : goal.returns-in-None
returns-in-None c = (λ yes. absurd (cc), not_any c.args.text.now c.in-None.ensures.none)
