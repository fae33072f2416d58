use Rattle.std.proofs.Common.{List, ℕ, subst}
use Rattle.av_text.specs.HostPort.{IsHostPort}
use Rattle.system_objects.proofs.tcp_links.admit.Goals as goal

pub returns-in-Some : goal.returns-in-Some
returns-in-Some g c = λ none.
    absurd (none c.in-Some.field-0.host.now c.in-Some.field-0.port (subst (λ (text : List ℕ). IsHostPort text c.in-Some.field-0.host.now c.in-Some.field-0.port) c.as_bytes.ensures.value c.in-Some.ensures.spelled))
