use Rattle.std.proofs.Common.{sym, subst}
use Rattle.av_text.specs.HostPort.{IsHost}
use Rattle.av_text.proofs.HostLemmas.{no_colon, at_last_colon}
use Rattle.av_text.proofs.host_port.read_host_port.Goals as goal

pub returns-in_err-host-clause-none : goal.returns-in_err-host-clause-none
returns-in_err-host-clause-none c =
    rw c.from_residual.ensures (λ host port is. no_colon c.args.text.now host port c.in_err-host.ensures.none is)

pub returns-in_err-port-clause-none : goal.returns-in_err-port-clause-none
returns-in_err-port-clause-none c =
    rw c.from_residual-in_err-port.ensures (λ host port is.
    let same = at_last_colon c.args.text.now c.in_ok-host.host.now c.in_ok-host.port.now host port c.in_ok-host.ensures.whole c.in_ok-host.ensures.last is in
    c.in_err-port.ensures.none port is.is_port (sym same.1))

pub returns-then-not-is_host-clause-none : goal.returns-then-not-is_host-clause-none
returns-then-not-is_host-clause-none c = λ host port is.
    let same = at_last_colon c.args.text.now c.in_ok-host.host.now c.in_ok-host.port.now host port c.in_ok-host.ensures.whole c.in_ok-host.ensures.last is in
    let yes = c.is_host.ensures.1 (subst IsHost same.0 is.is_host) in
    let no = c.if-not-is_host.true in
    absurd (cc)
