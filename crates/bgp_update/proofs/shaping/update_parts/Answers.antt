use Rattle.std.proofs.Common.{sym}
use Rattle.bgp_update.proofs.FrameLemmas.{no_first, no_second, no_withdrawn, no_announced, update_made}
use Rattle.bgp_update.proofs.shaping.update_parts.Goals as goal

pub returns-in_err-withdrawn-clause-none : goal.returns-in_err-withdrawn-clause-none
returns-in_err-withdrawn-clause-none c = rw c.from_residual.ensures (no_first c.args.add_path c.args.rest.now (sym c.in_err-withdrawn.ensures))

pub returns-in_err-attributes-clause-none : goal.returns-in_err-attributes-clause-none
returns-in_err-attributes-clause-none c = rw c.from_residual-in_err-attributes.ensures (no_second c.args.add_path c.args.rest.now _ c.in_ok-withdrawn.rest.now (sym c.in_ok-withdrawn.ensures) (sym c.in_err-attributes.ensures))

pub returns-in_err-withdrawn-2-clause-none : goal.returns-in_err-withdrawn-2-clause-none
returns-in_err-withdrawn-2-clause-none c = rw c.from_residual-in_err-withdrawn-2.ensures (no_withdrawn c.args.add_path c.args.rest.now c.in_ok-withdrawn.withdrawn.now c.in_ok-withdrawn.rest.now (sym c.in_ok-withdrawn.ensures) c.in_err-withdrawn-2.ensures.none)

pub returns-in_err-announced-clause-none : goal.returns-in_err-announced-clause-none
returns-in_err-announced-clause-none c = rw c.from_residual-in_err-announced.ensures (no_announced c.args.add_path c.args.rest.now c.in_ok-withdrawn.withdrawn.now c.in_ok-withdrawn.rest.now c.in_ok-attributes.attributes.now c.in_ok-attributes.rest.now (sym c.in_ok-withdrawn.ensures) (sym c.in_ok-attributes.ensures) c.in_err-announced.ensures.none)

pub returns-clause-some : goal.returns-clause-some
returns-clause-some c = update_made c.args.add_path c.args.rest.now c.in_ok-withdrawn.withdrawn.now c.in_ok-withdrawn.rest.now c.in_ok-attributes.attributes.now c.in_ok-attributes.rest.now _ _ (sym c.in_ok-withdrawn.ensures) (sym c.in_ok-attributes.ensures) c.in_ok-withdrawn-2.ensures.some c.in_ok-announced.ensures.some
