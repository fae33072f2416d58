use Rattle.std.proofs.Common.{arith}
use Rattle.std.proofs.lemmas.Bool.Decides.{nat_tests}
use Rattle.bgp_update.proofs.FrameLemmas.{no_message, no_frame}
use Rattle.bgp_update.proofs.shaping.message_parts.Goals as goal

pub returns-in-None-update_parts-clause-err : goal.returns-in-None-update_parts-clause-err
returns-in-None-update_parts-clause-err c = no_message c.args.add_path c.args.message.now c.in-Some.kind c.in-Some.rest.now c.in-Some.ensures.some (grind (arith, nat_tests)) c.in-None-update_parts.ensures.none

pub returns-in-None-clause-err : goal.returns-in-None-clause-err
returns-in-None-clause-err c = no_frame c.args.add_path c.args.message.now c.in-None.ensures.none
