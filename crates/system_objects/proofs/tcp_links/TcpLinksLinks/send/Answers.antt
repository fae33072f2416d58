use Rattle.std.proofs.Common.{Some}
use Rattle.av_base.specs.declared.standing.Break.TheVariants.{BySend}
use Rattle.av_base.specs.declared.standing.Standing.{Standing}
use Rattle.system_objects.proofs.LinkLemmas.{stand_so, stand_changed, others_stay, known_of_both}
use Rattle.system_objects.proofs.tcp_links.TcpLinksLinks.send.Goals as goal

pub returns-in-Ok-clause-ok_standings : goal.returns-in-Ok-clause-ok_standings
returns-in-Ok-clause-ok_standings g c = stand_so c.self.view_is c.args.link c.index_mut.result.now c.send.new.self c.index_mut.ensures.value c.in-Ok.ensures.ok

pub returns-in-Ok-clause-others : goal.returns-in-Ok-clause-others
returns-in-Ok-clause-others g c = others_stay c.self.view_is c.args.link c.index_mut.result.now c.send.new.self c.index_mut.ensures.value

pub returns-in-Ok-clause-known : goal.returns-in-Ok-clause-known
returns-in-Ok-clause-known g c = known_of_both c.self.view_is c.args.link c.index_mut.result.now c.send.new.self c.index_mut.ensures.value _ c.in-Ok.ensures.known

pub returns-in-Err-clause-err_standings : goal.returns-in-Err-clause-err_standings
returns-in-Err-clause-err_standings g c =
    stand_changed c.self.view_is c.args.link c.index_mut.result.now c.send.new.self c.index_mut.ensures.value
    (λ (s : Standing). record s { broken = Some BySend }) c.in-Err.ensures.err

pub returns-in-Err-clause-others : goal.returns-in-Err-clause-others
returns-in-Err-clause-others g c = others_stay c.self.view_is c.args.link c.index_mut.result.now c.send.new.self c.index_mut.ensures.value

pub returns-in-Err-clause-known : goal.returns-in-Err-clause-known
returns-in-Err-clause-known g c = known_of_both c.self.view_is c.args.link c.index_mut.result.now c.send.new.self c.index_mut.ensures.value _ c.in-Err.ensures.known
