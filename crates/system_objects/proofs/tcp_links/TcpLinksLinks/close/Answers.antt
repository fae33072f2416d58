use Rattle.std.proofs.Common.{true}
use Rattle.av_base.specs.declared.standing.Standing.{Standing}
use Rattle.system_objects.proofs.LinkLemmas.{stand_changed}
use Rattle.system_objects.proofs.tcp_links.TcpLinksLinks.close.Goals as goal

pub returns-clause-standings : goal.returns-clause-standings
returns-clause-standings g c =
    stand_changed c.self.view_is c.args.link c.index_mut.result.now c.close.new.self c.index_mut.ensures.value
    (λ (s : Standing). record s { closed = true }) c.close.ensures
