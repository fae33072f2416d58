use Rattle.std.proofs.Common.{sym, ◌∙◌, true≢false}
use Rattle.route_map.proofs.HoldersLemmas.{needed, needless}
use Rattle.route_map.proofs.keys_by_number.let_go.Goals as goal

pub returns-then-not-has_number : goal.returns-then-not-has_number
returns-then-not-has_number c =
    needless c.args.peers.now.entries c.args.holders.now.keys c.args.peer.now c.args.number c.requires (λ one. true≢false (sym (c.has_number.ensures.1 one) ∙ c.if-not-has_number.true))
    c.remove.new.self.keys c.holder_of.result c.holder_of.ensures c.remove.ensures.updates.0

pub returns-else-not-has_number : goal.returns-else-not-has_number
returns-else-not-has_number c = needed c.args.peers.now.entries c.args.holders.now.keys c.args.peer.now c.args.number c.requires (c.has_number.ensures.0 c.if-not-has_number.false)
