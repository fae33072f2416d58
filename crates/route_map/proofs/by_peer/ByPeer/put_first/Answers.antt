use Rattle.std.proofs.Common.{[], ◌∷◌, ap, ◌∙◌}
use Rattle.std.specs.BTreeMap.{insert_entry}
use Rattle.std.proofs.lemmas.Result.{on_ok_weaker}
use Rattle.path_model.specs.Key.{nlri_cmp, peer_cmp}
use Rattle.route_map.proofs.by_peer.ByPeer.put_first.Goals as goal

pub returns-clause-put : goal.returns-clause-put
returns-clause-put g c = on_ok_weaker c.add.result
    (λ added. added ∙ ap (insert_entry peer_cmp c.args.self.now c.args.key.now.peer)
    (c.in_ok-insert.ensures.put ∙ ap (λ es. insert_entry nlri_cmp es c.nlri.result c.args.value) c.new-routes.ensures ∙ ap (λ n. (n, c.args.value) ∷ []) c.nlri.ensures))
    c.add.ensures.added
