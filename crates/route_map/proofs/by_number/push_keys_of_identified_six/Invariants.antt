use Rattle.std.proofs.Common.{◌≡◌, ◌||◌, ◌&&◌}
use Rattle.std.specs.BTreeMap.{is_at}
use Rattle.path_model.specs.declared.key.Key.{Key}
use Rattle.path_model.specs.Key.{peer_cmp, nlri_of}
use Rattle.route_map.specs.Keys.{has_key, has_pair}
use Rattle.route_map.proofs.NumberedLemmas.{gives}
use Rattle.route_map.proofs.by_number.push_keys_of_identified_six.Given as goal

-- a key is there or to come
abbrev pub invariant-loop-pair : goal.invariant-loop-pair
invariant-loop-pair l =
    (q : Key) → (has_key l.keys.items q || gives l.peer q l.pair-iterator)
    ≡ (has_key l.fn.keys.items q || (is_at (peer_cmp l.peer) q.peer && has_pair l.numbered.keys (l.number, nlri_of q)))
