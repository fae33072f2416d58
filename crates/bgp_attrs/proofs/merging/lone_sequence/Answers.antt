use Rattle.std.proofs.Common.{◌≡◌, ◌-◌, ◌*◌, true, length, take, drop, slice_index_or, rules}
use Rattle.bgp_attrs.proofs.SequenceLemmas.{sequence_wide}
use Rattle.bgp_attrs.proofs.merging.lone_sequence.Goals as goal

pub returns-then-rest-from-clause-same : goal.returns-then-rest-from-clause-same
returns-then-rest-from-clause-same c =
    let bytes = c.args.path.rest.now in
    let wide : c.args.path.wide ≡ true = search rules in
    let size : length (take (length bytes - 2) (drop 2 bytes)) ≡ 4 * slice_index_or bytes 1 0 = cc in
    sequence_wide c.args.path.wide bytes wide c.in-2.len_at_least (search rules) size c.args.path.whole
