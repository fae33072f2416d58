use Rattle.std.proofs.Common.{ℕ, List, false, ap, ◌∙◌}
use Rattle.path_model.specs.Trail.{Path}
use Rattle.bgp_attrs.specs.Segments.{numbers_4}
use Rattle.bgp_attrs.proofs.ChainLemmas.{gathered_none, gathered_more, gathered_all, gathered_chain}
use Rattle.bgp_attrs.proofs.SequenceLemmas.{sequence_path}
use Rattle.bgp_attrs.proofs.merging.sequence_trail.Goals as goal

pub loop-asn-init : goal.loop-asn-init
loop-asn-init c = gathered_none c.args.ases.now _ c.new-chain.ensures c.requires.whole

pub loop-asn-preserved : goal.loop-asn-preserved
loop-asn-preserved c =
    gathered_more c.args.ases.now c.loop-asn.rest.now c.in-Some.front.now c.loop-asn.chain _ c.loop-asn.last c.in-Some.asn c.in-Some.ensures.shorter c.in-Some.ensures.last c.in_ok-put_behind.ensures c.loop-asn.invariant

pub from_chain-requires : goal.from_chain-requires
from_chain-requires c = gathered_chain c.args.ases.now c.loop-asn.rest.now c.loop-asn.chain c.loop-asn.last c.in_default.ensures.none c.requires.short c.loop-asn.invariant

pub returns : goal.returns
returns c =
    let path : List ℕ → Path = λ chain. record { set = false; chain = chain } in
    let all = gathered_all c.args.ases.now c.loop-asn.rest.now c.loop-asn.chain c.loop-asn.last c.in_default.ensures.none c.loop-asn.invariant in
    c.from_chain.ensures ∙ ap path all ∙ sequence_path (numbers_4 c.args.ases.now)
