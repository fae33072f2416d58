use Rattle.std.proofs.Common.{◌≡◌, ◌⊎◌, inl, inr, length, arith}
use Rattle.std.proofs.lemmas.Bool.{cases_lt}
use Rattle.valleys.proofs.WalkLemmas.{open_behind, passed_all, passed_more, passed_none}
use Rattle.valleys.proofs.walk.pass_all.Goals as goal

pub loop-hop-init : goal.loop-hop-init
loop-hop-init g c = rw c.requires (passed_none (g.T.Table.rows c.args.table.now) c.args.chain.now)

pub descend-requires-clause-behind : goal.descend-requires-clause-behind
descend-requires-clause-behind g c = open_behind (g.T.Table.rows c.args.table.now) c.args.chain.now c.loop-hop.hop c.loop-hop.opened c.loop-hop.found.items c.loop-hop.invariant

pub loop-hop-preserved : goal.loop-hop-preserved
loop-hop-preserved g c = passed_more (g.T.Table.rows c.args.table.now) c.args.chain.now c.loop-hop.hop c.loop-hop.opened c.climb-opened.result
    c.loop-hop.found.items c.descend.new.found.items (omega (arith, c.loop-hop.auto.hop)) (omega (arith, c.loop-hop-test.true)) c.loop-hop.invariant
    (rw (← c.in_ok-still.ensures.still) c.climb-opened.ensures) c.in_ok-still.ensures.found

pub returns : goal.returns
returns g c =
    let ended : (c.loop-hop.hop ≡ length c.args.chain.now) ⊎ (length c.args.chain.now ≡ 0) = elim (cases_lt 0 (length c.args.chain.now)) [
      | inl some ↦ inl (omega (arith, c.loop-hop.auto.hop, c.loop-hop.auto.hop-end, c.loop-hop-test.false))
      | inr none ↦ inr (omega arith)
    ] in
    passed_all (g.T.Table.rows c.args.table.now) c.args.chain.now c.loop-hop.hop c.loop-hop.opened c.loop-hop.found.items ended c.loop-hop.invariant
