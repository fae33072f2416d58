use Rattle.std.proofs.Common.{List, ℕ, nat_eq, ap, ◌∙◌, ◌≡◌, reverse}
use Rattle.std.proofs.lemmas.List.Filters.{dedup_is}
use Rattle.path_model.specs.Trail.{Path, chain_of}
use Rattle.path_model.proofs.TrailLemmas.{IsChain-chain_of}
use Rattle.path_model.proofs.trail.Trail.from_newest_first.Goals as goal
use Rattle.path_model.proofs.trail.Trail.from_newest_first.Goals.{After-from_vec}

-- the chain is that of the written ASes
made : (c : After-from_vec) → c.from_vec.result ≡ chain_of c.args.newest_first.items
made c = c.from_vec.ensures ∙ c.reverse.ensures.items ∙ ap reverse (dedup_is nat_eq _ _ c.dedup.ensures.filtered)

pub invariant_of-result : goal.invariant_of-result
invariant_of-result c = rw (made (goal.at.invariant_of-result c).After-from_vec) (IsChain-chain_of c.args.newest_first.items c.requires)

pub returns : goal.returns
returns c =
    let path : List ℕ → Path = λ chain. record { set = c.args.set; chain = chain } in
    ap path (made (goal.at.returns c).After-from_vec)
