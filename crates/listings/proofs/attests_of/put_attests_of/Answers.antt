use Rattle.std.proofs.Common.{ℕ, List, rules, map, subst}
use Rattle.std.specs.List.{All, concat}
use Rattle.attestations.specs.Terms.{TermMap}
use Rattle.path_model.specs.Name.{IsName}
use Rattle.listings.specs.EachAttests.{sources_text, text_at}
use Rattle.listings.specs.Listing.{pouring}
use Rattle.listings.proofs.AttestsOfLemmas.{all_local, attests_of_listed, front_longer, sources_same, then_listed}
use Rattle.listings.proofs.attests_of.put_attests_of.Goals as goal

pub returns-in_err-put_sources : goal.returns-in_err-put_sources
returns-in_err-put_sources g c =
    let same = sources_same c.args.table.now c.args.customer c.moment.result c.sources-sources.result.now c.moment.ensures c.sources-sources.ensures in
    let front = front_longer (concat (map (text_at c.args.table.now c.args.customer) all_local)) (rw same at c.put_sources.ensures.front) in
    attests_of_listed c.args.table.now c.args.customer (pouring g.W.Sink c.args.out.now c.args.text.now.items) (pouring g.W.Sink c.put_sources.new.out c.put_sources.new.text.items) c.from_residual.result
    (subst (λ (sources : List (List ℕ × TermMap)). All (λ source. IsName source.0) sources) c.sources-sources.ensures c.look_at_names.ensures) (search rules)

pub returns : goal.returns
returns g c =
    let same = sources_same c.args.table.now c.args.customer c.moment.result c.sources-sources.result.now c.moment.ensures c.sources-sources.ensures in
    attests_of_listed c.args.table.now c.args.customer (pouring g.W.Sink c.args.out.now c.args.text.now.items) (pouring g.W.Sink c.put_all.new.out c.put_all.new.text.items) c.put_all.result
    (subst (λ (sources : List (List ℕ × TermMap)). All (λ source. IsName source.0) sources) c.sources-sources.ensures c.look_at_names.ensures)
    (then_listed (sources_text c.args.table.now.moment c.args.customer c.args.table.now.sources) (concat (map (text_at c.args.table.now c.args.customer) all_local))
    (rw same at c.in_ok-put_sources.ensures.whole) c.put_sources.ensures.sink_faults c.put_sources.ensures.grows c.put_all.ensures.listed)
