use Rattle.vap_table.proofs.TalliesLemmas.{all_followed}
use Rattle.vap_table.proofs.vaps.followed.Goals as goal

pub returns-clause-tallied : goal.returns-clause-tallied
returns-clause-tallied c =
    all_followed c.args.parts c.in_ok-parts.parts c.args.names.now.all c.args.tallies c.in_ok-tallies.tallies c.requires.tallied
    (c.in_ok-tallies.ensures.named c.in_ok-parts.parts c.in_ok-parts.ensures.parts) c.in_ok-tallies.ensures.others
    (λ q out. c.requires.all c.in_ok-parts.parts c.in_ok-parts.ensures.parts q out)
