use Rattle.std.proofs.Common.{◌∙◌}
use Rattle.vap_table.proofs.VapsLemmas.{search_finds}
use Rattle.vap_table.proofs.searching.holds.Goals as goal

pub returns : goal.returns
returns c = c.is_ok.ensures.value ∙ search_finds c.args.row.now c.args.provider c.binary_search.result c.requires c.binary_search.ensures.position
