use Rattle.std.specs.Option.{option_copied}
use Rattle.listings.proofs.AttestsOfLemmas.{row_put}
use Rattle.listings.proofs.attests_of.put_local.Goals as goal

pub returns-in-Row-clause-ok : goal.returns-in-Row-clause-ok
returns-in-Row-clause-ok c =
    row_put c.args.table.now c.args.customer c.args.line (option_copied c.row.result) c.args.text.now.items c.put_current_row.new.out.items c.put_current_row.result c.in-Row.is c.row.ensures c.put_current_row.ensures.ok
