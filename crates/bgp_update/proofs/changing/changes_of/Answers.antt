use Rattle.bgp_update.proofs.changing.changes_of.Goals as goal

pub returns-in-Err : goal.returns-in-Err
returns-in-Err c = λ reading is. let no = c.in-Err.ensures.only reading is in cc
