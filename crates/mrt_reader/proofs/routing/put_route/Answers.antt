use Rattle.mrt_reader.proofs.routing.put_route.Goals as goal

pub returns-in-Err : goal.returns-in-Err
returns-in-Err c = λ reading is. let no = c.in-Err.ensures.only reading is in cc
