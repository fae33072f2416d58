use Rattle.vap_table.proofs.FilterLemmas.{marked_here, marked_still}
use Rattle.vap_table.proofs.filter.mark.Goals as goal

pub returns : goal.returns
returns c = record {
  put = marked_here c.args.words.now c.place_of-place.result c.bit_of.result c.place_of-place.ensures.within c.bit_of.ensures.within c.args.number c.place_of-place.ensures.same c.bit_of.ensures.same;
  kept = marked_still c.args.words.now c.place_of-place.result c.bit_of.result c.place_of-place.ensures.within c.bit_of.ensures.within;
}
