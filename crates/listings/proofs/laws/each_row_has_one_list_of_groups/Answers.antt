use Rattle.listings.proofs.AttestsLemmas.{one_list_of_groups}
use Rattle.listings.proofs.laws.each_row_has_one_list_of_groups.Goals as goal

pub returns : goal.returns
returns c = one_list_of_groups
