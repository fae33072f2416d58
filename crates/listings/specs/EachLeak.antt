-- The leaks of the marks that are left to list; private contracts alone cite it.
use Rattle.std.specs.Prelude.{ℕ, not, if◌then◌else◌, List, [], map, filter}
use Rattle.path_model.specs.declared.key.Key.{Key}
use Rattle.path_model.specs.declared.otc.Otc.{Otc}
use Rattle.path_model.specs.Roles.{Relations, role_of}
use Rattle.path_model.specs.declared.leak.Leak.{Leak}
use Rattle.otc_check.specs.LeakBy.{leak_of}
use Rattle.listings.specs.Leaks.{is_clean, leak_row}

-- the leak of a mark, by the present roles
abbrev pub found_by : Relations → Key × Otc → Key × Leak
found_by relations mark = (mark.0, leak_of (role_of relations mark.0.peer.asn) mark.0.peer.asn mark.1)

-- those of some marks that aren't clean
abbrev pub leaks_of : Relations → List (Key × Otc) → List (Key × Leak)
leaks_of relations marks = filter (λ row. not (is_clean row.1)) (map (found_by relations) marks)

-- the line of one, or nothing
abbrev pub leak_or_nothing : Key × Leak → List ℕ
leak_or_nothing row = if is_clean row.1 then [] else leak_row row

-- what the step of a mark adds
abbrev pub piece_of : Relations → Key × Otc → List ℕ
piece_of relations mark = leak_or_nothing (found_by relations mark)
