-- The text of the leaks that Only-to-Customer marks (RFC 9234, section 5).
use Rattle.std.specs.Prelude.{◌≡◌, ℕ, Bool, true, false, not, List, filter}
use Rattle.std.specs.FinMap as fin
use Rattle.std.specs.List.{AllZip}
use Rattle.path_model.specs.declared.key.Key.{Key}
use Rattle.path_model.specs.declared.otc.Otc.{Otc}
use Rattle.path_model.specs.Roles.{Relations, role_of}
use Rattle.path_model.specs.declared.leak.Leak.{Leak}
use Rattle.path_model.specs.declared.leak.Leak.TheVariants.{Clean, Customer, RsClient, Peer, Malformed}
use Rattle.otc_check.specs.Leak.{IsLeak}
use Rattle.otc_check.specs.Marks.{Marked}
use Rattle.report_text.specs.Leaks.{leak_text}

-- what the attribute of a route makes of it, in the present role of its peer's AS
pub record IsFound (roles : Relations) (mark : Key × Otc) (row : Key × Leak) : Type 0 where
  pub key : row.0 ≡ mark.0
  pub leak : IsLeak (role_of roles mark.0.peer.asn) mark.0.peer.asn mark.1 row.1

-- whether it is no leak
abbrev pub is_clean : Leak → Bool
is_clean Clean = true
is_clean (Customer asn) = false
is_clean (RsClient asn) = false
is_clean (Peer asn) = false
is_clean Malformed = false

-- one row for each route whose attribute makes it a leak, in key order
pub record AreLeaks (roles : Relations) (marks : Marked) (rows : List (Key × Leak)) : Type 0 where
  pub all : List (Key × Leak)
  pub are : AllZip (IsFound roles) (fin.entries marks) all
  pub leaks : rows ≡ filter (λ row. not (is_clean row.1)) all

-- the line of a row
abbrev pub leak_row : Key × Leak → List ℕ
leak_row row = leak_text row.0 row.1
