-- Codes of attributes and marks: what a Model that has finite maps of them needs.
use Rattle.std.specs.Prelude.{◌≡◌, ℕ, refl}
use Rattle.std.specs.FinMap as map
use Rattle.std.specs.Coded.{Coded, code_by, coded_ℕ, coded_option}
use Rattle.std.specs.declared.option.Option.{Option}
use Rattle.std.specs.declared.option.Option.TheVariants.{Some, None}
use Rattle.path_model.specs.declared.otc.Otc.{Otc}
use Rattle.path_model.specs.declared.otc.Otc.TheVariants.{Absent, As, Malformed}
use Rattle.path_model.specs.Codes.{coded_key}
use Rattle.otc_check.specs.Marks.{Marked}

-- an attribute as an AS, if it has one
abbrev pub otc_parts : Otc → Option (Option ℕ)
otc_parts Absent = None
otc_parts Malformed = Some None
otc_parts (As asn) = Some (Some asn)

abbrev pub otc_from : Option (Option ℕ) → Otc
otc_from None = Absent
otc_from (Some None) = Malformed
otc_from (Some (Some asn)) = As asn

pub otc_back : (otc : Otc) → otc_from (otc_parts otc) ≡ otc
otc_back Absent = refl
otc_back (As asn) = refl
otc_back Malformed = refl

abbrev pub coded_otc : Coded Otc
coded_otc = code_by (Option (Option ℕ)) (coded_option (coded_option coded_ℕ)) otc_parts otc_from otc_back

abbrev pub coded_marked : Coded Marked
coded_marked = map.code coded_key coded_otc
