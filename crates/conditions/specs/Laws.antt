-- The law of the test of prefixes, the contract of a public function of the module `laws`.
use Rattle.std.specs.Prelude.{◌↔◌, IsTrue}
use Rattle.path_model.specs.Prefix.{Subnet}
use Rattle.origin_model.specs.Covering.{Covers}
use Rattle.conditions.specs.Meets.{is_covered}

-- the test is so exactly where the first prefix covers the second
abbrev pub PrefixesAreTestedByCovering : Type 0
PrefixesAreTestedByCovering = (p q : Subnet) → IsTrue (is_covered p q) ↔ Covers p q
