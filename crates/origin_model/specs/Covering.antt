-- When a prefix covers another one (RFC 6811, section 2).
use Rattle.std.specs.Prelude.{◌≡◌, ◌≤◌}
use Rattle.std.specs.declared.option.Option.TheVariants.{Some}
use Rattle.path_model.specs.Prefix.{Subnet, prefix_of}

-- The first isn't longer, and it is what the second one's address begins with. So each prefix covers itself, and none of the other family.
pub record Covers (p q : Subnet) : Type 0 where
  pub shorter : p.len ≤ q.len
  pub front : prefix_of q.addr p.len ≡ Some p
