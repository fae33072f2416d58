-- Which role a neighbouring AS has; setting roles by hand is this project's own (routers are configured so, RFC 9234, section 4.1).
use Rattle.std.specs.Prelude.{◌≡◌, ℕ, Bool, true, false, unwrap_or, refl}
use Rattle.std.specs.Ordering.{nat_cmp}
use Rattle.std.specs.FinMap as map
use Rattle.std.specs.Coded.{Coded, code_by, coded×, coded_ℕ, coded_bool}
use Rattle.path_model.specs.declared.role.Role.{Role}
use Rattle.path_model.specs.declared.role.Role.TheVariants.{Provider, Customer, Peer, Rs, RsClient, Mutual}

-- the roles that are set, and that of all other ASes
pub record Relations : Type 0 where
  pub set : map.FinMap nat_cmp Role
  pub default : Role

-- the role that is set for the AS, or else the default
abbrev pub role_of : Relations → ℕ → Role
role_of relations asn = unwrap_or (map.get relations.set asn) relations.default

-- the role of one AS is set
abbrev pub set_role : Relations → ℕ → Role → Relations
set_role relations asn role = record relations { set = map.insert relations.set asn role }

-- at the start none is set, and the default is the provider's
abbrev pub no_roles : Relations
no_roles = record { set = map.empty; default = Provider }

-- a role as three truth values
abbrev pub parts_of_role : Role → Bool × (Bool × Bool)
parts_of_role Provider = (true, (true, true))
parts_of_role Customer = (true, (true, false))
parts_of_role Peer = (true, (false, true))
parts_of_role Rs = (true, (false, false))
parts_of_role RsClient = (false, (true, true))
parts_of_role Mutual = (false, (true, false))

abbrev pub role_from : Bool → Bool → Bool → Role
role_from true true true = Provider
role_from true true false = Customer
role_from true false true = Peer
role_from true false false = Rs
role_from false true true = RsClient
role_from false true false = Mutual
role_from false false other = Mutual

pub role_back : (role : Role) → role_from (parts_of_role role).0 (parts_of_role role).1.0 (parts_of_role role).1.1 ≡ role
role_back Provider = refl
role_back Customer = refl
role_back Peer = refl
role_back Rs = refl
role_back RsClient = refl
role_back Mutual = refl

abbrev pub coded_role : Coded Role
coded_role = code_by (Bool × (Bool × Bool)) (coded× coded_bool (coded× coded_bool coded_bool)) parts_of_role (λ p. role_from p.0 p.1.0 p.1.1) role_back

-- what a Model of such a map needs
abbrev pub coded_relations : Coded Relations
coded_relations = code_by (map.FinMap nat_cmp Role × Role) (coded× (map.code coded_ℕ coded_role) coded_role) (λ r. (r.set, r.default)) (λ p. record { set = p.0; default = p.1 }) (λ _. refl)
