-- How a role is written.
use Rattle.std.specs.Prelude.{ℕ, List, codes}
use Rattle.path_model.specs.declared.role.Role.{Role}
use Rattle.path_model.specs.declared.role.Role.TheVariants.{Provider, Customer, Peer, Rs, RsClient, Mutual}

-- the one spelling of a role
abbrev pub role_text : Role → List ℕ
role_text Provider = codes "provider"
role_text Customer = codes "customer"
role_text Peer = codes "peer"
role_text Rs = codes "rs"
role_text RsClient = codes "rs-client"
role_text Mutual = codes "mutual"
