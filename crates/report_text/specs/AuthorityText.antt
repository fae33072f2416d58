-- What an AS attests of another one, as a word, and what two attest of each other.
use Rattle.std.specs.Prelude.{ℕ, List, ◌++◌, codes}
use Rattle.path_model.specs.declared.authority.Authority.{Authority}
use Rattle.path_model.specs.declared.authority.Authority.TheVariants.{Silent, Refuses, Provides}

-- that it is its provider, that it isn't one, or nothing
abbrev pub authority_text : Authority → List ℕ
authority_text Provides = codes "provides"
authority_text Refuses = codes "refuses"
authority_text Silent = codes "silent"

-- what one attests of the other, and the other of the one
abbrev pub attested_part : Authority → Authority → List ℕ
attested_part climb descend = codes " climb " ++ authority_text climb ++ codes " descend " ++ authority_text descend
