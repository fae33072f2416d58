-- For which ASes a pair is noted. Private contracts alone cite it.
use Rattle.std.specs.Prelude.{◌≡◌, ◌-◌, ℕ, nat_lt, Bool, true, false, List, [], length, take, is_none, if◌then◌else◌}
use Rattle.std.specs.List.{filter}
use Rattle.std.specs.declared.option.Option.TheVariants.{None}
use Rattle.path_model.specs.declared.role.Direction.{Direction}
use Rattle.path_model.specs.declared.role.Direction.TheVariants.{Up, Down}
use Rattle.path_model.specs.declared.verdict.Verdict.TheVariants.{Unknown}
use Rattle.path_model.specs.Authority.{Table}
use Rattle.path_model.specs.Labelling.{direction_of}
use Rattle.rib_store.specs.Pairs.{Paired}
use Rattle.listings.specs.Silent.{IsAsked}

-- the ASes about which the hops of a chain ask, some perhaps more than once
abbrev pub asked_of : Direction → List ℕ → List ℕ
asked_of Up chain = take (length chain - 1) chain
asked_of Down chain = if nat_lt 1 (length chain) then chain else []

-- those of some ASes that have no row
abbrev pub without_row : Table → List ℕ → List ℕ
without_row table ases = filter (λ asn. is_none (table asn)) ases

-- the pair's verdict is Unknown, and its path asks about the AS, which has no row
pub record IsNotedFor (table : Table) (p : Paired) (asn : ℕ) : Type 0 where
  pub unknown : p.standing.verdict ≡ Unknown
  pub no_row : table asn ≡ None
  pub asked : IsAsked (direction_of p.standing.role) p.standing.path.chain asn
