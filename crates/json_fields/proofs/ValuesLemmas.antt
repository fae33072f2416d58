-- Members that may be absent, after one more member was read.
use Rattle.std.proofs.Common.{◌≡◌, ℕ, List, true, false, bytes_eq, Option, Some, None, option_map, sym, subst}
use Rattle.serde_json.specs.Data.{Data, Members, object, put}
use Rattle.serde_json.specs.Find.{get}
use Rattle.json_fields.specs.Each.{IfThere}
use Rattle.json_fields.specs.Tokens.{Holds, Keeps}
use Rattle.json_fields.proofs.ObjectLemmas.{get_same, get_other}

-- nothing was found
pub holds_none : {X A : Type 0} (see : X → A) (P : A → Type 0) (found : Option X) → found ≡ None → Holds see found P → (a : A) → P a → ⊥
holds_none {X = X} see P found e h = subst (λ (o : Option X). Holds see o P) e h

module _ {X A : Type 0} (see : X → A) (R : Data → A → Type 0) where
  there_holds : (found : Option X) (d : Data) → Holds see found (R d) → Keeps see R (option_map Some found) (Some d)
  there_holds (Some x) d h = h
  there_holds None d none = never where
    never : (a : Option A) → IfThere R (Some d) a → ⊥
    never None h = h
    never (Some a) h = none a h

  module _ (q k : List ℕ) (d : Data) (ms : Members) where
    pub member_here : (kept : Option (Option X)) → bytes_eq k q ≡ true → Keeps see R kept (Some d)
        → Keeps see R kept (get q (object (put k d ms)))
    member_here kept e h = subst (λ (o : Option Data). Keeps see R kept o) (sym (get_same q k d ms e)) h

    pub member_new : (kept : Option (Option X)) (found : Option X) → kept ≡ option_map Some found → bytes_eq k q ≡ true → Holds see found (R d)
        → Keeps see R kept (get q (object (put k d ms)))
    member_new kept found is e h =
        member_here kept e (subst (λ (o : Option (Option X)). Keeps see R o (Some d)) (sym is) (there_holds found d h))

    pub member_old : (kept : Option (Option X)) → bytes_eq k q ≡ false → Keeps see R kept (get q (object ms))
        → Keeps see R kept (get q (object (put k d ms)))
    member_old kept e h = subst (λ (o : Option Data). Keeps see R kept o) (sym (get_other q k d ms e)) h
