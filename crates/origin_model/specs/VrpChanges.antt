-- What was said of payloads since some moment, seen as the list of them in their order, each with whether it was announced last.
use Rattle.std.specs.Prelude.{◌≡◌, Bool, cond, List}
use Rattle.std.specs.BTreeMap.{is_at}
use Rattle.std.specs.List.Sorted.{IsStrictlySortedBy}
use Rattle.std.specs.Map.{lookup}
use Rattle.std.specs.Option.{unwrap_or}
use Rattle.std.specs.declared.option.Option.{Option}
use Rattle.std.specs.declared.option.Option.TheVariants.{Some}
use Rattle.origin_model.specs.Vrp.{Payload, payload_cmp}
use Rattle.origin_model.specs.VrpSet.{has}

-- whether the payload was announced last, or withdrawn; none where it wasn't named
abbrev pub said : List (Payload × Bool) → Payload → Option Bool
said changes v = lookup (is_at (payload_cmp v)) changes

-- this is said of this payload from now on, and of each other one what was said before
abbrev pub Says : List (Payload × Bool) → Payload → Bool → List (Payload × Bool) → Type 0
Says before v announced after = (q : Payload) → said after q ≡ cond (is_at (payload_cmp v) q) (Some announced) (said before q)

-- What the changes make of payloads, in their order: one that they name is there exactly where it was announced last, and each other one
-- exactly where it was before.
pub record Patches (changes : List (Payload × Bool)) (before after : List Payload) : Type 0 where
  pub in_order : IsStrictlySortedBy payload_cmp after
  pub members : (v : Payload) → has after v ≡ unwrap_or (said changes v) (has before v)
