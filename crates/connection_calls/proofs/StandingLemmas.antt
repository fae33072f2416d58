-- Connections that may be used, where they are told.
use Rattle.std.proofs.Common.{◌≡◌, ℕ, false, List, map, None, Some, IfSome, sym, ◌∙◌, ap, subst}
use Rattle.std.specs.Prelude.{slice_get}
use Rattle.std.specs.Option.{option_map}
use Rattle.std.specs.declared.option.Option.{Option}
use Rattle.std.proofs.lemmas.Option.{slice_get-map}
use Rattle.av_base.specs.Connections.{Agrees, IsUsable, Link, standing_of}
use Rattle.av_base.specs.declared.standing.Standing.{Standing}
use Rattle.connection_calls.specs.Connection.{IsOpenWith, Now}

standing_at : (found : Option Link) (link : Link) → option_map standing_of found ≡ Some (record { closed = false; broken = None }) → found ≡ Some link → (link.closed ≡ false) × (link.broken ≡ None)
standing_at None link usable is = let none : ⊥ = cc in absurd none
standing_at (Some t) link usable is =
    let same : t ≡ link = cc in
    let stands : standing_of t ≡ record { closed = false; broken = None } = cc in
    subst (λ (l : Link). (l.closed ≡ false) × (l.broken ≡ None)) same (ap (λ (s : Standing). s.closed) stands, ap (λ (s : Standing). s.broken) stands)

-- one that may be used is neither closed nor broken
pub stands_open : (wire : Option (List Link)) (stands : List Standing) (link : ℕ) → Agrees wire stands → IsUsable stands link
    → (links : List Link) → wire ≡ Some links → (t : Link) → slice_get links link ≡ Some t → (t.closed ≡ false) × (t.broken ≡ None)
stands_open wire stands link agrees usable links is t there =
    let same : map standing_of links ≡ stands = subst (λ (w : Option (List Link)). IfSome w (λ l. map standing_of l ≡ stands)) is agrees in
    let stood : option_map standing_of (slice_get links link) ≡ Some (record { closed = false; broken = None }) =
    sym (slice_get-map standing_of links link) ∙ ap (λ (l : List Standing). slice_get l link) same ∙ usable in
    standing_at (slice_get links link) t stood there

pub still_open : (wire : Option (List Link)) (stands : List Standing) (link : ℕ) (sent : List ℕ) → Agrees wire stands → IsUsable stands link → Now wire link (λ t. t.sent ≡ sent)
    → Now wire link (IsOpenWith sent)
still_open wire stands link sent agrees usable now = record {
  told = λ links is.
      let here = now.told links is in
      let open_still = stands_open wire stands link agrees usable links is here.0 here.1 in
      (here.0, here.1, record { gave = here.2; unclosed = open_still.0; unbroken = open_still.1 });
}
