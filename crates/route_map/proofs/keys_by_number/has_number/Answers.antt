use Rattle.std.proofs.Common.{◌≡◌, None, Some, ap, sym, ◌∙◌, true≢false}
use Rattle.std.specs.Option.{option_copied}
use Rattle.route_map.specs.Keys.{at, place_of}
use Rattle.route_map.proofs.HoldersLemmas.{found_number, none_found}
use Rattle.route_map.proofs.keys_by_number.has_number.Goals as goal

pub returns-in-None : goal.returns-in-None
returns-in-None c =
    let none : at c.args.peers.now.entries (place_of c.args.peer.now) ≡ None = ap (at c.args.peers.now.entries) (sym c.place_of.ensures) ∙ sym c.get.ensures.value ∙ ap option_copied c.in-None.is in
    (λ yes. absurd (true≢false (sym yes)), λ one. absurd (none_found c.args.peers.now.entries c.args.peer.now c.args.number none one))

pub returns-in-Some : goal.returns-in-Some
returns-in-Some c =
    let there : at c.args.peers.now.entries (place_of c.args.peer.now) ≡ Some c.in-Some.numbered.now = ap (at c.args.peers.now.entries) (sym c.place_of.ensures) ∙ sym c.get.ensures.value ∙ ap option_copied c.in-Some.is in
    let tells = found_number c.args.peers.now.entries c.args.peer.now c.args.number c.in-Some.numbered.now there in
    (λ yes. tells.0 (sym c.has.ensures ∙ yes), λ one. c.has.ensures ∙ tells.1 one)
