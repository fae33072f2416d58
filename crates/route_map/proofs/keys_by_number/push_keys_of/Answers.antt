use Rattle.std.proofs.Common.{◌≡◌, ◌||◌, Bool, Some, ap, sym, ◌∙◌}
use Rattle.std.specs.Option.{option_copied}
use Rattle.std.proofs.lemmas.Result.{on_ok_weaker}
use Rattle.route_map.specs.Keys.{at, place_of, has_key}
use Rattle.route_map.specs.Numbered.{GivesKeys, GivesOf}
use Rattle.route_map.proofs.HoldersLemmas.{gives_none, of_this_peer}
use Rattle.route_map.proofs.keys_by_number.push_keys_of.Goals as goal

pub returns-in-None : goal.returns-in-None
returns-in-None c =
    gives_none c.args.peers.now.entries c.args.peer c.args.number c.args.keys.now.items
    (ap (at c.args.peers.now.entries) (sym c.place_of.ensures) ∙ sym c.get.ensures.value ∙ ap option_copied c.in-None.is)

pub returns-in-Some : goal.returns-in-Some
returns-in-Some c =
    let there : at c.args.peers.now.entries (place_of c.args.peer) ≡ Some c.in-Some.numbered.now = ap (at c.args.peers.now.entries) (sym c.place_of.ensures) ∙ sym c.get.ensures.value ∙ ap option_copied c.in-Some.is in
    let gives : GivesKeys c.args.peer c.in-Some.numbered.now c.args.number c.args.keys.now.items c.push_keys.new.keys.items → GivesOf c.args.peer c.args.peers.now.entries c.args.number c.args.keys.now.items c.push_keys.new.keys.items =
    λ found q. found q ∙ ap (λ (t : Bool). has_key c.args.keys.now.items q || t) (of_this_peer c.args.peers.now.entries c.args.peer c.args.number (Some c.in-Some.numbered.now) there q) in
    on_ok_weaker _ gives c.push_keys.ensures
