use Rattle.std.proofs.Common.{◌≡◌, ℕ, List, Bool, true, false, Option, ap, refl, subst, sym, ◌∙◌, true≢false}
use Rattle.std.specs.Map.{values_of}
use Rattle.route_map.specs.Keys.{Entries}
use Rattle.shared_cases.specs.Cases.{Slots, at}
use Rattle.rib_store.specs.Grounds.{grounds}
use Rattle.shared_cases.specs.Taking.{left_times, times}
use Rattle.rib_store.specs.Cased.{Numbered, marked_by}
use Rattle.rib_store.specs.Marks.{AreKeysOfRoutes}
use Rattle.rib_store.proofs.RouteLemmas.{same_state}
use Rattle.rib_store.proofs.SessionLemmas.{parted_routes, parted_stored}
use Rattle.rib_store.proofs.routing.Routing.take_peer.Goals as goal

-- each case is left as often as the routes that went have it
leaves : (old new : Slots) (taken : Numbered) (numbers : List ℕ) → ((n : ℕ) → at new n ≡ left_times (times n numbers) (at old n)) → numbers ≡ values_of taken
    → (n : ℕ) → at new n ≡ left_times (times n (values_of taken)) (at old n)
leaves old new taken numbers left same n = left n ∙ ap (λ (ns : List ℕ). left_times (times n ns) (at old n)) same

pub returns-clause-routed : goal.returns-clause-routed
returns-clause-routed c = record {
  stored = parted_stored (grounds c.args.on.now.table.now c.args.on.now.roles.now) c.args.self.now.routes c.take_peer-taken.new.self c.take_peer-taken.result c.args.peer.now
      c.args.self.now.cases c.leave_all.new.self c.requires.routed.stored c.take_peer-taken.ensures.taken c.take_peer-taken.ensures.left (leaves c.args.self.now.cases c.leave_all.new.self c.take_peer-taken.result c.in_ok-numbers.numbers.items c.in_ok-leave_all.ensures c.in_ok-numbers.ensures);
  marks = record {
    noted = λ marked key n here differed. absurd (true≢false (sym marked ∙ c.requires.idle.unmarked));
    keys = subst (λ (keys : Option Entries). AreKeysOfRoutes keys c.take_peer-taken.new.self) (sym c.requires.idle.no_keys) tt;
  };
}

pub returns-clause-state : goal.returns-clause-state
returns-clause-state c = same_state c.args.on.now.table.now c.args.on.now.roles.now _ _ _ _
    (parted_routes (grounds c.args.on.now.table.now c.args.on.now.roles.now) c.args.self.now.routes c.take_peer-taken.new.self c.take_peer-taken.result c.args.peer.now
    c.args.self.now.cases c.leave_all.new.self c.requires.routed.stored c.take_peer-taken.ensures.taken c.take_peer-taken.ensures.left (leaves c.args.self.now.cases c.leave_all.new.self c.take_peer-taken.result c.in_ok-numbers.numbers.items c.in_ok-leave_all.ensures c.in_ok-numbers.ensures))
    (unmarked c.args.self.now.marks.is_marked c.requires.idle.unmarked) where
      unmarked : (b : Bool) → b ≡ false → marked_by b c.leave_all.new.self c.take_peer-taken.new.self c.args.self.now.marks.notes
          ≡ marked_by b c.args.self.now.cases c.args.self.now.routes c.args.self.now.marks.notes
      unmarked true e = absurd (true≢false e)
      unmarked false e = refl
