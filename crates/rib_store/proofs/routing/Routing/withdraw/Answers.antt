use Rattle.std.proofs.Common.{Bool, Option, None, ℕ, sym, subst, ◌∙◌, ap, List}
use Rattle.std.specs.BTreeMap.{is_at}
use Rattle.std.specs.Map.{lookup}
use Rattle.std.specs.Option.{option_map}
use Rattle.path_model.specs.Key.{key_cmp}
use Rattle.shared_cases.specs.Cases.{at, marked_or}
use Rattle.rib_store.specs.Grounds.{grounds}
use Rattle.rib_store.specs.Marks.{AreNoted, IsCaseAt}
use Rattle.rib_store.specs.Steps.{Leaves, NotesMove}
use Rattle.rib_store.proofs.MarksLemmas.{case_at, keys_follow}
use Rattle.rib_store.proofs.NotedLemmas.{mark_at}
use Rattle.rib_store.proofs.RouteLemmas.{withdrawn_noted, withdrawn_state, state_by}
use Rattle.rib_store.proofs.StoredLemmas.{removed, settled}
use Rattle.rib_store.proofs.routing.Routing.withdraw.Goals as goal

pub follow-requires : goal.follow-requires
follow-requires c = subst (IsCaseAt c.args.self.now.marks.keys c.args.key.now) (sym c.remove-before.ensures.before) (case_at c.args.self.now.marks.keys c.args.self.now.routes c.args.key.now c.requires.marks.keys)

pub returns-clause-routed : goal.returns-clause-routed
returns-clause-routed c =
    let leaves : Leaves c.args.self.now.cases (lookup (is_at (key_cmp c.args.key.now)) c.args.self.now.routes) c.leave.new.cases = subst (λ (o : Option ℕ). Leaves c.args.self.now.cases o c.leave.new.cases) c.remove-before.ensures.before c.leave.ensures in
    let moves : NotesMove c.args.self.now.marks.is_marked c.args.self.now.marks.notes c.args.key.now (lookup (is_at (key_cmp c.args.key.now)) c.args.self.now.routes) None (mark_at c.args.self.now.cases c.args.self.now.routes c.args.key.now) c.follow.new.self.notes =
    subst (λ (o : Option ℕ). NotesMove c.args.self.now.marks.is_marked c.args.self.now.marks.notes c.args.key.now o None (option_map (λ n. marked_or (at c.args.self.now.cases n)) o) c.follow.new.self.notes)
    c.remove-before.ensures.before c.in_ok-follow.ensures.noted in
    record {
      stored = settled (grounds c.args.on.now.table.now c.args.on.now.roles.now) c.remove-before.new.self c.args.self.now.cases c.leave.new.cases _
          (removed (grounds c.args.on.now.table.now c.args.on.now.roles.now) c.args.self.now.routes c.remove-before.new.self c.args.self.now.cases c.args.key.now c.requires.stored c.remove-before.ensures.removed c.remove-before.ensures.updates)
          leaves;
      marks = record {
        noted = subst (λ (b : Bool). AreNoted b c.remove-before.new.self c.leave.new.cases c.follow.new.self.notes c.follow.new.self.pending) (sym c.follow.ensures.same)
            (subst (λ (ps : List ℕ). AreNoted c.args.self.now.marks.is_marked c.remove-before.new.self c.leave.new.cases c.follow.new.self.notes ps) (sym c.follow.ensures.pending)
            (withdrawn_noted (grounds c.args.on.now.table.now c.args.on.now.roles.now) c.args.on.now.table.now c.args.on.now.roles.now c.args.self.now.marks.is_marked c.args.self.now.routes c.remove-before.new.self c.args.self.now.marks.notes c.follow.new.self.notes c.args.key.now
            c.args.self.now.cases c.leave.new.cases c.requires.stored c.remove-before.ensures.removed c.remove-before.ensures.updates leaves moves c.args.self.now.marks.pending c.requires.marks.noted));
        keys = keys_follow c.args.self.now.marks.keys c.follow.new.self.keys c.args.self.now.routes c.remove-before.new.self c.args.key.now None c.requires.marks.keys c.remove-before.ensures.updates c.in_ok-follow.ensures.keys;
      };
    }

pub returns-clause-state : goal.returns-clause-state
returns-clause-state c =
    ap (λ (b : Bool). state_by c.args.on.now.table.now c.args.on.now.roles.now b c.leave.new.cases c.remove-before.new.self c.follow.new.self.notes) c.follow.ensures.same
    ∙ withdrawn_state (grounds c.args.on.now.table.now c.args.on.now.roles.now) c.args.on.now.table.now c.args.on.now.roles.now c.args.self.now.marks.is_marked c.args.self.now.routes c.remove-before.new.self c.args.self.now.marks.notes c.follow.new.self.notes c.args.key.now
    c.args.self.now.cases c.leave.new.cases c.requires.stored c.remove-before.ensures.removed c.remove-before.ensures.updates
    (subst (λ (o : Option ℕ). Leaves c.args.self.now.cases o c.leave.new.cases) c.remove-before.ensures.before c.leave.ensures)
    (subst (λ (o : Option ℕ). NotesMove c.args.self.now.marks.is_marked c.args.self.now.marks.notes c.args.key.now o None (option_map (λ n. marked_or (at c.args.self.now.cases n)) o) c.follow.new.self.notes)
    c.remove-before.ensures.before c.in_ok-follow.ensures.noted)
