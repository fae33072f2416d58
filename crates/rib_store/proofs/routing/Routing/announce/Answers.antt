use Rattle.std.proofs.Common.{Bool, Option, Some, ℕ, sym, subst, ◌∙◌, ap, List}
use Rattle.std.specs.BTreeMap.{is_at}
use Rattle.std.specs.Map.{lookup}
use Rattle.std.specs.Option.{option_map}
use Rattle.path_model.specs.declared.verdict.Verdict.{Verdict}
use Rattle.path_model.specs.Key.{key_cmp}
use Rattle.shared_cases.specs.Cases.{at, marked_or}
use Rattle.rib_store.specs.Grounds.{grounds}
use Rattle.rib_store.specs.Marks.{AreNoted, IsCaseAt}
use Rattle.rib_store.specs.Routing.{path_by}
use Rattle.rib_store.specs.Steps.{Leaves, NotesMove}
use Rattle.rib_store.proofs.MarksLemmas.{case_at, keys_follow}
use Rattle.rib_store.proofs.NotedLemmas.{mark_at}
use Rattle.rib_store.proofs.RouteLemmas.{announced_case, announced_noted, announced_state, mark_taken, state_by}
use Rattle.rib_store.proofs.StoredLemmas.{inserted, settled}
use Rattle.rib_store.proofs.routing.Routing.announce.Goals as goal

pub follow-requires : goal.follow-requires
follow-requires g c = subst (IsCaseAt c.args.self.now.marks.keys c.args.key.now) (sym c.in_ok-before.ensures.before) (case_at c.args.self.now.marks.keys c.args.self.now.routes c.args.key.now c.requires.routed.marks.keys)

pub returns-clause-routed : goal.returns-clause-routed
returns-clause-routed g c =
    let leaves : Leaves c.take.new.cases (lookup (is_at (key_cmp c.args.key.now)) c.args.self.now.routes) c.leave.new.cases = subst (λ (o : Option ℕ). Leaves c.take.new.cases o c.leave.new.cases) c.in_ok-before.ensures.before c.leave.ensures in
    let moves : NotesMove c.args.self.now.marks.is_marked c.args.self.now.marks.notes c.args.key.now (lookup (is_at (key_cmp c.args.key.now)) c.args.self.now.routes) (Some c.in_ok-number.number) (mark_at c.args.self.now.cases c.args.self.now.routes c.args.key.now) c.follow.new.self.notes =
    subst (λ (v : Option Verdict). NotesMove c.args.self.now.marks.is_marked c.args.self.now.marks.notes c.args.key.now (lookup (is_at (key_cmp c.args.key.now)) c.args.self.now.routes) (Some c.in_ok-number.number) v c.follow.new.self.notes)
    (mark_taken (grounds c.args.on.now.table.now c.args.on.now.roles.now) c.args.on.now.table.now c.args.on.now.roles.now c.args.self.now.marks.is_marked c.args.self.now.routes c.insert.new.self c.args.self.now.marks.notes c.follow.new.self.notes c.args.key.now
    c.args.self.now.cases c.take.new.cases c.in_ok-number.number (path_by c.args.self.now.cases c.args.by) c.requires.routed.stored c.in_ok-number.ensures.taken)
    (subst (λ (o : Option ℕ). NotesMove c.args.self.now.marks.is_marked c.args.self.now.marks.notes c.args.key.now o (Some c.in_ok-number.number) (option_map (λ n. marked_or (at c.take.new.cases n)) o) c.follow.new.self.notes)
    c.in_ok-before.ensures.before c.in_ok-follow.ensures.noted) in
    record {
      stored = settled (grounds c.args.on.now.table.now c.args.on.now.roles.now) c.insert.new.self c.take.new.cases c.leave.new.cases _
          (inserted (grounds c.args.on.now.table.now c.args.on.now.roles.now) c.args.self.now.routes c.insert.new.self c.args.self.now.cases c.take.new.cases c.args.key.now c.in_ok-number.number (path_by c.args.self.now.cases c.args.by)
          c.requires.routed.stored c.in_ok-number.ensures.taken c.len-length.ensures.in_order c.in_ok-before.ensures.inserted c.in_ok-before.ensures.updates)
          leaves;
      marks = record {
        noted = subst (λ (b : Bool). AreNoted b c.insert.new.self c.leave.new.cases c.follow.new.self.notes c.follow.new.self.pending) (sym c.follow.ensures.same)
            (subst (λ (ps : List ℕ). AreNoted c.args.self.now.marks.is_marked c.insert.new.self c.leave.new.cases c.follow.new.self.notes ps) (sym c.follow.ensures.pending)
            (announced_noted (grounds c.args.on.now.table.now c.args.on.now.roles.now) c.args.on.now.table.now c.args.on.now.roles.now c.args.self.now.marks.is_marked c.args.self.now.routes c.insert.new.self c.args.self.now.marks.notes c.follow.new.self.notes c.args.key.now
            c.args.self.now.cases c.take.new.cases c.leave.new.cases c.in_ok-number.number (path_by c.args.self.now.cases c.args.by)
            c.requires.routed.stored c.in_ok-number.ensures.taken c.len-length.ensures.in_order c.in_ok-before.ensures.inserted c.in_ok-before.ensures.updates leaves moves c.args.self.now.marks.pending c.requires.routed.marks.noted));
        keys = keys_follow c.args.self.now.marks.keys c.follow.new.self.keys c.args.self.now.routes c.insert.new.self c.args.key.now (Some c.in_ok-number.number) c.requires.routed.marks.keys c.in_ok-before.ensures.updates c.in_ok-follow.ensures.keys;
      };
    }

pub returns-clause-state : goal.returns-clause-state
returns-clause-state g c =
    ap (λ (b : Bool). state_by c.args.on.now.table.now c.args.on.now.roles.now b c.leave.new.cases c.insert.new.self c.follow.new.self.notes) c.follow.ensures.same
    ∙ announced_state (grounds c.args.on.now.table.now c.args.on.now.roles.now) c.args.on.now.table.now c.args.on.now.roles.now c.args.self.now.marks.is_marked c.args.self.now.routes c.insert.new.self c.args.self.now.marks.notes c.follow.new.self.notes c.args.key.now
    c.args.self.now.cases c.take.new.cases c.leave.new.cases c.in_ok-number.number (path_by c.args.self.now.cases c.args.by)
    c.requires.routed.stored c.in_ok-number.ensures.taken c.len-length.ensures.in_order c.in_ok-before.ensures.inserted c.in_ok-before.ensures.updates
    (subst (λ (o : Option ℕ). Leaves c.take.new.cases o c.leave.new.cases) c.in_ok-before.ensures.before c.leave.ensures)
    (subst (λ (v : Option Verdict). NotesMove c.args.self.now.marks.is_marked c.args.self.now.marks.notes c.args.key.now (lookup (is_at (key_cmp c.args.key.now)) c.args.self.now.routes) (Some c.in_ok-number.number) v c.follow.new.self.notes)
    (mark_taken (grounds c.args.on.now.table.now c.args.on.now.roles.now) c.args.on.now.table.now c.args.on.now.roles.now c.args.self.now.marks.is_marked c.args.self.now.routes c.insert.new.self c.args.self.now.marks.notes c.follow.new.self.notes c.args.key.now
    c.args.self.now.cases c.take.new.cases c.in_ok-number.number (path_by c.args.self.now.cases c.args.by) c.requires.routed.stored c.in_ok-number.ensures.taken)
    (subst (λ (o : Option ℕ). NotesMove c.args.self.now.marks.is_marked c.args.self.now.marks.notes c.args.key.now o (Some c.in_ok-number.number) (option_map (λ n. marked_or (at c.take.new.cases n)) o) c.follow.new.self.notes)
    c.in_ok-before.ensures.before c.in_ok-follow.ensures.noted))

pub returns-clause-case : goal.returns-clause-case
returns-clause-case g c =
    announced_case (grounds c.args.on.now.table.now c.args.on.now.roles.now) c.args.on.now.table.now c.args.on.now.roles.now c.args.self.now.marks.is_marked c.args.self.now.routes c.insert.new.self c.args.self.now.marks.notes c.follow.new.self.notes c.args.key.now
    c.args.self.now.cases c.take.new.cases c.leave.new.cases c.in_ok-number.number (path_by c.args.self.now.cases c.args.by)
    c.requires.routed.stored c.in_ok-number.ensures.taken c.len-length.ensures.in_order c.in_ok-before.ensures.inserted c.in_ok-before.ensures.updates
    (subst (λ (o : Option ℕ). Leaves c.take.new.cases o c.leave.new.cases) c.in_ok-before.ensures.before c.leave.ensures)
    (subst (λ (v : Option Verdict). NotesMove c.args.self.now.marks.is_marked c.args.self.now.marks.notes c.args.key.now (lookup (is_at (key_cmp c.args.key.now)) c.args.self.now.routes) (Some c.in_ok-number.number) v c.follow.new.self.notes)
    (mark_taken (grounds c.args.on.now.table.now c.args.on.now.roles.now) c.args.on.now.table.now c.args.on.now.roles.now c.args.self.now.marks.is_marked c.args.self.now.routes c.insert.new.self c.args.self.now.marks.notes c.follow.new.self.notes c.args.key.now
    c.args.self.now.cases c.take.new.cases c.in_ok-number.number (path_by c.args.self.now.cases c.args.by) c.requires.routed.stored c.in_ok-number.ensures.taken)
    (subst (λ (o : Option ℕ). NotesMove c.args.self.now.marks.is_marked c.args.self.now.marks.notes c.args.key.now o (Some c.in_ok-number.number) (option_map (λ n. marked_or (at c.take.new.cases n)) o) c.follow.new.self.notes)
    c.in_ok-before.ensures.before c.in_ok-follow.ensures.noted))
