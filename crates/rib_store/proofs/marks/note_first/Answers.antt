use Rattle.std.proofs.Common.{ap, sym, ◌∙◌}
use Rattle.std.specs.BTreeMap.{is_at}
use Rattle.std.specs.Map.{lookup}
use Rattle.std.specs.Option.{is_some, option_copied}
use Rattle.path_model.specs.declared.key.Key.{Key}
use Rattle.path_model.specs.Key.{key_cmp}
use Rattle.rib_store.proofs.KeyLemmas.{same_key}
use Rattle.rib_store.proofs.NotedLemmas.{note_new, note_stays, none_of, some_copied}
use Rattle.rib_store.proofs.marks.note_first.Goals as goal

pub returns : goal.returns
returns c = λ q. c.in_ok-insert.ensures.updates q
    ∙ note_new (lookup (is_at (key_cmp q)) c.args.notes.now) (is_at (key_cmp c.args.key) q) c.args.marked (λ t.
    ap (λ (k : Key). lookup (is_at (key_cmp k)) c.args.notes.now) (sym (same_key c.args.key q t))
    ∙ sym c.get.ensures ∙ ap option_copied (none_of c.get.result (sym c.is_some.ensures ∙ c.if-is_some.false)))

pub returns-then-is_some : goal.returns-then-is_some
returns-then-is_some c = λ q. note_stays (lookup (is_at (key_cmp q)) c.args.notes.now) (is_at (key_cmp c.args.key) q) c.args.marked (λ t.
    ap (λ (k : Key). is_some (lookup (is_at (key_cmp k)) c.args.notes.now)) (sym (same_key c.args.key q t))
    ∙ ap is_some (sym c.get.ensures) ∙ some_copied c.get.result (sym c.is_some.ensures ∙ c.if-is_some.true))
