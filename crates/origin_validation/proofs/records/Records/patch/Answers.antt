use Rattle.std.proofs.Common.{ℕ, List, ap, subst, ◌∙◌}
use Rattle.origin_model.specs.Current.{Parts}
use Rattle.origin_model.specs.Vrp.{Payload}
use Rattle.origin_model.specs.VrpChanges.{Patches}
use Rattle.origin_validation.specs.Records.{or_none, source_of, with_source}
use Rattle.origin_validation.proofs.PatchLemmas.{put_twice}
use Rattle.origin_validation.proofs.records.Records.patch.Goals as goal

pub returns : goal.returns
returns c =
    let old = c.args.self.now in
    record {
      payloads = c.apply.new.set;
      patches = subst (λ (before : List Payload). Patches c.args.changes.now before c.apply.new.set) (c.or_empty-set.ensures ∙ ap or_none c.in_ok-held.ensures.held
          ∙ ap (λ (name : List ℕ). or_none (source_of old.sources name)) c.in_ok-copy.ensures) c.in_ok-apply.ensures;
      puts = c.in_ok-put.ensures.put
          ∙ ap (λ (parts : Parts). with_source parts c.args.name c.apply.new.set) (c.in_ok-held.ensures.put ∙ ap (λ (name : List ℕ). with_source old name c.new.result) c.in_ok-copy.ensures)
          ∙ ap (λ (ss : List (List ℕ × List Payload)). record old { sources = ss }) (put_twice c.args.name c.new.result c.apply.new.set old.sources);
    }
