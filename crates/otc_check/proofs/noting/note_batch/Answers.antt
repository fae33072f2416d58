use Rattle.std.proofs.Common.{◌∙◌, ap, arith}
use Rattle.path_model.specs.declared.batch.Batch.{Batch}
use Rattle.path_model.specs.Batches.{changes_in}
use Rattle.path_model.specs.Notes.{announced_of}
use Rattle.otc_check.proofs.NotingLemmas.{announced_announcements, announced_removals}
use Rattle.otc_check.proofs.noting.note_batch.Goals as goal

pub announce_all-requires : goal.announce_all-requires
announce_all-requires c =
    omega (arith, c.requires, ap (λ (b : Batch). announced_of (changes_in b)) c.in-AnnounceAll.is ∙ announced_announcements c.in-AnnounceAll.peer c.in-AnnounceAll.field-1 c.in-AnnounceAll.nlris)

pub overflow_add-result : goal.overflow_add-result
overflow_add-result c =
    omega (arith, c.requires, c.len.ensures, ap (λ (b : Batch). announced_of (changes_in b)) c.in-AnnounceAll.is ∙ announced_announcements c.in-AnnounceAll.peer c.in-AnnounceAll.field-1 c.in-AnnounceAll.nlris)

pub returns-in-RemoveAll-clause-next : goal.returns-in-RemoveAll-clause-next
returns-in-RemoveAll-clause-next c =
    omega (arith, ap (λ (b : Batch). announced_of (changes_in b)) c.in-RemoveAll.is ∙ announced_removals c.in-RemoveAll.peer c.in-RemoveAll.nlris)

pub returns-in_ok-announce_all-in-AnnounceAll-clause-next :
    goal.returns-in_ok-announce_all-in-AnnounceAll-clause-next
returns-in_ok-announce_all-in-AnnounceAll-clause-next c =
    omega (arith, c.len.ensures, ap (λ (b : Batch). announced_of (changes_in b)) c.in-AnnounceAll.is ∙ announced_announcements c.in-AnnounceAll.peer c.in-AnnounceAll.field-1 c.in-AnnounceAll.nlris)
