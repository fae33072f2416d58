use Rattle.std.proofs.Common.{ℕ, List, ap, ◌∙◌}
use Rattle.path_model.specs.Authority.{has}
use Rattle.path_model.proofs.AscendingLemmas.{has_insert}
use Rattle.listings.proofs.PeersLemmas.{one_noted}
use Rattle.listings.proofs.seen.note.Goals as goal

pub returns : goal.returns
returns c = λ a. rw (← c.has_own.ensures) (one_noted c.has_own.result c.args.seen.now.keys c.insert.new.self.keys c.args.asn c.if-not-has_own.false
    (λ q. ap (λ (ks : List ℕ). has ks q) c.in_ok-insert.ensures.keys ∙ has_insert c.args.asn c.args.seen.now.keys q) a)
