use Rattle.std.proofs.Common.{rules, ◌≡◌, List, ℕ, length, ◌++◌, ◌∷◌, [], get_or, arith}
use Rattle.std.specs.Int.{w16, from_be_bytes}
use Rattle.std.proofs.lemmas.Bool.Decides.{nat_tests}
use Rattle.bgp_update.specs.Frames.{IsFramed}
use Rattle.bgp_update.proofs.FrameLemmas.{frame_made}
use Rattle.bgp_update.proofs.framing.unframed.Goals as goal

pub returns-in_err-after_marker-clause-none : goal.returns-in_err-after_marker-clause-none
returns-in_err-after_marker-clause-none c = rw c.from_residual.ensures (λ (kind : ℕ) (rest : List ℕ) (is : IsFramed c.args.message.now kind rest). c.in_err-after_marker.ensures.none (is.count ++ (kind ∷ rest)) is.whole)

pub returns-else-from-message-clause-some : goal.returns-else-from-message-clause-some
returns-else-from-message-clause-some c =
    let rest = c.in_ok-after_marker.field-0.now in
    let counts : from_be_bytes w16 (get_or rest 0 0 ∷ get_or rest 1 0 ∷ []) ≡ length c.args.message.now = grind (arith, nat_tests) in
    frame_made c.args.message.now rest (search rules) c.in_ok-after_marker.ensures.some counts
