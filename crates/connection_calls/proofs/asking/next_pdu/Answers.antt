use Rattle.std.proofs.Common.{refl, ◌++◌, List, ℕ, sym, ap, ◌∙◌}
use Rattle.connection_calls.proofs.ConnectionLemmas.{Spares-refl, Spares-trans, Now-got, KeepsSent-refl, KeepsSent-trans}
use Rattle.connection_calls.proofs.FaultsLemmas.{BreaksByFault-refl, BreaksByFault-trans}
use Rattle.connection_calls.proofs.asking.next_pdu.Goals as goal

pub pieces-init : goal.pieces-init
pieces-init g c = record {
  so_far = record { keeps = λ used sent now. now };
  keeps = KeepsSent-refl _ _;
  usable = c.requires;
  only = Spares-refl _ _ _;
  attempts = refl;
  broke = BreaksByFault-refl _ _;
}

pub returns-in_err-more-in-Ok-None-clause-only : goal.returns-in_err-more-in-Ok-None-clause-only
returns-in_err-more-in-Ok-None-clause-only g c = Spares-trans c.pieces.invariant.only c.receive.ensures.only

pub pieces-preserved : goal.pieces-preserved
pieces-preserved g c =
    let turn = (rw c.in-More.is at c.in_ok-more-in-Ok-None.ensures) in
    let none = (rw c.in-Ok-None.field-0-is at c.in-Ok-None.ensures.next) in
    record {
      so_far = record { keeps = λ used sent now. turn.answer used sent (Now-got _ _ (ap (λ (l : List ℕ). used ++ l) (sym none.1)) (c.pieces.invariant.so_far.keeps used sent now)) };
      keeps = KeepsSent-trans c.pieces.invariant.keeps turn.keeps;
      usable = turn.usable;
      only = Spares-trans c.pieces.invariant.only turn.only;
      attempts = turn.attempts ∙ c.pieces.invariant.attempts;
      broke = BreaksByFault-trans c.pieces.invariant.broke turn.broke;
    }

pub returns-in-End-clause-only : goal.returns-in-End-clause-only
returns-in-End-clause-only g c = Spares-trans c.pieces.invariant.only c.receive.ensures.only

pub returns-in-Err-clause-answer : goal.returns-in-Err-clause-answer
returns-in-Err-clause-answer g c = λ used sent now.
    Now-got _ _ (ap (λ (l : List ℕ). used ++ l) (sym c.in-Err.ensures.next.1)) (c.pieces.invariant.so_far.keeps used sent now)

pub returns-in_err-more-in-Ok-None-clause-keeps : goal.returns-in_err-more-in-Ok-None-clause-keeps
returns-in_err-more-in-Ok-None-clause-keeps g c = KeepsSent-trans c.pieces.invariant.keeps c.receive.ensures.keeps

pub returns-in-End-clause-keeps : goal.returns-in-End-clause-keeps
returns-in-End-clause-keeps g c = KeepsSent-trans c.pieces.invariant.keeps c.receive.ensures.keeps

pub returns-in-Err-clause-refused : goal.returns-in-Err-clause-refused
returns-in-Err-clause-refused g c = (c.in-Err.fault, rw c.in-Err.ensures.next.1 c.in-Err.ensures.next.0, c.in_ok-refusal-in-Err.ensures.cause)

pub returns-in_err-more-in-Ok-None-clause-broke : goal.returns-in_err-more-in-Ok-None-clause-broke
returns-in_err-more-in-Ok-None-clause-broke g c = BreaksByFault-trans c.pieces.invariant.broke c.receive.ensures.broke

pub returns-in-End-clause-broke : goal.returns-in-End-clause-broke
returns-in-End-clause-broke g c = BreaksByFault-trans c.pieces.invariant.broke c.receive.ensures.broke

pub returns-in-Broke-clause-only : goal.returns-in-Broke-clause-only
returns-in-Broke-clause-only g c = Spares-trans c.pieces.invariant.only c.receive.ensures.only

pub returns-in-Broke-clause-keeps : goal.returns-in-Broke-clause-keeps
returns-in-Broke-clause-keeps g c = KeepsSent-trans c.pieces.invariant.keeps c.receive.ensures.keeps

pub returns-in-Broke-clause-broke : goal.returns-in-Broke-clause-broke
returns-in-Broke-clause-broke g c = BreaksByFault-trans c.pieces.invariant.broke c.receive.ensures.broke
