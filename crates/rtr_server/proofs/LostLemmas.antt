-- A router is reported as lost exactly where its connection is broken.
use Rattle.std.proofs.Common.{◌≡◌, ◌≢◌, ℕ, zero, suc, inl, inr, List, refl, sym, ap, ◌∙◌}
use Rattle.std.specs.declared.option.Option.TheVariants.{Some, None}
use Rattle.av_base.specs.Connections.{Link}
use Rattle.av_base.specs.declared.standing.Break.{Break}
use Rattle.av_base.specs.declared.standing.Break.TheVariants.{BySend, ByRecv}
use Rattle.rtr_cache.specs.declared.turn.Turn.{Turn}
use Rattle.rtr_cache.specs.declared.turn.Turn.TheVariants.{More, Close}
use Rattle.rtr_cache.specs.Cache.{Versions}
use Rattle.rtr_server.specs.declared.outcome.Outcome.{Outcome}
use Rattle.rtr_server.specs.declared.outcome.RouterEnd.TheVariants.{Lost, Short}
use Rattle.rtr_server.specs.Laws.{LostAsBroken, LostRoutersBroke}
use Rattle.rtr_server.specs.Serving.{AfterReply, BadPdu, CallFailed, Coming, Ends, IsComing, NoMore, OnComing, OnePdu, Serves, Serving}

none_lost : None ≢ Some Lost
none_lost e = let never : ⊥ = cc in never

short_lost : Some Short ≢ Some Lost
short_lost e = let never : ⊥ = cc in never

-- a connection that ended unbroken
ends_unbroken : (t : Link) (sent : List ℕ) (is out : Outcome) → Ends t sent is out → is.end ≢ Some Lost → LostAsBroken t out
ends_unbroken t sent is out ends apart = record {
  broke = λ e. absurd (apart (ap (λ (o : Outcome). o.end) (sym ends.same) ∙ e));
  lost = λ call broken. let unbroken = ends.unbroken in let never : ⊥ = cc in absurd never;
}

-- and one that broke
ends_broken : (t : Link) (out is : Outcome) (call : Break) → t.broken ≡ Some call → out ≡ is → is.end ≡ Some Lost → LostAsBroken t out
ends_broken t out is call broken same lost = record { broke = λ e. (call, broken); lost = λ other b. ap (λ (o : Outcome). o.end) same ∙ lost }

module _ (t : Link) (cache : Versions) where
  after_lost : (turn : Turn) (next : Serving) (goes_on : Serving → Outcome → Type 0) (out : Outcome) → ((state : Serving) (last : Outcome) → goes_on state last → LostAsBroken t last) → AfterReply t turn next goes_on out → LostAsBroken t out
  after_lost More next goes_on out each after = each next out after
  after_lost Close next goes_on out each after = ends_unbroken t next.sent _ out after none_lost

  coming_lost : (old : Serving) (coming : Coming) (goes_on : Serving → Outcome → Type 0) (out : Outcome) → ((state : Serving) (last : Outcome) → goes_on state last → LostAsBroken t last) → IsComing t old.used coming
      → OnComing t cache old coming goes_on out → LostAsBroken t out
  coming_lost old (OnePdu bytes pdu) goes_on out each comes does = elim does.sends [
    | inl whole ↦ after_lost does.turn _ goes_on out each whole.1
    | inr cut ↦ ends_broken t out _ BySend cut.0.broke cut.2 refl
  ]
  coming_lost old (BadPdu left fault) goes_on out each comes does = elim does.reports [
    | inl whole ↦ ends_unbroken t _ _ out whole none_lost
    | inr cut ↦ ends_broken t out _ BySend cut.0.broke cut.2 refl
  ]
  coming_lost old NoMore goes_on out each comes does = ends_unbroken t _ _ out does none_lost
  coming_lost old CallFailed goes_on out each comes does = ends_broken t out _ ByRecv comes.1 does.2 refl

  serves_lost : (count : ℕ) (old : Serving) (out : Outcome) → Serves t cache count old out → LostAsBroken t out
  serves_lost zero old out serves = ends_unbroken t _ _ out serves short_lost
  serves_lost (suc count) old out serves = coming_lost old serves.coming (Serves t cache count) out (serves_lost count) serves.comes serves.does

pub lost_routers : LostRoutersBroke
lost_routers t cache count old out serves = serves_lost t cache count old out serves
