-- Every case has one leak.
use Rattle.std.proofs.Common.{◌≡◌, ◌≢◌, ℕ, Bool, true, false, cond, nat_eq, refl, ap, sym, ◌∙◌, eqb-true, eq-eqb, ne_eqb, true≢false}
use Rattle.av_base.specs.One.{HasOne}
use Rattle.path_model.specs.declared.otc.Otc.{Otc}
use Rattle.path_model.specs.declared.otc.Otc.TheVariants.{Absent, As, Malformed as IsMalformed}
use Rattle.path_model.specs.declared.role.Role.{Role}
use Rattle.path_model.specs.declared.role.Role.TheVariants.{Provider as OurProvider, Customer as OurCustomer, Peer as OurPeer, Rs as OurRs, RsClient as OurRsClient, Mutual as OurMutual}
use Rattle.path_model.specs.declared.leak.Leak.{Leak}
use Rattle.path_model.specs.declared.leak.Leak.TheVariants.{Clean, Customer, RsClient, Peer, Malformed}
use Rattle.otc_check.specs.Leak.{IsClean, IsLeak}
use Rattle.otc_check.specs.LeakBy.{leak_of}

-- ---- it is one

may_send : (role : Role) (neighbour asn : ℕ) → role ≢ OurCustomer → role ≢ OurRsClient → (role ≡ OurPeer → asn ≡ neighbour) → IsClean role neighbour (As asn)
may_send role neighbour asn no_customer no_client peer = record {
  formed = λ e. cc;
  allowed = λ other e. let same : asn ≡ other = cc in record { no_customer = no_customer; no_client = no_client; peer = λ is. sym same ∙ peer is };
}

peer_leak : (neighbour asn : ℕ) (b : Bool) → nat_eq asn neighbour ≡ b → IsLeak OurPeer neighbour (As asn) (cond b Clean (Peer asn))
peer_leak neighbour asn true t = may_send OurPeer neighbour asn (λ e. cc) (λ e. cc) (λ e. eqb-true asn neighbour t)
peer_leak neighbour asn false t = (refl, refl, λ same. true≢false (sym (eq-eqb asn neighbour same) ∙ t))

pub is_leak_of : (role : Role) (neighbour : ℕ) (otc : Otc) → IsLeak role neighbour otc (leak_of role neighbour otc)
is_leak_of role neighbour Absent = record { formed = λ e. cc; allowed = λ asn e. absurd cc }
is_leak_of role neighbour IsMalformed = refl
is_leak_of OurProvider neighbour (As asn) = may_send OurProvider neighbour asn (λ e. cc) (λ e. cc) (λ e. absurd cc)
is_leak_of OurCustomer neighbour (As asn) = (refl, refl)
is_leak_of OurPeer neighbour (As asn) = peer_leak neighbour asn (nat_eq asn neighbour) refl
is_leak_of OurRs neighbour (As asn) = may_send OurRs neighbour asn (λ e. cc) (λ e. cc) (λ e. absurd cc)
is_leak_of OurRsClient neighbour (As asn) = (refl, refl)
is_leak_of OurMutual neighbour (As asn) = may_send OurMutual neighbour asn (λ e. cc) (λ e. cc) (λ e. absurd cc)

-- ---- and no other is

clean_only : (role : Role) (neighbour : ℕ) (otc : Otc) → IsClean role neighbour otc → Clean ≡ leak_of role neighbour otc
clean_only role neighbour Absent is = refl
clean_only role neighbour IsMalformed is = absurd (is.formed refl)
clean_only OurProvider neighbour (As asn) is = refl
clean_only OurCustomer neighbour (As asn) is = absurd ((is.allowed asn refl).no_customer refl)
clean_only OurPeer neighbour (As asn) is = ap (λ (b : Bool). cond b Clean (Peer asn)) (sym (eq-eqb asn neighbour ((is.allowed asn refl).peer refl)))
clean_only OurRs neighbour (As asn) is = refl
clean_only OurRsClient neighbour (As asn) is = absurd ((is.allowed asn refl).no_client refl)
clean_only OurMutual neighbour (As asn) is = refl

pub only_leak_of : (role : Role) (neighbour : ℕ) (otc : Otc) (other : Leak) → IsLeak role neighbour otc other → other ≡ leak_of role neighbour otc
only_leak_of role neighbour otc Clean is = clean_only role neighbour otc is
only_leak_of role neighbour otc (Customer asn) is = rw (is.0, is.1) refl
only_leak_of role neighbour otc (RsClient asn) is = rw (is.0, is.1) refl
only_leak_of role neighbour otc (Peer asn) is = rw (is.0, is.1) (ap (λ (b : Bool). cond b Clean (Peer asn)) (sym (ne_eqb asn neighbour is.2)))
only_leak_of role neighbour otc Malformed is = rw is refl

pub has_one_leak : (role : Role) (neighbour : ℕ) (otc : Otc) → HasOne (IsLeak role neighbour otc)
has_one_leak role neighbour otc = record { one = leak_of role neighbour otc; is = is_leak_of role neighbour otc; only = only_leak_of role neighbour otc }
