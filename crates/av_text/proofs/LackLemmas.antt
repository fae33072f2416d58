-- What the texts of numbers, roles and verdicts lack.
use Rattle.std.proofs.Common.{◌≡◌, ◌≢◌, ℕ, zero, suc, ◌+◌, ◌%◌, ◌/◌, ◌==◌, ◌≤◌, ◌<◌, Bool, true, false, nat_le, nat_lt, if◌then◌else◌, List, [], ◌∷◌, decimal, refl, arith}
use Rattle.std.specs.List.{All, list_all}
use Rattle.std.specs.Fmt.{digits, digits_onto, digit_glyph}
use Rattle.std.proofs.lemmas.List.Elements.{All-nil, All-cons, All-weaker}
use Rattle.std.proofs.lemmas.List.Sums.{AllPass-from_list_all}
use Rattle.std.proofs.lemmas.Bool.{leb-true}
use Rattle.path_model.specs.declared.role.Role.{Role}
use Rattle.path_model.specs.declared.role.Role.TheVariants.{Provider, Customer, Peer, Rs, RsClient, Mutual}
use Rattle.path_model.specs.declared.verdict.Verdict.{Verdict}
use Rattle.path_model.specs.declared.verdict.Verdict.TheVariants.{Valid, Unknown, Invalid}
use Rattle.av_text.specs.Marks.{Lacks}
use Rattle.av_text.specs.RoleText.{role_text}
use Rattle.av_text.specs.VerdictText.{verdict_text}

-- each byte has this code or a higher one
abbrev pub AreFrom : ℕ → List ℕ → Type 0
AreFrom least text = All (λ byte. least ≤ byte) text

-- then it has no lower one
pub from-lacks : (least code : ℕ) (text : List ℕ) → code < least → AreFrom least text → Lacks code text
from-lacks least code text low from = All-weaker (λ byte. least ≤ byte) (λ byte. byte ≢ code) (λ byte above same. omega arith) text from

-- literal text
literal-from : (least : ℕ) (text : List ℕ) → list_all (λ byte. nat_le least byte) text ≡ true → AreFrom least text
literal-from least text e = All-weaker (λ byte. nat_le least byte ≡ true) (λ byte. least ≤ byte) (λ byte h. leb-true least byte h) text (AllPass-from_list_all (λ byte. nat_le least byte) text e)

-- digits have the codes from 48 on
glyph-from : (small : Bool) (d : ℕ) → 48 ≤ (if small then 48 + d else 87 + d)
glyph-from true d = omega arith
glyph-from false d = omega arith

either-from : (b : Bool) (xs ys : List ℕ) → AreFrom 48 xs → AreFrom 48 ys → AreFrom 48 (if b then xs else ys)
either-from true xs ys x y = x
either-from false xs ys x y = y

digits-from : (k n : ℕ) (text : List ℕ) → AreFrom 48 text → AreFrom 48 (digits_onto k 10 false n text)
digits-from zero n text from = from
digits-from (suc k) n text from =
    let more : AreFrom 48 (digit_glyph false (n % 10) ∷ text) = All-cons (λ byte. 48 ≤ byte) (digit_glyph false (n % 10)) text (glyph-from (nat_lt (n % 10) 10) (n % 10)) from in
    either-from (n / 10 == 0) (digit_glyph false (n % 10) ∷ text) (digits_onto k 10 false (n / 10) (digit_glyph false (n % 10) ∷ text)) more
    (digits-from k (n / 10) (digit_glyph false (n % 10) ∷ text) more)

decimal-from : (n : ℕ) → AreFrom 48 (decimal n)
unfolding digits
decimal-from n = digits-from 64 n [] (All-nil (λ byte. 48 ≤ byte))

-- a number's text has no code below those of the digits
pub decimal-lacks : (code n : ℕ) → code < 48 → Lacks code (decimal n)
decimal-lacks code n low = from-lacks 48 code (decimal n) low (decimal-from n)

-- a role's text has small letters and `-` alone
role_text-from : (role : Role) → AreFrom 45 (role_text role)
role_text-from Provider = literal-from 45 (role_text Provider) refl
role_text-from Customer = literal-from 45 (role_text Customer) refl
role_text-from Peer = literal-from 45 (role_text Peer) refl
role_text-from Rs = literal-from 45 (role_text Rs) refl
role_text-from RsClient = literal-from 45 (role_text RsClient) refl
role_text-from Mutual = literal-from 45 (role_text Mutual) refl

pub role_text-lacks : (code : ℕ) (role : Role) → code < 45 → Lacks code (role_text role)
role_text-lacks code role low = from-lacks 45 code (role_text role) low (role_text-from role)

-- a verdict's text has small letters alone
verdict_text-from : (v : Verdict) → AreFrom 97 (verdict_text v)
verdict_text-from Valid = literal-from 97 (verdict_text Valid) refl
verdict_text-from Unknown = literal-from 97 (verdict_text Unknown) refl
verdict_text-from Invalid = literal-from 97 (verdict_text Invalid) refl

pub verdict_text-lacks : (code : ℕ) (v : Verdict) → code < 97 → Lacks code (verdict_text v)
verdict_text-lacks code v low = from-lacks 97 code (verdict_text v) low (verdict_text-from v)
