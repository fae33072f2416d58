-- Texts without a line feed.
use Rattle.std.proofs.Common.{◌≡◌, ◌≢◌, ℕ, ◌≤◌, Bool, true, nat_le, List, ◌++◌, decimal, arith}
use Rattle.std.specs.List.{list_all}
use Rattle.std.proofs.lemmas.Bool.{leb-true}
use Rattle.std.proofs.lemmas.List.Elements.{All-append, All-weaker}
use Rattle.std.proofs.lemmas.List.Sums.{AllPass-from_list_all}
use Rattle.av_text.specs.Spellings.{IsInLine}
use Rattle.av_text.proofs.LackLemmas.{decimal-lacks, from-lacks}

-- no byte below a space, by test
abbrev pub is_clean : List ℕ → Bool
is_clean text = list_all (λ byte. nat_le 32 byte) text

pub clean : (text : List ℕ) → is_clean text ≡ true → IsInLine text
clean text passes =
    from-lacks 32 10 text (omega arith)
    (All-weaker (λ byte. nat_le 32 byte ≡ true) (λ byte. 32 ≤ byte) (λ byte h. leb-true 32 byte h) text (AllPass-from_list_all (λ byte. nat_le 32 byte) text passes))

-- two after one another
pub both : (one other : List ℕ) → IsInLine one → IsInLine other → IsInLine (one ++ other)
both one other a b = All-append (λ byte. byte ≢ 10) one other a b

pub number : (n : ℕ) → IsInLine (decimal n)
number n = decimal-lacks 10 n (omega arith)
