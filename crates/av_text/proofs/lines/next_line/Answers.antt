use Rattle.std.proofs.Common.{◌≡◌, ◌+◌, ◌<◌, drop, length, sym, ap, ◌∙◌, arith}
use Rattle.std.proofs.lemmas.List.{drop-drop}
use Rattle.std.proofs.lemmas.Bool.Decides.{nat_tests}
use Rattle.av_text.proofs.LineLemmas.{lines_in-found, lines_in-last, lines_in-none}
use Rattle.av_text.proofs.lines.next_line.Goals as goal
use Rattle.av_text.proofs.lines.next_line.Goals.{then-whole+else-not-is_empty, else-whole}

pub returns-in-Some-clause-first : goal.returns-in-Some-clause-first
returns-in-Some-clause-first c =
    let first = lines_in-found c.args.whole c.args.text.now c.in-Some.end (sym c.line_feed.ensures ∙ c.in-Some.is) in
    let more : c.split_at-in-Some.result.1.now ≡ drop (c.in-Some.end + 1) c.args.text.now =
    c.split_at-in-Some.ensures.back ∙ ap (drop 1) c.split_at.ensures.back ∙ drop-drop 1 c.in-Some.end c.args.text.now in
    rw (c.without_carriage_return.ensures, c.split_at.ensures.front, more) first

pub returns-in-None-clause-first : goal.returns-in-None-clause-first
returns-in-None-clause-first c =
    let full : 0 < length c.args.text.now = grind (arith, nat_tests) in
    rw c.if-whole.true (lines_in-last c.args.text.now (sym c.line_feed.ensures ∙ c.in-None.is) full)

pub returns-in-None-2-clause-none : goal.returns-in-None-2-clause-none
returns-in-None-2-clause-none c =
    lines_in-none c.args.whole c.args.text.now (sym c.line_feed.ensures ∙ c.in-None.is) (elim c.if-whole.branch [
      | then-whole+else-not-is_empty w ↦ (λ whole. cc)
      | else-whole w ↦ (λ whole. absurd (let no : ⊥ = cc in no))
    ])
