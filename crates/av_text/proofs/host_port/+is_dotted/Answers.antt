use Rattle.std.proofs.Common.{sym, ◌∙◌}
use Rattle.av_text.proofs.HostLemmas.{label_dotted, one_label, join_labels, cut_labels}
use Rattle.av_text.proofs.host_port.+is_dotted.Goals as goal

pub returns-then-is_label : goal.returns-then-is_label
returns-then-is_label t c = (
  λ yes. label_dotted c.args.text.now (c.is_label.ensures.0 c.if-is_label.true) (sym c.begins_with_letter.ensures ∙ yes),
  λ d. c.begins_with_letter.ensures ∙ (one_label c.args.text.now c.in-None.ensures.none d).1,
)

pub returns-else-is_label : goal.returns-else-is_label
returns-else-is_label t c = (
  λ yes. let no = c.if-is_label.false in absurd (cc),
  λ d. c.is_label.ensures.1 (one_label c.args.text.now c.in-None.ensures.none d).0,
)

pub returns-then-is_label-2 : goal.returns-then-is_label-2
returns-then-is_label-2 t c = (
  λ yes. join_labels c.args.text.now c.in-Some.label.now c.in-Some.rest.now c.in-Some.ensures.whole (c.is_label-in-Some.ensures.0 c.if-is_label-2.true) (c.is_dotted.ensures.0 yes),
  λ d. c.is_dotted.ensures.1 (cut_labels c.args.text.now c.in-Some.label.now c.in-Some.rest.now c.in-Some.ensures.whole c.in-Some.ensures.first d).1,
)

pub returns-else-is_label-2 : goal.returns-else-is_label-2
returns-else-is_label-2 t c = (
  λ yes. let no = c.if-is_label-2.false in absurd (cc),
  λ d. c.is_label-in-Some.ensures.1 (cut_labels c.args.text.now c.in-Some.label.now c.in-Some.rest.now c.in-Some.ensures.whole c.in-Some.ensures.first d).0,
)
