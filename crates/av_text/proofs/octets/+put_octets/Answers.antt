use Rattle.std.proofs.Common.{ℕ, ◌++◌, decimal, arith, ap, ◌∙◌}
use Rattle.av_text.proofs.PartLemmas.{pow_fits, pow_some}
use Rattle.av_text.proofs.PutLemmas.{put_more}
use Rattle.av_text.proofs.octets.+put_octets.Goals as goal

pub pow-scale-requires : goal.pow-scale-requires
pow-scale-requires t c = let fits = pow_fits 256 c.args.dots 3 (omega arith) c.requires in omega arith

pub nonzero_div-number : goal.nonzero_div-number
nonzero_div-number t c = rw c.pow-scale.ensures (pow_some 256 c.args.dots (omega arith))

pub nonzero_rem-number : goal.nonzero_rem-number
nonzero_rem-number t c = rw c.pow-scale.ensures (pow_some 256 c.args.dots (omega arith))

pub returns-clause-ok : goal.returns-clause-ok
returns-clause-ok t c = put_more decimal 46 256 c.args.dots c.args.number c.pow-scale.result _ _ _ _ c.put_octets.result c.if-dots-eq0.false c.pow-scale.ensures (c.in_ok-put_u64.ensures.ok ∙ ap (λ (m : ℕ). c.args.out.now.items ++ decimal m) c.from-2.ensures) c.in_ok-push.ensures.items c.put_octets.ensures.ok
