use Rattle.std.proofs.Common.{arith}
use Rattle.av_text.specs.AddressText.{hex4}
use Rattle.av_text.proofs.PartLemmas.{pow_fits}
use Rattle.av_text.proofs.PutLemmas.{put_more}
use Rattle.av_text.proofs.groups.+put_groups.Goals as goal

pub pow-scale-requires : goal.pow-scale-requires
pow-scale-requires t c = let fits = pow_fits 65536 c.args.colons 7 (omega arith) c.requires.few in omega arith

pub returns-clause-ok : goal.returns-clause-ok
returns-clause-ok t c = put_more hex4 58 65536 c.args.colons c.args.number c.pow-scale.result _ _ _ _ c.put_groups.result c.if-colons-eq0.false c.pow-scale.ensures c.in_ok-put_group.ensures.ok c.in_ok-push.ensures.items c.put_groups.ensures.ok
