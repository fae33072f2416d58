use Rattle.std.proofs.Common.{inl, arith}
use Rattle.av_text.proofs.WordLemmas.{length-words_of}
use Rattle.script_lines.proofs.fields.AsesFields.read.Goals as goal

pub count-requires-clause-fits : goal.count-requires-clause-fits
count-requires-clause-fits g c = inl (let few = length-words_of c.args.words.rest.now in omega arith)
