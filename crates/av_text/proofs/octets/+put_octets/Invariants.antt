use Rattle.av_text.proofs.octets.+put_octets.Given as goal

abbrev pub decreases-put_octets : goal.decreases-put_octets
decreases-put_octets l = l.dots
