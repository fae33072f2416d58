use Rattle.av_text.proofs.octets.+read_octets.Given as goal

abbrev pub decreases-read_octets : goal.decreases-read_octets
decreases-read_octets l = l.dots
