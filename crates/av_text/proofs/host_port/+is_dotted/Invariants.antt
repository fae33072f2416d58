use Rattle.std.proofs.Common.{length}
use Rattle.av_text.proofs.host_port.+is_dotted.Given as goal

abbrev pub decreases-is_dotted : goal.decreases-is_dotted
decreases-is_dotted l = length l.text.now
