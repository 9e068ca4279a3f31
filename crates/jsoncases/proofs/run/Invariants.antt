use Rattle.std.proofs.Common.{length}
use Rattle.jsoncases.proofs.run.Given as goal

-- each case is longer than nothing
abbrev pub decreases-loop-cursor : goal.decreases-loop-cursor
decreases-loop-cursor l = length l.cursor.left.now
