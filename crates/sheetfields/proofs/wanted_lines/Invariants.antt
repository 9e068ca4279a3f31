use Rattle.std.proofs.Common.{length}
use Rattle.sheet.specs.Next.{left_of}
use Rattle.sheetfields.proofs.wanted_lines.Given as goal

abbrev pub decreases-loop-event : goal.decreases-loop-event
decreases-loop-event l = length (left_of l.reader)
