use Rattle.std.proofs.Common.{◌≤◌, length}
use Rattle.jsoncases.proofs.append_lines.Given as goal

abbrev pub invariant-loop : goal.invariant-loop
invariant-loop l = length l.cursor.left.now ≤ length l.initial.cursor.left.now
