use Rattle.std.proofs.Common.{◌≤◌, length}
use Rattle.jsoncases.proofs.Cursor.arguments.Given as goal

abbrev pub invariant-loop-n : goal.invariant-loop-n
invariant-loop-n l = length l.self.left.now ≤ length l.initial.self.left.now
