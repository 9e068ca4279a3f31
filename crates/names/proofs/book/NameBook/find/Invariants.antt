use Rattle.std.proofs.Common.{◌≡◌, false}
use Rattle.names.specs.Texts.{has}
use Rattle.names.specs.Kept.{listed}
use Rattle.names.proofs.book.NameBook.find.Given as goal

abbrev pub invariant-loop-i : goal.invariant-loop-i
invariant-loop-i l = has (listed l.self.entries.now l.self.bytes.now l.i) l.text ≡ false
