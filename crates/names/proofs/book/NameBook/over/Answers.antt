use Rattle.std.proofs.Common.{refl, arith}
use Rattle.names.specs.Book.{shelf_of}
use Rattle.names.proofs.Numbers.{apart_none}
use Rattle.names.proofs.Shelves.{same_shelf}
use Rattle.names.proofs.book.NameBook.over.Goals as goal

pub invariant_of-result : goal.invariant_of-result
invariant_of-result c = record { kept = (omega arith, omega arith, omega arith, omega arith, apart_none) }

pub returns : goal.returns
unfolding shelf_of
returns c = same_shelf refl (omega arith) (omega arith)
