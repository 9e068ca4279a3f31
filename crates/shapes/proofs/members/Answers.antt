use Rattle.std.proofs.Common.{sym, ap}
use Rattle.words.specs.Words.{book_text}
use Rattle.words.proofs.Writing.{named}
use Rattle.shapes.specs.Shapes.{members_text}
use Rattle.shapes.proofs.members.Goals as goal

pub returns-in-SortIndex : goal.returns-in-SortIndex
returns-in-SortIndex g c = named (ap (λ k. members_text (book_text c.args.w.now.book.now) k c.args.ns.now) (sym c.in-SortIndex.is)) c.number_member.ensures
