use Rattle.std.proofs.Common.{rules}
use Rattle.words.specs.Words.{book_text}
use Rattle.words.proofs.Writing.{◌▸◌, named}
use Rattle.shapes.proofs.Codes.{known, unknown}
use Rattle.shapes.proofs.arguments.Goals as goal

pub returns-in-Ok : goal.returns-in-Ok
returns-in-Ok g c = named (known (book_text c.args.w.now.book.now) c.in-Ok.kind c.args.code c.args.ns.now (search rules) c.in-Ok.ensures) (c.put.ensures ▸ c.members.ensures ▸ c.put-in-Ok.ensures)

pub returns-in-Err : goal.returns-in-Err
returns-in-Err g c = named (unknown (book_text c.args.w.now.book.now) c.args.code c.args.ns.now c.in-Err.ensures.1) c.refuse.ensures
