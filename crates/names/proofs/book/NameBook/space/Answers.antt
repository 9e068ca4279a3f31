use Rattle.std.proofs.Common.{◌-◌, length, sym, ap}
use Rattle.names.specs.Book.{shelf_of}
use Rattle.names.proofs.Books.{count_of}
use Rattle.names.proofs.book.NameBook.space.Goals as goal

pub returns : goal.returns
unfolding shelf_of
returns c =
    let p = c.args.self.now in
    ap (λ n. record { count = n; entries = length p.entries.now - p.count; bytes = length p.bytes.now - p.used }) (sym (count_of c.args.self.now))
