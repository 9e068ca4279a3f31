use Rattle.std.proofs.Common.{length, sym, subst, arith}
use Rattle.std.proofs.lemmas.List.{length-set}
use Rattle.names.specs.Texts.{Apart}
use Rattle.names.specs.Book.{shelf_of}
use Rattle.names.proofs.Numbers.{apart_push}
use Rattle.names.proofs.Parts.{reach_more, listed_more, listed_same}
use Rattle.names.proofs.Shelves.{same_shelf}
use Rattle.names.proofs.book.NameBook.add.Goals as goal

pub invariant_of-self : goal.invariant_of-self
invariant_of-self c =
    let b = c.args.self.now in
    let l = listed_same b.entries.now b.bytes.now c.put_text.new.bytes b.count b.used c.args.text.now c.requires.room.0 b.kept.2 b.kept.3 c.put_text.ensures in
    record { kept = (b.kept.0, b.kept.1, omega arith, b.kept.3, subst Apart (sym l) b.kept.4) }

pub invariant_of-self-2 : goal.invariant_of-self-2
unfolding shelf_of
invariant_of-self-2 c =
    let b = c.args.self.now in
    let a = c.args.text.now in
    let k = length-set b.entries.now b.count (record { start = b.used; len = length a }) in
    let l = listed_more b.entries.now b.bytes.now c.put_text.new.bytes b.count b.used a c.requires.room.0 b.kept.2 b.kept.3 c.put_text.ensures in
    let r = reach_more b.entries.now b.bytes.now c.put_text.new.bytes b.count b.used a c.requires.room.0 b.kept.2 b.kept.3 c.put_text.ensures in
    record { kept = (omega arith, omega arith, omega arith, r, subst Apart (sym l) (apart_push _ a b.kept.4 c.requires.new)) }

pub returns : goal.returns
unfolding shelf_of
returns c =
    let b = c.args.self.now in
    let a = c.args.text.now in
    let k = length-set b.entries.now b.count (record { start = b.used; len = length a }) in
    let l = listed_more b.entries.now b.bytes.now c.put_text.new.bytes b.count b.used a c.requires.room.0 b.kept.2 b.kept.3 c.put_text.ensures in
    same_shelf l (omega arith) (omega arith)
