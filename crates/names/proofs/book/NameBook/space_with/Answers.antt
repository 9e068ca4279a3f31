use Rattle.std.proofs.Common.{◌+◌, ◌-◌, length, sym, ap, ◌∙◌, arith}
use Rattle.std.proofs.lemmas.List.{length_push}
use Rattle.names.specs.Book.{shelf_of, space_of}
use Rattle.names.proofs.Shelves.{planned_past, planned_within, entered_known, entered_new}
use Rattle.names.proofs.book.NameBook.space_with.Goals as goal

pub overflow_sub-result : goal.overflow_sub-result
overflow_sub-result c =
    let e = c.space-space.ensures in
    let q = planned_past (shelf_of c.args.self.now) c.args.text.now _ c.requires (omega (arith, ap (λ p. p.count) e)) in
    omega (arith, ap (λ p. p.entries) e)

pub overflow_sub-result-then-number-space : goal.overflow_sub-result-then-number-space
overflow_sub-result-then-number-space c =
    let e = c.space-space.ensures in
    let q = planned_past (shelf_of c.args.self.now) c.args.text.now _ c.requires (omega (arith, ap (λ p. p.count) e)) in
    omega (arith, ap (λ p. p.bytes) e)

pub returns-then-number-space : goal.returns-then-number-space
returns-then-number-space c =
    let s = shelf_of c.args.self.now in
    let a = c.args.text.now in
    let e = c.space-space.ensures in
    let q = planned_past s a _ c.requires (omega (arith, ap (λ p. p.count) e)) in
    ap (λ p. record { count = p.count + 1; entries = p.entries - 1; bytes = p.bytes - length a }) e
    ∙ (ap (λ n. record { count = n; entries = s.entries - 1; bytes = s.bytes - length a }) (sym (length_push s.texts a))
    ∙ ap space_of (sym (entered_new s a q.0)))

pub returns-else-number-space : goal.returns-else-number-space
returns-else-number-space c =
    let s = shelf_of c.args.self.now in
    let a = c.args.text.now in
    let e = c.space-space.ensures in
    e ∙ ap space_of (sym (entered_known s a (planned_within s a _ c.requires (omega (arith, ap (λ p. p.count) e)))))
