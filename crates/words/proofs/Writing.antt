-- Two texts added one behind the other.
use Rattle.std.proofs.Common.{◌≡◌, ℕ, subst, ◌∙◌}
use Rattle.outs.specs.declared.Out.{Ghosts}
use Rattle.outs.specs.Texts.{Text, ◌+?◌}
use Rattle.words.specs.declared.Writer.{Writer}
use Rattle.words.specs.Words.{book_text}
use Rattle.words.specs.Writing.{Adds}

infixl 30 ◌▸◌
pub ◌▸◌ : {O : Type 0} {o : Ghosts O} {a b c : Writer O} {t u : (ℕ → Text) → Text} → Adds o a t b → Adds o b u c → Adds o a (λ show. t show +? u show) c
◌▸◌ {o} {a} {b} {c} {t} {u} p q = record {
  loan = q.loan ∙ p.loan;
  book = q.book ∙ p.book;
  out = o.join _ _ _ _ _ p.out (subst (λ k. o.added b.out.now (u (book_text k.now)) c.out.now) p.book q.out);
}

-- the same text under another name
pub named : {O : Type 0} {o : Ghosts O} {a b : Writer O} {t u : (ℕ → Text) → Text} → t (book_text a.book.now) ≡ u (book_text a.book.now) → Adds o a t b → Adds o a u b
named {o} {a} {b} e p = record { loan = p.loan; book = p.book; out = subst (λ x. o.added a.out.now x b.out.now) e p.out }
