-- Each part of the fixed words is the word that it stands for, a code stands for nothing where nothing has it, and a book number is known or unknown.
use Rattle.std.proofs.Common.{◌≡◌, ◌≢◌, ℕ, ◌^◌, ◌≤◌, List, [], ◌∷◌, None, sym, refl, ap, ◌∙◌, arith, rules}
use Rattle.std.proofs.lemmas.Bool.Decides.{nat_tests}
use Rattle.names.specs.Texts.{Text as Bytes}
use Rattle.names.specs.Shelf.{part_in}
use Rattle.names.specs.Book.{texts, shown_of}
use Rattle.names.specs.declared.book.NameBook.{NameBook}
use Rattle.names.specs.declared.book.Shown.{Shown}
use Rattle.names.proofs.Laws.{names_stand}
use Rattle.trace.specs.declared.Phase.{Phase}
use Rattle.trace.specs.declared.Phase.TheVariants.{Begin, End, Metadata, Instant, Counter, FlowStart, FlowFinish}
use Rattle.trace.specs.declared.Category.{Category}
use Rattle.trace.specs.declared.Category.TheVariants.{Test, SetupScript, Stress, Run, Empty}
use Rattle.trace.specs.declared.Word.{Word}
use Rattle.trace.specs.declared.Word.TheVariants.{TestRun, SubRun, Concurrency, TestResults, Retry, Slow, Cancel, Paused, Continued, ProcessName, ProcessSortIndex, ThreadName, ThreadSortIndex}
use Rattle.trace.specs.declared.PatternKind.{PatternKind}
use Rattle.trace.specs.declared.PatternKind.TheVariants as pattern
use Rattle.trace.specs.declared.LabelKind.{LabelKind}
use Rattle.trace.specs.declared.LabelKind.TheVariants as label
use Rattle.trace.specs.Phases.{letter_of}
use Rattle.trace.specs.Categories.{category_code}
use Rattle.trace.specs.Words.{word_code}
use Rattle.trace.specs.Kinds.{label_kind_code, pattern_kind_code}
use Rattle.outs.specs.Texts.{Text, lit, shown, ◌+?◌}
use Rattle.outs.proofs.Passes.{assoc, nothing_then}
use Rattle.words.proofs.Codes.{unnumbered}
use Rattle.words.specs.Words.{words, word_part, label_word, category_part, category_text, pattern_part, operand_text, display_text, label_text, phase_text, book_text}

-- ---- what has a code

word_at : (ts : List Bytes) (w : Word) → shown (shown_of ts words (word_part w)) ≡ label_word (word_code w)
unfolding words part_in
word_at ts TestRun = refl
word_at ts SubRun = refl
word_at ts Concurrency = refl
word_at ts TestResults = refl
word_at ts Retry = refl
word_at ts Slow = refl
word_at ts Cancel = refl
word_at ts Paused = refl
word_at ts Continued = refl
word_at ts ProcessName = refl
word_at ts ProcessSortIndex = refl
word_at ts ThreadName = refl
word_at ts ThreadSortIndex = refl

category_at : (ts : List Bytes) (c : Category) → shown (shown_of ts words (category_part c)) ≡ category_text (category_code c)
unfolding words part_in
category_at ts Test = refl
category_at ts SetupScript = refl
category_at ts Stress = refl
category_at ts Run = refl
category_at ts Empty = refl

display_at : (ts : List Bytes) (show : ℕ → Text) (k : PatternKind) (n : ℕ) → shown (shown_of ts words (pattern_part k)) +? operand_text show k n ≡ display_text show (pattern_kind_code k) n
unfolding words part_in
display_at ts show pattern.NextestRun n = refl
display_at ts show pattern.NextestRunOf n = sym (assoc (lit "nextest run (") (show n) (lit ")"))
display_at ts show pattern.RunLane n = refl
display_at ts show pattern.SubRuns n = refl
display_at ts show pattern.SetupScripts n = refl
display_at ts show pattern.ScriptNumber n = refl
display_at ts show pattern.Tests n = refl
display_at ts show pattern.BookText n = nothing_then (show n)
display_at ts show pattern.SlotNumber n = refl

pub word_known : (ts : List Bytes) (p : Shown) (w : Word) (n : ℕ) → p ≡ word_part w → word_code w ≡ n → shown (shown_of ts words p) ≡ label_word n
word_known ts p w n e k = ap (λ x. shown (shown_of ts words x)) e ∙ word_at ts w ∙ ap label_word k

pub category_known : (ts : List Bytes) (p : Shown) (c : Category) (n : ℕ) → p ≡ category_part c → category_code c ≡ n → shown (shown_of ts words p) ≡ category_text n
category_known ts p c n e k = ap (λ x. shown (shown_of ts words x)) e ∙ category_at ts c ∙ ap category_text k

pub display_known : (ts : List Bytes) (show : ℕ → Text) (p : Shown) (k : PatternKind) (c n : ℕ) → p ≡ pattern_part k → pattern_kind_code k ≡ c → shown (shown_of ts words p) +? operand_text show k n ≡ display_text show c n
display_known ts show p k c n e h = ap (λ x. shown (shown_of ts words x) +? operand_text show k n) e ∙ display_at ts show k n ∙ ap (λ x. display_text show x n) h

-- ---- what nothing has

pub word_unknown : (n : ℕ) → ((w : Word) → word_code w ≢ n) → None ≡ label_word n
word_unknown n = unnumbered word_code (TestRun ∷ SubRun ∷ Concurrency ∷ TestResults ∷ Retry ∷ Slow ∷ Cancel ∷ Paused ∷ Continued ∷ ProcessName ∷ ProcessSortIndex ∷ ThreadName ∷ ThreadSortIndex ∷ []) label_word n (search rules) refl

pub category_unknown : (n : ℕ) → ((c : Category) → category_code c ≢ n) → None ≡ category_text n
category_unknown n = unnumbered category_code (Test ∷ SetupScript ∷ Stress ∷ Run ∷ Empty ∷ []) category_text n (search rules) refl

pub display_unknown : (show : ℕ → Text) (c n : ℕ) → ((k : PatternKind) → pattern_kind_code k ≢ c) → None ≡ display_text show c n
display_unknown show c n = unnumbered pattern_kind_code (pattern.NextestRun ∷ pattern.NextestRunOf ∷ pattern.RunLane ∷ pattern.SubRuns ∷ pattern.SetupScripts ∷ pattern.ScriptNumber ∷ pattern.Tests ∷ pattern.BookText ∷ pattern.SlotNumber ∷ []) (λ k. display_text show k n) c (search rules) refl

pub label_unknown : (show : ℕ → Text) (k a b : ℕ) → ((l : LabelKind) → label_kind_code l ≢ k) → None ≡ label_text show k a b
label_unknown show k a b = unnumbered label_kind_code (label.Fixed ∷ label.Text ∷ label.TwoTexts ∷ []) (λ l. label_text show l a b) k (search rules) refl

pub phase_unknown : (b : ℕ) → ((p : Phase) → letter_of p ≢ b) → None ≡ phase_text b
phase_unknown b h = grind (arith, nat_tests, h Begin, h End, h Metadata, h Instant, h Counter, h FlowStart, h FlowFinish)

-- a number of more than 32 bits has no text
pub unknown : (book : NameBook) (n : ℕ) → 2 ^ 32 ≤ n → None ≡ book_text book n
unknown book n big =
    let m = names_stand.books.bounded book in
    ap shown (sym (names_stand.numbers.unread (texts book) n (λ _. omega (arith, m))))
