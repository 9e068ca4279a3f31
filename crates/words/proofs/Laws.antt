-- What is shown is what the codes stand for.
use Rattle.std.proofs.Common.{◌≡◌, ℕ, true, false, [], ◌∷◌, get_or, Some, None, Option, refl, ap, ◌∙◌}
use lib.ListN.{get_or-map}
use Rattle.trace.specs.declared.Phase.{Phase}
use Rattle.trace.specs.declared.Phase.TheVariants.{Begin, End, Metadata, Instant, Counter, FlowStart, FlowFinish}
use Rattle.trace.specs.declared.Category.TheVariants.{Test, SetupScript, Stress, Run, Empty}
use Rattle.trace.specs.declared.Word.{Word}
use Rattle.trace.specs.declared.Word.TheVariants.{TestRun, SubRun, Concurrency, TestResults, Retry, Slow, Cancel, Paused, Continued, ProcessName, ProcessSortIndex, ThreadName, ThreadSortIndex}
use Rattle.trace.specs.declared.Label.TheVariants.{Text as OneText, TwoTexts}
use Rattle.trace.specs.declared.NamePattern.TheVariants.{NextestRun, NextestRunOf, RunLane, SubRuns, SetupScripts, ScriptNumber, Tests, BookText, SlotNumber}
use Rattle.trace.specs.Phases.{letter_of}
use Rattle.trace.specs.Categories.{category_named}
use Rattle.trace.specs.Words.{word_named}
use Rattle.trace.specs.Labels.{label_named, fixed_label}
use Rattle.trace.specs.Patterns.{pattern_named}
use Rattle.trace.specs.Arguments.{flag_named}
use Rattle.outs.specs.Texts.{Text, lit, ◌+?◌}
use Rattle.words.specs.Words.{label_word, category_text, display_text, label_text, phase_text, flag_text}
use Rattle.words.specs.Laws.{word_shown, category_shown, label_shown, display_shown, flag_shown, WordsShown}

category_is : (n : ℕ) → category_text n ≡ category_shown (category_named n)
category_is n = get_or-map category_shown (None ∷ Some Test ∷ Some SetupScript ∷ Some Stress ∷ Some Run ∷ Some Empty ∷ []) n None

word_is : (n : ℕ) → label_word n ≡ word_shown (word_named n)
word_is n = get_or-map word_shown (None ∷ Some TestRun ∷ Some SubRun ∷ Some Concurrency ∷ Some TestResults ∷ Some Retry ∷ Some Slow ∷ Some Cancel ∷ Some Paused ∷ Some Continued ∷ Some ProcessName ∷ Some ProcessSortIndex ∷ Some ThreadName ∷ Some ThreadSortIndex ∷ []) n None

fixed_is : (show : ℕ → Text) (w : Option Word) → word_shown w ≡ label_shown show (fixed_label w)
fixed_is show None = refl
fixed_is show (Some w) = refl

label_is : (show : ℕ → Text) (kind a b : ℕ) → label_text show kind a b ≡ label_shown show (label_named kind a b)
label_is show kind a b =
    ap (λ t. get_or (None ∷ t ∷ show a ∷ (show a +? lit " " +? show b) ∷ []) kind None) (word_is a ∙ fixed_is show (word_named a))
    ∙ get_or-map (label_shown show) (None ∷ fixed_label (word_named a) ∷ Some (OneText a) ∷ Some (TwoTexts a b) ∷ []) kind None

display_is : (show : ℕ → Text) (code n : ℕ) → display_text show code n ≡ display_shown show (pattern_named code n)
display_is show code n = get_or-map (display_shown show) (None ∷ Some NextestRun ∷ Some (NextestRunOf n) ∷ Some RunLane ∷ Some SubRuns ∷ Some SetupScripts ∷ Some (ScriptNumber n) ∷ Some Tests ∷ Some (BookText n) ∷ Some (SlotNumber n) ∷ []) code None

pub flag_is : (n : ℕ) → flag_text n ≡ flag_shown (flag_named n)
flag_is n = get_or-map flag_shown (Some false ∷ Some true ∷ []) n None

phase_is : (p : Phase) → phase_text (letter_of p) ≡ Some (letter_of p ∷ [])
phase_is Begin = refl
phase_is End = refl
phase_is Metadata = refl
phase_is Instant = refl
phase_is Counter = refl
phase_is FlowStart = refl
phase_is FlowFinish = refl

pub words_shown : WordsShown
words_shown = record { categories = category_is; words = word_is; labels = label_is; displays = display_is; flags = flag_is; phases = phase_is }
