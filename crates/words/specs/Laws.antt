-- What is shown, in terms of what the codes stand for: nothing just where a code stands for nothing.
use Rattle.std.specs.Prelude.{◌≡◌, ℕ, Bool, true, false, [], ◌∷◌, Some, None, decimal, Option}
use Rattle.trace.specs.declared.Phase.{Phase}
use Rattle.trace.specs.declared.Category.{Category}
use Rattle.trace.specs.declared.Category.TheVariants.{Test, SetupScript, Stress, Run, Empty}
use Rattle.trace.specs.declared.Word.{Word}
use Rattle.trace.specs.declared.Word.TheVariants.{TestRun, SubRun, Concurrency, TestResults, Retry, Slow, Cancel, Paused, Continued, ProcessName, ProcessSortIndex, ThreadName, ThreadSortIndex}
use Rattle.trace.specs.declared.Label.{Label}
use Rattle.trace.specs.declared.Label.TheVariants.{Fixed, Text as OneText, TwoTexts}
use Rattle.trace.specs.declared.NamePattern.{NamePattern}
use Rattle.trace.specs.declared.NamePattern.TheVariants.{NextestRun, NextestRunOf, RunLane, SubRuns, SetupScripts, ScriptNumber, Tests, BookText, SlotNumber}
use Rattle.trace.specs.Phases.{letter_of}
use Rattle.trace.specs.Categories.{category_named}
use Rattle.trace.specs.Words.{word_named}
use Rattle.trace.specs.Labels.{label_named}
use Rattle.trace.specs.Patterns.{pattern_named}
use Rattle.trace.specs.Arguments.{flag_named}
use Rattle.outs.specs.Texts.{Text, lit, ◌+?◌}
use Rattle.words.specs.Words.{label_word, category_text, display_text, label_text, phase_text, flag_text}

abbrev pub word_shown : Option Word → Text
word_shown None = None
word_shown (Some TestRun) = lit "test run"
word_shown (Some SubRun) = lit "sub-run"
word_shown (Some Concurrency) = lit "concurrency"
word_shown (Some TestResults) = lit "test results"
word_shown (Some Retry) = lit "retry"
word_shown (Some Slow) = lit "slow"
word_shown (Some Cancel) = lit "cancel"
word_shown (Some Paused) = lit "paused"
word_shown (Some Continued) = lit "continued"
word_shown (Some ProcessName) = lit "process_name"
word_shown (Some ProcessSortIndex) = lit "process_sort_index"
word_shown (Some ThreadName) = lit "thread_name"
word_shown (Some ThreadSortIndex) = lit "thread_sort_index"

abbrev pub category_shown : Option Category → Text
category_shown None = None
category_shown (Some Test) = lit "test"
category_shown (Some SetupScript) = lit "setup-script"
category_shown (Some Stress) = lit "stress"
category_shown (Some Run) = lit "run"
category_shown (Some Empty) = lit ""

abbrev pub label_shown : (ℕ → Text) → Option Label → Text
label_shown show None = None
label_shown show (Some (Fixed w)) = word_shown (Some w)
label_shown show (Some (OneText a)) = show a
label_shown show (Some (TwoTexts a b)) = show a +? lit " " +? show b

abbrev pub display_shown : (ℕ → Text) → Option NamePattern → Text
display_shown show None = None
display_shown show (Some NextestRun) = lit "nextest run"
display_shown show (Some (NextestRunOf n)) = lit "nextest run (" +? show n +? lit ")"
display_shown show (Some RunLane) = lit "run"
display_shown show (Some SubRuns) = lit "stress sub-runs"
display_shown show (Some SetupScripts) = lit "setup-scripts"
display_shown show (Some (ScriptNumber n)) = lit "script-" +? Some (decimal n)
display_shown show (Some Tests) = lit "tests"
display_shown show (Some (BookText n)) = show n
display_shown show (Some (SlotNumber n)) = lit "slot-" +? Some (decimal n)

abbrev pub flag_shown : Option Bool → Text
flag_shown None = None
flag_shown (Some true) = lit "true"
flag_shown (Some false) = lit "false"

pub record WordsShown : Type 0 where
  pub categories : (n : ℕ) → category_text n ≡ category_shown (category_named n)
  pub words : (n : ℕ) → label_word n ≡ word_shown (word_named n)
  pub labels : (show : ℕ → Text) (kind first second : ℕ) → label_text show kind first second ≡ label_shown show (label_named kind first second)
  pub displays : (show : ℕ → Text) (code n : ℕ) → display_text show code n ≡ display_shown show (pattern_named code n)
  pub flags : (n : ℕ) → flag_text n ≡ flag_shown (flag_named n)
  pub phases : (p : Phase) → phase_text (letter_of p) ≡ Some (letter_of p ∷ [])
