-- The arguments in terms of what their kind and numbers stand for: no text just where they stand for nothing, or a book number for no text.
use Rattle.std.specs.Prelude.{◌≡◌, ℕ, List, [], Some, None, codes, Option}
use Rattle.trace.specs.declared.Arguments.{Arguments}
use Rattle.trace.specs.declared.Arguments.TheVariants.{Absent, RunInstant, CancelInstant, TestBegin, RetryBegin, TestEnd, TestSlow, ScriptEnd, ScriptSlow, RunningCounts, ResultCounts, MetadataName, SortIndex}
use Rattle.trace.specs.Arguments.{arguments_named}
use Rattle.outs.specs.Texts.{Text, lit, ◌+?◌}
use Rattle.words.specs.Laws.{flag_shown, display_shown}
use Rattle.shapes.specs.Shapes.{text_member, number_member, test_members, args_text, arguments_text}

abbrev pub arguments_shown : (ℕ → Text) → Option Arguments → Text
arguments_shown show None = None
arguments_shown show (Some Absent) = Some []
arguments_shown show (Some (RunInstant running scripts)) = args_text (number_member (codes "\"running\":") running +? number_member (codes ",\"setup_scripts_running\":") scripts)
arguments_shown show (Some (CancelInstant running scripts reason)) = args_text (number_member (codes "\"running\":") running +? number_member (codes ",\"setup_scripts_running\":") scripts +? text_member show (codes ",\"reason\":\"") reason)
arguments_shown show (Some (TestBegin binary test)) = args_text (test_members show binary test)
arguments_shown show (Some (RetryBegin binary test attempt total)) = args_text (test_members show binary test +? number_member (codes ",\"attempt\":") attempt +? number_member (codes ",\"total_attempts\":") total)
arguments_shown show (Some (TestEnd binary test span attempt total slow)) = args_text (test_members show binary test +? number_member (codes ",\"attempt\":") attempt +? number_member (codes ",\"total_attempts\":") total +? (Some (codes ",\"is_slow\":") +? flag_shown (Some slow)))
arguments_shown show (Some (TestSlow binary test span terminate attempt)) = args_text (test_members show binary test +? (Some (codes ",\"will_terminate\":") +? flag_shown (Some terminate)) +? number_member (codes ",\"attempt\":") attempt)
arguments_shown show (Some (ScriptEnd script span slow)) = args_text (text_member show (codes "\"script_id\":\"") script +? (Some (codes ",\"is_slow\":") +? flag_shown (Some slow)))
arguments_shown show (Some (ScriptSlow script span terminate)) = args_text (text_member show (codes "\"script_id\":\"") script +? (Some (codes ",\"will_terminate\":") +? flag_shown (Some terminate)))
arguments_shown show (Some (RunningCounts tests scripts)) = args_text (number_member (codes "\"running_tests\":") tests +? number_member (codes ",\"running_scripts\":") scripts)
arguments_shown show (Some (ResultCounts passed flaky failed)) = args_text (number_member (codes "\"passed\":") passed +? number_member (codes ",\"flaky\":") flaky +? number_member (codes ",\"failed\":") failed)
arguments_shown show (Some (MetadataName pattern)) = args_text (Some (codes "\"name\":\"") +? display_shown show (Some pattern) +? lit "\"")
arguments_shown show (Some (SortIndex index)) = args_text (number_member (codes "\"sort_index\":") index)

abbrev pub ArgumentsShown : Type 0
ArgumentsShown = (show : ℕ → Text) (kind : ℕ) (ns : List ℕ) → arguments_text show kind ns ≡ arguments_shown show (arguments_named kind ns)
