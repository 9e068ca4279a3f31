-- The arguments are shown as what their kind and numbers stand for.
use Rattle.std.proofs.Common.{◌≡◌, ℕ, Bool, List, [], ◌∷◌, get_or, Some, None, codes, Option, refl, ap, ◌∙◌}
use lib.ListN.{get_or-map}
use Rattle.trace.specs.declared.NamePattern.{NamePattern}
use Rattle.trace.specs.declared.Arguments.{Arguments}
use Rattle.trace.specs.declared.Arguments.TheVariants.{Absent, RunInstant, CancelInstant, TestBegin, RetryBegin, TestEnd, TestSlow, ScriptEnd, ScriptSlow, RunningCounts, ResultCounts, SortIndex}
use Rattle.trace.specs.Patterns.{pattern_named}
use Rattle.trace.specs.Arguments.{flag_named, flagged, span_of, name_shown}
use Rattle.outs.specs.Texts.{Text, lit, ◌+?◌}
use Rattle.words.specs.Words.{flag_text}
use Rattle.words.specs.Laws.{flag_shown, display_shown}
use Rattle.words.proofs.Laws.{words_shown}
use Rattle.shapes.specs.Shapes.{text_member, number_member, display_member, test_members, run_instant_members, cancel_members, retry_begin_members, running_counts_members, result_counts_members, args_text}
use Rattle.shapes.specs.Laws.{arguments_shown, ArgumentsShown}

then_none : (x : Text) → x +? None ≡ None
then_none (Some x) = refl
then_none None = refl

-- a text with a flag in it is there just where the flag is one
flag_case : (show : ℕ → Text) (around : Text → Text) (f : Bool → Arguments) (x : Option Bool) → around None ≡ None → ((b : Bool) → around (flag_shown (Some b)) ≡ arguments_shown show (Some (f b))) → around (flag_shown x) ≡ arguments_shown show (flagged f x)
flag_case show around f None none some = none
flag_case show around f (Some b) none some = some b

flag_is : (show : ℕ → Text) (around : Text → Text) (f : Bool → Arguments) (n : ℕ) → around None ≡ None → ((b : Bool) → around (flag_shown (Some b)) ≡ arguments_shown show (Some (f b))) → around (flag_text n) ≡ arguments_shown show (flagged f (flag_named n))
flag_is show around f n none some = ap around (words_shown.flags n) ∙ flag_case show around f (flag_named n) none some

name_case : (show : ℕ → Text) (p : Option NamePattern) → args_text (Some (codes "\"name\":\"") +? display_shown show p +? lit "\"") ≡ arguments_shown show (name_shown p)
name_case show None = refl
name_case show (Some p) = refl

name_is : (show : ℕ → Text) (code n : ℕ) → args_text (display_member show (codes "\"name\":\"") code n) ≡ arguments_shown show (name_shown (pattern_named code n))
name_is show code n = ap (λ t. args_text (Some (codes "\"name\":\"") +? t +? lit "\"")) (words_shown.displays show code n) ∙ name_case show (pattern_named code n)

-- the shapes by kind, with some of them left open
abbrev chosen : (ℕ → Text) → ℕ → List ℕ → Text → Text → Text → Text → Text → Text
chosen show kind ns end slow done late called = get_or (Some [] ∷ args_text (run_instant_members ns) ∷ args_text (cancel_members show ns) ∷ args_text (test_members show (get_or ns 0 0) (get_or ns 1 0)) ∷ args_text (retry_begin_members show ns) ∷ end ∷ slow ∷ done ∷ late ∷ args_text (running_counts_members ns) ∷ args_text (result_counts_members ns) ∷ called ∷ args_text (number_member (codes "\"sort_index\":") (get_or ns 0 0)) ∷ []) kind None

all_chosen : (show : ℕ → Text) (kind : ℕ) (ns : List ℕ) {a a' b b' c c' d d' e e' : Text} → a ≡ a' → b ≡ b' → c ≡ c' → d ≡ d' → e ≡ e' → chosen show kind ns a b c d e ≡ chosen show kind ns a' b' c' d' e'
all_chosen show kind ns {a} {a'} {b} {b'} {c} {c'} {d} {d'} {e} {e'} p q r s t =
    ap (λ x. chosen show kind ns x b c d e) p
    ∙ ap (λ x. chosen show kind ns a' x c d e) q
    ∙ ap (λ x. chosen show kind ns a' b' x d e) r
    ∙ ap (λ x. chosen show kind ns a' b' c' x e) s
    ∙ ap (λ x. chosen show kind ns a' b' c' d' x) t

pub arguments_are : ArgumentsShown
arguments_are show kind ns =
    let test = test_members show (get_or ns 0 0) (get_or ns 1 0) in
    let ended = test +? number_member (codes ",\"attempt\":") (get_or ns 4 0) +? number_member (codes ",\"total_attempts\":") (get_or ns 5 0) in
    let script = text_member show (codes "\"script_id\":\"") (get_or ns 0 0) in
    let end = flag_is show (λ t. args_text (ended +? (Some (codes ",\"is_slow\":") +? t))) (λ x. TestEnd (get_or ns 0 0) (get_or ns 1 0) (span_of (get_or ns 2 0) (get_or ns 3 0)) (get_or ns 4 0) (get_or ns 5 0) x) (get_or ns 6 0) (ap args_text (then_none ended)) (λ b. refl) in
    let slow = flag_is show (λ t. args_text (test +? (Some (codes ",\"will_terminate\":") +? t) +? number_member (codes ",\"attempt\":") (get_or ns 5 0))) (λ x. TestSlow (get_or ns 0 0) (get_or ns 1 0) (span_of (get_or ns 2 0) (get_or ns 3 0)) x (get_or ns 5 0)) (get_or ns 4 0) (ap (λ t. args_text (t +? number_member (codes ",\"attempt\":") (get_or ns 5 0))) (then_none test)) (λ b. refl) in
    let done = flag_is show (λ t. args_text (script +? (Some (codes ",\"is_slow\":") +? t))) (λ x. ScriptEnd (get_or ns 0 0) (span_of (get_or ns 1 0) (get_or ns 2 0)) x) (get_or ns 3 0) (ap args_text (then_none script)) (λ b. refl) in
    let late = flag_is show (λ t. args_text (script +? (Some (codes ",\"will_terminate\":") +? t))) (λ x. ScriptSlow (get_or ns 0 0) (span_of (get_or ns 1 0) (get_or ns 2 0)) x) (get_or ns 3 0) (ap args_text (then_none script)) (λ b. refl) in
    let called = name_is show (get_or ns 0 0) (get_or ns 1 0) in
    all_chosen show kind ns end slow done late called
    ∙ get_or-map (arguments_shown show) (Some Absent ∷ Some (RunInstant (get_or ns 0 0) (get_or ns 1 0)) ∷ Some (CancelInstant (get_or ns 0 0) (get_or ns 1 0) (get_or ns 2 0)) ∷ Some (TestBegin (get_or ns 0 0) (get_or ns 1 0)) ∷ Some (RetryBegin (get_or ns 0 0) (get_or ns 1 0) (get_or ns 2 0) (get_or ns 3 0)) ∷ flagged (λ x. TestEnd (get_or ns 0 0) (get_or ns 1 0) (span_of (get_or ns 2 0) (get_or ns 3 0)) (get_or ns 4 0) (get_or ns 5 0) x) (flag_named (get_or ns 6 0)) ∷ flagged (λ x. TestSlow (get_or ns 0 0) (get_or ns 1 0) (span_of (get_or ns 2 0) (get_or ns 3 0)) x (get_or ns 5 0)) (flag_named (get_or ns 4 0)) ∷ flagged (λ x. ScriptEnd (get_or ns 0 0) (span_of (get_or ns 1 0) (get_or ns 2 0)) x) (flag_named (get_or ns 3 0)) ∷ flagged (λ x. ScriptSlow (get_or ns 0 0) (span_of (get_or ns 1 0) (get_or ns 2 0)) x) (flag_named (get_or ns 3 0)) ∷ Some (RunningCounts (get_or ns 0 0) (get_or ns 1 0)) ∷ Some (ResultCounts (get_or ns 0 0) (get_or ns 1 0) (get_or ns 2 0)) ∷ name_shown (pattern_named (get_or ns 0 0) (get_or ns 1 0)) ∷ Some (SortIndex (get_or ns 0 0)) ∷ []) kind None
