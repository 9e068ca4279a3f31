-- What is written for a kind is what is to be shown for its code.
use Rattle.std.proofs.Common.{◌≡◌, ◌≢◌, ℕ, List, [], ◌∷◌, None, refl, ap, ◌∙◌, arith, rules}
use Rattle.trace.specs.declared.ArgumentKind.{ArgumentKind}
use Rattle.trace.specs.declared.ArgumentKind.TheVariants.{Absent, RunInstant, CancelInstant, TestBegin, RetryBegin, TestEnd, TestSlow, ScriptEnd, ScriptSlow, RunningCounts, ResultCounts, MetadataName, SortIndex}
use Rattle.trace.specs.Kinds.{argument_kind_code}
use Rattle.outs.specs.Texts.{Text}
use Rattle.words.proofs.Codes.{beyond}
use Rattle.shapes.specs.Shapes.{members_text, args_text, arguments_text}

at_code : (show : ℕ → Text) (k : ArgumentKind) (ns : List ℕ) → k ≢ Absent → args_text (members_text show k ns) ≡ arguments_text show (argument_kind_code k) ns
at_code show Absent ns h = absurd (h refl)
at_code show RunInstant ns h = refl
at_code show CancelInstant ns h = refl
at_code show TestBegin ns h = refl
at_code show RetryBegin ns h = refl
at_code show TestEnd ns h = refl
at_code show TestSlow ns h = refl
at_code show ScriptEnd ns h = refl
at_code show ScriptSlow ns h = refl
at_code show RunningCounts ns h = refl
at_code show ResultCounts ns h = refl
at_code show MetadataName ns h = refl
at_code show SortIndex ns h = refl

pub known : (show : ℕ → Text) (k : ArgumentKind) (code : ℕ) (ns : List ℕ) → k ≢ Absent → argument_kind_code k ≡ code → args_text (members_text show k ns) ≡ arguments_text show code ns
known show k code ns h e = at_code show k ns h ∙ ap (λ c. arguments_text show c ns) e

pub unknown : (show : ℕ → Text) (code : ℕ) (ns : List ℕ) → ((k : ArgumentKind) → argument_kind_code k ≢ code) → None ≡ arguments_text show code ns
unknown show code ns h = beyond argument_kind_code (λ k. arguments_text show (argument_kind_code k) ns) (Absent ∷ RunInstant ∷ CancelInstant ∷ TestBegin ∷ RetryBegin ∷ TestEnd ∷ TestSlow ∷ ScriptEnd ∷ ScriptSlow ∷ RunningCounts ∷ ResultCounts ∷ MetadataName ∷ SortIndex ∷ []) 0 code (search rules) (λ k e. h k (omega arith))
