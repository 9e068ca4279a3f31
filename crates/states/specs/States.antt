-- What a converter is when it starts, and what is left of it when it is finished.
use Rattle.std.specs.Prelude.{ℕ, false, cond, None, Ok, Err, Result}
use Rattle.refusal.specs.declared.Refusal.{Refusal}
use Rattle.refusal.specs.declared.Refusal.TheVariants.{BadText}
use Rattle.events.specs.Rules.{is_text}
use Rattle.names.specs.Texts.{Text}
use Rattle.names.specs.Shelf.{Shelf, planned_one}
use Rattle.states.specs.declared.Recording.{Recording}
use Rattle.states.specs.declared.Finished.{Finished}
use Rattle.states.specs.declared.OtherData.{OtherData}
use Rattle.states.specs.declared.RunBarState.TheVariants.{Closed}

-- a version, and no run yet
abbrev pub only_version : ℕ → OtherData
only_version number = record { version = number; run_id = None; profile_name = None }

-- no bar is open, nothing runs, no arrow was drawn, and no run has started
abbrev pub fresh : ℕ → Recording
fresh version = record { run_bar_state = Closed; running_test_count = 0; running_script_count = 0; stress_subrun_open = false; next_flow_id = 0; other_data = only_version version }

abbrev pub fresh_at : Result ℕ Refusal → Result Recording Refusal
fresh_at (Ok number) = Ok (fresh number)
fresh_at (Err refusal) = Err refusal

-- the answer to starting with a version text: it has to be a text, and then to find its number in the book
abbrev pub started : Shelf → Text → Result Recording Refusal
started shelf version = cond (is_text version) (fresh_at (planned_one shelf version)) (Err BadText)

abbrev pub telling : OtherData → Finished
telling told = record { other_data = told }

-- what is kept are the numbers of the version and of the last run's texts
abbrev pub ended : Recording → Finished
ended r = telling r.other_data
