-- Which number and which layer each refusal has: the one table that every contract speaks through.
use Rattle.std.specs.Prelude.{ℕ, Some, None, Option}
use Rattle.refusal.specs.declared.Refusal.{Refusal}
use Rattle.refusal.specs.declared.Refusal.TheVariants.{ShortLine, UnknownKind, BadNumber, BadText, MissingTestStart, MissingScriptStart, MissingStressSubRunStart, WrongBarState, StartClash, StillRunning, BookFull, NoPlace, CountExhausted, SinkFull, Unwritable}
use Rattle.refusal.specs.declared.Layer.{Layer}
use Rattle.refusal.specs.declared.Layer.TheVariants.{Reader, Step, Storage, Writer}

-- each refusal has one number, and each number is one refusal's
abbrev pub number_of : Refusal → ℕ
number_of ShortLine = 1
number_of UnknownKind = 2
number_of BadNumber = 3
number_of BadText = 4
number_of MissingTestStart = 5
number_of MissingScriptStart = 6
number_of MissingStressSubRunStart = 7
number_of WrongBarState = 8
number_of StartClash = 9
number_of StillRunning = 10
number_of BookFull = 11
number_of NoPlace = 12
number_of CountExhausted = 13
number_of SinkFull = 14
number_of Unwritable = 15

abbrev pub layer_of : Refusal → Layer
layer_of ShortLine = Reader
layer_of UnknownKind = Reader
layer_of BadNumber = Reader
layer_of BadText = Reader
layer_of MissingTestStart = Step
layer_of MissingScriptStart = Step
layer_of MissingStressSubRunStart = Step
layer_of WrongBarState = Step
layer_of StartClash = Step
layer_of StillRunning = Step
layer_of BookFull = Storage
layer_of NoPlace = Storage
layer_of CountExhausted = Storage
layer_of SinkFull = Storage
layer_of Unwritable = Writer

abbrev pub layer_number : Layer → ℕ
layer_number Reader = 1
layer_number Step = 2
layer_number Storage = 3
layer_number Writer = 4

-- the number of what was refused, if anything was
abbrev pub refused_with : Option Refusal → Option ℕ
refused_with None = None
refused_with (Some r) = Some (number_of r)
