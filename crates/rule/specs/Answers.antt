-- What the code's values and reasons are in document 01's terms.
use Rattle.std.specs.Prelude.{ℕ, List, map}
use Rattle.words.specs.Words.{number}
use Rattle.rule.specs.declared.Value as DV
use Rattle.rule.specs.declared.Reason.{Reason}
use Rattle.meaning.specs.Values.{Value}

-- a value of the code
unfoldable pub value : DV.Value → Value
value (DV.Value.Num w) = Value.num (number w)
value (DV.Value.Bool b) = Value.bool b
value DV.Value.Void = Value.void

-- the locals that live
unfoldable pub env_of : List DV.Value → List Value
env_of locals = map value locals

-- document 01's number of a reason
unfoldable pub number_of : Reason → ℕ
number_of Reason.Kind = 21
number_of Reason.Local = 22
number_of Reason.Instance = 23
number_of Reason.Method = 24
number_of Reason.Count = 25
number_of Reason.Pure = 26
number_of Reason.Calls = 27
number_of Reason.Locals = 28
