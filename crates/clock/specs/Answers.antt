-- What the code's answers are in document 01's terms.
use Rattle.std.specs.Prelude.{ℕ, Result, Ok, Err}
use Rattle.design.specs.Answers.{fault_number}
use Rattle.design.specs.Take as T
use Rattle.rule.specs.Answers as R
use Rattle.clock.specs.declared.Refusal.{Refusal}
use Rattle.clock.specs.declared.Outcome.{Outcome}
use Rattle.clock.specs.declared.Ticked.{Ticked}
use Rattle.clock.specs.declared.Ending.{Ending}
use Rattle.clock.specs.declared.Ran.{Ran}
use Rattle.meaning.specs.Clock as C
use Rattle.meaning.specs.Run as N
use Rattle.meaning.specs.Buffers as B

-- "Numbers handed back"
unfoldable pub number_of : Refusal → ℕ
number_of (Refusal.File r) = fault_number r.fault
number_of Refusal.State = 10
number_of Refusal.Fates = 11
number_of Refusal.Displays = 12

-- a length has no place
unfoldable pub place_of : Refusal → ℕ
place_of (Refusal.File r) = r.place
place_of Refusal.State = 0
place_of Refusal.Fates = 0
place_of Refusal.Displays = 0

abbrev pub refusal_of : Refusal → T.Refusal
refusal_of why = record { number = number_of why; place = place_of why }

-- "21 to 28 come .. from a stuck clock with the rule number"
unfoldable pub outcome_of : Outcome → C.Outcome
outcome_of Outcome.Fired = C.Outcome.fired
outcome_of Outcome.Quiet = C.Outcome.quiet
outcome_of (Outcome.Stuck n k) = C.Outcome.stuck n (R.number_of k)

unfoldable pub ticked_of : Ticked → B.Clocked
ticked_of t = record { outcome = outcome_of t.outcome; displays = t.displays }

unfoldable pub clocked_of : Result Ticked Refusal → B.Answer B.Clocked
clocked_of (Ok t) = B.answered (ticked_of t)
clocked_of (Err why) = B.refused (refusal_of why)

unfoldable pub ending_of : Ending → N.Ending
ending_of Ending.Limit = N.Ending.limit
ending_of Ending.Quiet = N.Ending.quiet
ending_of (Ending.Stuck n k) = N.Ending.stuck n (R.number_of k)

unfoldable pub counted_of : Ran → B.Counted
counted_of r = record { ending = ending_of r.ending; count = r.count }

unfoldable pub ran_of : Result Ran Refusal → B.Answer B.Counted
ran_of (Ok r) = B.answered (counted_of r)
ran_of (Err why) = B.refused (refusal_of why)

unfoldable pub started_of : Result (Unit {0}) Refusal → B.Answer (Unit {0})
started_of (Ok _) = B.answered tt
started_of (Err why) = B.refused (refusal_of why)
