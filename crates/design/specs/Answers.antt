-- What the answers of reading are in document 01's terms.
use Rattle.std.specs.Prelude.{ℕ, length, Result, Ok, Err}
use Rattle.design.specs.declared.Fault.{Fault}
use Rattle.design.specs.declared.Counts.{Counts}
use Rattle.design.specs.declared.Refused.{Refused}
use Rattle.design.specs.Records.{Reading, design, refusal, methods, rules}

-- "Numbers handed back"
unfoldable pub fault_number : Fault → ℕ
fault_number Fault.Long = 1
fault_number Fault.Cut = 2
fault_number Fault.Mark = 3
fault_number Fault.Misplaced = 4
fault_number Fault.Limit = 5
fault_number Fault.Field = 6
fault_number Fault.Body = 7
fault_number Fault.Schedule = 8
fault_number Fault.Unended = 9

-- a design's counts, or a number with its place
pub data Reply : Type 0 where
  counts : (instances methods rules scheduled : ℕ) → Reply
  refused : (number place : ℕ) → Reply

unfoldable pub answered : Result Counts Refused → Reply
answered (Ok c) = counts c.instances c.methods c.rules c.scheduled
answered (Err r) = refused (fault_number r.fault) r.place

unfoldable pub summary : Reading → Reply
summary (design D) = counts (length D.instances) (length (methods D.bodies)) (length (rules D.bodies)) (length D.schedule)
summary (refusal why) = refused why.number why.place
