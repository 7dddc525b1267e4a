-- What the code's answers are in document 01's terms, and how large a place can be.
use Rattle.std.specs.Prelude.{◌≤◌, Result, Ok, Err}
use Rattle.design.specs.Answers.{fault_number}
use Rattle.rule.specs.Answers.{number_of}
use Rattle.checker.specs.declared.Failure.{Failure}
use Rattle.meaning.specs.Check.{Verdict}

-- the code's answer in document 01's terms: a number with the offset of its record
unfoldable pub verdict : Result (Unit {0}) Failure → Verdict
verdict (Ok u) = Verdict.passes
verdict (Err (Failure.Refused r)) = Verdict.fails (record { number = fault_number r.fault; place = r.place })
verdict (Err (Failure.Fails r place)) = Verdict.fails (record { number = number_of r; place = place })

-- a failure's place lies in a file of at most 32,768 bytes
unfoldable pub Bounded : Result (Unit {0}) Failure → Type 0
Bounded (Ok u) = Unit {0}
Bounded (Err (Failure.Refused r)) = r.place ≤ 32768
Bounded (Err (Failure.Fails r place)) = place ≤ 32768
