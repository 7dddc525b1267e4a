-- An answer as one number. That its parts do not run into each other, of what the library answers, is proved in proofs/Apart.antt.
use Rattle.std.specs.Prelude.{ℕ, ◌+◌, ◌*◌, cond, leb}
use Rattle.design.specs.Answers.{Reply, counts, refused}
use Rattle.design.specs.Parts.{Part}
use Rattle.design.specs.Plan.{size}
use Rattle.meaning.specs.Clock.{Outcome}
use Rattle.meaning.specs.Run.{Ending}
use Rattle.meaning.specs.Buffers as B
use Rattle.meaning.specs.Buffers.{Clocked, Counted}
use Rattle.meaning.specs.Check.{Verdict, passes, fails}

-- 0 where the file reads, else the refusal's number and 256 times its place
unfoldable pub refusal_of : Reply → ℕ
refusal_of (counts i m r s) = 0
refusal_of (refused number place) = number + 256 * place

-- 0 where the file is refused, else instances, methods, rules and schedule entries, a byte each
unfoldable pub counts_of : Reply → ℕ
counts_of (counts i m r s) = i + 256 * m + 65536 * r + 16777216 * s
counts_of (refused number place) = 0

-- a part: 65536 times its start, and its size; 0 for the empty part
unfoldable pub part_number : Part → ℕ
part_number p = 65536 * p.start + p.size

-- ---- clock, run, start values, check

-- a number with a place
unfoldable pub placed : (number place : ℕ) → ℕ
placed number place = number + 256 * place

-- a number, 256 times the next, and 65536 times the third
unfoldable pub packed : (low next high : ℕ) → ℕ
packed low next high = low + 256 * next + 65536 * high

-- 0 for a clock that was not stuck, with 1 above it where a rule fired; else the reason and the rule. Above them the displays made.
unfoldable pub outcome_number : Outcome → (displays : ℕ) → ℕ
outcome_number Outcome.fired d = packed 0 1 d
outcome_number Outcome.quiet d = packed 0 0 d
outcome_number (Outcome.stuck rule number) d = packed number rule d

unfoldable pub ticked_number : Clocked → ℕ
ticked_number c = outcome_number c.outcome c.displays

unfoldable pub clocked_number : B.Answer Clocked → ℕ
clocked_number (B.refused why) = placed why.number why.place
clocked_number (B.answered c) = ticked_number c

-- 0 where a plan is prepared, 13 where there is no room for it, else the refusal's number and place
unfoldable pub prepared_number : Reply → (room : ℕ) → ℕ
prepared_number (counts i m r s) room = cond (leb size room) 0 13
prepared_number (refused number place) room = placed number place

-- 0 for the limit, 100 for quiet, else the reason and the rule; above them the count
unfoldable pub ending_number : Ending → (count : ℕ) → ℕ
ending_number Ending.limit n = packed 0 0 n
ending_number Ending.quiet n = packed 100 0 n
ending_number (Ending.stuck rule number) n = packed number rule n

unfoldable pub counted_number : B.Answer Counted → ℕ
counted_number (B.refused why) = placed why.number why.place
counted_number (B.answered c) = ending_number c.ending c.count

unfoldable pub started_number : B.Answer (Unit {0}) → ℕ
started_number (B.refused why) = placed why.number why.place
started_number (B.answered ok) = 0

unfoldable pub verdict_number : Verdict → ℕ
verdict_number passes = 0
verdict_number (fails why) = placed why.number why.place
