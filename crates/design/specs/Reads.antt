-- What the functions ensure that read a whole file.
use Rattle.std.specs.Prelude.{ℕ, ◌+◌, ◌≤◌, ◌≡◌, List, length, Result, Ok, Err}
use Rattle.design.specs.declared.records.Tally.{Tally}
use Rattle.design.specs.declared.Counts.{Counts}
use Rattle.design.specs.declared.Refused.{Refused}
use Rattle.design.specs.declared.Planned.{Planned}
use Rattle.design.specs.declared.Span.{Span}
use Rattle.design.specs.Records as R
use Rattle.design.specs.Records.{Draft, Reading, reading, records, empty}
use Rattle.design.specs.Fields.{refusal}
use Rattle.design.specs.Plan.{World}
use Rattle.design.specs.Answers.{answered, summary}
use Rattle.design.specs.Parts.{Part}
use Rattle.design.specs.Steps.{Holds}

unfoldable pub Filling : (file plan : List ℕ) → Result Tally Refused → Type 0
Filling file plan (Ok t) =
    (D : Draft) × Holds file plan D t × (records (length file) empty 0 file ≡ R.closed (length file) D.instances D.bodies D.schedule) × (t.at ≡ length file)
Filling file plan (Err r) = (records (length file) empty 0 file ≡ R.refusal (refusal r.fault r.place)) × (r.place ≤ 32768)

pub record Fills (file plan : List ℕ) (r : Result Tally Refused) : Type 0 where
  pub fills : Filling file plan r

-- the counts without the plan
unfoldable pub counted : Result Planned Refused → Result Counts Refused
counted (Ok p) = Ok p.counts
counted (Err r) = Err r

-- The plan that a file has: of its design; a file that is refused has none. Plans gives each of its numbers.
unfoldable pub PlanOf : Reading → (file : List ℕ) → Result Planned Refused → Type 0
PlanOf (R.design D) file (Ok p) = World file p.plan D
PlanOf (R.design D) file (Err r) = Unit {0}
PlanOf (R.refusal why) file r = Unit {0}

-- how large an answer's numbers are
unfoldable pub Bounded : Result Counts Refused → Type 0
Bounded (Ok c) = (c.instances ≤ 64) × (c.methods ≤ 128) × (c.rules ≤ 64) × (c.scheduled ≤ 64)
Bounded (Err r) = r.place ≤ 32768

pub record ReadsAs (file : List ℕ) (r : Result Planned Refused) : Type 0 where
  pub answer : answered (counted r) ≡ summary (reading file)
  pub plan : PlanOf (reading file) file r
  pub bounded : Bounded (counted r)

-- what `read` answers
pub record Answers (file : List ℕ) (r : Result Counts Refused) : Type 0 where
  pub answer : answered r ≡ summary (reading file)
  pub bounded : Bounded r

-- a part of the file that lies within it
pub record Lies (file : List ℕ) (p : Part) (r : Span) : Type 0 where
  pub start : r.start ≡ p.start
  pub size : r.size ≡ p.size
  pub within : r.start + r.size ≤ length file

-- a part that a lookup hands out
pub record Spans (file : List ℕ) (p : Part) (r : Span) : Type 0 where
  pub lies : Lies file p r
  pub small : r.start + r.size ≤ 32768
