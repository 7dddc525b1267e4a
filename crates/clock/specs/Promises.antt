-- What the public functions promise: the answer and every buffer afterwards, and how large an answer's numbers are.
use Rattle.std.specs.Prelude.{ℕ, ◌≤◌, ◌<◌, ◌≡◌, List, ℤ, length, Result, Ok, Err}
use Rattle.design.specs.Syntax.{Design}
use Rattle.design.specs.Plan.{World}
use Rattle.clock.specs.declared.Refusal.{Refusal}
use Rattle.clock.specs.declared.Ran.{Ran}
use Rattle.clock.specs.declared.Ending.{Ending}
use Rattle.clock.specs.declared.Outcome.{Outcome}
use Rattle.clock.specs.declared.Ticked.{Ticked}
use Rattle.meaning.specs.Clock.{clock}
use Rattle.meaning.specs.Buffers.{Buffers, reply, filled, clock_reply, run_reply, start_reply}
use Rattle.clock.specs.Answers.{place_of, ticked_of, clocked_of, ran_of, started_of}

-- ---- how large an answer's numbers are

-- the rule of a stuck clock is an entry of the schedule
unfoldable pub Named : Outcome → Type 0
Named Outcome.Fired = Unit {0}
Named Outcome.Quiet = Unit {0}
Named (Outcome.Stuck n k) = n < 256

-- each of at most 64 entries displays at most 64 times
pub record Small (r : Ticked) : Type 0 where
  pub displays : r.displays ≤ 4096
  pub named : Named r.outcome

unfoldable pub ClockBounded : Result Ticked Refusal → Type 0
ClockBounded (Ok t) = Small t
ClockBounded (Err why) = place_of why ≤ 32768

unfoldable pub EndingNamed : Ending → Type 0
EndingNamed Ending.Limit = Unit {0}
EndingNamed Ending.Quiet = Unit {0}
EndingNamed (Ending.Stuck n k) = n < 256

unfoldable pub RunBounded : Result Ran Refusal → Type 0
RunBounded (Ok r) = EndingNamed r.ending
RunBounded (Err why) = place_of why ≤ 32768

unfoldable pub StartBounded : Result (Unit {0}) Refusal → Type 0
StartBounded (Ok _) = Unit {0}
StartBounded (Err why) = place_of why ≤ 32768

-- ---- for every input

-- the buffers that a caller lends
abbrev pub lent : List ℤ → List ℕ → List ℤ → Buffers
lent state fates displays = record { state = state; fates = fates; displays = displays }

-- the answer, and what the buffers hold afterwards, for every input
pub record Clocks (file : List ℕ) (state : List ℤ) (fates : List ℕ) (displays state₁ : List ℤ) (fates₁ : List ℕ) (displays₁ : List ℤ) (r : Result Ticked Refusal) : Type 0 where
  pub replies : record { answer = clocked_of r; after = lent state₁ fates₁ displays₁ } ≡ clock_reply file (lent state fates displays)
  pub bounded : ClockBounded r

pub record Runs (file : List ℕ) (state : List ℤ) (n : ℕ) (state₁ : List ℤ) (r : Result Ran Refusal) : Type 0 where
  pub replies : record { answer = ran_of r; after = state₁ } ≡ run_reply file n state
  pub bounded : RunBounded r

pub record Starts (file : List ℕ) (state state₁ : List ℤ) (r : Result (Unit {0}) Refusal) : Type 0 where
  pub replies : record { answer = started_of r; after = state₁ } ≡ start_reply file state
  pub bounded : StartBounded r

-- ---- of a design that is at hand (World: its plan, and the file that has its bodies)

-- room in the buffers for any clock
pub record Spare (fates : List ℕ) (displays : List ℤ) (log : List ℕ) : Type 0 where
  pub fates_fit : 64 ≤ length fates
  pub displays_fit : 4096 ≤ length displays
  pub log_fit : 4096 ≤ length log

-- one clock
pub record Ticks (file plan : List ℕ) (state : List ℤ) (fates : List ℕ) (displays : List ℤ) (log : List ℕ) (state₁ : List ℤ) (fates₁ : List ℕ) (displays₁ : List ℤ) (r : Ticked) : Type 0 where
  pub ticks : (D : Design) → World file plan D → length state ≡ length D.instances → Spare fates displays log →
      reply (ticked_of r) (lent state₁ fates₁ displays₁) ≡ filled (lent state fates displays) (clock D state)
  pub bounded : Small r
