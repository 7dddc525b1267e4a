-- What the covers ensure: the answer's number, and what the buffers hold afterwards, for every input.
use Rattle.std.specs.Prelude.{ℕ, ◌≤◌, ◌<◌, ◌≡◌, List, ℤ, length, take, drop}
use Rattle.design.specs.Syntax.{Design}
use Rattle.design.specs.Take.{Refusal}
use Rattle.design.specs.Records.{design, refusal, reading}
use Rattle.design.specs.Answers.{summary}
use Rattle.design.specs.Plan.{size, World}
use Rattle.meaning.specs.Buffers.{clock_on, clock_reply, run_reply, start_reply}
use Rattle.clock.specs.Promises.{lent}
use Rattle.checker.specs.Unstuck.{NeverStuck}
use Rattle.host.specs.Packed.{clocked_number, prepared_number, counted_number, started_number}

pub record Clocks (file : List ℕ) (state : List ℤ) (fates : List ℕ) (displays state₁ : List ℤ) (fates₁ : List ℕ) (displays₁ : List ℤ) (r : ℕ) : Type 0 where
  pub answer : r ≡ clocked_number (clock_reply file (lent state fates displays)).answer
  pub after : lent state₁ fates₁ displays₁ ≡ (clock_reply file (lent state fates displays)).after

-- The plan of a design, in the first numbers of the caller's; those behind them stay. A refusal changes none.
pub record Prepares (file plan plan₁ : List ℕ) (r : ℕ) : Type 0 where
  pub answer : r ≡ prepared_number (summary (reading file)) (length plan)
  pub unread : (why : Refusal) → reading file ≡ refusal why → plan₁ ≡ plan
  pub short : length plan < size → plan₁ ≡ plan
  pub filled : (D : Design) → reading file ≡ design D → size ≤ length plan → World file (take size plan₁) D
  pub rest : drop size plan₁ ≡ drop size plan

-- One clock by a plan: 13 and 14 where plan or log is too short, which changes no buffer; else, of the design whose plan it is, what one clock of it
-- is answered. Of a plan that is none of the file's it says nothing.
pub record Ticks (file plan : List ℕ) (state : List ℤ) (fates : List ℕ) (displays : List ℤ) (log : List ℕ) (state₁ : List ℤ) (fates₁ : List ℕ) (displays₁ : List ℤ) (r : ℕ) : Type 0 where
  pub short_plan : length plan < size → (r ≡ 13) × (lent state₁ fates₁ displays₁ ≡ lent state fates displays)
  pub short_log : size ≤ length plan → length log < 4096 → (r ≡ 14) × (lent state₁ fates₁ displays₁ ≡ lent state fates displays)
  pub answer : (D : Design) → World file (take size plan) D → 4096 ≤ length log → r ≡ clocked_number (clock_on D (lent state fates displays)).answer
  pub after : (D : Design) → World file (take size plan) D → 4096 ≤ length log → lent state₁ fates₁ displays₁ ≡ (clock_on D (lent state fates displays)).after

pub record Runs (file : List ℕ) (state : List ℤ) (n : ℕ) (state₁ : List ℤ) (r : ℕ) : Type 0 where
  pub answer : r ≡ counted_number (run_reply file n state).answer
  pub after : state₁ ≡ (run_reply file n state).after

pub record Starts (file : List ℕ) (state state₁ : List ℤ) (r : ℕ) : Type 0 where
  pub answer : r ≡ started_number (start_reply file state).answer
  pub after : state₁ ≡ (start_reply file state).after

-- ---- what the functions behind the covers ask: parts that do not run into each other

pub record Places (number place : ℕ) : Type 0 where
  pub byte : number < 256
  pub near : place ≤ 32768

pub record Packs (low next high : ℕ) : Type 0 where
  pub low_byte : low < 256
  pub next_byte : next < 256
  pub word : high < 4294967296

-- demand 3: a design for which the check answers 0 never gets stuck
pub record Unstuck (file : List ℕ) (r : ℕ) : Type 0 where
  pub unstuck : r ≡ 0 → NeverStuck file
