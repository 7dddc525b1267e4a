-- "A run of n clocks stops after n (limit), at a clock where nothing fires (quiet), or at a stuck one."
use Rattle.std.specs.Prelude.{ℕ, zero, suc, List, ℤ}
use Rattle.design.specs.Syntax.{Design}
use Rattle.meaning.specs.Clock.{Outcome, Tick, clock}

pub data Ending : Type 0 where
  limit quiet : Ending
  stuck : (rule number : ℕ) → Ending

-- "The run's count is the clocks in which a rule fired; a stuck clock never counts."
pub record Ran : Type 0 where
  pub ending : Ending
  pub count : ℕ
  pub state : List ℤ

unfoldable pub stop : Ending → List ℤ → Ran
stop e state = record { ending = e; count = 0; state = state }

unfoldable pub one_more : Ran → Ran
one_more r = record { ending = r.ending; count = suc r.count; state = r.state }

-- "stuck goes before quiet and quiet before limit": the limit is met only where no clock is left
unfoldable pub run : Design → (clocks : ℕ) → List ℤ → Ran
run D zero state = stop Ending.limit state
run D (suc n) state =
    let t : Tick = clock D state in
    elim t.outcome [
      | Outcome.fired ↦ one_more (run D n t.state)
      | Outcome.quiet ↦ stop Ending.quiet t.state
      | Outcome.stuck r number ↦ stop (Ending.stuck r number) t.state
    ]
