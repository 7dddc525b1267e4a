-- What `turn` promises, of a design that is at hand (World: its plan, and the file that has its bodies). Named has what the lookups promise.
use Rattle.std.specs.Prelude.{ℕ, ◌≤◌, ◌≡◌, List, ℤ, length, take}
use Rattle.std.proofs.Math.Option.{some}
use Rattle.design.specs.Syntax.{Rule, Design}
use Rattle.design.specs.Plan.{World}
use Rattle.rule.specs.declared.Taken.{Taken}
use Rattle.meaning.specs.Values.{Value, Out}
use Rattle.meaning.specs.Lookup.{rule_of}
use Rattle.meaning.specs.Evaluate as E
use Rattle.rule.specs.Log.{events}
use Rattle.rule.specs.Answers.{number_of}

-- what a turn came to is the outcome o, whose events stand in the log
unfoldable pub Took : (log : List ℕ) → Taken → Out Value → Type 0
Took log (Taken.Recorded n) o = o ≡ Out.got Value.void (events (take n log))
Took log Taken.Unavailable o = o ≡ Out.unavailable
Took log (Taken.Stuck k) o = o ≡ Out.stuck (number_of k)

-- "A rule records at most 64 calls"
unfoldable pub Few : Taken → Type 0
Few (Taken.Recorded n) = n ≤ 64
Few Taken.Unavailable = Unit {0}
Few (Taken.Stuck k) = Unit {0}

-- the turn of rule n, with a log of room for 64 events
pub record Turns (file plan : List ℕ) (state : List ℤ) (log : List ℕ) (n : ℕ) (log₁ : List ℕ) (r : Taken) : Type 0 where
  pub took : (D : Design) → World file plan D → length state ≡ length D.instances → 64 ≤ length log →
      (x : Rule) → rule_of D n ≡ some x → Took log₁ r (E.rule D state x)
  pub few : Few r
  pub kept : length log₁ ≡ length log
