-- What the public function promises, of every design that the plan is of.
use Rattle.std.specs.Prelude.{ℕ, ◌≡◌, List}
use Rattle.design.specs.Syntax.{Design}
use Rattle.design.specs.Plan.{Plans}
use Rattle.rule.specs.Log.{events, Ported}
use Rattle.conflict.specs.declared.Fate.{Fate}
use Rattle.meaning.specs.Conflict as C

-- the code's fates, in document 01's terms
unfoldable pub fate_of : Fate → C.Fate
fate_of Fate.Fired = C.Fate.fired
fate_of Fate.Unavailable = C.Fate.unavailable
fate_of Fate.Inside = C.Fate.inside
fate_of Fate.Earlier = C.Fate.earlier
fate_of Fate.Hardware = C.Fate.hardware
fate_of Fate.Stuck = C.Fate.stuck
fate_of Fate.NotReached = C.Fate.not_reached

pub record Judges (plan before mine : List ℕ) (r : Fate) : Type 0 where
  pub judges : (D : Design) → Plans plan D → Ported D (events before) → Ported D (events mine) →
      fate_of r ≡ C.judge D (events before) (events mine)
