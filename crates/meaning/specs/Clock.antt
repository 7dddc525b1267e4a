-- "One clock": the scheduled rules take their turns in order.
use Rattle.std.specs.Prelude.{ℕ, Bool, true, false, cond, ◌&&◌, List, [], ◌∷◌, ◌++◌, ℤ, length, replicate}
use Rattle.std.proofs.Math.Option.{some, none}
use Rattle.design.specs.Syntax.{Design}
use Rattle.meaning.specs.Values.{Value, Event, Out}
use Rattle.meaning.specs.Lookup.{access, is_write, is_register, rule_of, with_word}
use Rattle.meaning.specs.Evaluate.{rule}
use Rattle.meaning.specs.Conflict.{Fate, judge, any}

-- ---- what a fired rule does

-- "Writes of a fired rule are done in the order collected, before the next rule's turn."
unfoldable pub perform : Design → List Event → List ℤ → List ℤ
perform D [] state = state
perform D (Event.call i m z ∷ es) state =
    perform D es (cond (is_register D i && is_write (access m)) (with_word D state i z) state)
perform D (Event.display z ∷ es) state = perform D es state

unfoldable pub displayed : List Event → List ℤ
displayed [] = []
displayed (Event.call i m z ∷ es) = displayed es
displayed (Event.display z ∷ es) = z ∷ displayed es

-- ---- the turns

-- where a clock stands between two turns: `before` is all that the rules recorded that fired so far
pub record Turn : Type 0 where
  pub state : List ℤ
  pub before : List Event
  pub fates : List Fate

unfoldable pub first_turn : List ℤ → Turn
first_turn state = record { state = state; before = []; fates = [] }

-- the turn after a rule that fired, and after one that did not: "Calls of rules that did not fire are forgotten."
unfoldable pub fire : Design → List Event → Turn → Turn
fire D es t = record {
  state = perform D es t.state;
  before = t.before ++ es;
  fates = t.fates ++ (Fate.fired ∷ []);
}

unfoldable pub hold : Fate → Turn → Turn
hold f t = record { state = t.state; before = t.before; fates = t.fates ++ (f ∷ []) }

unfoldable pub is_fired : Fate → Bool
is_fired Fate.fired = true
is_fired Fate.unavailable = false
is_fired Fate.inside = false
is_fired Fate.earlier = false
is_fired Fate.hardware = false
is_fired Fate.stuck = false
is_fired Fate.not_reached = false

unfoldable pub settle : Design → List Event → Turn → Fate → Turn
settle D es t f = cond (is_fired f) (fire D es t) (hold f t)

-- ---- the clock

pub data Outcome : Type 0 where
  fired quiet : Outcome
  stuck : (rule number : ℕ) → Outcome

-- whether a rule fired, or which one is stuck and why; the state afterwards, the fates by schedule entry, and the displays
pub record Tick : Type 0 where
  pub outcome : Outcome
  pub state : List ℤ
  pub fates : List Fate
  pub displays : List ℤ

unfoldable pub ended : Turn → Tick
ended t = record {
  outcome = cond (any is_fired t.fates) Outcome.fired Outcome.quiet;
  state = t.state;
  fates = t.fates;
  displays = displayed t.before;
}

-- "A stuck clock restores the state; earlier fates and displays stand, the stuck entry has 5 and later ones 6."
unfoldable pub broken : (start : List ℤ) → Turn → (rule number : ℕ) → (later : List ℕ) → Tick
broken start t n number later = record {
  outcome = Outcome.stuck n number;
  state = start;
  fates = t.fates ++ (Fate.stuck ∷ replicate (length later) Fate.not_reached);
  displays = displayed t.before;
}

-- "Reads show the registers as they stand when the rule's turn comes". No schedule names a missing rule (8).
unfoldable pub turn_of : Design → List ℤ → (rule : ℕ) → Out Value
turn_of D state n =
    elim (rule_of D n) [
      | none ↦ Out.unavailable
      | some r ↦ rule D state r
    ]

-- "Take scheduled rules in order. Each gets one fate, the first that applies": unavailable goes before the conflicts.
unfoldable pub turns : Design → (start : List ℤ) → (schedule : List ℕ) → Turn → Tick
turns D start [] t = ended t
turns D start (n ∷ ns) t =
    elim (turn_of D t.state n) [
      | Out.got v es ↦ turns D start ns (settle D es t (judge D t.before es))
      | Out.unavailable ↦ turns D start ns (hold Fate.unavailable t)
      | Out.stuck number ↦ broken start t n number ns
    ]

unfoldable pub clock : Design → List ℤ → Tick
clock D state = turns D state D.schedule (first_turn state)
