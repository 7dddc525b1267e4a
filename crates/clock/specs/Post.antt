-- What the functions ensure: the code's buffers, read as the turns of the definition.
use Rattle.std.specs.Prelude.{ℕ, ◌+◌, ◌-◌, ◌≤◌, ◌<◌, ◌≡◌, Bool, true, false, cond, List, [], ◌∷◌, ◌++◌, map, ℤ, length, take, drop, set, replicate, Result, Ok, Err}
use Rattle.std.proofs.Math.Option.{some}
use Rattle.design.specs.Syntax.{Instance, Design}
use Rattle.design.specs.Records.{rules}
use Rattle.rule.specs.Answers as R
use Rattle.meaning.specs.Lookup.{instance_of}
use Rattle.design.specs.Plan.{Plans, World}
use Rattle.rule.specs.Log.{event_of, events, Ported}
use Rattle.meaning.specs.Conflict.{Fate, fate_number, judge, any}
use Rattle.conflict.specs.Promises.{fate_of}
use Rattle.design.specs.declared.Planned.{Planned}
use Rattle.design.specs.Records.{design, refusal, reading}
use Rattle.rule.specs.declared.Reason.{Reason}
use Rattle.clock.specs.declared.Refusal.{Refusal}
use Rattle.clock.specs.declared.Ran.{Ran}
use Rattle.clock.specs.declared.Outcome.{Outcome}
use Rattle.clock.specs.declared.Ticked.{Ticked}
use Rattle.clock.specs.declared.turns.Progress.{Progress}
use Rattle.clock.specs.declared.turns.Came.{Came}
use Rattle.clock.specs.declared.turns.Settled.{Settled}
use Rattle.meaning.specs.Clock as C
use Rattle.meaning.specs.Clock.{perform, displayed, Turn, is_fired, settle, Tick, broken, turns, clock}
use Rattle.meaning.specs.Run.{run}
use Rattle.meaning.specs.Buffers.{over, reply, filled, counted, starts, started}
use Rattle.clock.specs.Answers.{place_of, refusal_of, outcome_of, ticked_of, ran_of}
use Rattle.clock.specs.Promises.{Named, Small, EndingNamed, lent}

-- ---- what a fired rule does

pub record Writes (plan : List ℕ) (event : ℕ) (state state₁ : List ℤ) : Type 0 where
  pub writes : (D : Design) → Plans plan D → state₁ ≡ perform D (event_of event ∷ []) state

pub record Performs (plan mine : List ℕ) (state state₁ : List ℤ) : Type 0 where
  pub performs : (D : Design) → Plans plan D → state₁ ≡ perform D (events mine) state

-- displays made before, over the caller's old ones, and behind them those of the events
pub record Shows (mine : List ℕ) (displays : List ℤ) (shown : ℕ) (displays₁ : List ℤ) (r : ℕ) : Type 0 where
  pub shows : (made old : List ℤ) → displays ≡ over made old → shown ≡ length made → displays₁ ≡ over (made ++ displayed (events mine)) old
  pub counts : r ≡ shown + length (displayed (events mine))
  pub most : r ≤ shown + length mine

-- the displays of a log, over the caller's old ones
pub record Displays (log : List ℕ) (displays displays₁ : List ℤ) (r : ℕ) : Type 0 where
  pub displays_are : displays₁ ≡ over (displayed (events log)) displays
  pub counts : r ≡ length (displayed (events log))
  pub most : r ≤ length log

-- The state and the log of a clock are those of a turn.
pub record Meets (D : Design) (p : Progress) (state : List ℤ) (log : List ℕ) (t : Turn) : Type 0 where
  pub state_is : t.state ≡ state
  pub before_is : t.before ≡ events (take p.calls log)
  pub fired : p.fired ≡ any is_fired t.fates
  pub ported : Ported D t.before

-- ---- a turn

-- the n events of a rule, which stand behind those of the rules that fired
abbrev pub mine : (log : List ℕ) → Progress → (n : ℕ) → List ℕ
mine log p n = take n (drop p.calls log)

-- the fate of a rule that recorded n events, and what it does by it
pub record Settles (plan log : List ℕ) (n : ℕ) (p : Progress) (state state₁ : List ℤ) (s : Settled) : Type 0 where
  pub settles : (D : Design) → Plans plan D → (t : Turn) → Meets D p state log t → Ported D (events (mine log p n)) →
      Meets D s.after state₁ log (settle D (events (mine log p n)) t (fate_of s.fate))
  pub judged : (D : Design) → Plans plan D → (t : Turn) → Meets D p state log t → Ported D (events (mine log p n)) →
      fate_of s.fate ≡ judge D t.before (events (mine log p n))
  pub more_calls : s.after.calls ≤ p.calls + n

-- what the turn of rule n came to: the turn behind it, or that the clock is broken, where the log has still what it had
unfoldable pub Goes : Design → (p : Progress) (n : ℕ) → Turn → (state₁ : List ℤ) (log₁ : List ℕ) → Result Settled Reason → Type 0
Goes D p n t state₁ log₁ (Ok s) =
    (t₁ : Turn) × Meets D s.after state₁ log₁ t₁ × (t₁.fates ≡ t.fates ++ (fate_of s.fate ∷ []))
    × ((start : List ℤ) (ns : List ℕ) → turns D start (n ∷ ns) t ≡ turns D start ns t₁)
Goes D p n t state₁ log₁ (Err k) =
    (t.before ≡ events (take p.calls log₁)) × ((start : List ℤ) (ns : List ℕ) → turns D start (n ∷ ns) t ≡ broken start t n (R.number_of k) ns)

unfoldable pub More : Progress → Result Settled Reason → Type 0
More p (Ok s) = s.after.calls ≤ p.calls + 64
More p (Err k) = Unit {0}

pub record Takes (file plan : List ℕ) (p : Progress) (n : ℕ) (state : List ℤ) (log : List ℕ) (state₁ : List ℤ) (log₁ : List ℕ) (r : Result Settled Reason) : Type 0 where
  pub takes : (D : Design) → World file plan D → length state ≡ length D.instances → n < length (rules D.bodies) →
      (t : Turn) → Meets D p state log t → Goes D p n t state₁ log₁ r
  pub more : More p r

-- ---- fates

pub record Passes (fates : List ℕ) (from : ℕ) (fates₁ : List ℕ) : Type 0 where
  pub passes : (ts : List Fate) (old : List ℕ) → fates ≡ over (map fate_number ts) old → from ≡ length ts →
      fates₁ ≡ over (map fate_number (ts ++ replicate (length fates - from) Fate.not_reached)) old

-- "the stuck entry has 5 and later ones 6"
pub record Stops (fates : List ℕ) (from : ℕ) (fates₁ : List ℕ) : Type 0 where
  pub stops : (ts : List Fate) (old : List ℕ) → fates ≡ over (map fate_number ts) old → from ≡ length ts →
      fates₁ ≡ over (map fate_number (ts ++ (Fate.stuck ∷ replicate (length fates - (from + 1)) Fate.not_reached))) old

unfoldable pub Noted : (fates : List ℕ) (j rule calls : ℕ) → Result Settled Reason → (fates₁ : List ℕ) → Result Progress Came → Type 0
Noted fates j rule calls (Ok s) fates₁ r = (r ≡ Ok s.after) × (fates₁ ≡ set fates j (fate_number (fate_of s.fate)))
Noted fates j rule calls (Err k) fates₁ r = (r ≡ Err (record { outcome = Outcome.Stuck rule k; calls = calls })) × Stops fates j fates₁

pub record Notes (fates : List ℕ) (j rule calls : ℕ) (turned : Result Settled Reason) (fates₁ : List ℕ) (r : Result Progress Came) : Type 0 where
  pub notes : Noted fates j rule calls turned fates₁ r

-- ---- a clock

-- where a clock is stuck, the state is left to be restored
unfoldable pub StateLeft : Outcome → (state state₁ : List ℤ) → Tick → Type 0
StateLeft Outcome.Fired state state₁ t = state₁ ≡ t.state
StateLeft Outcome.Quiet state state₁ t = state₁ ≡ t.state
StateLeft (Outcome.Stuck n k) state state₁ t = state ≡ t.state

-- a design at hand, so many entries of whose schedule are taken: all of them
pub record Ready (file plan : List ℕ) (count : ℕ) (D : Design) : Type 0 where
  pub world : World file plan D
  pub all : count ≡ length D.schedule

-- the outcome of a clock's turns, the fates, and the displays, which stand in the log
pub record ShownAs (t : Tick) (fates fates₁ log₁ : List ℕ) (r : Came) : Type 0 where
  pub outcome_is : outcome_of r.outcome ≡ t.outcome
  pub fates_are : fates₁ ≡ over (map fate_number t.fates) fates
  pub displays_are : t.displays ≡ displayed (events (take r.calls log₁))

pub record TurnsAll (file plan : List ℕ) (count : ℕ) (state : List ℤ) (fates : List ℕ) (state₁ : List ℤ) (fates₁ log₁ : List ℕ) (r : Came) : Type 0 where
  pub shown : (D : Design) → Ready file plan count D → length state ≡ length D.instances → ShownAs (clock D state) fates fates₁ log₁ r
  pub left : (D : Design) → Ready file plan count D → length state ≡ length D.instances → StateLeft r.outcome state state₁ (clock D state)

-- each of at most 64 entries records at most 64 events
pub record Bounded (r : Came) : Type 0 where
  pub calls : r.calls ≤ 4096
  pub named : Named r.outcome

-- the state and the log stand at a turn of the clock that began at `start`, with the entries from j on left
pub record Reached (D : Design) (start : List ℤ) (f₀ : List ℕ) (p : Progress) (s : List ℤ) (l f : List ℕ) (j : ℕ) : Type 0 where
  pub turn : Turn
  pub meets : Meets D p s l turn
  pub fates_are : f ≡ over (map fate_number turn.fates) f₀
  pub count : j ≡ length turn.fates
  pub left : clock D start ≡ turns D start (drop j D.schedule) turn

pub record Going (file plan : List ℕ) (count : ℕ) (start : List ℤ) (f₀ : List ℕ) (p : Progress) (s : List ℤ) (l f : List ℕ) (j : ℕ) : Type 0 where
  pub going : (D : Design) → Ready file plan count D → length start ≡ length D.instances → Reached D start f₀ p s l f j

unfoldable pub Stepped : (file plan : List ℕ) (count : ℕ) (start : List ℤ) (f₀ : List ℕ) (s₁ : List ℤ) (l₁ f₁ : List ℕ) (j : ℕ) → Result Progress Came → Type 0
Stepped file plan count start f₀ s₁ l₁ f₁ j (Ok q) = Going file plan count start f₀ q s₁ l₁ f₁ (j + 1)
Stepped file plan count start f₀ s₁ l₁ f₁ j (Err t) = TurnsAll file plan count start f₀ s₁ f₁ l₁ t

unfoldable pub StepMore : Progress → Result Progress Came → Type 0
StepMore p (Ok q) = q.calls ≤ p.calls + 64
StepMore p (Err t) = (t.calls ≤ p.calls) × Named t.outcome

pub record Steps (file plan : List ℕ) (count : ℕ) (p : Progress) (j : ℕ) (s : List ℤ) (l f : List ℕ) (s₁ : List ℤ) (l₁ f₁ : List ℕ) (r : Result Progress Came) : Type 0 where
  pub steps : (start : List ℤ) (f₀ : List ℕ) → length s ≡ length start → Going file plan count start f₀ p s l f j → Stepped file plan count start f₀ s₁ l₁ f₁ j r
  pub more : StepMore p r

pub record Ends (p : Progress) (r : Came) : Type 0 where
  pub outcome_is : outcome_of r.outcome ≡ cond p.fired C.Outcome.fired C.Outcome.quiet
  pub calls_are : r.calls ≡ p.calls

-- lengths that a clock can go by
pub record Fit (scheduled instances fates log : ℕ) : Type 0 where
  pub few : scheduled ≤ 64
  pub small : instances ≤ 64
  pub marks : 64 ≤ fates
  pub events : 4096 ≤ log

-- and its turns, where there are as many fates as entries
pub record Sized (instances entries log : ℕ) : Type 0 where
  pub few : entries ≤ 64
  pub small : instances ≤ 64
  pub events : 4096 ≤ log

pub record Measures (scheduled instances fates log : ℕ) (r : Bool) : Type 0 where
  pub fit : r ≡ true → Fit scheduled instances fates log
  pub short : r ≡ false → Fit scheduled instances fates log → ⊥

-- all turns of a clock, whose state is restored where it is stuck
pub record TurnedAll (file plan : List ℕ) (count : ℕ) (state : List ℤ) (fates : List ℕ) (state₁ : List ℤ) (fates₁ log₁ : List ℕ) (r : Came) : Type 0 where
  pub shown : (D : Design) → Ready file plan count D → length state ≡ length D.instances → ShownAs (clock D state) fates fates₁ log₁ r
  pub state_is : (D : Design) → Ready file plan count D → length state ≡ length D.instances → state₁ ≡ (clock D state).state
  pub bounded : Bounded r

-- the same with a log of its own
pub record TicksAlone (file plan : List ℕ) (state : List ℤ) (fates : List ℕ) (displays state₁ : List ℤ) (fates₁ : List ℕ) (displays₁ : List ℤ) (r : Ticked) : Type 0 where
  pub ticks : (D : Design) → World file plan D → length state ≡ length D.instances → 64 ≤ length fates → 4096 ≤ length displays →
      reply (ticked_of r) (lent state₁ fates₁ displays₁) ≡ filled (lent state fates displays) (clock D state)
  pub bounded : Small r

-- ---- from a file

-- why a file and a state of so many words are turned away
pub data Away (file : List ℕ) (states : ℕ) : Refusal → Type 0 where
  unread : {why : Refusal} → reading file ≡ refusal (refusal_of why) → Away file states why
  unfit : {D : Design} → reading file ≡ design D → (states ≡ length D.instances → ⊥) → Away file states Refusal.State

-- what is at hand of a design
pub record Opened (file plan : List ℕ) (states : ℕ) : Type 0 where
  pub design_is : Design
  pub read : reading file ≡ design design_is
  pub world : World file plan design_is
  pub fits : states ≡ length design_is.instances

-- the tests that a clock, a run and the setting of start values share
unfoldable pub LetsIn : (file : List ℕ) (states : ℕ) → Result Planned Refusal → Type 0
LetsIn file n (Ok p) = Opened file p.plan n
LetsIn file n (Err why) = Away file n why × (place_of why ≤ 32768)

pub record Admits (file : List ℕ) (states : ℕ) (r : Result Planned Refusal) : Type 0 where
  pub admits : LetsIn file states r

-- so many clocks of a design that is at hand
pub record Repeats (file plan : List ℕ) (count : ℕ) (state : List ℤ) (n : ℕ) (state₁ : List ℤ) (r : Ran) : Type 0 where
  pub repeats : (D : Design) → Ready file plan count D → length state ≡ length D.instances → record { answer = ran_of (Ok r); after = state₁ } ≡ counted (run D n state)
  pub bounded : EndingNamed r.ending

pub record RunsOn (file plan : List ℕ) (state : List ℤ) (n : ℕ) (state₁ : List ℤ) (r : Ran) : Type 0 where
  pub repeats : (D : Design) → World file plan D → length state ≡ length D.instances → record { answer = ran_of (Ok r); after = state₁ } ≡ counted (run D n state)
  pub bounded : EndingNamed r.ending

-- ---- the start values

pub record Sets (plan : List ℕ) (i : ℕ) (state state₁ : List ℤ) : Type 0 where
  pub sets : (D : Design) → Plans plan D → (x : Instance) → instance_of D i ≡ some x → state₁ ≡ starts D i (x ∷ []) state

pub record SetsAll (plan : List ℕ) (state state₁ : List ℤ) : Type 0 where
  pub sets : (D : Design) → Plans plan D → length state ≡ length D.instances → state₁ ≡ started D state
