-- What it is for a clock and for a run not to be stuck, and clocks between which the host changes the state. The theorems are proved in
-- proofs/NeverStuck.antt and proofs/Files.antt; a contract can cite their words from here.
use Rattle.std.specs.Prelude.{ℕ, ◌≤◌, ◌<◌, ◌≡◌, ◌⊎◌, List, [], ◌∷◌, ℤ, length, Result, Ok, Err}
use Rattle.std.proofs.Math.Option.{some}
use Rattle.std.proofs.Math.ListN.{get_elem?}
use Rattle.design.specs.Syntax.{Design}
use Rattle.design.specs.Records.{Reading, reading}
use Rattle.meaning.specs.Conflict.{Fate, fate_number}
use Rattle.meaning.specs.Clock.{Outcome, Tick, clock}
use Rattle.meaning.specs.Run.{Ending, run}
use Rattle.meaning.specs.Buffers.{answered, Buffers, Clocked, Counted, clock_reply, run_reply}
use Rattle.checker.specs.declared.Failure.{Failure}

abbrev pub FiredOrQuiet : Outcome → Type 0
FiredOrQuiet o = (o ≡ Outcome.fired) ⊎ (o ≡ Outcome.quiet)

abbrev pub LimitOrQuiet : Ending → Type 0
LimitOrQuiet e = (e ≡ Ending.limit) ⊎ (e ≡ Ending.quiet)

-- each of these fates is one of 0 to 4: fired, unavailable, inside, earlier or hardware; none is "5 stuck, 6 not reached"
abbrev pub Reached : List Fate → Type 0
Reached fs = (j : ℕ) (f : Fate) → get_elem? fs j ≡ some f → fate_number f ≤ 4

-- entry j of a fate buffer is there, and is one of 0 to 4
abbrev pub ReachedAt : (fates : List ℕ) → (j : ℕ) → Type 0
ReachedAt fates j = (f : ℕ) × (get_elem? fates j ≡ some f) × (f ≤ 4)

-- a clock of so many scheduled entries that is not stuck
pub record GoesOn (entries : ℕ) (t : Tick) : Type 0 where
  pub outcome : FiredOrQuiet t.outcome
  pub every : length t.fates ≡ entries
  pub fates : Reached t.fates

-- clocks in a row; before each of them the host changes the state as it likes
unfoldable pub overwritten : Design → (changes : List (List ℤ → List ℤ)) → List ℤ → List Tick
overwritten D [] state = []
overwritten D (f ∷ fs) state = let t : Tick = clock D (f state) in t ∷ overwritten D fs t.state

-- A file whose design never gets stuck, from any registers: every clock fires or is quiet, and each scheduled entry's fate is 0, 1, 2, 3 or
-- 4; any run ends by limit or quiet; and the same where the host overwrites registers between clocks. What callers are answered says so too, and
-- so does the fate buffer that they lent, at each scheduled entry.
pub record NeverStuck (file : List ℕ) : Type 0 where
  pub clocks : (D : Design) → reading file ≡ Reading.design D → (state : List ℤ) → GoesOn (length D.schedule) (clock D state)
  pub runs : (D : Design) → reading file ≡ Reading.design D → (n : ℕ) (state : List ℤ) → LimitOrQuiet (run D n state).ending
  pub overwrites : (D : Design) → reading file ≡ Reading.design D → (changes : List (List ℤ → List ℤ)) (state : List ℤ) (j : ℕ) (t : Tick) →
      get_elem? (overwritten D changes state) j ≡ some t → GoesOn (length D.schedule) t
  pub clock_answers : (b : Buffers) (c : Clocked) → (clock_reply file b).answer ≡ answered c → FiredOrQuiet c.outcome
  pub fates_answered : (D : Design) → reading file ≡ Reading.design D → (b : Buffers) (c : Clocked) → (clock_reply file b).answer ≡ answered c →
      (j : ℕ) → j < length D.schedule → ReachedAt (clock_reply file b).after.fates j
  pub run_answers : (n : ℕ) (state : List ℤ) (c : Counted) → (run_reply file n state).answer ≡ answered c → LimitOrQuiet c.ending

-- what passing the check promises
unfoldable pub Unstuck : (file : List ℕ) → Result (Unit {0}) Failure → Type 0
Unstuck file (Ok u) = NeverStuck file
Unstuck file (Err why) = Unit {0}
