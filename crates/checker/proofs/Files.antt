-- The same as callers see it: of a file that passes the check, no clock and no run is answered as stuck, whatever the buffers hold, and the
-- fates in the buffer that was lent are 0 to 4. Such a file is read as a design that passes.
use Prim.Native.Nat.{ℕ, zero, suc, ◌<◌}
use mathlib.Core.Path.{◌≡◌, refl, sym, ◌∙◌}
use mathlib.Core.List.{List, [], ◌∷◌, ◌++◌, map}
use native.Mathlib.Omega.{arith}
use lib.IntN.{ℤ}
use lib.ListN.{length}
use Rattle.design.specs.Syntax.{Design}
use Rattle.design.specs.Records.{Reading, design, refusal, reading}
use Rattle.meaning.specs.Naming.{Test, passed, failed}
use Rattle.meaning.specs.Conflict.{Fate, fate_number}
use Rattle.meaning.specs.Clock.{clock}
use Rattle.meaning.specs.Run.{run}
use Rattle.meaning.specs.Buffers.{answered, Reply, reply, refuse, with_design, with_room, state_fits, Buffers, buffers_fit, Clocked, over, filled, clock_on, clock_reply, Counted, counted, run_on, run_reply}
use Rattle.meaning.specs.Check.{Verdict, passes, fails, check, check_file}
use Rattle.checker.specs.Answers.{verdict}
use Rattle.std.specs.Prelude.{Result, Ok, Err}
use Rattle.checker.specs.declared.Failure.{Failure}
use Rattle.checker.specs.Unstuck.{FiredOrQuiet, LimitOrQuiet, Reached, ReachedAt, NeverStuck, Unstuck}
use Rattle.checker.proofs.NeverStuck.{clock_never_stuck, run_never_stuck, overwritten_never_stuck}

-- what was answered was answered with room
with_room_answered : {A B : Type 0} (t : Test (Unit {0})) (b : B) (f : Unit {0} → Reply A B) {a : A} → (with_room t b f).answer ≡ answered a → with_room t b f ≡ f tt
unfolding with_room refuse
with_room_answered (passed ok) b f e = refl
with_room_answered (failed n) b f e = let z : ◌≡◌ {A = ℕ} 0 1 = cc in absurd (omega arith)

-- fates at the front of a buffer
entry_reached : (fs : List Fate) (rest : List ℕ) → Reached fs → (j : ℕ) → j < length fs → ReachedAt (map fate_number fs ++ rest) j
entry_reached [] rest h j q = absurd (omega arith)
entry_reached (f ∷ fs) rest h zero q = (fate_number f, refl, h zero f refl)
entry_reached (f ∷ fs) rest h (suc j) q = entry_reached fs rest (λ i g e. h (suc i) g e) j (omega arith)

as_design : {D E : Design} → design D ≡ design E → D ≡ E
as_design e = cc

module _ (file : List ℕ) (checked : check_file file ≡ passes) where
  -- a file that passes is a design that passes
  pub passing_design : {X : Type 0} → ((D : Design) → reading file ≡ design D → check D ≡ passes → X) → X
  unfolding check_file
  passing_design {X} next = go (reading file) refl checked
    where
      go : (r : Reading) → reading file ≡ r → ◌≡◌ {A = Verdict} (elim r [
        | refusal why ↦ fails why
        | design D ↦ check D
      ]) passes → X
      go (refusal why) p e = let z : ◌≡◌ {A = ℕ} 0 1 = cc in absurd (omega arith)
      go (design D) p e = next D p e

  passes_as : (D : Design) → reading file ≡ design D → check D ≡ passes
  passes_as D p = passing_design (λ D₁ q h. let e : D₁ ≡ D = as_design (sym q ∙ p) in rw e at h)

  -- a clock that is answered is the design's, and so is a run
  clock_answered : (D : Design) → reading file ≡ design D → (b : Buffers) {c : Clocked} → (clock_reply file b).answer ≡ answered c → clock_reply file b ≡ filled b (clock D b.state)
  unfolding clock_reply with_design clock_on
  clock_answered D p b e = rw (p, with_design) (with_room_answered (buffers_fit D b) b _ (rw (p, with_design) at e))

  run_answered : (D : Design) → reading file ≡ design D → (n : ℕ) (state : List ℤ) {c : Counted} → (run_reply file n state).answer ≡ answered c → run_reply file n state ≡ counted (run D n state)
  unfolding run_reply with_design run_on
  run_answered D p n state e = rw (p, with_design) (with_room_answered (state_fits D state) state _ (rw (p, with_design) at e))

  pub file_clock_never_stuck : (b : Buffers) (c : Clocked) → (clock_reply file b).answer ≡ answered c → FiredOrQuiet c.outcome
  unfolding filled reply
  file_clock_never_stuck b c e = passing_design (λ D p h.
      let q = clock_answered D p b e in
      let o : (clock D b.state).outcome ≡ c.outcome = cc in rw o at (clock_never_stuck D h b.state).outcome)

  pub file_fates_reached : (D : Design) → reading file ≡ design D → (b : Buffers) (c : Clocked) → (clock_reply file b).answer ≡ answered c →
      (j : ℕ) → j < length D.schedule → ReachedAt (clock_reply file b).after.fates j
  unfolding filled reply over
  file_fates_reached D p b c e j h =
      let w = clock_never_stuck D (passes_as D p) b.state in
      rw (clock_answered D p b e) (entry_reached (clock D b.state).fates _ w.fates j (omega (arith, w.every)))

  pub file_run_never_stuck : (n : ℕ) (state : List ℤ) (c : Counted) → (run_reply file n state).answer ≡ answered c → LimitOrQuiet c.ending
  unfolding counted reply
  file_run_never_stuck n state c e = passing_design (λ D p h.
      let q = run_answered D p n state e in
      let o : (run D n state).ending ≡ c.ending = cc in rw o at (run_never_stuck D h n state))

  -- everything that `check` promises of it
  pub never_stuck : NeverStuck file
  never_stuck = record {
    clocks = λ D p state. clock_never_stuck D (passes_as D p) state;
    runs = λ D p n state. run_never_stuck D (passes_as D p) n state;
    overwrites = λ D p changes state j t e. overwritten_never_stuck D (passes_as D p) changes state j t e;
    clock_answers = file_clock_never_stuck;
    fates_answered = file_fates_reached;
    run_answers = file_run_never_stuck;
  }

pub unstuck : (file : List ℕ) (r : Result (Unit {0}) Failure) → verdict r ≡ check_file file → Unstuck file r
unfolding Unstuck verdict
unstuck file (Ok u) e = never_stuck file (sym e)
unstuck file (Err why) e = tt
