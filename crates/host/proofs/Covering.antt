-- The numbers of refusals and reasons are small and not 0, so an answer packed of them is the definition's: the check's, and what the covers of clock, run
-- and start values hand on.
use Prim.Native.Nat.{ℕ, ◌≤◌}
use mathlib.Core.Path.{◌≡◌, refl, ap, ◌∙◌}
use mathlib.Core.List.{List}
use native.Mathlib.Omega.{arith}
use lib.IntN.{ℤ}
use Rattle.std.specs.Prelude.{Result, Ok, Err}
use Rattle.design.specs.declared.Refused.{Refused}
use Rattle.rule.specs.declared.Reason.{Reason}
use Rattle.rule.specs.Answers as R
use Rattle.clock.specs.declared.Refusal.{Refusal}
use Rattle.clock.specs.declared.Ticked.{Ticked}
use Rattle.clock.specs.declared.Ran.{Ran}
use Rattle.clock.specs.Answers.{number_of, place_of, clocked_of, ran_of, started_of}
use Rattle.clock.specs.Promises as C
use Rattle.clock.specs.Promises.{Named, Small, ClockBounded, EndingNamed, RunBounded, StartBounded}
use Rattle.checker.specs.declared.Failure.{Failure}
use Rattle.meaning.specs.Check.{check_file}
use Rattle.checker.specs.Unstuck as U
use Rattle.checker.specs.Answers.{verdict, Bounded}
use Rattle.host.specs.Packed.{placed, clocked_number, counted_number, started_number, verdict_number}
use Rattle.host.specs.Covers.{Clocks, Runs, Starts, Unstuck, Places}
use Rattle.host.proofs.Packing.{few}

-- ---- numbers are small

pub few_refusals : (w : Refusal) → (1 ≤ number_of w) × (number_of w ≤ 12)
unfolding number_of
few_refusals (Refusal.File w) = let n = few w.fault in (omega arith, omega arith)
few_refusals Refusal.State = (omega arith, omega arith)
few_refusals Refusal.Fates = (omega arith, omega arith)
few_refusals Refusal.Displays = (omega arith, omega arith)

pub few_reasons : (k : Reason) → (21 ≤ R.number_of k) × (R.number_of k ≤ 28)
unfolding R.number_of
few_reasons Reason.Kind = (omega arith, omega arith)
few_reasons Reason.Local = (omega arith, omega arith)
few_reasons Reason.Instance = (omega arith, omega arith)
few_reasons Reason.Method = (omega arith, omega arith)
few_reasons Reason.Count = (omega arith, omega arith)
few_reasons Reason.Pure = (omega arith, omega arith)
few_reasons Reason.Calls = (omega arith, omega arith)
few_reasons Reason.Locals = (omega arith, omega arith)

-- ---- refusals

pub refusal_small : (w : Refusal) {n p : ℕ} → n ≡ number_of w → p ≡ place_of w → place_of w ≤ 32768 → Places n p
refusal_small w e q l = record { byte = omega (arith, (few_refusals w).1); near = omega arith }

-- ---- the check

pub check_near : (w : Refused) → Bounded (Err (Failure.Refused w)) → place_of (Refusal.File w) ≤ 32768
unfolding Bounded place_of
check_near w b = b

pub failure_small : (k : Reason) (place : ℕ) {n : ℕ} → Bounded (Err (Failure.Fails k place)) → n ≡ R.number_of k → Places n place
unfolding Bounded
failure_small k place b n = record { byte = omega (arith, (few_reasons k).1); near = b }

module _ (file : List ℕ) where
  pub check_passes : {u : Unit {0}} → verdict (Ok u) ≡ check_file file → 0 ≡ verdict_number (check_file file)
  unfolding verdict verdict_number
  check_passes v = rw (← v)

  pub check_refused : (w : Refused) {r : ℕ} → verdict (Err (Failure.Refused w)) ≡ check_file file → r ≡ placed (number_of (Refusal.File w)) (place_of (Refusal.File w)) →
      r ≡ verdict_number (check_file file)
  unfolding verdict verdict_number number_of place_of
  check_refused w v q = rw (← v, q) refl

  pub check_fails : (k : Reason) (place : ℕ) {n r : ℕ} → verdict (Err (Failure.Fails k place)) ≡ check_file file → n ≡ R.number_of k → r ≡ placed n place → r ≡ verdict_number (check_file file)
  unfolding verdict verdict_number
  check_fails k place v n q = rw (← v, q, n) refl

  pub passes_unstuck : {u : Unit {0}} {r : ℕ} → U.Unstuck file (Ok u) → Unstuck file r
  unfolding U.Unstuck
  passes_unstuck u = record { unstuck = λ z. u }

  -- a refusal's and a failure's number is not 0
  pub refused_unstuck : (w : Refusal) {r : ℕ} → r ≡ placed (number_of w) (place_of w) → Unstuck file r
  unfolding placed
  refused_unstuck w q = record { unstuck = λ z. absurd (let m = few_refusals w in omega arith) }

  pub fails_unstuck : (k : Reason) (place : ℕ) {n r : ℕ} → n ≡ R.number_of k → r ≡ placed n place → Unstuck file r
  unfolding placed
  fails_unstuck k place n q = record { unstuck = λ z. absurd (let m = few_reasons k in omega arith) }

-- ---- the covers

module _ {file : List ℕ} {state : List ℤ} {state₁ : List ℤ} {r : ℕ} where
  pub clocks : {fates fates₁ : List ℕ} {displays displays₁ : List ℤ} {c : Result Ticked Refusal} → C.Clocks file state fates displays state₁ fates₁ displays₁ c → r ≡ clocked_number (clocked_of c) →
      Clocks file state fates displays state₁ fates₁ displays₁ r
  clocks h q = record { answer = q ∙ ap (λ y. clocked_number y.answer) h.replies; after = ap (λ y. y.after) h.replies }

  pub runs : {n : ℕ} {x : Result Ran Refusal} → C.Runs file state n state₁ x → r ≡ counted_number (ran_of x) → Runs file state n state₁ r
  runs h q = record { answer = q ∙ ap (λ y. counted_number y.answer) h.replies; after = ap (λ y. y.after) h.replies }

  pub begins : {x : Result (Unit {0}) Refusal} → C.Starts file state state₁ x → r ≡ started_number (started_of x) → Starts file state state₁ r
  begins h q = record { answer = q ∙ ap (λ y. started_number y.answer) h.replies; after = ap (λ y. y.after) h.replies }
