-- The promises of one clock, a run and the setting of start values settle their answers and what the buffers hold afterwards: the reply's
-- buffers are those, and its answer leads back to the code's.
use Prim.Native.Nat.{ℕ, ◌-◌}
use mathlib.Core.Path.{◌≡◌, refl, ap, sym, ◌∙◌}
use mathlib.Core.List.{List, [], ◌∷◌}
use mathlib.Core.Option.{Option, some, none}
use lib.IntN.{ℤ}
use lib.ListN.{length, get_or}
use Rattle.std.specs.Prelude.{Result, Ok, Err}
use Rattle.design.specs.declared.Fault.{Fault}
use Rattle.design.specs.Take as T
use Rattle.design.specs.Syntax.{Design}
use Rattle.design.specs.Plan.{World}
use Rattle.design.proofs.Settled.{fault_at, fault_back}
use Rattle.rule.proofs.Settled.{reason_of, reason_back}
use Rattle.clock.specs.declared.Refusal.{Refusal}
use Rattle.clock.specs.declared.Outcome.{Outcome}
use Rattle.clock.specs.declared.Ticked.{Ticked}
use Rattle.clock.specs.declared.Ending.{Ending}
use Rattle.clock.specs.declared.Ran.{Ran}
use Rattle.meaning.specs.Clock as C
use Rattle.meaning.specs.Run as N
use Rattle.meaning.specs.Buffers as B
use Rattle.meaning.specs.Buffers.{Reply}
use Rattle.clock.specs.Answers.{number_of, place_of, refusal_of, outcome_of, ticked_of, ending_of, counted_of, clocked_of, ran_of, started_of}
use Rattle.clock.specs.Promises.{lent, Clocks, Runs, Starts, Spare, Ticks}

-- ---- refusals

-- of a fault, or one of 10, 11, 12
refusal_by : Option Fault → T.Refusal → Refusal
refusal_by (some f) why = Refusal.File (record { fault = f; place = why.place })
refusal_by none why = get_or (Refusal.State ∷ Refusal.Fates ∷ Refusal.Displays ∷ []) (why.number - 10) Refusal.State

refusal_at : T.Refusal → Refusal
refusal_at why = refusal_by (fault_at why.number) why

refusal_back : (why : Refusal) → refusal_at (refusal_of why) ≡ why
unfolding refusal_at refusal_by number_of place_of fault_at
refusal_back (Refusal.File r) = ap (λ (o : Option Fault). refusal_by o (refusal_of (Refusal.File r))) (fault_back r.fault)
refusal_back Refusal.State = refl
refusal_back Refusal.Fates = refl
refusal_back Refusal.Displays = refl

-- ---- answers

outcome_back_of : C.Outcome → Outcome
outcome_back_of C.Outcome.fired = Outcome.Fired
outcome_back_of C.Outcome.quiet = Outcome.Quiet
outcome_back_of (C.Outcome.stuck n k) = Outcome.Stuck n (reason_of k)

outcome_back : (o : Outcome) → outcome_back_of (outcome_of o) ≡ o
unfolding outcome_back_of outcome_of
outcome_back Outcome.Fired = refl
outcome_back Outcome.Quiet = refl
outcome_back (Outcome.Stuck n k) = ap (Outcome.Stuck n) (reason_back k)

ending_back_of : N.Ending → Ending
ending_back_of N.Ending.limit = Ending.Limit
ending_back_of N.Ending.quiet = Ending.Quiet
ending_back_of (N.Ending.stuck n k) = Ending.Stuck n (reason_of k)

ending_back : (e : Ending) → ending_back_of (ending_of e) ≡ e
unfolding ending_back_of ending_of
ending_back Ending.Limit = refl
ending_back Ending.Quiet = refl
ending_back (Ending.Stuck n k) = ap (Ending.Stuck n) (reason_back k)

clocked_back_of : B.Answer B.Clocked → Result Ticked Refusal
clocked_back_of (B.refused why) = Err (refusal_at why)
clocked_back_of (B.answered t) = Ok (record { outcome = outcome_back_of t.outcome; displays = t.displays })

clocked_back : (r : Result Ticked Refusal) → clocked_back_of (clocked_of r) ≡ r
unfolding clocked_back_of clocked_of ticked_of
clocked_back (Err why) = ap (λ (w : Refusal). Err w) (refusal_back why)
clocked_back (Ok t) = ap (λ (o : Outcome). Ok (record { outcome = o; displays = t.displays })) (outcome_back t.outcome)

ran_back_of : B.Answer B.Counted → Result Ran Refusal
ran_back_of (B.refused why) = Err (refusal_at why)
ran_back_of (B.answered c) = Ok (record { ending = ending_back_of c.ending; count = c.count })

ran_back : (r : Result Ran Refusal) → ran_back_of (ran_of r) ≡ r
unfolding ran_back_of ran_of counted_of
ran_back (Err why) = ap (λ (w : Refusal). Err w) (refusal_back why)
ran_back (Ok r) = ap (λ (d : Ending). Ok (record { ending = d; count = r.count })) (ending_back r.ending)

started_back_of : B.Answer (Unit {0}) → Result (Unit {0}) Refusal
started_back_of (B.refused why) = Err (refusal_at why)
started_back_of (B.answered ok) = Ok ok

started_back : (r : Result (Unit {0}) Refusal) → started_back_of (started_of r) ≡ r
unfolding started_back_of started_of
started_back (Err why) = ap (λ (w : Refusal). Err w) (refusal_back why)
started_back (Ok _) = refl

-- ---- replies: `of` is what an answer of the code means, and `from` leads back

module _ {R A S : Type 0} (of : R → B.Answer A) (from : B.Answer A → R) (back : (r : R) → from (of r) ≡ r) where
  same_answer : {a b : R} {s t : S} {reply : Reply A S} → record { answer = of a; after = s } ≡ reply → record { answer = of b; after = t } ≡ reply → a ≡ b
  same_answer {a} {b} p q = sym (back a) ∙ ap (λ (r : Reply A S). from r.answer) (p ∙ sym q) ∙ back b

module _ {A S : Type 0} where
  same_after : {x y : B.Answer A} {s t : S} {reply : Reply A S} → record { answer = x; after = s } ≡ reply → record { answer = y; after = t } ≡ reply → s ≡ t
  same_after p q = ap (λ (r : Reply A S). r.after) (p ∙ sym q)

-- what `clock` ensures of a file and buffers, of two answers and the buffers that they leave
module _ (file : List ℕ) (state : List ℤ) (fates : List ℕ) (displays state₁ state₂ : List ℤ) (fates₁ fates₂ : List ℕ) (displays₁ displays₂ : List ℤ) (a b : Result Ticked Refusal) where
  pub clock_settled : Clocks file state fates displays state₁ fates₁ displays₁ a → Clocks file state fates displays state₂ fates₂ displays₂ b →
      (a ≡ b) × (state₁ ≡ state₂) × (fates₁ ≡ fates₂) × (displays₁ ≡ displays₂)
  clock_settled p q =
      let after : lent state₁ fates₁ displays₁ ≡ lent state₂ fates₂ displays₂ = same_after p.replies q.replies in (
        same_answer clocked_of clocked_back_of clocked_back p.replies q.replies,
        ap (λ (x : B.Buffers). x.state) after,
        ap (λ (x : B.Buffers). x.fates) after,
        ap (λ (x : B.Buffers). x.displays) after,
      )

-- what `run` ensures
pub run_settled : (file : List ℕ) (state : List ℤ) (n : ℕ) (state₁ state₂ : List ℤ) (a b : Result Ran Refusal) → Runs file state n state₁ a → Runs file state n state₂ b →
    (a ≡ b) × (state₁ ≡ state₂)
run_settled file state n state₁ state₂ a b p q = (same_answer ran_of ran_back_of ran_back p.replies q.replies, same_after p.replies q.replies)

-- what `start` ensures
pub start_settled : (file : List ℕ) (state state₁ state₂ : List ℤ) (a b : Result (Unit {0}) Refusal) → Starts file state state₁ a → Starts file state state₂ b →
    (a ≡ b) × (state₁ ≡ state₂)
start_settled file state state₁ state₂ a b p q = (same_answer started_of started_back_of started_back p.replies q.replies, same_after p.replies q.replies)

-- what `tick` ensures of a design at hand
module _ (file plan : List ℕ) (state : List ℤ) (fates : List ℕ) (displays : List ℤ) (log : List ℕ) (D : Design) (world : World file plan D)
    (state_fits : length state ≡ length D.instances) (room : Spare fates displays log) (state₁ state₂ : List ℤ) (fates₁ fates₂ : List ℕ) (displays₁ displays₂ : List ℤ)
    (a b : Ticked) where
  pub tick_settled : Ticks file plan state fates displays log state₁ fates₁ displays₁ a →
      Ticks file plan state fates displays log state₂ fates₂ displays₂ b → (a ≡ b) × (state₁ ≡ state₂) × (fates₁ ≡ fates₂) × (displays₁ ≡ displays₂)
  unfolding B.reply clocked_of
  tick_settled p q =
      let x = p.ticks D world state_fits room in
      let y = q.ticks D world state_fits room in
      let after : lent state₁ fates₁ displays₁ ≡ lent state₂ fates₂ displays₂ = same_after x y in (
        done (same_answer clocked_of clocked_back_of clocked_back x y),
        ap (λ (z : B.Buffers). z.state) after,
        ap (λ (z : B.Buffers). z.fates) after,
        ap (λ (z : B.Buffers). z.displays) after,
      )
    where
      done : ◌≡◌ {A = Result Ticked Refusal} (Ok a) (Ok b) → a ≡ b
      done e = cc
