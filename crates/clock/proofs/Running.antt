-- A run, clock by clock: the clocks that are left from the state at hand, and the count so far, are the whole run.
use Prim.Native.Nat.{ℕ, suc, ◌+◌, ◌-◌, ◌≤◌, ◌<◌}
use mathlib.Core.Path.{◌≡◌, sym, ◌∙◌}
use mathlib.Core.Bool.{Bool, false}
use mathlib.Core.List.{List}
use native.Mathlib.Omega.{arith}
use lib.IntN.{ℤ}
use lib.ListN.{length, take}
use lib.Seq.{length-take-le}
use Rattle.std.specs.Prelude.{Ok, Err}
use Rattle.design.specs.declared.Planned.{Planned}
use Rattle.design.specs.Syntax.{Design}
use Rattle.rule.specs.declared.Reason.{Reason}
use Rattle.rule.specs.Answers as R
use Rattle.clock.specs.declared.Refusal.{Refusal}
use Rattle.clock.specs.declared.Outcome.{Outcome}
use Rattle.clock.specs.declared.turns.Came.{Came}
use Rattle.clock.specs.declared.Ending.{Ending}
use Rattle.clock.specs.declared.Ran.{Ran}
use Rattle.clock.specs.Answers.{number_of, place_of, refusal_of, outcome_of, ending_of, counted_of, ran_of}
use Rattle.meaning.specs.Clock as C
use Rattle.meaning.specs.Clock.{clock}
use Rattle.meaning.specs.Run as N
use Rattle.meaning.specs.Run.{stop, one_more, run}
use Rattle.meaning.specs.Buffers as B
use Rattle.meaning.specs.Buffers.{reply, refuse, with_room, filled, counted, run_on, run_reply}
use Rattle.design.specs.Lookups.{Scheduled}
use Rattle.clock.specs.Post.{Ready, TurnedAll, Fit, Measures, Away, unread, unfit, Admits, Repeats, RunsOn}
use Rattle.clock.specs.Promises.{Named, EndingNamed, RunBounded, Runs}
use Rattle.clock.proofs.Ticking.{ready}
use Rattle.clock.proofs.Opening.{away, opened}
use Rattle.clock.proofs.Replying.{from_design, from_refusal, fits, misfits}

-- ---- one clock more

-- a run after k clocks in which a rule fired
unfoldable pub after : ℕ → N.Ran → N.Ran
after k r = record { ending = r.ending; count = k + r.count; state = r.state }

module _ (D : Design) (s : List ℤ) (k : ℕ) where
  one_fired : (clock D s).outcome ≡ C.Outcome.fired → run D (suc k) s ≡ one_more (run D k (clock D s).state)
  unfolding run
  one_fired e = rw (e, run)

  one_quiet : (clock D s).outcome ≡ C.Outcome.quiet → run D (suc k) s ≡ stop N.Ending.quiet (clock D s).state
  unfolding run
  one_quiet e = rw (e, run)

  one_stuck : {n number : ℕ} → (clock D s).outcome ≡ C.Outcome.stuck n number → run D (suc k) s ≡ stop (N.Ending.stuck n number) (clock D s).state
  unfolding run
  one_stuck e = rw (e, run)

-- ---- the clocks that are left

after_one : (k : ℕ) (r : N.Ran) → after k (one_more r) ≡ after (k + 1) r
unfolding after one_more
after_one k r = let z : k + suc r.count ≡ k + 1 + r.count = omega arith in rw z

after_none : (r : N.Ran) → r ≡ after 0 r
unfolding after
after_none r = let z : 0 + r.count ≡ r.count = omega arith in rw z

-- a run that stopped after k clocks
stopped : (e : N.Ending) (k : ℕ) (s : List ℤ) → counted (after k (stop e s)) ≡ record { answer = B.answered (record { ending = e; count = k }); after = s }
unfolding counted after stop reply
stopped e k s = let z : k + 0 ≡ k = omega arith in rw z

pub record Running (file plan : List ℕ) (c : ℕ) (s : List ℤ) (n : ℕ) (s₁ : List ℤ) (count : ℕ) : Type 0 where
  pub left : (D : Design) → Ready file plan c D → length s ≡ length D.instances → run D n s ≡ after count (run D (n - count) s₁)

module _ {file plan : List ℕ} {c : ℕ} {s : List ℤ} {n : ℕ} where
  pub running_start : Running file plan c s n s 0
  running_start = record { left = λ D ready l. let z : n - 0 ≡ n = omega arith in rw z (after_none (run D n s)) }

  module _ {s₁ : List ℤ} {count : ℕ} where
    pub running_done : Running file plan c s n s₁ count → n ≤ count → count ≤ n → Repeats file plan c s n s₁ (record { ending = Ending.Limit; count = n })
    unfolding run ran_of counted_of ending_of EndingNamed
    running_done h l q = record {
      bounded = tt;
      repeats = λ D ready k.
          let z : n - count ≡ 0 = omega arith in
          let e : count ≡ n = omega arith in
          sym (rw (h.left D ready k, z, e) (stopped N.Ending.limit n s₁));
    }

    module _ {f : List ℕ} {s₂ : List ℤ} {f₁ l₁ : List ℕ} {t : Came} (h : Running file plan c s n s₁ count) (less : count < n) (l : length s₁ ≡ length s)
        (m : length f ≡ c) (r : TurnedAll file plan (length f) s₁ f s₂ f₁ l₁ t) where
      -- the next clock, and one less left
      next : {X : Type 0} → (D : Design) → Ready file plan c D → length s ≡ length D.instances →
          (run D n s ≡ after count (run D (suc (n - (count + 1))) s₁) → outcome_of t.outcome ≡ (clock D s₁).outcome → s₂ ≡ (clock D s₁).state → X) → X
      next D ready k go =
          let z : n - count ≡ suc (n - (count + 1)) = omega arith in
          let w = rw m at r in
          go (rw z at (h.left D ready k)) (w.shown D ready (l ∙ k)).outcome_is (w.state_is D ready (l ∙ k))

      pub running_on : t.outcome ≡ Outcome.Fired → Running file plan c s n s₂ (count + 1)
      unfolding outcome_of
      running_on q = record {
        left = λ D ready k. next D ready k (λ e o y.
            e ∙ rw (one_fired D s₁ (n - (count + 1)) (sym o ∙ rw q), y) (after_one count (run D (n - (count + 1)) (clock D s₁).state)));
      }

      pub running_quiet : t.outcome ≡ Outcome.Quiet → Repeats file plan c s n s₂ (record { ending = Ending.Quiet; count = count })
      unfolding outcome_of ran_of counted_of ending_of EndingNamed
      running_quiet q = record {
        bounded = tt;
        repeats = λ D ready k. next D ready k (λ e o y.
            sym (rw (e, one_quiet D s₁ (n - (count + 1)) (sym o ∙ rw q), y) (stopped N.Ending.quiet count (clock D s₁).state)));
      }

      pub running_stuck : {i : ℕ} {j : Reason} → t.outcome ≡ Outcome.Stuck i j → Repeats file plan c s n s₂ (record { ending = Ending.Stuck i j; count = count })
      unfolding outcome_of ran_of counted_of ending_of EndingNamed Named
      running_stuck {i} {j} q = record {
        bounded = rw q at r.bounded.named;
        repeats = λ D ready k. next D ready k (λ e o y.
            sym (rw (e, one_stuck D s₁ (n - (count + 1)) {n = i} {number = R.number_of j} (sym o ∙ rw q), y) (stopped (N.Ending.stuck i (R.number_of j)) count (clock D s₁).state)));
      }

module _ {file plan : List ℕ} {s : List ℤ} {n c : ℕ} (k : Scheduled plan c) where
  pub repeated : {s₁ : List ℤ} {r : Ran} {a b : ℕ} (f : List ℕ) → Fit c a (length f) b → Repeats file plan (length (take c f)) s n s₁ r → RunsOn file plan s n s₁ r
  repeated f g h =
      let e : length (take c f) ≡ c = length-take-le c f (omega (arith, g.few, g.marks)) in
      let w = rw e at h in
      record { bounded = w.bounded; repeats = λ D v l. w.repeats D (ready k v) l }

  pub no_clocks : {f l : ℕ} {t : Bool} → 64 ≤ f → 4096 ≤ l → Measures c (length s) f l t → t ≡ false → RunsOn file plan s n s (record { ending = Ending.Limit; count = 0 })
  unfolding EndingNamed
  no_clocks p q h e = record {
    bounded = tt;
    repeats = λ D w m. absurd (h.short e (record {
      few = omega (arith, k.counts D w.plans, w.plans.schedule.few);
      small = omega (arith, m, w.plans.sound.few_instances);
      marks = p;
      events = q;
    }));
  }

-- ---- from a file

module _ {file : List ℕ} {s : List ℤ} {n : ℕ} where
  pub run_away : {why : Refusal} → Admits file (length s) (Err why) → Runs file s n s (Err why)
  unfolding run_reply run_on with_room refuse ran_of number_of place_of RunBounded
  run_away {why} u = let w = away u in record { bounded = w.1; replies = go w.0 }
    where
      go : {why : Refusal} → Away file (length s) why → record { answer = ran_of (Err why); after = s } ≡ run_reply file n s
      go {why} (unread e) = sym (from_refusal file s _ (refusal_of why) e)
      go (unfit {D} e ne) = sym (from_design file s _ D e ∙ rw (misfits D s ne))

  pub run_done : {p : Planned} {s₁ : List ℤ} {r : Ran} → Admits file (length s) (Ok p) → RunsOn file p.plan s n s₁ r → Runs file s n s₁ (Ok r)
  unfolding run_reply run_on with_room RunBounded
  run_done u t = let h = opened u in record {
    bounded = t.bounded;
    replies = t.repeats h.design_is h.world h.fits ∙ sym (from_design file s _ h.design_is h.read ∙ rw (fits h.design_is s h.fits));
  }
