-- What a clock of a file answers: one law for each way in which the functions return.
use Prim.Native.Nat.{ℕ, ◌≤◌, ◌<◌}
use mathlib.Core.Path.{◌≡◌, sym, ◌∙◌}
use mathlib.Core.List.{List}
use native.Mathlib.Omega.{arith}
use lib.IntN.{ℤ}
use lib.ListN.{length}
use borrow.Author.Tests.{le-leb, lt-leb, eq-eqb, ne_eqb}
use Rattle.std.specs.Prelude.{Result, Ok, Err, IsErrAnd}
use Rattle.design.specs.declared.Planned.{Planned}
use Rattle.design.specs.Syntax.{Design}
use Rattle.design.specs.Take as T
use Rattle.design.specs.Records.{design, refusal, reading}
use Rattle.meaning.specs.Naming.{passed, failed, if_passed, test}
use Rattle.clock.specs.declared.Refusal.{Refusal}
use Rattle.clock.specs.declared.Ticked.{Ticked}
use Rattle.clock.specs.Answers.{number_of, place_of, refusal_of, clocked_of}
use Rattle.meaning.specs.Buffers.{Reply, reply, refuse, with_design, with_room, state_fits, buffers_fit, clock_on, clock_reply}
use Rattle.clock.specs.Post.{TicksAlone, Away, unread, unfit, Admits}
use Rattle.clock.specs.Promises.{ClockBounded, Clocks, lent}
use Rattle.clock.proofs.Opening.{away, opened}

-- ---- any reply

module _ {A B : Type 0} (file : List ℕ) (b : B) (f : Design → Reply A B) where
  pub from_design : (D : Design) → reading file ≡ design D → with_design file b f ≡ f D
  unfolding with_design
  from_design D e = rw (e, with_design)

  pub from_refusal : (why : T.Refusal) → reading file ≡ refusal why → with_design file b f ≡ refuse why b
  unfolding with_design
  from_refusal why e = rw (e, with_design)

module _ (D : Design) (s : List ℤ) where
  pub fits : length s ≡ length D.instances → state_fits D s ≡ passed tt
  unfolding state_fits test
  fits e = rw (eq-eqb (length s) (length D.instances) e)

  pub misfits : (length s ≡ length D.instances → ⊥) → state_fits D s ≡ failed 10
  unfolding state_fits test
  misfits ne = rw (ne_eqb (length s) (length D.instances) ne)

-- ---- one clock

module _ {file : List ℕ} {s : List ℤ} {f : List ℕ} {d : List ℤ} where
  pub clock_away : {why : Refusal} (r : Result Ticked Refusal) → Admits file (length s) (Err why) → IsErrAnd r (λ w. w ≡ why) → Clocks file s f d s f d r
  unfolding clock_reply clock_on buffers_fit with_room if_passed refuse clocked_of number_of place_of ClockBounded
  clock_away (Ok t) u e = absurd e
  clock_away {why} (Err w) u e = let a = away u in rw e (record { bounded = a.1; replies = go a.0 })
    where
      go : {why : Refusal} → Away file (length s) why → record { answer = clocked_of (Err why); after = lent s f d } ≡ clock_reply file (lent s f d)
      go {why} (unread e) = sym (from_refusal file (lent s f d) _ (refusal_of why) e)
      go (unfit {D} e ne) = sym (from_design file (lent s f d) _ D e ∙ rw (misfits D s ne))

  module _ {p : Planned} (u : Admits file (length s) (Ok p)) where
    pub clock_fates : length f < 64 → Clocks file s f d s f d (Err Refusal.Fates)
    unfolding clock_reply clock_on buffers_fit with_room if_passed test refuse clocked_of number_of place_of ClockBounded
    clock_fates l = let h = opened u in record {
      bounded = omega arith;
      replies = sym (from_design file (lent s f d) _ h.design_is h.read ∙ rw (fits h.design_is s h.fits, lt-leb 64 (length f) l));
    }

    pub clock_displays : 64 ≤ length f → length d < 4096 → Clocks file s f d s f d (Err Refusal.Displays)
    unfolding clock_reply clock_on buffers_fit with_room if_passed test refuse clocked_of number_of place_of ClockBounded
    clock_displays m l = let h = opened u in record {
      bounded = omega arith;
      replies = sym (from_design file (lent s f d) _ h.design_is h.read ∙ rw (fits h.design_is s h.fits, le-leb 64 (length f) m, lt-leb 4096 (length d) l));
    }

    pub clock_done : {s₁ : List ℤ} {f₁ : List ℕ} {d₁ : List ℤ} {r : Ticked} → 64 ≤ length f → 4096 ≤ length d → TicksAlone file p.plan s f d s₁ f₁ d₁ r →
        Clocks file s f d s₁ f₁ d₁ (Ok r)
    unfolding clock_reply clock_on buffers_fit with_room if_passed test clocked_of reply ClockBounded
    clock_done m l t = let h = opened u in record {
      bounded = t.bounded;
      replies =
          t.ticks h.design_is h.world h.fits m l
          ∙ sym (from_design file (lent s f d) _ h.design_is h.read ∙ rw (fits h.design_is s h.fits, le-leb 64 (length f) m, le-leb 4096 (length d) l));
    }
