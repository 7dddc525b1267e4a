-- A plan in a caller's list, and one clock by it: one law for each way in which the two covers return. `prepared_clock` says what they are for:
-- after a design was prepared, a tick by that plan is one clock of the file.
use Prim.Native.Nat.{ℕ, ◌≤◌, ◌<◌}
use mathlib.Core.Path.{◌≡◌, refl, sym, ap, ◌∙◌}
use mathlib.Core.Bool.{Bool, true, false}
use mathlib.Core.List.{List, ◌++◌}
use native.Mathlib.Omega.{arith}
use lib.Dec.{leb}
use lib.IntN.{ℤ}
use lib.ListN.{length, take, drop, length-take, take-append-drop}
use lib.Seq.{length-take-le, take-append_seam, drop-append_seam}
use borrow.Author.Tests.{le-leb, lt-leb, leb-true, leb-false, eq-eqb, ne_eqb}
use Rattle.std.specs.Prelude.{Ok, Err}
use Rattle.design.specs.declared.Refused.{Refused}
use Rattle.design.specs.declared.Planned.{Planned}
use Rattle.design.specs.Syntax.{Design}
use Rattle.design.specs.Records.{Reading, design, refusal, reading}
use Rattle.design.specs.Answers.{answered, summary}
use Rattle.design.specs.Plan.{size, World}
use Rattle.design.specs.Lookups.{Instances}
use Rattle.design.specs.Reads.{counted, PlanOf, Bounded, ReadsAs}
use Rattle.design.proofs.Settled.{same_plan}
use Rattle.meaning.specs.Naming.{if_passed, test}
use Rattle.meaning.specs.Buffers.{refuse, reply, with_design, with_room, state_fits, buffers_fit, clock_on, clock_reply}
use Rattle.clock.specs.declared.Refusal.{Refusal}
use Rattle.clock.specs.declared.Ticked.{Ticked}
use Rattle.clock.specs.Answers.{number_of, place_of, ticked_of}
use Rattle.clock.specs.Promises as C
use Rattle.clock.specs.Promises.{lent}
use Rattle.host.specs.Packed.{placed, ticked_number, clocked_number, prepared_number}
use Rattle.host.specs.Covers.{Clocks, Prepares, Ticks}

-- ---- a plan

-- a file that was read is a design
read_as : {file : List ℕ} {p : Planned} {X : Type 0} → ReadsAs file (Ok p) → ((D : Design) → reading file ≡ design D → World file p.plan D → X) → X
unfolding answered counted summary PlanOf
read_as {file} {p} {X} h next = go (reading file) refl h.answer
  where
    go : (g : Reading) → reading file ≡ g → answered (counted (Ok p)) ≡ summary g → X
    go (design D) q s = next D q (rw q at h.plan)
    go (refusal why) q s = absurd (let z : ◌≡◌ {A = ℕ} 0 1 = cc in omega arith)

module _ {file : List ℕ} where
  pub plan_fits : (plan : List ℕ) {p : Planned} → ReadsAs file (Ok p) → size ≤ length plan → length (take size plan) ≡ length p.plan
  plan_fits plan h l = read_as h (λ D g w. length-take-le size plan l ∙ sym w.plans.outlines.full)

  pub prepare_near : {w : Refused} → ReadsAs file (Err w) → place_of (Refusal.File w) ≤ 32768
  unfolding Bounded counted place_of
  prepare_near h = h.bounded

module _ {file plan : List ℕ} where
  pub prepare_refused : {w : Refused} {r : ℕ} → ReadsAs file (Err w) → r ≡ placed (number_of (Refusal.File w)) (place_of (Refusal.File w)) → Prepares file plan plan r
  unfolding answered counted summary prepared_number number_of place_of
  prepare_refused h q = record {
    answer = q ∙ rw (← h.answer);
    unread = λ _ _. refl;
    short = λ _. refl;
    filled = λ D g _. absurd (let s = rw g at h.answer in let z : ◌≡◌ {A = ℕ} 0 1 = cc in omega arith);
    rest = refl;
  }

  pub prepare_short : {p : Planned} → ReadsAs file (Ok p) → length plan < size → Prepares file plan plan 13
  unfolding answered counted prepared_number
  prepare_short h l = record {
    answer = rw (← h.answer, lt-leb size (length plan) l);
    unread = λ _ _. refl;
    short = λ _. refl;
    filled = λ D g m. absurd (omega arith);
    rest = refl;
  }

  pub prepare_done : {p : Planned} {front : List ℕ} → ReadsAs file (Ok p) → size ≤ length plan → front ≡ p.plan → Prepares file plan (front ++ drop size plan) 0
  unfolding answered counted prepared_number PlanOf
  prepare_done {p} {front} h l q = read_as h (λ D g world.
      let full : length front ≡ size = ap length q ∙ world.plans.outlines.full in
      let first : take size (front ++ drop size plan) ≡ p.plan = ap (λ k. take k (front ++ drop size plan)) (sym full) ∙ take-append_seam front (drop size plan) ∙ q in
      record {
        answer = rw (← h.answer, le-leb size (length plan) l);
        unread = λ why k. absurd (let z : design D ≡ refusal why = sym g ∙ k in let y : ◌≡◌ {A = ℕ} 0 1 = cc in omega arith);
        short = λ m. absurd (omega arith);
        filled = λ F k _. let w : World file p.plan F = rw k at h.plan in rw first w;
        rest = ap (λ k. drop k (front ++ drop size plan)) (sym full) ∙ drop-append_seam front (drop size plan);
      })

-- ---- one clock by it

-- the plan of a design is whole
whole : (plan : List ℕ) {file : List ℕ} {D : Design} → World file (take size plan) D → size ≤ length plan
whole plan w = omega (arith, w.plans.outlines.full, length-take size plan)

module _ {file plan : List ℕ} {state : List ℤ} {fates : List ℕ} {displays : List ℤ} {log : List ℕ} where
  pub tick_short_plan : length plan < size → Ticks file plan state fates displays log state fates displays 13
  tick_short_plan h = record {
    short_plan = λ _. (refl, refl);
    short_log = λ l _. absurd (omega arith);
    answer = λ D w _. absurd (let l = whole plan w in omega arith);
    after = λ D w _. absurd (let l = whole plan w in omega arith);
  }

  pub tick_short_log : size ≤ length plan → length log < 4096 → Ticks file plan state fates displays log state fates displays 14
  tick_short_log h k = record {
    short_plan = λ l. absurd (omega arith);
    short_log = λ _ _. (refl, refl);
    answer = λ D w l. absurd (omega arith);
    after = λ D w l. absurd (omega arith);
  }

  module _ (h : size ≤ length plan) (k : 4096 ≤ length log) where
    -- the tests that are left are those of the definition
    by_design : {state₁ : List ℤ} {fates₁ : List ℕ} {displays₁ : List ℤ} {r : ℕ} → ((D : Design) → World file (take size plan) D →
        (r ≡ clocked_number (clock_on D (lent state fates displays)).answer) × (lent state₁ fates₁ displays₁ ≡ (clock_on D (lent state fates displays)).after)) →
        Ticks file plan state fates displays log state₁ fates₁ displays₁ r
    by_design g = record {
      short_plan = λ l. absurd (omega arith);
      short_log = λ _ l. absurd (omega arith);
      answer = λ D w _. (g D w).0;
      after = λ D w _. (g D w).1;
    }

    pub tick_state : {n r : ℕ} → Instances (take size plan) n → (length state ≡ n → ⊥) → r ≡ placed (number_of Refusal.State) (place_of Refusal.State) → Ticks file plan state fates displays log state fates displays r
    unfolding clock_on buffers_fit state_fits with_room if_passed test refuse clocked_number placed number_of place_of
    tick_state i ne q = by_design (λ D w.
        let t = ne_eqb (length state) (length D.instances) (λ z. ne (z ∙ sym (i.counts D w.plans))) in
        (q ∙ rw t, rw t))

    module _ {n : ℕ} (i : Instances (take size plan) n) (is : length state ≡ n) where
      pub tick_fates : {r : ℕ} → length fates < 64 → r ≡ placed (number_of Refusal.Fates) (place_of Refusal.Fates) → Ticks file plan state fates displays log state fates displays r
      unfolding clock_on buffers_fit state_fits with_room if_passed test refuse clocked_number placed number_of place_of
      tick_fates l q = by_design (λ D w.
          let t = eq-eqb (length state) (length D.instances) (is ∙ i.counts D w.plans) in
          let u = lt-leb 64 (length fates) l in
          (q ∙ rw (t, u), rw (t, u)))

      pub tick_displays : {r : ℕ} → 64 ≤ length fates → length displays < 4096 → r ≡ placed (number_of Refusal.Displays) (place_of Refusal.Displays) → Ticks file plan state fates displays log state fates displays r
      unfolding clock_on buffers_fit state_fits with_room if_passed test refuse clocked_number placed number_of place_of
      tick_displays m l q = by_design (λ D w.
          let t = eq-eqb (length state) (length D.instances) (is ∙ i.counts D w.plans) in
          let u = le-leb 64 (length fates) m in
          let v = lt-leb 4096 (length displays) l in
          (q ∙ rw (t, u, v), rw (t, u, v)))

      pub tick_done : {state₁ : List ℤ} {fates₁ : List ℕ} {displays₁ : List ℤ} {x : Ticked} {r : ℕ} → 64 ≤ length fates → 4096 ≤ length displays →
          C.Ticks file (take size plan) state fates displays log state₁ fates₁ displays₁ x → r ≡ ticked_number (ticked_of x) →
          Ticks file plan state fates displays log state₁ fates₁ displays₁ r
      unfolding clock_on buffers_fit state_fits with_room if_passed test reply clocked_number
      tick_done m l c q = by_design (λ D w.
          let t = eq-eqb (length state) (length D.instances) (is ∙ i.counts D w.plans) in
          let u = le-leb 64 (length fates) m in
          let v = le-leb 4096 (length displays) l in
          let e = c.ticks D w (is ∙ i.counts D w.plans) (record { fates_fit = m; displays_fit = l; log_fit = k }) in
          (q ∙ rw (t, u, v) (ap (λ y. clocked_number y.answer) e), rw (t, u, v) (ap (λ y. y.after) e)))

-- ---- both

module _ {file plan plan₁ : List ℕ} {state : List ℤ} {fates : List ℕ} {displays : List ℤ} {log : List ℕ} {state₁ : List ℤ} {fates₁ : List ℕ} {displays₁ : List ℤ} where
  pub prepared_clock : (D : Design) (n r : ℕ) → reading file ≡ design D → Prepares file plan plan₁ n → size ≤ length plan → 4096 ≤ length log →
      Ticks file plan₁ state fates displays log state₁ fates₁ displays₁ r → Clocks file state fates displays state₁ fates₁ displays₁ r
  unfolding clock_reply with_design
  prepared_clock D n r g p l k t =
      let w = p.filled D g l in
      record { answer = t.answer D w k ∙ rw (g, with_design); after = t.after D w k ∙ rw (g, with_design) }

-- what `cantaribol_prepare` ensures leaves one answer and one plan
pub prepare_settled : (file plan p q : List ℕ) (a b : ℕ) → Prepares file plan p a → Prepares file plan q b → (a ≡ b) × (p ≡ q)
prepare_settled file plan p q a b u v = (u.answer ∙ sym v.answer, go (reading file) refl)
  where
    same : (D : Design) → reading file ≡ design D → (t : Bool) → leb size (length plan) ≡ t → p ≡ q
    same D g true t =
        let l = leb-true size (length plan) t in
        let front : take size p ≡ take size q = same_plan (u.filled D g l).plans (v.filled D g l).plans in
        let back : drop size p ≡ drop size q = u.rest ∙ sym v.rest in
        sym (take-append-drop size p) ∙ rw (front, back) (take-append-drop size q)
    same D g false t = let l = leb-false size (length plan) t in u.short (omega arith) ∙ sym (v.short (omega arith))

    go : (g : Reading) → reading file ≡ g → p ≡ q
    go (design D) g = same D g (leb size (length plan)) refl
    go (refusal why) g = u.unread why g ∙ sym (v.unread why g)
