-- The turns of a clock, one after the other: the turn that the buffers stand at, and the entries that are left, decide the whole clock.
use Prim.Native.Nat.{ℕ, suc, ◌+◌, ◌-◌, ◌*◌, ◌≤◌, ◌<◌}
use mathlib.Core.Path.{◌≡◌, refl, sym, ap, ◌∙◌}
use mathlib.Core.Bool.{Bool, true, false, cond}
use mathlib.Core.List.{List, [], ◌∷◌}
use native.Mathlib.Omega.{arith}
use native.Mathlib.Numerals.{add-one}
use lib.IntN.{ℤ}
use lib.ListN.{length, take, drop, set, length-append, length-drop, drop_of_length-le}
use lib.Seq.{drop-cons}
use Rattle.std.specs.Prelude.{Result, Ok, Err}
use Rattle.design.specs.Syntax.{Design}
use Rattle.rule.specs.declared.Reason.{Reason}
use Rattle.rule.specs.Answers as R
use Rattle.meaning.specs.Conflict.{fate_number, any}
use Rattle.conflict.specs.Promises.{fate_of}
use Rattle.clock.specs.declared.Outcome.{Outcome}
use Rattle.clock.specs.declared.turns.Came.{Came}
use Rattle.clock.specs.declared.turns.Progress.{Progress}
use Rattle.clock.specs.declared.turns.Settled.{Settled}
use Rattle.clock.specs.Answers.{outcome_of}
use Rattle.meaning.specs.Clock as C
use Rattle.meaning.specs.Clock.{Turn, displayed, first_turn, Tick, ended, broken, turns, clock}
use Rattle.design.specs.Lookups.{Named}
use Rattle.rule.specs.Log.{events}
use Rattle.clock.specs.Post.{Ends, Meets, Goes, More, Takes, Stops, Noted, Notes, StateLeft, Ready, TurnsAll, Bounded, Going, Stepped, StepMore, Steps}
use Rattle.clock.specs.Promises as P
use Rattle.clock.proofs.Over.{over_none}
use Rattle.clock.proofs.Porting.{none_ported}
use Rattle.clock.proofs.Settling.{marked}

-- with no entry left, the state is the clock's: such an outcome is not stuck
unstuck : (start s : List ℤ) (o : Outcome) (g : Bool) (t : Tick) → outcome_of o ≡ cond g C.Outcome.fired C.Outcome.quiet → s ≡ t.state → StateLeft o start s t
unfolding outcome_of StateLeft
unstuck start s Outcome.Fired g t e h = h
unstuck start s Outcome.Quiet g t e h = h
unstuck start s (Outcome.Stuck n k) true t e h = absurd (let z : ◌≡◌ {A = ℕ} 0 1 = cc in omega arith)
unstuck start s (Outcome.Stuck n k) false t e h = absurd (let z : ◌≡◌ {A = ℕ} 0 1 = cc in omega arith)

-- what is left behind the entry j
rest : {file plan : List ℕ} {count j n : ℕ} (D : Design) → Ready file plan count D → j < count → Named plan j n → drop j D.schedule ≡ n ∷ drop (suc j) D.schedule
rest {j = j} D ready c i =
    let lt : j < length D.schedule = omega (arith, ready.all) in
    drop-cons D.schedule j 0 lt ∙ ap (λ k. k ∷ drop (suc j) D.schedule) (sym (i.names D ready.world.plans lt))

module _ {file plan : List ℕ} {count : ℕ} {start : List ℤ} {f₀ : List ℕ} where
  pub going_start : {l : List ℕ} → Going file plan count start f₀ (record { calls = 0; fired = false }) start l f₀ 0
  unfolding clock first_turn any
  going_start = record {
    going = λ D r k. record {
      turn = first_turn start;
      meets = record { state_is = refl; before_is = refl; fired = refl; ported = none_ported };
      fates_are = sym (over_none f₀);
      count = refl;
      left = refl;
    };
  }

  module _ {p : Progress} {s : List ℤ} {l f : List ℕ} {j n : ℕ} {r : Result Settled Reason} {s₁ : List ℤ} {l₁ : List ℕ} where
    -- the entry that is next
    goes : Going file plan count start f₀ p s l f j → j < count → length s ≡ length start → Named plan j n → Takes file plan p n s l s₁ l₁ r →
        {q : Result Settled Reason} → r ≡ q → (D : Design) → (h : Ready file plan count D) → (k : length start ≡ length D.instances) → (t : Turn) → Meets D p s l t → Goes D p n t s₁ l₁ q
    goes h c m i w e D ready k t meets =
        let lt : j < length D.schedule = omega (arith, ready.all) in
        let is = i.names D ready.world.plans lt in
        rw e at (w.takes D ready.world (m ∙ k) (rw is (ready.world.plans.schedule.named j lt)) t meets)

    settled : {x : Settled} {f₁ : List ℕ} → Going file plan count start f₀ p s l f j → j < count → length s ≡ length start → j < length f → Named plan j n →
        Takes file plan p n s l s₁ l₁ r → r ≡ Ok x → f₁ ≡ set f j (fate_number (fate_of x.fate)) → Going file plan count start f₀ x.after s₁ l₁ f₁ (j + 1)
    unfolding Goes
    settled {x} h c m y i w e q = record {
      going = λ D ready k.
          let a = h.going D ready k in
          let g = goes h c m i w e D ready k a.turn a.meets in
          record {
            turn = g.0;
            meets = g.1;
            fates_are = rw g.2 (marked a.turn.fates (fate_of x.fate) f₀ a.fates_are a.count y q);
            count = rw g.2 (omega (arith, a.count, length-append a.turn.fates (fate_of x.fate ∷ [])));
            left = a.left ∙ ap (λ ns. turns D start ns a.turn) (rest D ready c i) ∙ rw (add-one j) (g.3 start (drop (suc j) D.schedule));
          };
    }

    stopped : {k : Reason} {f₁ : List ℕ} → Going file plan count start f₀ p s l f j → j < count → length s ≡ length start → Named plan j n →
        Takes file plan p n s l s₁ l₁ r → r ≡ Err k → length f ≡ count → Stops f j f₁ →
        TurnsAll file plan count start f₀ s₁ f₁ l₁ (record { outcome = Outcome.Stuck n k; calls = p.calls })
    unfolding Goes outcome_of broken StateLeft
    stopped {k} h c m i w e y q = record {
      shown = λ D ready o.
          let a = h.going D ready o in
          let g = goes h c m i w e D ready o a.turn a.meets in
          let b : clock D start ≡ broken start a.turn n (R.number_of k) (drop (suc j) D.schedule) =
          a.left ∙ ap (λ ns. turns D start ns a.turn) (rest D ready c i) ∙ g.1 start (drop (suc j) D.schedule) in
          let z : length (drop (suc j) D.schedule) ≡ count - (j + 1) = length-drop (suc j) D.schedule ∙ omega (arith, ready.all) in
          rw b (record {
            outcome_is = refl;
            fates_are = rw z (rw y at (q.stops a.turn.fates f₀ a.fates_are a.count));
            displays_are = ap displayed g.0;
          });
      left = λ D ready o.
          let a = h.going D ready o in
          let g = goes h c m i w e D ready o a.turn a.meets in
          let b : clock D start ≡ broken start a.turn n (R.number_of k) (drop (suc j) D.schedule) =
          a.left ∙ ap (λ ns. turns D start ns a.turn) (rest D ready c i) ∙ g.1 start (drop (suc j) D.schedule) in
          rw b refl;
    }

  module _ {p : Progress} {s : List ℤ} {l f : List ℕ} {j : ℕ} {r : Result Progress Came} {s₁ : List ℤ} {l₁ f₁ : List ℕ} where
    pub going_on : {q : Progress} → Going file plan count start f₀ p s l f j → length s ≡ length start → length f ≡ count → Steps file plan (length f) p j s l f s₁ l₁ f₁ r → r ≡ Ok q →
        Going file plan count start f₀ q s₁ l₁ f₁ (j + 1)
    unfolding Stepped
    going_on h m y w e = rw e at ((rw y at w).steps start f₀ m h)

    pub going_stuck : {t : Came} → Going file plan count start f₀ p s l f j → length s ≡ length start → length f ≡ count → Steps file plan (length f) p j s l f s₁ l₁ f₁ r → r ≡ Err t →
        TurnsAll file plan count start f₀ s₁ f₁ l₁ t
    unfolding Stepped
    going_stuck h m y w e = rw e at ((rw y at w).steps start f₀ m h)

  module _ {p : Progress} {s : List ℤ} {l f : List ℕ} {j : ℕ} where
    pub going_ended : {r : Came} → Going file plan count start f₀ p s l f j → count ≤ j → Ends p r → TurnsAll file plan count start f₀ s f l r
    unfolding turns ended
    going_ended {r} h k e = record {
      shown = λ D ready n.
          let a = h.going D ready n in
          let b : clock D start ≡ ended a.turn = a.left ∙ rw (drop_of_length-le D.schedule {i = j} (omega (arith, ready.all))) in
          rw b (record {
            outcome_is = e.outcome_is ∙ rw a.meets.fired;
            fates_are = a.fates_are;
            displays_are = ap displayed (a.meets.before_is ∙ ap (λ c. events (take c l)) (sym e.calls_are));
          });
      left = λ D ready n.
          let a = h.going D ready n in
          let b : clock D start ≡ ended a.turn = a.left ∙ rw (drop_of_length-le D.schedule {i = j} (omega (arith, ready.all))) in
          rw b (unstuck start s r.outcome p.fired (ended a.turn) e.outcome_is (sym a.meets.state_is));
    }

-- ---- one entry

module _ {f : List ℕ} {j n calls : ℕ} {r : Result Settled Reason} {f₁ : List ℕ} where
  pub noted_settled : {x : Settled} {m : ℕ} → r ≡ Ok x → m ≡ fate_number (fate_of x.fate) → f₁ ≡ set f j m → Notes f j n calls r f₁ (Ok x.after)
  unfolding Noted
  noted_settled e v q = rw e (record { notes = (refl, q ∙ ap (set f j) v) })

  pub noted_stuck : {k : Reason} → r ≡ Err k → Stops f j f₁ → Notes f j n calls r f₁ (Err (record { outcome = Outcome.Stuck n k; calls = calls }))
  unfolding Noted
  noted_stuck e q = rw e (record { notes = (refl, q) })

module _ {file plan : List ℕ} {p : Progress} {s : List ℤ} {l f : List ℕ} {j n : ℕ} {r : Result Settled Reason} {s₁ : List ℤ} {l₁ f₁ : List ℕ} where
  pub next_noted : {q : Result Progress Came} → j < length f → Named plan j n → Takes file plan p n s l s₁ l₁ r → Notes f j n p.calls r f₁ q →
      Steps file plan (length f) p j s l f s₁ l₁ f₁ q
  unfolding Noted Stepped StepMore More P.Named
  next_noted {q} c i w v = go r refl v.notes
    where
      go : (t : Result Settled Reason) → r ≡ t → Noted f j n p.calls t f₁ q → Steps file plan (length f) p j s l f s₁ l₁ f₁ q
      go (Ok x) e g = rw g.0 (record { steps = λ start f₀ m h. settled h c m c i w e g.1; more = rw e at w.more })
      go (Err k) e g = rw g.0 (record { steps = λ start f₀ m h. stopped h c m i w e refl g.1; more = (omega arith, omega (arith, i.small)) })

pub calls_on : {file plan : List ℕ} {count : ℕ} {p : Progress} {s : List ℤ} {l f : List ℕ} {j : ℕ} {s₁ : List ℤ} {l₁ f₁ : List ℕ} {t : Result Progress Came} {q : Progress} →
    Steps file plan count p j s l f s₁ l₁ f₁ t → t ≡ Ok q → p.calls ≤ 64 * j → q.calls ≤ 64 * (j + 1)
unfolding StepMore
calls_on {p = p} {q = q} w e h = let m : q.calls ≤ p.calls + 64 = rw e at w.more in omega arith

-- ---- a clock's numbers are small

-- before the entry j, and behind the last one
within : {j count calls : ℕ} → count ≤ 64 → j ≤ count → calls ≤ 64 * j → calls ≤ 4096
within f l h = omega arith

module _ {file plan : List ℕ} {count : ℕ} {p : Progress} {s : List ℤ} {l f : List ℕ} {j : ℕ} {s₁ : List ℤ} {l₁ f₁ : List ℕ} {r : Result Progress Came} where
  pub stuck_small : {c : ℕ} {t : Came} → c ≤ 64 → j ≤ c → p.calls ≤ 64 * j → Steps file plan count p j s l f s₁ l₁ f₁ r → r ≡ Err t → Bounded t
  unfolding StepMore
  stuck_small g k h w e = let m = rw e at w.more in let n = within g k h in record { calls = omega (arith, m.0); named = m.1 }

not_stuck : (o : Outcome) (g : Bool) → outcome_of o ≡ cond g C.Outcome.fired C.Outcome.quiet → P.Named o
unfolding outcome_of P.Named
not_stuck Outcome.Fired g e = tt
not_stuck Outcome.Quiet g e = tt
not_stuck (Outcome.Stuck n k) true e = absurd (let z : ◌≡◌ {A = ℕ} 0 1 = cc in omega arith)
not_stuck (Outcome.Stuck n k) false e = absurd (let z : ◌≡◌ {A = ℕ} 0 1 = cc in omega arith)

pub ended_small : {count j : ℕ} {p : Progress} {r : Came} → count ≤ 64 → j ≤ count → p.calls ≤ 64 * j → Ends p r → Bounded r
ended_small {p = p} {r} f l h w = let n = within f l h in record { calls = omega (arith, w.calls_are); named = not_stuck r.outcome p.fired w.outcome_is }
