-- One clock: the turns, a state that is restored where the clock was stuck, and the displays, which are read off the log.
use Prim.Native.Nat.{ℕ, ◌≤◌, ◌<◌}
use mathlib.Core.Logic.{◌⊎◌, inl, inr}
use mathlib.Core.Path.{◌≡◌, sym, ap, ◌∙◌}
use mathlib.Core.Bool.{Bool, false}
use mathlib.Core.List.{List, map, ◌++◌, append-nil}
use native.Mathlib.Omega.{arith}
use lib.IntN.{ℤ}
use lib.ListN.{length, take, drop, length-take, drop_of_length-le}
use lib.Seq.{length-take-le, take-append_seam}
use Rattle.rule.specs.declared.Reason.{Reason}
use Rattle.meaning.specs.Conflict.{fate_number}
use Rattle.clock.specs.declared.Outcome.{Outcome}
use Rattle.clock.specs.declared.turns.Came.{Came}
use Rattle.clock.specs.Answers.{ticked_of}
use Rattle.meaning.specs.Clock as O
use Rattle.meaning.specs.Clock.{Tick, clock}
use Rattle.meaning.specs.Buffers.{over, answered, Reply, reply, Buffers, Clocked, filled}
use Rattle.design.specs.Syntax.{Design}
use Rattle.design.specs.Plan.{World}
use Rattle.design.specs.Lookups.{Scheduled}
use Rattle.clock.specs.Post.{Displays, StateLeft, Ready, TurnsAll, Bounded, TurnedAll, Fit, Measures}
use Rattle.clock.specs.Promises.{Named, Ticks}
use Rattle.clock.proofs.Over.{within, over_part}

-- ---- the clock

restored : (s z s₁ : List ℤ) → length s₁ ≡ length s → take (length s₁) (s ++ z) ++ drop (length s₁) s₁ ≡ s
restored s z s₁ l = rw (l, take-append_seam s z, drop_of_length-le s₁ {i = length s} (omega arith)) (append-nil s)

module _ {file plan : List ℕ} {count : ℕ} {s : List ℤ} {f : List ℕ} {s₁ : List ℤ} {f₁ l₁ : List ℕ} {r : Came} where
  turned_by : {s₂ : List ℤ} → TurnsAll file plan count s f s₁ f₁ l₁ r → Bounded r → ((t : Tick) → StateLeft r.outcome s s₁ t → s₂ ≡ t.state) →
      TurnedAll file plan count s f s₂ f₁ l₁ r
  turned_by h w g = record { shown = h.shown; state_is = λ D ready k. g (clock D s) (h.left D ready k); bounded = w }

  pub turned_kept : TurnsAll file plan count s f s₁ f₁ l₁ r → Bounded r → (r.outcome ≡ Outcome.Fired) ⊎ (r.outcome ≡ Outcome.Quiet) → TurnedAll file plan count s f s₁ f₁ l₁ r
  unfolding StateLeft
  turned_kept h w (inl e) = turned_by h w (λ t g. rw e at g)
  turned_kept h w (inr e) = turned_by h w (λ t g. rw e at g)

  pub turned_stuck : {n : ℕ} {k : Reason} {part back s₂ : List ℤ} (z : List ℤ) → TurnsAll file plan count s f s₁ f₁ l₁ r → Bounded r → r.outcome ≡ Outcome.Stuck n k → part ≡ s →
      length s₁ ≡ length s → back ≡ take (length s₁) (part ++ z) → s₂ ≡ back ++ drop (length s₁) s₁ → TurnedAll file plan count s f s₂ f₁ l₁ r
  unfolding StateLeft
  turned_stuck {part = part} z h w e q l p o = turned_by h w (λ t g. o ∙ ap (λ (x : List ℤ). x ++ drop (length s₁) s₁) (p ∙ ap (λ (x : List ℤ). take (length s₁) (x ++ z)) q) ∙ restored s z s₁ l ∙ rw e at g)

-- the turns of the entries' own part of the fates
pub turned_whole : {file plan : List ℕ} {count a b : ℕ} {s s₁ : List ℤ} {f g l₁ : List ℕ} {r : Came} → TurnedAll file plan (length (take count f)) s (take count f) s₁ g l₁ r →
    Fit count a (length f) b → length g ≡ length (take count f) → TurnedAll file plan count s f s₁ (g ++ drop count f) l₁ r
turned_whole {count = count} {s = s} {f = f} {g} h fit e =
    let l : count ≤ length f = omega (arith, fit.few, fit.marks) in
    let k = length-take-le count f l in
    let w = rw k at h in
    record {
      shown = λ D ready n.
          let a = w.shown D ready n in
          let new = map fate_number (clock D s).fates in
          let b : length new ≤ count = omega (arith, within new (take count f) (sym (ap length a.fates_are) ∙ e)) in
          record {
            outcome_is = a.outcome_is;
            fates_are = ap (λ (x : List ℕ). x ++ drop count f) a.fates_are ∙ over_part new f count b l;
            displays_are = a.displays_are;
          };
      state_is = w.state_is;
      bounded = w.bounded;
    }

-- a design that is at hand, with all its entries
pub ready : {file plan : List ℕ} {n : ℕ} {D : Design} → Scheduled plan n → World file plan D → Ready file plan n D
ready {D = D} h w = record { world = w; all = h.counts D w.plans }

module _ {file plan : List ℕ} {count : ℕ} {s : List ℤ} {f : List ℕ} {d : List ℤ} {l : List ℕ} (c : Scheduled plan count) where
  pub no_room : {r : Bool} → Measures count (length s) (length f) (length l) r → r ≡ false → Ticks file plan s f d l s f d (record { outcome = Outcome.Quiet; displays = 0 })
  unfolding Named
  no_room h e = record {
    bounded = record { displays = omega arith; named = tt };
    ticks = λ D w states room. absurd (h.short e (record {
      few = omega (arith, c.counts D w.plans, w.plans.schedule.few);
      small = omega (arith, states, w.plans.sound.few_instances);
      marks = room.fates_fit;
      events = room.log_fit;
    }));
  }

  pub no_displays : length d < 4096 → Ticks file plan s f d l s f d (record { outcome = Outcome.Quiet; displays = 0 })
  unfolding Named
  no_displays h = record { bounded = record { displays = omega arith; named = tt }; ticks = λ D w states room. absurd (omega (arith, room.displays_fit)) }

  pub ticked : {s₁ : List ℤ} {f₁ l₁ : List ℕ} {d₁ : List ℤ} {r : Came} {n : ℕ} → TurnedAll file plan count s f s₁ f₁ l₁ r → Displays (take r.calls l₁) d d₁ n →
      Ticks file plan s f d l s₁ f₁ d₁ (record { outcome = r.outcome; displays = n })
  unfolding reply filled ticked_of
  ticked {s₁} {f₁} {l₁} {d₁} {r} {n} h v = record {
    bounded = record { displays = omega (arith, v.most, h.bounded.calls, length-take r.calls l₁); named = h.bounded.named };
    ticks = λ D w states room.
        let rd = ready c w in
        let a = h.shown D rd states in
        same a.outcome_is (v.counts ∙ ap length (sym a.displays_are)) (h.state_is D rd states) a.fates_are (v.displays_are ∙ ap (λ (x : List ℤ). over x d) (sym a.displays_are));
  }
    where
      same : {o p : O.Outcome} {i j : ℕ} {u v : List ℤ} {x y : List ℕ} {z w : List ℤ} → o ≡ p → i ≡ j → u ≡ v → x ≡ y → z ≡ w →
          ◌≡◌ {A = Reply Clocked Buffers} (record { answer = answered (record { outcome = o; displays = i }); after = record { state = u; fates = x; displays = z } })
          (record { answer = answered (record { outcome = p; displays = j }); after = record { state = v; fates = y; displays = w } })
      same p q r s t = cc
