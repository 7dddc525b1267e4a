-- The start values, from what the plan says to the words of the state: one law for each way in which a function returns.
use Prim.Native.Nat.{ℕ, zero, suc, ◌+◌, ◌≤◌, ◌<◌}
use mathlib.Core.Path.{◌≡◌, refl, sym, ap, ◌∙◌}
use mathlib.Core.Bool.{true, false, true≢false}
use mathlib.Core.List.{List, [], ◌∷◌}
use mathlib.Core.Option.{some}
use native.Mathlib.Omega.{arith}
use native.Mathlib.Numerals.{add-one}
use lib.IntN.{ℤ}
use lib.ListN.{length, drop, get_elem?, set, drop_of_length-le}
use Rattle.words.specs.Words.{number}
use Rattle.std.specs.Prelude.{Ok, Err}
use Rattle.design.specs.declared.Planned.{Planned}
use Rattle.design.specs.Syntax.{Instance, Design}
use Rattle.design.specs.Records.{is_user}
use Rattle.design.specs.Plan as P
use Rattle.design.specs.Plan.{ports_of, start_value, Plans}
use Rattle.design.specs.Lookups.{ports_at, Ports}
use Rattle.design.specs.Lookups as L
use Rattle.meaning.specs.Lookup.{instance_of, with_word, register_place}
use Rattle.clock.specs.declared.Refusal.{Refusal}
use Rattle.clock.specs.Answers.{number_of, place_of, refusal_of, started_of}
use Rattle.meaning.specs.Buffers.{refuse, reply, with_room, starts, started, start_on, start_reply}
use Rattle.clock.specs.Post.{Sets, SetsAll, Away, unread, unfit, Admits}
use Rattle.clock.specs.Promises.{StartBounded, Starts}
use Rattle.clock.proofs.Opening.{away, opened}
use Rattle.clock.proofs.Replying.{from_design, from_refusal, fits, misfits}

-- ---- one instance

-- only a user's has no ports
no_ports : (D : Design) (i : ℕ) (x : Instance) (s : List ℤ) → P.InstanceFits x → ports_of x ≡ 0 → s ≡ starts D i (x ∷ []) s
unfolding starts ports_of is_user
no_ports D i (Instance.register p z) s f e = absurd (omega arith)
no_ports D i (Instance.concurrent p n z) s f e = absurd (let u : false ≡ true = rw e at f.user in true≢false (sym u))
no_ports D i (Instance.user p) s f e = refl

-- a register is given its start value
given : (D : Design) (i : ℕ) (x : Instance) (s : List ℤ) → (ports_of x ≡ 0 → ⊥) → set s i (start_value x) ≡ starts D i (x ∷ []) s
unfolding starts ports_of start_value with_word register_place
given D i (Instance.register p z) s ne = refl
given D i (Instance.concurrent p n z) s ne = refl
given D i (Instance.user p) s ne = absurd (ne refl)

module _ {plan : List ℕ} {i c : ℕ} (h : Ports plan i c) where
  ports_are : (D : Design) → Plans plan D → (x : Instance) → instance_of D i ≡ some x → c ≡ ports_of x
  unfolding instance_of ports_at
  ports_are D p x e = h.ports D p ∙ ap ports_at e

  pub set_user : {s : List ℤ} → c ≡ 0 → Sets plan i s s
  unfolding instance_of
  set_user {s} z = record { sets = λ D p x e. no_ports D i x s (p.sound.ported i x e) (sym (ports_are D p x e) ∙ z) }

  pub set_register : {w : ℕ} {s s₁ : List ℤ} → (c ≡ 0 → ⊥) → L.Starts plan i w → s₁ ≡ set s i (number w) → Sets plan i s s₁
  unfolding instance_of
  set_register {s = s} ne v q = record {
    sets = λ D p x e.
        q ∙ ap (λ n. set s i (number n)) (v.starts D x p e) ∙ ap (set s i) (p.sound.ported i x e).starts ∙ given D i x s (λ z. ne (ports_are D p x e ∙ z));
  }

-- ---- all instances

starts_one : (D : Design) (i : ℕ) (x : Instance) (xs : List Instance) (s : List ℤ) → starts D i (x ∷ xs) s ≡ starts D (suc i) xs (starts D i (x ∷ []) s)
unfolding starts
starts_one D i (Instance.register p z) xs s = refl
starts_one D i (Instance.concurrent p n z) xs s = refl
starts_one D i (Instance.user p) xs s = refl

-- the instances that are left, from number i on
pub record Setting (plan : List ℕ) (s : List ℤ) (i : ℕ) (s₁ : List ℤ) : Type 0 where
  pub left : (D : Design) → Plans plan D → length s ≡ length D.instances → started D s ≡ starts D i (drop i D.instances) s₁

next_instance : {X : Type 0} (xs : List Instance) (i : ℕ) → i < length xs → ((x : Instance) → get_elem? xs i ≡ some x → drop i xs ≡ x ∷ drop (suc i) xs → X) → X
next_instance [] i l go = absurd (omega arith)
next_instance (x ∷ xs) zero l go = go x refl refl
next_instance (x ∷ xs) (suc i) l go = next_instance xs i (omega arith) go

module _ {plan : List ℕ} {s : List ℤ} where
  pub setting_start : Setting plan s 0 s
  unfolding started
  setting_start = record { left = λ D w l. refl }

  module _ {i : ℕ} {s₁ : List ℤ} where
    pub setting_on : {s₂ : List ℤ} → Setting plan s i s₁ → i < length s → length s₁ ≡ length s → Sets plan i s₁ s₂ → Setting plan s (i + 1) s₂
    unfolding instance_of
    setting_on h l m w = record {
      left = λ D world k. next_instance D.instances i (omega arith) (λ x e d.
          h.left D world k ∙ rw (d, add-one i, w.sets D world x e) (starts_one D i x (drop (suc i) D.instances) s₁));
    }

    pub setting_done : Setting plan s i s₁ → length s ≤ i → length s₁ ≡ length s → SetsAll plan s s₁
    unfolding starts
    setting_done h l m = record { sets = λ D world k. sym (h.left D world k ∙ rw (drop_of_length-le D.instances {i = i} (omega arith))) }

-- ---- from a file

module _ {file : List ℕ} {s : List ℤ} where
  pub start_away : {why : Refusal} → Admits file (length s) (Err why) → Starts file s s (Err why)
  unfolding start_reply start_on with_room refuse started_of number_of place_of StartBounded
  start_away {why} u = let w = away u in record { bounded = w.1; replies = go w.0 }
    where
      go : {why : Refusal} → Away file (length s) why → record { answer = started_of (Err why); after = s } ≡ start_reply file s
      go {why} (unread e) = sym (from_refusal file s _ (refusal_of why) e)
      go (unfit {D} e ne) = sym (from_design file s _ D e ∙ rw (misfits D s ne))

  pub start_done : {p : Planned} {s₁ : List ℤ} {v : Unit {0}} → Admits file (length s) (Ok p) → SetsAll p.plan s s₁ → Starts file s s₁ (Ok v)
  unfolding start_reply start_on with_room started_of reply StartBounded
  start_done u t = let h = opened u in record {
    bounded = tt;
    replies = rw (t.sets h.design_is h.world.plans h.fits) (sym (from_design file s _ h.design_is h.read ∙ rw (fits h.design_is s h.fits)));
  }
