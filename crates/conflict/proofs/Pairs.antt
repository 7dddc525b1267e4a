-- Two recorded events, as the numbers that keep them: one law for each way in which a test of two returns. `clash_is` says of every kind of
-- clash what it asks of two numbers: that the first is no display, that both are of one instance, and then what is left to ask of the methods.
use Prim.Native.Nat.{ℕ, ◌/◌, ◌%◌, ◌<◌}
use mathlib.Core.Path.{◌≡◌, refl, ap, sym, ◌∙◌}
use mathlib.Core.Bool.{Bool, true, false, not, ◌&&◌, and-true, and-false, and_assoc}
use mathlib.Core.List.{List}
use native.Mathlib.Omega.{arith}
use lib.Dec.{ltb, eqb}
use lib.IntN.{ℤ}
use borrow.Author.Tests.{eq-eqb, ne_eqb, eqb-true, eqb-false}
use Rattle.design.specs.Syntax.{Design}
use Rattle.design.specs.Plan.{Plans}
use Rattle.design.specs.Lookups.{Ports}
use Rattle.meaning.specs.Values.{Event}
use Rattle.meaning.specs.Lookup.{Access, access, is_register}
use Rattle.meaning.specs.Naming.{callee_of}
use Rattle.meaning.specs.Conflict.{inside_ports, earlier_ports, on_ports, clash_inside, clash_earlier, clash_hardware, is_plain}
use Rattle.rule.specs.Log.{event_of}
use Rattle.conflict.specs.declared.Clash.{Clash}
use Rattle.conflict.specs.Post.{clash_of, Ruled, OnPorts, Twice, IsPort, Clashes}
use Rattle.conflict.proofs.Looking.{never, far_instance, register_by}

-- ---- the tests

pub ports_meet : {plan : List ℕ} {i r : ℕ} {t : Bool} → t ≡ true → Ports plan i r → OnPorts plan i t (ltb 0 r)
ports_meet e h = record { clashes = λ D p. rw (e, and-true) (sym (register_by p h)) }

-- ---- the definitions, on the numbers

-- what is asked of two methods of one instance
unfoldable asked : Clash → Design → ℕ → ℕ → ℕ → Bool
asked Clash.Inside D i m k = is_register D i && inside_ports (access m) (access k)
asked Clash.Earlier D i m k = is_register D i && earlier_ports (access m) (access k)
asked Clash.Hardware D i m k = eqb m k && not (is_plain (callee_of D i m))

module _ (D : Design) where
  two_calls : (clash : Clash) (i m j k : ℕ) (y z : ℤ) → clash_of clash D (Event.call i m y) (Event.call j k z) ≡ eqb i j && asked clash D i m k
  unfolding clash_of clash_inside clash_earlier clash_hardware on_ports asked
  two_calls Clash.Inside i m j k y z = and_assoc (eqb i j) _ _
  two_calls Clash.Earlier i m j k y z = and_assoc (eqb i j) _ _
  two_calls Clash.Hardware i m j k y z = and_assoc (eqb i j) _ _

  first_shown : (clash : Clash) (z : ℤ) (e : Event) → clash_of clash D (Event.display z) e ≡ false
  unfolding clash_of clash_inside clash_earlier clash_hardware on_ports
  first_shown Clash.Inside z (Event.call j k y) = refl
  first_shown Clash.Inside z (Event.display y) = refl
  first_shown Clash.Earlier z (Event.call j k y) = refl
  first_shown Clash.Earlier z (Event.display y) = refl
  first_shown Clash.Hardware z (Event.call j k y) = refl
  first_shown Clash.Hardware z (Event.display y) = refl

  then_shown : (clash : Clash) (i m : ℕ) (y z : ℤ) → clash_of clash D (Event.call i m y) (Event.display z) ≡ false
  unfolding clash_of clash_inside clash_earlier clash_hardware on_ports
  then_shown Clash.Inside i m y z = refl
  then_shown Clash.Earlier i m y z = refl
  then_shown Clash.Hardware i m y z = refl

  clash_is : (clash : Clash) (x y : ℕ) → clash_of clash D (event_of x) (event_of y) ≡
      not (eqb (x % 256) 255) && eqb (x % 256) (y % 256) && asked clash D (x % 256) (x / 256 % 256) (y / 256 % 256)
  unfolding event_of
  clash_is clash x y = go (eqb (x % 256) 255) refl (eqb (y % 256) 255) refl
    where
      go : (a : Bool) → eqb (x % 256) 255 ≡ a → (b : Bool) → eqb (y % 256) 255 ≡ b → clash_of clash D (event_of x) (event_of y) ≡
          not (eqb (x % 256) 255) && eqb (x % 256) (y % 256) && asked clash D (x % 256) (x / 256 % 256) (y / 256 % 256)
      go true p b q = rw p (first_shown clash _ (event_of y))
      go false p true q =
          rw (p, q, ne_eqb (x % 256) (y % 256) (λ e. eqb-false (x % 256) 255 p (e ∙ eqb-true (y % 256) 255 q))) (then_shown clash _ _ _ _)
      go false p false q = rw (p, q) (two_calls clash _ _ _ _ _ _)

  -- of one instance
  clash_same : (clash : Clash) (x y : ℕ) {i m k : ℕ} → i ≡ x % 256 → m ≡ x / 256 % 256 → i ≡ y % 256 → k ≡ y / 256 % 256 →
      clash_of clash D (event_of x) (event_of y) ≡ not (eqb i 255) && asked clash D i m k
  clash_same clash x y {i} p q e o = clash_is clash x y ∙ rw (← p, ← e, ← q, ← o, eq-eqb i i refl, and-true)

-- the method of an event of a register is a port
port_of : {D : Design} (x : ℕ) {i m : ℕ} → i ≡ x % 256 → m ≡ x / 256 % 256 → IsPort D x → is_register D i ≡ true → m < 8
port_of {D} x p q a g = let v = a.port (ap (is_register D) (sym p) ∙ g) in omega arith

-- what a rule says of two ports of a register; a display is of none
by_ports : (rule : Access → Access → Bool) {plan : List ℕ} {D : Design} {i m k : ℕ} (t r : Bool) → Plans plan D → Ruled rule m k t → OnPorts plan i t r →
    (is_register D i ≡ true → m < 8) → (is_register D i ≡ true → k < 8) → r ≡ not (eqb i 255) && (is_register D i && rule (access m) (access k))
by_ports rule {D = D} {i} {m} {k} t r w h u a b = go (is_register D i) refl
  where
    go : (g : Bool) → is_register D i ≡ g → r ≡ not (eqb i 255) && (is_register D i && rule (access m) (access k))
    go true g = u.clashes D w ∙ rw (g, ne_eqb i 255 (λ z. never g (far_instance w i (omega arith)))) (h.ruled (a g) (b g))
    go false g = u.clashes D w ∙ rw (g, and-false)

-- ---- an event with a later one

module _ {plan : List ℕ} {x y i j : ℕ} {clash : Clash} (p : i ≡ x % 256) (e : j ≡ y % 256) where
  pub apart : (j ≡ i → ⊥) → Clashes clash plan x y false
  apart ne = record {
    clashes = λ D w a b. sym (clash_is D clash x y ∙ rw (ne_eqb (x % 256) (y % 256) (λ z. ne (e ∙ sym z ∙ sym p)), and-false));
  }

  module _ {m : ℕ} {r : Bool} (s : j ≡ i) (q : m ≡ x / 256 % 256) where
    module _ {k : ℕ} {t : Bool} (o : k ≡ y / 256 % 256) where
      pub clash_inside_of : clash ≡ Clash.Inside → Ruled inside_ports m k t → OnPorts plan i t r → Clashes clash plan x y r
      unfolding asked
      clash_inside_of z h u = rw z (record {
        clashes = λ D w a b.
            by_ports inside_ports _ _ w h u (port_of x p q a) (port_of y (sym s ∙ e) o b) ∙ sym (clash_same D Clash.Inside x y p q (sym s ∙ e) o);
      })

      pub clash_earlier_of : clash ≡ Clash.Earlier → Ruled earlier_ports m k t → OnPorts plan i t r → Clashes clash plan x y r
      unfolding asked
      clash_earlier_of z h u = rw z (record {
        clashes = λ D w a b.
            by_ports earlier_ports _ _ w h u (port_of x p q a) (port_of y (sym s ∙ e) o b) ∙ sym (clash_same D Clash.Earlier x y p q (sym s ∙ e) o);
      })

    pub clash_hardware_of : clash ≡ Clash.Hardware → Twice plan i m y r → Clashes clash plan x y r
    unfolding asked
    clash_hardware_of z h = rw z (record {
      clashes = λ D w a b. h.clashes D w ∙ rw (sym e ∙ s) (sym (clash_same D Clash.Hardware x y p q (sym s ∙ e) refl));
    })
