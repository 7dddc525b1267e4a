-- A clock whose rules are not stuck, at any state: by induction on the schedule, each turn adds one of the fates 0 to 4 and goes on, so that
-- each entry has one.
use Prim.Native.Nat.{ℕ, zero, suc, ◌+◌, ◌≤◌}
use mathlib.Core.Path.{◌≡◌, refl}
use mathlib.Core.Logic.{◌≢◌, inl, inr}
use mathlib.Core.Bool.{Bool, true, false, cond, ◌||◌}
use mathlib.Core.List.{List, [], ◌∷◌, ◌++◌}
use mathlib.Core.Option.{Option, some, none}
use native.Mathlib.Omega.{arith}
use lib.IntN.{ℤ}
use lib.ListN.{length, length-append}
use Rattle.design.specs.Syntax.{Rule, Design}
use Rattle.meaning.specs.Values.{Value, Event, Out, got, unavailable, stuck}
use Rattle.meaning.specs.Lookup.{rule_of}
use Rattle.meaning.specs.Evaluate.{rule}
use Rattle.meaning.specs.Conflict.{Fate, fate_number, judge, any, any_two, any_pair, clash_inside, clash_earlier, clash_hardware}
use Rattle.meaning.specs.Clock.{Turn, first_turn, fire, hold, is_fired, settle, Outcome, ended, broken, turn_of, turns, clock}
use Rattle.checker.specs.Unstuck.{FiredOrQuiet, Reached, GoesOn}

one_more : (fs : List Fate) (f : Fate) → Reached fs → fate_number f ≤ 4 → Reached (fs ++ (f ∷ []))
one_more [] f h q zero g e = let p : f ≡ g = cc in rw p at q
one_more [] f h q (suc j) g e = let z : ◌≡◌ {A = ℕ} 0 1 = cc in absurd (omega arith)
one_more (x ∷ xs) f h q zero g e = h zero g e
one_more (x ∷ xs) f h q (suc j) g e = one_more xs f (λ i y p. h (suc i) y p) q j g e

judged : (D : Design) (before mine : List Event) → fate_number (judge D before mine) ≤ 4
unfolding judge fate_number
judged D before mine = go (any_two (clash_inside D) mine) (any_pair (clash_earlier D) before mine) (any_two (clash_hardware D) mine || any_pair (clash_hardware D) before mine)
  where
    go : (a b c : Bool) → fate_number (cond a Fate.inside (cond b Fate.earlier (cond c Fate.hardware Fate.fired))) ≤ 4
    go true b c = omega arith
    go false true c = omega arith
    go false false true = omega arith
    go false false false = omega arith

settled : (D : Design) (es : List Event) (t : Turn) (f : Fate) → Reached t.fates → fate_number f ≤ 4 → Reached (settle D es t f).fates
unfolding settle fire hold fate_number
settled D es t f h q = go (is_fired f)
  where
    go : (b : Bool) → Reached (cond b (fire D es t) (hold f t)).fates
    go true = one_more t.fates Fate.fired h (omega arith)
    go false = one_more t.fates f h q

one_longer : (D : Design) (es : List Event) (t : Turn) (f : Fate) → length (settle D es t f).fates ≡ length t.fates + 1
unfolding settle fire hold
one_longer D es t f = go (is_fired f)
  where
    go : (b : Bool) → length (cond b (fire D es t) (hold f t)).fates ≡ length t.fates + 1
    go true = length-append t.fates (Fate.fired ∷ [])
    go false = length-append t.fates (f ∷ [])

ends_well : {k : ℕ} (t : Turn) → Reached t.fates → length t.fates ≡ k → GoesOn k (ended t)
unfolding ended
ends_well t h e = record { outcome = go (any is_fired t.fates); every = e; fates = h }
  where
    go : (b : Bool) → FiredOrQuiet (cond b Outcome.fired Outcome.quiet)
    go true = inl refl
    go false = inr refl

module _ (D : Design) (free : (state : List ℤ) (n : ℕ) (r : Rule) → rule_of D n ≡ some r → (number : ℕ) → rule D state r ≢ stuck number) where
  turn_free : (state : List ℤ) (n number : ℕ) → turn_of D state n ≢ stuck number
  unfolding turn_of
  turn_free state n number = go (rule_of D n) refl
    where
      go : (o : Option Rule) → rule_of D n ≡ o → ◌≢◌ {A = Out Value} (elim o [
        | none ↦ unavailable
        | some r ↦ rule D state r
      ]) (stuck number)
      go none p e = let z : ◌≡◌ {A = ℕ} 0 1 = cc in omega arith
      go (some r) p e = free state n r p number e

  go_on : {k : ℕ} (start : List ℤ) (ns : List ℕ) (t : Turn) → Reached t.fates → length t.fates + length ns ≡ k → GoesOn k (turns D start ns t)
  unfolding turns hold fate_number
  go_on start [] t h e = ends_well t h (omega arith)
  go_on {k} start (n ∷ ns) t h e = go (turn_of D t.state n) (turn_free t.state n) (go_on start ns)
    where
      go : (o : Out Value) → ((number : ℕ) → o ≢ stuck number) → ((t : Turn) → Reached t.fates → length t.fates + length ns ≡ k → GoesOn k (turns D start ns t)) →
          GoesOn k (elim o [
            | got v es ↦ turns D start ns (settle D es t (judge D t.before es))
            | unavailable ↦ turns D start ns (hold Fate.unavailable t)
            | stuck number ↦ broken start t n number ns
          ])
      go (got v es) f ih = ih (settle D es t (judge D t.before es)) (settled D es t _ h (judged D t.before es)) (omega (arith, one_longer D es t (judge D t.before es)))
      go unavailable f ih =
          ih (hold Fate.unavailable t) (one_more t.fates Fate.unavailable h (omega arith)) (omega (arith, length-append t.fates (Fate.unavailable ∷ [])))
      go (stuck number) f ih = absurd (f number refl)

  pub clock_goes_on : (state : List ℤ) → GoesOn (length D.schedule) (clock D state)
  unfolding clock first_turn
  clock_goes_on state = go_on state D.schedule (first_turn state) (λ j f e. let z : ◌≡◌ {A = ℕ} 0 1 = cc in absurd (omega arith)) (omega arith)
