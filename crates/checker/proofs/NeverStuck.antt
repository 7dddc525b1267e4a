-- A design that passes the check is never stuck: no rule of it, no clock and no run, at any state, also where the host changes the state
-- between clocks. The walk with kinds foresees every value's kind and so rules out 21 to 26 and 28 (`values_have_kinds`); the count of
-- calls foresees the call limit, 27 (`few_calls`, `within_limit`).
use Prim.Native.Nat.{ℕ, zero, suc, ◌+◌, ◌≤◌}
use mathlib.Core.Path.{◌≡◌, refl, ap, ◌∙◌}
use mathlib.Core.Logic.{◌≢◌, inl, inr}
use mathlib.Core.Bool.{Bool, true, false}
use mathlib.Core.List.{List, [], ◌∷◌, map}
use mathlib.Core.Option.{some}
use native.Mathlib.Omega.{arith}
use lib.IntN.{ℤ}
use lib.ListN.{length, get_elem?}
use Rattle.design.specs.Syntax.{Expr, Kind, Rule, Design}
use Rattle.meaning.specs.Values.{Value, kind_of, Event, Out, got, stuck}
use Rattle.meaning.specs.Lookup.{rule_of}
use Rattle.meaning.specs.Naming.{passed}
use Rattle.meaning.specs.Evaluate.{evaluate, rule}
use Rattle.meaning.specs.Clock.{Tick, clock}
use Rattle.meaning.specs.Run.{stop, one_more, run}
use Rattle.meaning.specs.Kinds.{kind, walk_rule}
use Rattle.meaning.specs.Calls.{calls, table_below, rule_calls}
use Rattle.meaning.specs.Check.{passes, walk_all, check}
use Rattle.checker.specs.Unstuck.{FiredOrQuiet, LimitOrQuiet, GoesOn, overwritten}
use Rattle.rule.proofs.Passed.{both}
use Rattle.checker.proofs.Passing.{wanted, same_self}
use Rattle.checker.proofs.Ending.{Ends, value, unavailable, crowded, Of, then, needing, truth_in}
use Rattle.checker.proofs.Walked.{went_through, rule_walked, rule_counted}
use Rattle.checker.proofs.Counting.{all_below}
use Rattle.checker.proofs.Evaluating.{evaluating}
use Rattle.checker.proofs.Turning.{clock_goes_on}

-- the calls that the check counts for an expression
abbrev pub possible : Design → Expr → ℕ
possible D e = calls (table_below D (length D.instances)) e

bounded : {A : Type 0} {P : A → Type 0} {n : ℕ} {o : Out A} {a : A} {l : List Event} → Ends P n o → o ≡ got a l → length l ≤ n
bounded {l = l} (value {l = m} p q) e = let z : m ≡ l = cc in omega (arith, ap length z)
bounded unavailable e = let z : ◌≡◌ {A = ℕ} 0 1 = cc in absurd (omega arith)
bounded (crowded c) e = let z : ◌≡◌ {A = ℕ} 0 1 = cc in absurd (omega arith)

not_stuck : {A : Type 0} {P : A → Type 0} {n : ℕ} {o : Out A} → Ends P n o → n ≤ 64 → (number : ℕ) → o ≢ stuck number
not_stuck (value p q) h number e = let z : ◌≡◌ {A = ℕ} 0 1 = cc in omega arith
not_stuck unavailable h number e = let z : ◌≡◌ {A = ℕ} 0 1 = cc in omega arith
not_stuck (crowded c) h number e = omega arith

-- ---- one expression, in a body of instance `me`, with locals of the kinds that the walk starts from, after the calls `l`

module _ (D : Design) (walked : walk_all D D.bodies ≡ passes) (state : List ℤ) (me : ℕ) (e : Expr) (pure : Bool) (live : List Value)
    (l : List Event) (k : Kind) (found : kind D me e pure (map kind_of live) ≡ passed k) where
  -- it ends as a value of the kind found, as unavailable, or as stuck with 27, and that only where more than 64 calls are possible
  pub values_have_kinds : Ends (Of k) (length l + possible D e) (evaluate D state me e pure live l)
  values_have_kinds = evaluating D walked state (all_below D me) e pure live l found

  pub few_calls : (v : Value) (l1 : List Event) → evaluate D state me e pure live l ≡ got v l1 → length l1 ≤ length l + possible D e
  few_calls v l1 h = bounded values_have_kinds h

  pub within_limit : length l + possible D e ≤ 64 → (number : ℕ) → evaluate D state me e pure live l ≢ stuck number
  within_limit h = not_stuck values_have_kinds h

-- ---- a design that passes

module _ (D : Design) (checked : check D ≡ passes) where
  rule_ends : (state : List ℤ) (n : ℕ) (r : Rule) → rule_of D n ≡ some r → Ends (Of Kind.void) 64 (rule D state r)
  unfolding rule walk_rule rule_calls
  rule_ends state n r h = went_through D checked (λ walked counted.
      let c = rule_counted D _ counted n h in
      both _ _ (rule_walked D walked n h) (λ g p e1. wanted _ _ _ e1 (λ f e2. both _ _ e2 (λ j q e3. wanted _ _ _ e3 (λ s _.
      then _ (evaluating D walked state (all_below D r.owner) r.guard true [] [] p) (omega arith) (λ v l pv h1. truth_in v _ (pv ∙ f) (elim [
        | true ↦ then _ (evaluating D walked state (all_below D r.owner) r.body false [] l q) (omega arith) (λ w l1 pw h2.
            needing _ 21 (rw (pw ∙ s) (same_self Kind.void)) (value {l = l1} (pw ∙ s) (omega arith)))
        | false ↦ unavailable
      ])))))))

  pub rule_never_stuck : (state : List ℤ) (n : ℕ) (r : Rule) → rule_of D n ≡ some r → (number : ℕ) → rule D state r ≢ stuck number
  rule_never_stuck state n r h = not_stuck (rule_ends state n r h) (omega arith)

  -- the clock's outcome is fired or quiet, and each of its fates is one of 0 to 4
  pub clock_never_stuck : (state : List ℤ) → GoesOn (length D.schedule) (clock D state)
  clock_never_stuck state = clock_goes_on D rule_never_stuck state

  pub run_never_stuck : (n : ℕ) (state : List ℤ) → LimitOrQuiet (run D n state).ending
  unfolding run stop one_more
  run_never_stuck zero state = inl refl
  run_never_stuck (suc n) state = go (clock_never_stuck state).outcome (run_never_stuck n (clock D state).state)
    where
      go : FiredOrQuiet (clock D state).outcome → LimitOrQuiet (run D n (clock D state).state).ending → LimitOrQuiet (run D (suc n) state).ending
      go (inl e) ih = rw (e, run) ih
      go (inr e) ih = rw (e, run) (inr refl)

  -- whatever the host puts into the state before each clock
  pub overwritten_never_stuck : (changes : List (List ℤ → List ℤ)) (state : List ℤ) (j : ℕ) (t : Tick) → get_elem? (overwritten D changes state) j ≡ some t → GoesOn (length D.schedule) t
  unfolding overwritten
  overwritten_never_stuck [] state j t e = let z : ◌≡◌ {A = ℕ} 0 1 = cc in absurd (omega arith)
  overwritten_never_stuck (f ∷ fs) state zero t e = let p : clock D (f state) ≡ t = cc in rw p at (clock_never_stuck (f state))
  overwritten_never_stuck (f ∷ fs) state (suc j) t e = overwritten_never_stuck fs (clock D (f state)).state j t e
