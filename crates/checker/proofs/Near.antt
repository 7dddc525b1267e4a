-- The place of a failure is small: it is that of a record, which stands in a file of at most 32,768 bytes, or the place of reading's refusal.
use Prim.Native.Nat.{ℕ, ◌≤◌, ◌<◌}
use mathlib.Core.Path.{◌≡◌, refl, sym, ◌∙◌}
use mathlib.Core.Bool.{Bool, true, false}
use mathlib.Core.List.{List}
use native.Mathlib.Omega.{arith}
use lib.Dec.{leb}
use lib.ListN.{length}
use Rattle.std.specs.Prelude.{Result, Ok, Err}
use Rattle.design.specs.declared.Refused.{Refused}
use Rattle.design.specs.declared.Planned.{Planned}
use Rattle.design.specs.Syntax.{Body, Design}
use Rattle.design.specs.Take.{Refusal}
use Rattle.design.specs.Records.{Reading, reading, rules}
use Rattle.design.specs.Reads as D
use Rattle.design.specs.Reads.{counted, ReadsAs}
use Rattle.meaning.specs.Naming.{Test, passed, failed}
use Rattle.checker.specs.declared.Failure.{Failure}
use Rattle.meaning.specs.Kinds.{walk_body}
use Rattle.meaning.specs.Calls.{Table, table_below, rule_calls}
use Rattle.meaning.specs.Check.{Verdict, passes, fails, body_place, walk_all, count_all, check, check_file}
use Rattle.checker.specs.Answers.{verdict, Bounded}
use Rattle.checker.proofs.Checking.{design_of, of_file}
use Rattle.checker.proofs.Placing.{Between, done, next, placed}

-- ---- of bodies that stand below `high`

ordered : {low high : ℕ} {bs : List Body} → Between low bs high → low ≤ high
ordered (done l) = l
ordered (next l r) = let h = ordered r in omega arith

-- a failure is this body's, or one of those behind it
one_walked : {X : Type 0} (t : Test (Unit {0})) (place : ℕ) (rest : Verdict) {why : Refusal} → ◌≡◌ {A = Verdict} (elim t [
  | passed ok ↦ rest
  | failed n ↦ fails (record { number = n; place = place })
]) (fails why) → (place ≡ why.place → X) → (rest ≡ fails why → X) → X
one_walked (passed ok) place rest e here behind = behind e
one_walked (failed n) place rest e here behind = here (cc)

walk_near : (D : Design) {low high : ℕ} {bs : List Body} {why : Refusal} → Between low bs high → walk_all D bs ≡ fails why → why.place < high
unfolding walk_all
walk_near D (done l) e = let z : ◌≡◌ {A = ℕ} 0 1 = cc in absurd (omega arith)
walk_near D (next {b = b} {bs = bs} l r) e = one_walked (walk_body D b) (body_place b) (walk_all D bs) e (λ p. let h = ordered r in omega arith) (λ f. walk_near D r f)

one_counted : {X : Type 0} (t : Bool) (place : ℕ) (rest : Verdict) {why : Refusal} → ◌≡◌ {A = Verdict} (elim t [
  | true ↦ rest
  | false ↦ fails (record { number = 27; place = place })
]) (fails why) → (place ≡ why.place → X) → (rest ≡ fails why → X) → X
one_counted true place rest e here behind = behind e
one_counted false place rest e here behind = here (cc)

count_near : (t : Table) {low high : ℕ} {bs : List Body} {why : Refusal} → Between low bs high → count_all t (rules bs) ≡ fails why → why.place < high
unfolding count_all rules body_place
count_near t (done l) e = let z : ◌≡◌ {A = ℕ} 0 1 = cc in absurd (omega arith)
count_near t (next {b = Body.method x} l r) e = count_near t r e
count_near t (next {b = Body.rule x} {bs = bs} l r) e =
    one_counted (leb (rule_calls t x) 64) x.place (count_all t (rules bs)) e (λ p. let h = ordered r in omega arith) (λ f. count_near t r f)

check_near : (file : List ℕ) {D : Design} {why : Refusal} → reading file ≡ Reading.design D → check D ≡ fails why → why.place < length file
unfolding check
check_near file {D} {why} r e = go (walk_all D D.bodies) refl e
  where
    go : (v : Verdict) → walk_all D D.bodies ≡ v → ◌≡◌ {A = Verdict} (elim v [
      | passes ↦ count_all (table_below D (length D.instances)) (rules D.bodies)
      | fails y ↦ fails y
    ]) (fails why) → why.place < length file
    go passes p q = count_near _ (placed file r) q
    go (fails y) p q = walk_near D (placed file r) (let z : ◌≡◌ {A = Verdict} (fails y) (fails why) = q in rw z at p)

-- ---- of a file

near : {file : List ℕ} {o : Planned} {why : Refusal} → ReadsAs file (Ok o) → check_file file ≡ fails why → why.place ≤ 32768
near {file} h e = design_of h (λ D p w. omega (arith, check_near file p (sym (of_file file D p) ∙ e), w.stands.small))

pub bounded : {file : List ℕ} {o : Planned} (r : Result (Unit {0}) Failure) → ReadsAs file (Ok o) → verdict r ≡ check_file file → Bounded r
unfolding Bounded verdict
bounded (Ok u) h e = tt
bounded (Err (Failure.Refused r)) h e = near h (sym e)
bounded (Err (Failure.Fails k place)) h e = near h (sym e)

pub refused_bounded : {file : List ℕ} {r : Refused} → ReadsAs file (Err r) → Bounded (Err (Failure.Refused r))
unfolding Bounded D.Bounded counted
refused_bounded h = h.bounded
