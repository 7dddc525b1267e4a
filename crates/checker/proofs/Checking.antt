-- The whole check: one law for each way in which `check` returns. A file that was read as a design has a plan, which the walk and the count go
-- by.
use Prim.Native.Nat.{ℕ}
use mathlib.Core.Path.{◌≡◌, refl, sym, ◌∙◌}
use mathlib.Core.List.{List}
use native.Mathlib.Omega.{arith}
use lib.ListN.{length}
use Rattle.std.specs.Prelude.{Option as Maybe, Some, None, Ok, Err}
use Rattle.design.specs.declared.Refused.{Refused}
use Rattle.design.specs.declared.Planned.{Planned}
use Rattle.design.specs.Syntax.{Design}
use Rattle.design.specs.Take.{Refusal}
use Rattle.design.specs.Records.{Reading, reading, rules}
use Rattle.design.specs.Answers.{fault_number, answered, summary}
use Rattle.design.specs.Plan.{World}
use Rattle.design.specs.Reads.{counted, PlanOf, ReadsAs}
use Rattle.rule.specs.declared.Reason.{Reason}
use Rattle.rule.specs.Answers.{number_of}
use Rattle.checker.specs.declared.Failure.{Failure}
use Rattle.meaning.specs.Calls.{table_below}
use Rattle.meaning.specs.Check.{Verdict, walk_all, count_all, check, check_file}
use Rattle.checker.specs.Counted as C
use Rattle.checker.specs.Counted.{Crowded}
use Rattle.checker.specs.Bodies.{WalksAll}
use Rattle.checker.specs.Answers.{verdict}

-- ---- reading

pub of_file : (file : List ℕ) (D : Design) → reading file ≡ Reading.design D → check_file file ≡ check D
unfolding check_file
of_file file D e = rw (e, check_file)

-- the walk fails, or the count decides
walk_decides : (D : Design) {why : Refusal} → walk_all D D.bodies ≡ Verdict.fails why → check D ≡ Verdict.fails why
unfolding check
walk_decides D e = rw (e, check)

count_decides : (D : Design) → walk_all D D.bodies ≡ Verdict.passes → check D ≡ count_all (table_below D (length D.instances)) (rules D.bodies)
unfolding check
count_decides D e = rw (e, check)

module _ {file : List ℕ} where
  -- a file that is refused
  pub unread : {r : Refused} → ReadsAs file (Err r) → verdict (Err (Failure.Refused r)) ≡ check_file file
  unfolding answered summary counted verdict check_file
  unread {r} h = go (reading file) refl h.answer
    where
      go : (x : Reading) → reading file ≡ x → answered (counted (Err r)) ≡ summary x → verdict (Err (Failure.Refused r)) ≡ check_file file
      go (Reading.design D) p q = let z : ◌≡◌ {A = ℕ} 0 1 = cc in absurd (omega arith)
      go (Reading.refusal why) p q =
          let i : fault_number r.fault ≡ why.number = cc in
          let j : r.place ≡ why.place = cc in
          rw (p, check_file, i, j)

  module _ {o : Planned} (h : ReadsAs file (Ok o)) where
    -- the design of a file that was read
    pub design_of : {X : Type 0} → ((D : Design) → reading file ≡ Reading.design D → World file o.plan D → X) → X
    unfolding answered summary counted PlanOf
    design_of {X} next = go (reading file) refl h.answer h.plan
      where
        go : (x : Reading) → reading file ≡ x → answered (counted (Ok o)) ≡ summary x → PlanOf x file (Ok o) → X
        go (Reading.design D) p q w = next D p w
        go (Reading.refusal why) p q w = let z : ◌≡◌ {A = ℕ} 0 1 = cc in absurd (omega arith)

    pub walk_fails : {why : Failure} → WalksAll file o.plan (Err why) → verdict (Err why) ≡ check_file file
    unfolding verdict
    walk_fails {why = Failure.Refused r} w = design_of (λ D p u. sym (of_file file D p ∙ walk_decides D (w.all D p u)))
    walk_fails {why = Failure.Fails r place} w = design_of (λ D p u. sym (of_file file D p ∙ walk_decides D (w.all D p u)))

    module _ {u : Unit {0}} (w : WalksAll file o.plan (Ok u)) where
      counts : {x : Maybe ℕ} → Crowded file o.plan x → check_file file ≡ C.verdict x
      unfolding verdict
      counts q = design_of (λ D p k. of_file file D p ∙ count_decides D (w.all D p k) ∙ sym (q.crowded D k))

      pub passes : {v : Unit {0}} → Crowded file o.plan None → verdict (Ok v) ≡ check_file file
      unfolding verdict C.verdict
      passes q = sym (counts q)

      pub crowds : {place : ℕ} → Crowded file o.plan (Some place) → verdict (Err (Failure.Fails Reason.Calls place)) ≡ check_file file
      unfolding verdict C.verdict number_of
      crowds q = sym (counts q)
