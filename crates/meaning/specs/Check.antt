-- "The check": every body is walked, then each rule's calls are counted. "The first failure is the answer, with the offset of its record."
use Rattle.std.specs.Prelude.{ℕ, true, false, List, [], ◌∷◌, leb, length}
use Rattle.design.specs.Syntax.{Rule, Body, Design}
use Rattle.design.specs.Take.{Refusal}
use Rattle.design.specs.Records.{rules, Reading, reading}
use Rattle.meaning.specs.Naming.{passed, failed}
use Rattle.meaning.specs.Kinds.{walk_body}
use Rattle.meaning.specs.Calls.{Table, table_below, rule_calls}

pub data Verdict : Type 0 where
  passes : Verdict
  fails : Refusal → Verdict

unfoldable pub body_place : Body → ℕ
body_place (Body.method x) = x.place
body_place (Body.rule r) = r.place

-- "through every method and rule in file order"
unfoldable pub walk_all : Design → List Body → Verdict
walk_all D [] = passes
walk_all D (b ∷ bs) =
    elim (walk_body D b) [
      | passed ok ↦ walk_all D bs
      | failed n ↦ fails (record { number = n; place = body_place b })
    ]

-- "Then each rule, in file order: .. over 64 is 27 at that rule."
unfoldable pub count_all : Table → List Rule → Verdict
count_all t [] = passes
count_all t (r ∷ rs) =
    elim (leb (rule_calls t r) 64) [
      | true ↦ count_all t rs
      | false ↦ fails (record { number = 27; place = r.place })
    ]

unfoldable pub check : Design → Verdict
check D =
    elim (walk_all D D.bodies) [
      | passes ↦ count_all (table_below D (length D.instances)) (rules D.bodies)
      | fails why ↦ fails why
    ]

-- of a file: 1 to 9 are those of reading it
unfoldable pub check_file : (file : List ℕ) → Verdict
check_file file =
    elim (reading file) [
      | Reading.refusal why ↦ fails why
      | Reading.design D ↦ check D
    ]
