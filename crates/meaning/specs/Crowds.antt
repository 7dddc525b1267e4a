-- The calls that rules could make, and how the check counts them. Each is proved by computing it.
use Rattle.std.specs.Prelude.{ℕ, zero, suc, List, [], ◌∷◌, ◌++◌, ◌≡◌, refl, pos, replicate}
use Rattle.design.specs.Syntax.{Expr, Stmts, Kind, Role, Body, Design}
use Rattle.meaning.specs.Build.{num, holds, local, plus, equal, if, show, call0, read, write, block, times, UM, method, rule}
use Rattle.meaning.specs.Clock.{Outcome, clock}
use Rattle.meaning.specs.Calls.{table_below, calls_of}
use Rattle.meaning.specs.Check.{Verdict, check}
use Rattle.meaning.specs.CheckExamples.{computing, at, D, ruled}

-- n displays, n at least 1
abbrev shows : ℕ → Expr
shows zero = show (num 1)
shows (suc n) = Expr.block (times n (show (num 1)) (Stmts.last_do (show (num 1))))

-- 31 displays in a method: a call of it is 32
abbrev crowd : Expr → Verdict
crowd e = check (D (method 1 35 Role.action Kind.void [] (shows 31) ∷ rule 2 40 holds e ∷ []))

counted :
    -- 64 calls, and 65
    (crowd (block (call0 1 3) (call0 1 3 ∷ [])) ≡ Verdict.passes)
    × (crowd (block (call0 1 3) (call0 1 3 ∷ show (num 1) ∷ [])) ≡ at 27 40)
    -- operands, arguments and guards count
    × (crowd (block (call0 1 3) (shows 31 ∷ show (read 0) ∷ [])) ≡ at 27 40)
    × (crowd (block (call0 1 3) (shows 31 ∷ write 0 (read 0) ∷ [])) ≡ at 27 40)
    × (ruled (equal (read 0) (num 0)) (block (shows 32) (shows 32 ∷ [])) ≡ at 27 40)
    × (ruled (equal (read 0) (num 0)) (block (shows 32) (shows 31 ∷ [])) ≡ Verdict.passes)
    -- the larger arm, and the condition
    × (crowd (block (call0 1 3) (if holds (shows 32) (shows 31) ∷ [])) ≡ Verdict.passes)
    × (crowd (block (call0 1 3) (if holds (shows 3) (block (shows 32) (show (num 1) ∷ [])) ∷ [])) ≡ at 27 40)
    × (crowd (block (call0 1 3) (if (equal (read 0) (num 0)) (shows 32) (shows 32) ∷ [])) ≡ at 27 40)
    -- the first rule that has too many, and 27 waits for the end
    × (check (D (rule 2 40 holds (shows 1) ∷ rule 2 45 holds (block (shows 32) (shows 32 ∷ shows 1 ∷ [])) ∷ rule 3 50 holds (block (shows 32) (shows 32 ∷ shows 2 ∷ [])) ∷ [])) ≡ at 27 45)
    × (check (D (rule 2 40 holds (block (shows 32) (shows 32 ∷ shows 1 ∷ [])) ∷ rule 3 50 holds (local 0) ∷ [])) ≡ at 22 50)
unfolding computing
counted = (refl, refl, refl, refl, refl, refl, refl, refl, refl, refl, refl)

-- a V method of instance 0, and n layers above it, each a V method that calls the one below by f
abbrev layers : (Expr → Expr) → ℕ → List Body
layers f zero = method 0 0 Role.value Kind.num [] (num 1) ∷ []
layers f (suc n) = layers f n ++ (method (suc n) 0 Role.value Kind.num [] (f (call0 n 0)) ∷ [])

abbrev tower : (Expr → Expr) → Design
tower f = record {
  instances = replicate 64 UM;
  bodies = layers f 62 ++ (rule 63 99 holds (show (call0 62 0)) ∷ []);
  schedule = 0 ∷ [];
}

abbrev twice : Expr → Expr
twice e = plus e e

abbrev either : Expr → Expr
either e = if holds e e

towers :
    -- layers that call twice: the count is exact
    (calls_of (table_below (tower twice) 63) 62 0 ≡ 9223372036854775806)
    × (check (tower twice) ≡ at 27 99)
    -- layers that call in either arm: 63 calls and a display
    × (check (tower either) ≡ Verdict.passes)
unfolding computing
towers = (refl, refl, refl)

run_towers :
    -- the same when they run
    ((clock (tower twice) (replicate 64 (pos 0))).outcome ≡ Outcome.stuck 0 27)
    × ((clock (tower either) (replicate 64 (pos 0))).displays ≡ pos 1 ∷ [])
unfolding computing
run_towers = (refl, refl)
