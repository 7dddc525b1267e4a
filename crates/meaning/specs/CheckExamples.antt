-- Designs that pass the check, and designs that fail it. Each is proved by computing it.
use Rattle.std.specs.Prelude.{ℕ, List, [], ◌∷◌, ◌≡◌, refl, pos}
use Rattle.design.specs.Syntax.{Expr, Stmts, Kind, Role, Body, Design}
use Rattle.meaning.specs.Build.{num, holds, fails, local, plus, equal, if, when, show, call0, call1, call2, read, write, block, lets, RG, UM, method, rule}
use Rattle.meaning.specs.Run.{Ending}
use Rattle.meaning.specs.Buffers.{Answer, run_reply}
use Rattle.meaning.specs.Transcript as Clocks
use Rattle.meaning.specs.Gcd.{gcd}
use Rattle.meaning.specs.Queues.{pipeline_1, bypass_2}
use Rattle.meaning.specs.Kinds as Kinds
use Rattle.meaning.specs.Calls as Calls
use Rattle.meaning.specs.Calls.{table_below, calls_of}
use Rattle.meaning.specs.Check as Check
use Rattle.meaning.specs.Check.{Verdict, check, check_file}

-- all that a check unfolds to
unfoldable pub computing : Unit {0}
unfolding Clocks.computing Clocks.reading Kinds.takes Kinds.gives Kinds.wants Kinds.kind Kinds.kinds Kinds.last_kind Kinds.walk_method Kinds.walk_rule Kinds.walk_body Calls.calls_of Calls.calls Calls.calls_among Calls.calls_in Calls.with_instance Calls.table_below Calls.rule_calls Check.body_place Check.walk_all Check.count_all Check.check Check.check_file
computing = tt

abbrev pub at : (number place : ℕ) → Verdict
at n p = Verdict.fails (record { number = n; place = p })

documented : (check gcd ≡ Verdict.passes) × (check pipeline_1 ≡ Verdict.passes) × (check bypass_2 ≡ Verdict.passes)
unfolding computing
documented = (refl, refl, refl)

-- Instance 0 is a register, and 1 has the methods 0 V get; 1 A set(Num); 2 V of a Bool and a Num. Then bodies of instances 1 and 2.
abbrev pub D : List Body → Design
D bs = record {
  instances = RG 5 ∷ UM ∷ UM ∷ UM ∷ [];
  bodies =
      method 1 10 Role.value Kind.num [] (read 0)
      ∷ method 1 20 Role.action Kind.void (Kind.num ∷ []) (write 0 (local 0))
      ∷ method 1 30 Role.value Kind.num (Kind.bool ∷ Kind.num ∷ []) (local 1)
      ∷ bs;
  schedule = [];
}

-- a rule of instance 2, at 40
abbrev pub ruled : (guard body : Expr) → Verdict
ruled g e = check (D (rule 2 40 g e ∷ []))

abbrev body : Expr → Verdict
body e = ruled holds (Expr.block (Stmts.then_do e (Stmts.last_let (num 0))))

-- what is never reached when it runs is walked too, and arms are compared when both are walked
walked :
    (ruled holds (write 0 (num 1)) ≡ Verdict.passes)
    × (ruled fails (show (local 0)) ≡ at 22 40)
    × (body (when fails (local 0)) ≡ at 22 40)
    × (body (if holds (num 1) (local 0)) ≡ at 22 40)
    × (body (if holds (local 0) (call0 2 0)) ≡ at 22 40)
    × (body (if holds (num 1) holds) ≡ at 21 40)
    × (body (if holds (num 1) (num 2)) ≡ Verdict.passes)
    × (body (if (num 1) (local 0) (num 2)) ≡ at 21 40)
    -- guards, conditions, bodies
    × (ruled (num 1) (write 0 (num 1)) ≡ at 21 40)
    × (ruled holds (num 1) ≡ at 21 40)
    × (body (equal holds holds) ≡ at 21 40)
    × (body (plus holds (local 0)) ≡ at 22 40)
    -- calls
    × (body (call0 2 0) ≡ at 23 40)
    × (body (call0 9 0) ≡ at 23 40)
    × (body (call0 0 2) ≡ at 24 40)
    × (body (call0 1 3) ≡ at 24 40)
    × (body (call1 1 0 (local 0)) ≡ at 25 40)
    × (body (when (block (call0 1 1) (holds ∷ [])) (num 1)) ≡ at 25 40)
    × (body (when (if holds (block (show (num 1)) (holds ∷ [])) holds) (num 1)) ≡ at 26 40)
    × (body (when (if holds holds (when holds (block (show (num 1)) (holds ∷ [])))) (num 1)) ≡ at 26 40)
    × (body (when (block (call1 1 1 (local 0)) (holds ∷ [])) (num 1)) ≡ at 26 40)
    × (ruled (block (show (num 1)) (holds ∷ [])) (write 0 (num 1)) ≡ at 26 40)
    × (body (call2 1 2 (num 1) (local 0)) ≡ at 22 40)
    × (body (call2 1 2 (num 1) (num 1)) ≡ at 21 40)
    -- 16 locals, and 17
    × (body (Expr.block (lets 15 (num 1) (Stmts.last_let (num 1)))) ≡ Verdict.passes)
    × (body (Expr.block (lets 16 (num 1) (Stmts.last_let (num 1)))) ≡ at 28 40)
unfolding computing
walked = (refl, refl, refl, refl, refl, refl, refl, refl, refl, refl, refl, refl, refl, refl, refl, refl, refl, refl, refl, refl, refl, refl, refl, refl, refl, refl)

-- a V method, at 40, that nobody calls
abbrev lone : Kind → Expr → Verdict
lone k e = check (D (method 2 40 Role.value k [] e ∷ []))

-- A method that says Num and gives Bool, and a rule that displays what it gives: the walk of the method fails, though its call takes Num.
abbrev liar : List ℕ
liar =
    0x55 ∷ 0x4D ∷ 0x4D ∷ 0x44 ∷ 0x00 ∷ 0x01 ∷ 0x00 ∷ 0x02 ∷ 0x00 ∷ 0x02 ∷ 0x01 ∷ 0x55 ∷ 0x4D ∷ 0x52 ∷ 0x4C ∷ 0x07 ∷ 0x00
    ∷ 0x02 ∷ 0x01 ∷ 0x0B ∷ 0x0A ∷ 0x00 ∷ 0x00 ∷ 0x00 ∷ 0x53 ∷ 0x43 ∷ 0x01 ∷ 0x00 ∷ []

methods :
    (lone Kind.num (call0 1 0) ≡ Verdict.passes)
    × (lone Kind.bool (call0 1 0) ≡ at 21 40)
    -- a V body is a pure place, and a method of its own instance is not below it
    × (lone Kind.num (block (write 0 (num 1)) (num 1 ∷ [])) ≡ at 26 40)
    × (lone Kind.num (call0 2 0) ≡ at 23 40)
    × (check_file liar ≡ at 21 2)
    × (run_reply liar 1 (pos 0 ∷ pos 0 ∷ []) ≡ record { answer = Answer.answered (record { ending = Ending.stuck 0 21; count = 0 }); after = pos 0 ∷ pos 0 ∷ [] })
    × (check_file [] ≡ at 9 0)
unfolding computing
methods = (refl, refl, refl, refl, refl, refl, refl)
