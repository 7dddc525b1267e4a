-- Expressions and rules worked by the definitions. Each is proved by computing it.
use Rattle.std.specs.Prelude.{true, false, List, [], ◌∷◌, ◌≡◌, refl, ℤ, pos, negsuc, replicate}
use Rattle.words.specs.Words as Words
use Rattle.design.specs.Syntax.{Expr, Stmts, Kind, Role, Design}
use Rattle.design.specs.Records as Records
use Rattle.design.specs.Take as Take
use Rattle.design.specs.Parts as Parts
use Rattle.meaning.specs.Values as Values
use Rattle.meaning.specs.Values.{Value, Event, Out, got, unavailable, stuck}
use Rattle.meaning.specs.Lookup as Lookup
use Rattle.meaning.specs.Naming as Naming
use Rattle.meaning.specs.Evaluate as Evaluate
use Rattle.meaning.specs.Build.{num, holds, fails, local, plus, minus, equal, less, and, or, not, if, when, show, call0, call1, call2, read, write, block, lets, times, RG, CR, UM, method}

-- all that an evaluation unfolds to
unfoldable pub computing : Unit {0}
unfolding Words.word Words.number Words.wrap Words.plus Words.minus Words.less Words.equal Records.methods Records.rules Records.is_user Values.kind_of Values.same_kind Values.same_kinds Values.and_then Values.needs Values.as_num Values.as_bool Lookup.instance_of Lookup.ports Lookup.is_register Lookup.access Lookup.is_write Parts.of_owner Take.pick Lookup.methods_of Lookup.method_of Lookup.rule_of Lookup.register_place Lookup.word_of Lookup.with_word Naming.if_passed Naming.test Naming.found Naming.local_of Naming.bound Naming.role_of Naming.params_of Naming.result_of Naming.is_value Naming.method_in Naming.callee_of Naming.how_many Naming.named Evaluate.tested Evaluate.recorded Evaluate.operate Evaluate.number_of Evaluate.given Evaluate.done Evaluate.eval Evaluate.evals Evaluate.walk Evaluate.enter_below Evaluate.evaluate Evaluate.rule
computing = tt

-- Instances 0 and 1 are registers, of one port and of two. Instance 2 has the methods
-- 0 V sum(Num, Num); 1 A set(Num); 2 AV take, which reads 0 and sets it to 0; 3 V, which says Num and gives Bool;
-- 4 V of a Bool and a Num; 5 A, which calls sum of its own instance; 6 V, which writes.
abbrev D : Design
D = record {
  instances = RG 5 ∷ CR 2 7 ∷ UM ∷ UM ∷ UM ∷ [];
  bodies =
      method 2 0 Role.value Kind.num (Kind.num ∷ Kind.num ∷ []) (plus (local 0) (local 1))
      ∷ method 2 0 Role.action Kind.void (Kind.num ∷ []) (write 0 (local 0))
      ∷ method 2 0 Role.action_value Kind.num [] (block (write 0 (num 0)) (read 0 ∷ []))
      ∷ method 2 0 Role.value Kind.num [] holds
      ∷ method 2 0 Role.value Kind.num (Kind.bool ∷ Kind.num ∷ []) (local 1)
      ∷ method 2 0 Role.action Kind.void [] (block (call2 2 0 (num 1) (num 2)) [])
      ∷ method 2 0 Role.value Kind.num [] (block (write 0 (num 1)) (num 1 ∷ []))
      ∷ [];
  schedule = [];
}

abbrev state : List ℤ
state = pos 5 ∷ pos 7 ∷ pos 0 ∷ pos 0 ∷ pos 0 ∷ []

-- an expression in a body of instance 3, no local being live
abbrev out : Expr → Out Value
out e = Evaluate.evaluate D state 3 e false [] []

-- what is not available, and what is no local
abbrev never : Expr
never = when fails (num 1)

abbrev least : Expr
least = Expr.number (negsuc 2147483647)

operators :
    -- P1 to P4
    (out (plus (num 2147483647) (num 1)) ≡ got (Value.num (negsuc 2147483647)) [])
    × (out (minus least (num 1)) ≡ got (Value.num (pos 2147483647)) [])
    × (out (less (num 3) (num 5)) ≡ got (Value.bool true) [])
    × (out (less (num 5) (num 5)) ≡ got (Value.bool false) [])
    × (out (less least (num 1)) ≡ got (Value.bool true) [])
    × (out (and (not fails) (or fails holds)) ≡ got (Value.bool true) [])
    × (out (equal (num 5) (read 0)) ≡ got (Value.bool true) (Event.call 0 0 (pos 0) ∷ []))
    -- equal takes Nums only
    × (out (equal holds holds) ≡ stuck 21)
    -- all operands come before their kinds, of and and or too
    × (out (plus holds (local 0)) ≡ stuck 22)
    × (out (and fails never) ≡ unavailable)
    × (out (or (num 1) never) ≡ unavailable)
    × (out (plus never (local 0)) ≡ unavailable)
unfolding computing
operators = (refl, refl, refl, refl, refl, refl, refl, refl, refl, refl, refl, refl)

choices :
    -- only the arm taken
    (out (if (less (num 1) (num 2)) (num 8) (local 0)) ≡ got (Value.num (pos 8)) [])
    × (out (if fails (local 0) (num 9)) ≡ got (Value.num (pos 9)) [])
    -- the condition is tested for Bool before the arms
    × (out (if (num 1) (local 0) (local 0)) ≡ stuck 21)
    × (out (when (num 1) (local 0)) ≡ stuck 21)
    × (out (when fails (local 0)) ≡ unavailable)
    × (out (when holds (num 3)) ≡ got (Value.num (pos 3)) [])
unfolding computing
choices = (refl, refl, refl, refl, refl, refl)

blocks :
    -- let 4; let 6; do local 1 - local 0
    (out (Expr.block (Stmts.then_let (num 4) (Stmts.then_let (num 6) (Stmts.last_do (minus (local 1) (local 0)))))) ≡ got (Value.num (pos 2)) [])
    -- a let is not live in its own expression; a block's lets are freed; a let at the end gives Void
    × (out (Expr.block (Stmts.last_let (local 0))) ≡ stuck 22)
    × (out (plus (Expr.block (Stmts.then_let (num 4) (Stmts.last_do (local 0)))) (local 0)) ≡ stuck 22)
    × (out (Expr.block (Stmts.last_let (num 4))) ≡ got Value.void [])
    -- a let may bind Void
    × (out (Expr.block (Stmts.then_let (show (num 4)) (Stmts.last_do (local 0)))) ≡ got Value.void (Event.display (pos 4) ∷ []))
    -- 16 live locals; the 17th is refused after its expression
    × (out (Expr.block (lets 16 (num 1) (Stmts.last_do (local 15)))) ≡ got (Value.num (pos 1)) [])
    × (out (Expr.block (lets 16 (num 1) (Stmts.last_let (num 2)))) ≡ stuck 28)
    × (out (Expr.block (lets 17 (num 1) (Stmts.last_do (local 0)))) ≡ stuck 28)
    × (out (Expr.block (lets 16 (num 1) (Stmts.last_let (local 16)))) ≡ stuck 22)
    × (out (Expr.block (lets 16 (num 1) (Stmts.last_let never))) ≡ unavailable)
unfolding computing
blocks = (refl, refl, refl, refl, refl, refl, refl, refl, refl, refl)

calls :
    -- a write is recorded with its number, and a read does not see it
    (out (block (write 0 (num 8)) (read 0 ∷ [])) ≡ got (Value.num (pos 5)) (Event.call 0 1 (pos 8) ∷ Event.call 0 0 (pos 0) ∷ []))
    -- read by port 1
    × (out (call0 1 2) ≡ got (Value.num (pos 7)) (Event.call 1 2 (pos 0) ∷ []))
    -- arguments first, then the call, then its body
    × (out (call2 2 0 (read 0) (num 1)) ≡ got (Value.num (pos 6)) (Event.call 0 0 (pos 0) ∷ Event.call 2 0 (pos 0) ∷ []))
    -- a callee has its parameters only
    × (out (Expr.block (Stmts.then_let (num 100) (Stmts.last_do (call2 2 0 (num 1) (local 0))))) ≡ got (Value.num (pos 101)) (Event.call 2 0 (pos 0) ∷ []))
    × (out (call1 2 1 (num 9)) ≡ got Value.void (Event.call 2 1 (pos 0) ∷ Event.call 0 1 (pos 9) ∷ []))
    -- 23: its own instance, one above, one that is missing, and of a callee its own one
    × (out (call0 3 0) ≡ stuck 23)
    × (out (call0 4 0) ≡ stuck 23)
    × (out (call0 255 0) ≡ stuck 23)
    × (out (call0 2 5) ≡ stuck 23)
    -- 24: a port, a method
    × (out (call0 0 2) ≡ stuck 24)
    × (out (call0 1 4) ≡ stuck 24)
    × (out (call0 2 7) ≡ stuck 24)
    -- 25 before purity and the arguments
    × (out (call1 0 0 (local 0)) ≡ stuck 25)
    × (out (when (block (call0 0 1) (holds ∷ [])) (num 1)) ≡ stuck 25)
    -- 26: a write, a display, A and AV in a guard, a condition, a V body and all within, and before the arguments
    × (out (when (block (write 0 (num 1)) (holds ∷ [])) (num 1)) ≡ stuck 26)
    × (out (if (block (show (local 0)) (holds ∷ [])) (num 1) (num 2)) ≡ stuck 26)
    × (out (when (block (call1 2 1 (local 0)) (holds ∷ [])) (num 1)) ≡ stuck 26)
    × (out (when (equal (call0 2 2) (num 0)) (num 1)) ≡ stuck 26)
    × (out (when (equal (num 0) (if holds (when holds (call0 2 2)) (num 0))) (num 1)) ≡ stuck 26)
    × (out (when (equal (num 0) (if fails (num 0) (call0 2 2))) (num 1)) ≡ stuck 26)
    × (out (call0 2 6) ≡ stuck 26)
    -- an argument of a V method is no pure place
    × (out (call2 2 0 (num 1) (call0 2 2)) ≡ got (Value.num (pos 6)) (Event.call 2 2 (pos 0) ∷ Event.call 0 1 (pos 0) ∷ Event.call 0 0 (pos 0) ∷ Event.call 2 0 (pos 0) ∷ []))
    -- 21: kinds after all arguments, and the declared result
    × (out (call2 2 4 (num 1) never) ≡ unavailable)
    × (out (call2 2 4 (num 1) (local 0)) ≡ stuck 22)
    × (out (call2 2 4 (num 1) (num 1)) ≡ stuck 21)
    × (out (write 0 holds) ≡ stuck 21)
    × (out (show holds) ≡ stuck 21)
    × (out (call0 2 3) ≡ stuck 21)
unfolding computing
calls = (refl, refl, refl, refl, refl, refl, refl, refl, refl, refl, refl, refl, refl, refl, refl, refl, refl, refl, refl, refl, refl, refl, refl, refl, refl, refl, refl, refl)

-- a rule of instance 3
abbrev ruled : (guard body : Expr) → Out Value
ruled g e = Evaluate.rule D state (record { owner = 3; place = 0; start = 0; size = 0; guard = g; body = e })

-- 32 displays of 1
abbrev many : Expr
many = Expr.block (times 31 (show (num 1)) (Stmts.last_do (show (num 1))))

rules :
    (ruled holds (write 0 (num 1)) ≡ got Value.void (Event.call 0 1 (pos 1) ∷ []))
    × (ruled fails (local 0) ≡ unavailable)
    -- P8: a Num as a rule guard; and a Num as a rule body
    × (ruled (num 1) (write 0 (num 1)) ≡ stuck 21)
    × (ruled holds (num 1) ≡ stuck 21)
    -- a guard is a pure place
    × (ruled (block (show (num 1)) (holds ∷ [])) (write 0 (num 1)) ≡ stuck 26)
    -- 64 calls, and 65; those of the guard count; the 65th call's arguments and their kinds come first
    × (ruled holds (block many (many ∷ [])) ≡ got Value.void (replicate 64 (Event.display (pos 1))))
    × (ruled holds (block many (many ∷ show (num 1) ∷ [])) ≡ stuck 27)
    × (ruled (equal (read 0) (num 5)) (block many (many ∷ [])) ≡ stuck 27)
    × (ruled holds (block many (many ∷ show holds ∷ [])) ≡ stuck 21)
    × (ruled holds (block many (many ∷ write 0 never ∷ [])) ≡ unavailable)
unfolding computing
rules = (refl, refl, refl, refl, refl, refl, refl, refl, refl, refl)
