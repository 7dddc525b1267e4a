-- The greatest common divisor of 24 and 16: document 000, section 8.1, without its display of a text.
use Rattle.std.specs.Prelude.{List, [], ◌∷◌, ◌≡◌, refl, ℤ, pos}
use Rattle.design.specs.Syntax.{Expr, Stmts, Kind, Role, Body, Design}
use Rattle.meaning.specs.Build.{num, local, minus, equal, less, and, not, when, show, call0, call2, read, write, block, RG, UM, method, rule}
use Rattle.meaning.specs.Conflict.{Fate}
use Rattle.meaning.specs.Run.{Ending, run}
use Rattle.meaning.specs.Transcript.{transcript, computing}

-- as document 000 numbers them: 0 state, 1 x, 2 y, 3 busy, 4 gcd, 5 main
abbrev x : Expr
x = read 1

abbrev y : Expr
y = read 2

abbrev busy : Expr
busy = read 3

abbrev start : Body
start =
    method 4 0 Role.action Kind.void (Kind.num ∷ Kind.num ∷ []) (when (equal busy (num 0))
    (block (write 1 (local 0)) (write 2 (local 1) ∷ write 3 (num 1) ∷ [])))

abbrev get_result : Body
get_result =
    method 4 0 Role.action_value Kind.num [] (when (and (equal busy (num 1)) (equal y (num 0)))
    (block (write 3 (num 0)) (x ∷ [])))

-- x > y is y < x, and x <= y is not (y < x)
abbrev swap : Body
swap =
    rule 4 0 (and (and (less y x) (equal busy (num 1))) (not (equal y (num 0))))
    (block (write 1 y) (write 2 x ∷ []))

abbrev subtract : Body
subtract =
    rule 4 0 (and (and (not (less y x)) (equal busy (num 1))) (not (equal y (num 0))))
    (block (write 2 (minus y x)) [])

abbrev init : Body
init = rule 5 0 (equal (read 0) (num 0)) (block (call2 4 0 (num 24) (num 16)) (write 0 (num 1) ∷ []))

abbrev finish : Body
finish =
    rule 5 0 (equal (read 0) (num 1))
    (Expr.block (Stmts.then_let (call0 4 1) (Stmts.then_do (show (local 0)) (Stmts.last_do (write 0 (num 2))))))

-- rules 0 swap, 1 subtract, 2 init, 3 finish; the schedule is init, finish, swap, subtract
abbrev pub gcd : Design
gcd = record {
  instances = RG 0 ∷ RG 0 ∷ RG 0 ∷ RG 0 ∷ UM ∷ UM ∷ [];
  bodies = swap ∷ subtract ∷ start ∷ get_result ∷ init ∷ finish ∷ [];
  schedule = 2 ∷ 3 ∷ 0 ∷ 1 ∷ [];
}

-- the entries of gcd and main hold anything
abbrev begin : List ℤ
begin = pos 0 ∷ pos 0 ∷ pos 0 ∷ pos 0 ∷ pos 7 ∷ pos 7 ∷ []

-- The rules that fire are those of the document's listing. Of those that do not, it reports a conflict also where one is unavailable.
clocks :
    transcript gcd 8 begin
    ≡ record { fates = Fate.fired ∷ Fate.unavailable ∷ Fate.earlier ∷ Fate.unavailable ∷ []; displays = [] }
    ∷ record { fates = Fate.unavailable ∷ Fate.unavailable ∷ Fate.fired ∷ Fate.earlier ∷ []; displays = [] }
    ∷ record { fates = Fate.unavailable ∷ Fate.unavailable ∷ Fate.unavailable ∷ Fate.fired ∷ []; displays = [] }
    ∷ record { fates = Fate.unavailable ∷ Fate.unavailable ∷ Fate.fired ∷ Fate.earlier ∷ []; displays = [] }
    ∷ record { fates = Fate.unavailable ∷ Fate.unavailable ∷ Fate.unavailable ∷ Fate.fired ∷ []; displays = [] }
    ∷ record { fates = Fate.unavailable ∷ Fate.unavailable ∷ Fate.unavailable ∷ Fate.fired ∷ []; displays = [] }
    ∷ record { fates = Fate.unavailable ∷ Fate.fired ∷ Fate.unavailable ∷ Fate.unavailable ∷ []; displays = pos 8 ∷ [] }
    ∷ record { fates = Fate.unavailable ∷ Fate.unavailable ∷ Fate.unavailable ∷ Fate.unavailable ∷ []; displays = [] }
    ∷ []
unfolding computing
clocks = refl

-- "In clock 7, we see that no rules fire": state 2, x 8, y 0, busy 0
end :
    run gcd 101 begin
    ≡ record { ending = Ending.quiet; count = 7; state = pos 2 ∷ pos 8 ∷ pos 0 ∷ pos 0 ∷ pos 7 ∷ pos 7 ∷ [] }
unfolding computing
end = refl
