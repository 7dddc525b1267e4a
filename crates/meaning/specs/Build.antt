-- Short names with which the examples write trees and designs.
use Rattle.std.specs.Prelude.{ℕ, zero, suc, true, false, List, [], ◌∷◌, pos}
use Rattle.design.specs.Syntax.{Operator, Expr, Exprs, Stmts, Kind, Role, Instance, Body}

abbrev pub num : ℕ → Expr
num k = Expr.number (pos k)

abbrev pub holds : Expr
holds = Expr.truth true

abbrev pub fails : Expr
fails = Expr.truth false

abbrev pub local : ℕ → Expr
local i = Expr.local i

abbrev pub plus : Expr → Expr → Expr
plus a b = Expr.binary Operator.plus a b

abbrev pub minus : Expr → Expr → Expr
minus a b = Expr.binary Operator.minus a b

abbrev pub equal : Expr → Expr → Expr
equal a b = Expr.binary Operator.equal a b

abbrev pub less : Expr → Expr → Expr
less a b = Expr.binary Operator.less a b

abbrev pub and : Expr → Expr → Expr
and a b = Expr.binary Operator.and a b

abbrev pub or : Expr → Expr → Expr
or a b = Expr.binary Operator.or a b

abbrev pub not : Expr → Expr
not a = Expr.negate a

abbrev pub if : (condition then else : Expr) → Expr
if c a b = Expr.choose c a b

abbrev pub when : (guard body : Expr) → Expr
when g e = Expr.guarded 0 g e

abbrev pub show : Expr → Expr
show e = Expr.display e

abbrev pub call0 : (instance method : ℕ) → Expr
call0 i m = Expr.call i m Exprs.none

abbrev pub call1 : (instance method : ℕ) → Expr → Expr
call1 i m a = Expr.call i m (Exprs.more a Exprs.none)

abbrev pub call2 : (instance method : ℕ) → Expr → Expr → Expr
call2 i m a b = Expr.call i m (Exprs.more a (Exprs.more b Exprs.none))

-- a register's read and write, by port 0
abbrev pub read : (instance : ℕ) → Expr
read i = call0 i 0

abbrev pub write : (instance : ℕ) → Expr → Expr
write i e = call1 i 1 e

-- the statements of a block that does e and then the others
abbrev pub dos : Expr → List Expr → Stmts
dos e [] = Stmts.last_do e
dos e (f ∷ es) = Stmts.then_do e (dos f es)

abbrev pub block : Expr → List Expr → Expr
block e es = Expr.block (dos e es)

-- n lets or dos of one expression, and then the others
abbrev pub lets : (n : ℕ) → Expr → Stmts → Stmts
lets zero e ss = ss
lets (suc n) e ss = Stmts.then_let e (lets n e ss)

abbrev pub times : (n : ℕ) → Expr → Stmts → Stmts
times zero e ss = ss
times (suc n) e ss = Stmts.then_do e (times n e ss)

abbrev pub RG : (start : ℕ) → Instance
RG z = Instance.register 0 (pos z)

abbrev pub CR : (ports start : ℕ) → Instance
CR p z = Instance.concurrent 0 p (pos z)

abbrev pub UM : Instance
UM = Instance.user 0

abbrev pub method : (owner place : ℕ) → Role → (result : Kind) → (params : List Kind) → Expr → Body
method i at r k ks e =
    Body.method (record { owner = i; place = at; role = r; result = k; params = ks; start = 0; size = 0; body = e })

abbrev pub rule : (owner place : ℕ) → (guard body : Expr) → Body
rule i at g e = Body.rule (record { owner = i; place = at; start = 0; size = 0; guard = g; body = e })
