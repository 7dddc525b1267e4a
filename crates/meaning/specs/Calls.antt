-- "the calls it could make, guard and callees included, an if counting its condition and the larger arm": an exact number, of any size.
use Rattle.std.specs.Prelude.{ℕ, zero, suc, ◌+◌, max, List, [], ◌∷◌, ◌++◌, map, get_or}
use Rattle.design.specs.Syntax.{Expr, Exprs, Stmts, Rule, Design}
use Rattle.meaning.specs.Lookup.{methods_of}

-- The calls that the body of each method could make, by instance and method. A register's methods have no body, and make none.
abbrev pub Table : Type 0
Table = List (List ℕ)

unfoldable pub calls_of : Table → (instance method : ℕ) → ℕ
calls_of t i m = get_or (get_or t i []) m 0

module _ (t : Table) where
  unfoldable mutual
    pub calls : Expr → ℕ
    calls (Expr.number z) = 0
    calls (Expr.truth b) = 0
    calls (Expr.local i) = 0
    calls (Expr.binary o a b) = calls a + calls b
    calls (Expr.negate a) = calls a
    calls (Expr.choose c a b) = calls c + max (calls a) (calls b)
    calls (Expr.guarded at g a) = calls g + calls a
    calls (Expr.block ss) = calls_in ss
    calls (Expr.call i m es) = calls_among es + 1 + calls_of t i m
    calls (Expr.display e) = calls e + 1

    pub calls_among : Exprs → ℕ
    calls_among Exprs.none = 0
    calls_among (Exprs.more e es) = calls e + calls_among es

    pub calls_in : Stmts → ℕ
    calls_in (Stmts.last_let e) = calls e
    calls_in (Stmts.last_do e) = calls e
    calls_in (Stmts.then_let e ss) = calls e + calls_in ss
    calls_in (Stmts.then_do e ss) = calls e + calls_in ss

-- Of the instances below n, each from those before it: a body calls only instances below its own. Each method is counted once.
unfoldable pub with_instance : Design → (n : ℕ) → Table → Table
with_instance D n t = t ++ (map (λ x. calls t x.body) (methods_of D n) ∷ [])

unfoldable pub table_below : Design → (n : ℕ) → Table
table_below D zero = []
table_below D (suc n) = with_instance D n (table_below D n)

unfoldable pub rule_calls : Table → Rule → ℕ
rule_calls t r = calls t r.guard + calls t r.body
