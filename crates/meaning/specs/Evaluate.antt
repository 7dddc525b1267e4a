-- "Evaluating one rule": by recursion on the tree. A method's body is entered through `enter`, which is made by recursion on the instance
-- number: a call names an instance below the caller's own.
use Rattle.std.specs.Prelude.{ℕ, zero, suc, Bool, true, false, ◌&&◌, ◌||◌, not, List, [], ◌∷◌, ◌++◌, map, ltb, eqb, ℤ, pos, length}
use Rattle.words.specs.Words as Words
use Rattle.design.specs.Syntax.{Operator, Expr, Exprs, Stmts, Kind, Method, Rule, Design}
use Rattle.meaning.specs.Values.{Value, kind_of, same_kind, same_kinds, Event, Out, got, unavailable, stuck, and_then, needs, as_num, as_bool}
use Rattle.meaning.specs.Lookup.{Access, word_of}
use Rattle.meaning.specs.Naming.{Test, passed, failed, local_of, bound, Callee, params_of, is_value, how_many, named}

-- a test that fails makes the rule stuck
unfoldable pub tested : {A B : Type 0} → Test A → (A → Out B) → Out B
tested (passed a) f = f a
tested (failed n) f = stuck n

-- "A rule records at most 64 calls"; the 65th is 27, and its body is not entered.
unfoldable pub recorded : {A : Type 0} → Event → List Event → (List Event → Out A) → Out A
recorded e l f =
    elim (ltb (length l) 64) [
      | true ↦ f (l ++ (e ∷ []))
      | false ↦ stuck 27
    ]

-- "An operator, and and or too, evaluates all its operands and then tests their kinds (21)."
unfoldable pub operate : Operator → Value → Value → List Event → Out Value
operate Operator.plus a b l = as_num a (λ x. as_num b (λ y. got (Value.num (Words.plus x y)) l))
operate Operator.minus a b l = as_num a (λ x. as_num b (λ y. got (Value.num (Words.minus x y)) l))
operate Operator.equal a b l = as_num a (λ x. as_num b (λ y. got (Value.bool (Words.equal x y)) l))
operate Operator.less a b l = as_num a (λ x. as_num b (λ y. got (Value.bool (Words.less x y)) l))
operate Operator.and a b l = as_bool a (λ x. as_bool b (λ y. got (Value.bool (x && y)) l))
operate Operator.or a b l = as_bool a (λ x. as_bool b (λ y. got (Value.bool (x || y)) l))

-- what is recorded with a call: the number that a register's write is given
unfoldable pub number_of : List Value → ℤ
number_of [] = pos 0
number_of (Value.num z ∷ vs) = z
number_of (Value.bool b ∷ vs) = pos 0
number_of (Value.void ∷ vs) = pos 0

unfoldable pub given : Callee → List Value → ℤ
given (Callee.port (Access.read p)) vs = pos 0
given (Callee.port (Access.write p)) vs = number_of vs
given (Callee.user x) vs = pos 0

-- the body of a method of instance i, with its arguments
abbrev pub Enter : Type 0
Enter = (i : ℕ) → Method → List Value → List Event → Out Value

-- in a body of instance `me`
module _ (D : Design) (state : List ℤ) (me : ℕ) (enter : Enter) where
  -- "the register or body is done, and a body's value must have the declared result kind (21)"; a write waits until the rule has fired
  unfoldable pub done : ℕ → Callee → List Value → List Event → Out Value
  done i (Callee.port (Access.read p)) vs l = got (Value.num (word_of D state i)) l
  done i (Callee.port (Access.write p)) vs l = got Value.void l
  done i (Callee.user x) vs l =
      and_then (enter i x vs l) (λ v l1. needs (same_kind x.result (kind_of v)) 21 (got v l1))

  unfoldable mutual
    -- `pure`: within a guard, an if-condition or a V body; `live`: the locals; `l`: what is recorded so far
    pub eval : Expr → (pure : Bool) → (live : List Value) → List Event → Out Value
    eval (Expr.number z) pure live l = got (Value.num z) l
    eval (Expr.truth b) pure live l = got (Value.bool b) l
    eval (Expr.local i) pure live l = tested (local_of live i) (λ v. got v l)
    eval (Expr.binary o a b) pure live l =
        and_then (eval a pure live l) (λ x l1. and_then (eval b pure live l1) (λ y l2. operate o x y l2))
    eval (Expr.negate a) pure live l =
        and_then (eval a pure live l) (λ x l1. as_bool x (λ p. got (Value.bool (not p)) l1))
    -- "If evaluates only the arm taken. A guard or condition is tested for Bool (21) before what follows it."
    eval (Expr.choose c a b) pure live l =
        and_then (eval c true live l) (λ x l1. as_bool x (λ p.
        elim p [
          | true ↦ eval a pure live l1
          | false ↦ eval b pure live l1
        ]))
    -- "A rule's guard false: unavailable. The same for when."
    eval (Expr.guarded at g a) pure live l =
        and_then (eval g true live l) (λ x l1. as_bool x (λ p.
        elim p [
          | true ↦ eval a pure live l1
          | false ↦ unavailable
        ]))
    eval (Expr.block ss) pure live l = walk ss pure live l
    -- ".. arguments, their kinds (21), call limit (27); then the call is recorded and the register or body is done"
    eval (Expr.call i m es) pure live l =
        tested (named D me i m (how_many es) pure) (λ c.
        and_then (evals es pure live l) (λ vs l1.
        needs (same_kinds (params_of c) (map kind_of vs)) 21 (
        recorded (Event.call i m (given c vs)) l1 (λ l2.
        done i c vs l2))))
    -- "A display tests purity, then operand, kind Num, call limit, is Void, and counts as one call"
    eval (Expr.display e) pure live l =
        needs (not pure) 26 (
        and_then (eval e pure live l) (λ x l1. as_num x (λ z.
        recorded (Event.display z) l1 (λ l2.
        got Value.void l2))))

    -- "Everything goes left to right."
    pub evals : Exprs → (pure : Bool) → (live : List Value) → List Event → Out (List Value)
    evals Exprs.none pure live l = got [] l
    evals (Exprs.more e es) pure live l =
        and_then (eval e pure live l) (λ v l1. and_then (evals es pure live l1) (λ vs l2. got (v ∷ vs) l2))

    -- "A block's value is its last statement's: a do's value, or Void for a let." "Leaving a block frees its lets."
    pub walk : Stmts → (pure : Bool) → (live : List Value) → List Event → Out Value
    walk (Stmts.last_do e) pure live l = eval e pure live l
    walk (Stmts.last_let e) pure live l =
        and_then (eval e pure live l) (λ v l1. tested (bound live v) (λ more. got Value.void l1))
    walk (Stmts.then_do e ss) pure live l = and_then (eval e pure live l) (λ v l1. walk ss pure live l1)
    walk (Stmts.then_let e ss) pure live l =
        and_then (eval e pure live l) (λ v l1. tested (bound live v) (λ more. walk ss pure more l1))

-- Entering a method of an instance below n: "A callee starts with its parameters only", and a V body is a pure place. No call gets to the
-- first clause, since its instance is below n.
unfoldable pub enter_below : Design → List ℤ → (n : ℕ) → Enter
enter_below D state zero i x vs l = stuck 23
enter_below D state (suc n) i x vs l =
    elim (eqb i n) [
      | true ↦ eval D state n (enter_below D state n) x.body (is_value x.role) vs l
      | false ↦ enter_below D state n i x vs l
    ]

-- an expression in a body of instance `me`
unfoldable pub evaluate : Design → List ℤ → (me : ℕ) → Expr → (pure : Bool) → (live : List Value) → List Event → Out Value
evaluate D state me e pure live l = eval D state me (enter_below D state me) e pure live l

-- One rule: its guard, a pure place, then its body. "A rule body's value must be Void."
unfoldable pub rule : Design → List ℤ → Rule → Out Value
rule D state r =
    and_then (evaluate D state r.owner r.guard true [] []) (λ g l. as_bool g (λ p.
    elim p [
      | true ↦ and_then (evaluate D state r.owner r.body false [] l) (λ v l1.
          needs (same_kind Kind.void (kind_of v)) 21 (got v l1))
      | false ↦ unavailable
    ]))
