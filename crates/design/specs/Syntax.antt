-- Expressions as trees, and a design: instances, methods, rules and the schedule. Bytes play no part here; a place is an offset in the
-- file, kept so that answers can name it.
use Rattle.std.specs.Prelude.{ℕ, Bool, List, ℤ}

-- "Operators: 0 plus, 1 minus; 2 equal, 3 less; 4 and, 5 or"; "6 not" takes one operand and is `negate` below
pub data Operator : Type 0 where
  plus minus equal less and or : Operator

mutual
  pub data Expr : Type 0 where
    number : ℤ → Expr
    truth : Bool → Expr
    local : ℕ → Expr
    binary : Operator → Expr → Expr → Expr
    negate : Expr → Expr
    choose : (condition then else : Expr) → Expr
    guarded : (place : ℕ) (guard body : Expr) → Expr
    block : Stmts → Expr
    call : (instance method : ℕ) (arguments : Exprs) → Expr
    display : Expr → Expr

  pub data Exprs : Type 0 where
    none : Exprs
    more : Expr → Exprs → Exprs

  -- "block: count 1 to 32, statements": at least one
  pub data Stmts : Type 0 where
    last_let last_do : Expr → Stmts
    then_let then_do : Expr → Stmts → Stmts

-- the kind of a value
pub data Kind : Type 0 where
  void num bool : Kind

-- "kind (0 V, 1 A, 2 AV)" of a method
pub data Role : Type 0 where
  value action action_value : Role

-- "RG, CR and UM are instances, numbered from 0 in file order"
pub data Instance : Type 0 where
  register : (place : ℕ) (start : ℤ) → Instance
  concurrent : (place ports : ℕ) (start : ℤ) → Instance
  user : (place : ℕ) → Instance

-- `place` is the record's; the body's part of the file begins at `start` and has `size` bytes
pub record Method : Type 0 where
  pub owner : ℕ
  pub place : ℕ
  pub role : Role
  pub result : Kind
  pub params : List Kind
  pub start : ℕ
  pub size : ℕ
  pub body : Expr

pub record Rule : Type 0 where
  pub owner : ℕ
  pub place : ℕ
  pub start : ℕ
  pub size : ℕ
  pub guard : Expr
  pub body : Expr

-- what has a body, in file order
pub data Body : Type 0 where
  method : Method → Body
  rule : Rule → Body

pub record Design : Type 0 where
  pub instances : List Instance
  pub bodies : List Body
  pub schedule : List ℕ
