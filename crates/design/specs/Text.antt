-- What the functions ensure that pass over the bytes of a body. A text ends with the body: it is the file up to there, or the body alone.
use Rattle.std.specs.Prelude.{ℕ, ◌+◌, ◌≤◌, ◌<◌, ◌≡◌, List, length, drop, get_or, Option, Some, None}
use Rattle.design.specs.declared.text.Head.{Head}
use Rattle.design.specs.Syntax.{Expr, Exprs, Stmts}
use Rattle.design.specs.Take.{Refusal, Read, got, refused, bind, byte}
use Rattle.design.specs.Grammar.{Tag, tag_of, Statement}
use Rattle.design.specs.Grammar as G

-- a byte that was looked for at a place
unfoldable pub Seen : List ℕ → ℕ → Option (ℕ × ℕ) → Type 0
Seen text at (Some (b, n)) = (why : Refusal) → byte why (drop at text) ≡ got b (drop n text)
Seen text at None = (why : Refusal) → byte why (drop at text) ≡ refused why

unfoldable pub Follows : List ℕ → ℕ → Option (ℕ × ℕ) → Type 0
Follows text at (Some (b, n)) = (n ≡ at + 1) × (n ≤ length text) × (b < 256) × (b ≡ get_or text at 0)
Follows text at None = length text ≤ at

pub record Sees (text : List ℕ) (at : ℕ) (x : Option (ℕ × ℕ)) : Type 0 where
  pub seen : Seen text at x
  pub follows : Follows text at x

-- so many bytes that were passed over
unfoldable pub Room : List ℕ → ℕ → ℕ → Option ℕ → Type 0
Room text at count (Some n) = (n ≡ at + count) × (n ≤ length text)
Room text at count None = length text < at + count

pub record Bytes (text : List ℕ) (at count : ℕ) (x : Option ℕ) : Type 0 where
  pub room : Room text at count x

-- ---- what begins an expression

-- where it goes on
unfoldable pub Bounds : List ℕ → ℕ → Option (Head × ℕ) → Type 0
Bounds text at (Some (h, n)) = (at ≤ n) × (n ≤ length text)
Bounds text at None = Unit {0}

-- an expression, by what its head leaves to be read
module _ (end : ℕ) (bad : Refusal) (expr : List ℕ → Read Expr) where
  unfoldable pub Leaves : Read Expr → List ℕ → Option (Head × ℕ) → Type 0
  Leaves p text (Some (Head.Plain, n)) = (e : Expr) × (p ≡ got e (drop n text))
  Leaves p text (Some (Head.Exprs k, n)) = (f : Exprs → Expr) × (p ≡ bind (G.exprs end bad expr k (drop n text)) (λ es q. got (f es) q))
  Leaves p text (Some (Head.Statements k, n)) = p ≡ bind (G.statements end bad expr k (drop n text)) (λ ss q. got (Expr.block ss) q)
  Leaves p text None = p ≡ refused bad

-- what follows the tag g at a place
pub record After (g : Tag) (text : List ℕ) (at : ℕ) (x : Option (Head × ℕ)) : Type 0 where
  pub leaves : (end : ℕ) (bad : Refusal) (expr : List ℕ → Read Expr) →
      Leaves end bad expr (G.after end bad expr g (drop at text)) text x
  pub bounds : Bounds text at x

-- the expression at a place
pub record Starts (text : List ℕ) (at : ℕ) (x : Option (Head × ℕ)) : Type 0 where
  pub leaves : (end : ℕ) (bad : Refusal) (expr : List ℕ → Read Expr) →
      Leaves end bad expr (bind (byte bad (drop at text)) (λ t r. G.after end bad expr (tag_of t) r)) text x
  pub bounds : Bounds text at x

-- ---- parts that are passed over

pub data Part : Type 0 where
  whole one : Part
  several statements : ℕ → Part

abbrev pub Tree : Part → Type 0
Tree whole = Expr
Tree one = Statement
Tree (several count) = Exprs
Tree (statements more) = Stmts

abbrev pub parse : (p : Part) (end : ℕ) (bad : Refusal) (levels : ℕ) → List ℕ → Read (Tree p)
parse whole end bad levels s = G.expr end bad levels s
parse one end bad levels s = G.statement end bad (G.expr end bad levels) s
parse (several count) end bad levels s = G.exprs end bad (G.expr end bad levels) count s
parse (statements more) end bad levels s = G.statements end bad (G.expr end bad levels) more s

-- it reads, and the bytes go on at n; or it does not read
unfoldable pub Reaches : {A : Type 0} → Read A → Refusal → List ℕ → Option ℕ → Type 0
Reaches {A} p bad text (Some n) = (a : A) × (p ≡ got a (drop n text))
Reaches p bad text None = p ≡ refused bad

pub record Passes {A : Type 0} (p : Read A) (bad : Refusal) (text : List ℕ) (x : Option ℕ) : Type 0 where
  pub reaches : Reaches p bad text x

unfoldable pub Within : List ℕ → ℕ → Option ℕ → Type 0
Within text at (Some n) = (at ≤ n) × (n ≤ length text)
Within text at None = Unit {0}

pub record Skips (p : Part) (text : List ℕ) (at levels : ℕ) (x : Option ℕ) : Type 0 where
  pub passes : (end : ℕ) (bad : Refusal) → Passes (parse p end bad levels (drop at text)) bad text x
  pub within : Within text at x
