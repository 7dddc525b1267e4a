-- What the functions of the walk over kinds ensure: the code's answers read as the definitions' tests, and one record that every member of the
-- cycle of calls cites.
use Rattle.std.specs.Prelude.{ℕ, ◌≤◌, ◌<◌, ◌≡◌, Bool, true, false, List, map, length, drop, get_or, Some, None, Result, Ok, Err}
use Rattle.design.specs.Syntax.{Operator, Expr, Exprs, Stmts, Kind, Design}
use Rattle.design.specs.Take.{Refusal, Read, got}
use Rattle.design.specs.Grammar.{Tag, Operation}
use Rattle.design.specs.Grammar as G
use Rattle.design.specs.Text.{Sees}
use Rattle.design.specs.declared.kinds.Kind as DK
use Rattle.design.specs.declared.kinds.Operator as DO
use Rattle.design.specs.Kinds.{kind, operation}
use Rattle.design.specs.Plan.{Plans, World}
use Rattle.rule.specs.declared.Reason.{Reason}
use Rattle.rule.specs.declared.naming.Callee as DC
use Rattle.meaning.specs.Values.{same_kind, same_kinds}
use Rattle.meaning.specs.Naming.{Test, passed, failed, if_passed, Callee, params_of, result_of}
use Rattle.rule.specs.Answers.{number_of}
use Rattle.rule.specs.Post.{Is}
use Rattle.checker.specs.declared.kinds.Body.{Body}
use Rattle.checker.specs.declared.locals.Locals.{Locals}
use Rattle.meaning.specs.Kinds as K

-- How a walk went: on, with what it found and where the bytes go on, or no, with a number.
pub data Went (B : Type 0) : Type 0 where
  on : B → ℕ → Went B
  no : ℕ → Went B

unfoldable pub went : Result (DK.Kind × ℕ) Reason → Went Kind
went (Ok (k, n)) = Went.on (kind k) n
went (Err r) = Went.no (number_of r)

-- how a row of arguments went: whether they fit
unfoldable pub gave : Result (Bool × ℕ) Reason → Went Bool
gave (Ok (fit, n)) = Went.on fit n
gave (Err r) = Went.no (number_of r)

-- what a walk goes by: whose body it is in, whether it is a pure place, and the live locals
pub record Place : Type 0 where
  pub me : ℕ
  pub pure : Bool
  pub locals : List DK.Kind

abbrev pub place : (me : ℕ) (pure : Bool) → Locals → Place
place me pure l = record { me = me; pure = pure; locals = l.kinds.now }

-- the kinds of the live locals
unfoldable pub live_of : Place → List Kind
live_of f = map kind f.locals

-- The parts of a body that a function walks: an expression; what follows its tag; one statement and so many more; so many arguments of a call.
pub data Part : Type 0 where
  whole : Part
  after : Tag → Part
  statements : ℕ → Part
  calls : (instance method count : ℕ) → Part

abbrev pub Tree : Part → Type 0
Tree whole = Expr
Tree (after g) = Expr
Tree (statements more) = Stmts
Tree (calls i m n) = Exprs

abbrev pub parse : (p : Part) (end : ℕ) (bad : Refusal) (levels : ℕ) → List ℕ → Read (Tree p)
parse whole end bad levels s = G.expr end bad levels s
parse (after g) end bad levels s = G.after end bad (G.expr end bad levels) g s
parse (statements more) end bad levels s = G.statements end bad (G.expr end bad levels) more s
parse (calls i m n) end bad levels s = G.exprs end bad (G.expr end bad levels) n s

-- the kind of a part, at a place
abbrev pub sense : (p : Part) → Design → Place → Tree p → Test Kind
sense whole D f t = K.kind D f.me t f.pure (live_of f)
sense (after g) D f t = K.kind D f.me t f.pure (live_of f)
sense (statements more) D f ss = K.last_kind D f.me ss f.pure (live_of f)
sense (calls i m n) D f es = K.kind D f.me (Expr.call i m es) f.pure (live_of f)

unfoldable pub Agrees : {B : Type 0} → (text rest : List ℕ) → Went B → Test B → Type 0
Agrees text rest (Went.on b n) t = (t ≡ passed b) × (drop n text ≡ rest)
Agrees text rest (Went.no n) t = t ≡ failed n

-- If a part of the text reads, the walk went as the test of what it is read as.
pub record Means {A B : Type 0} (part : Read A) (sense : A → Test B) (text : List ℕ) (w : Went B) : Type 0 where
  pub says : (a : A) (rest : List ℕ) → part ≡ got a rest → Agrees text rest w (sense a)

-- the bytes go on no earlier than where the walk began
unfoldable pub Onward : {B : Type 0} → ℕ → Went B → Type 0
Onward at (Went.on b n) = at ≤ n
Onward at (Went.no n) = Unit {0}

-- what each member of the cycle ensures of the part p that it walks, of the body `text`
pub record Walks (p : Part) (text file plan : List ℕ) (f : Place) (at : ℕ) (r : Result (DK.Kind × ℕ) Reason) : Type 0 where
  pub does : (D : Design) → World file plan D → (end : ℕ) (bad : Refusal) (levels : ℕ) →
      Means (parse p end bad levels (drop at text)) (sense p D f) text (went r)
  pub onward : Onward at (went r)

-- the same of a body and its locals
abbrev pub KindOf : Part → Body → (pure : Bool) → Locals → (at : ℕ) → Result (DK.Kind × ℕ) Reason → Type 0
KindOf p b pure l at r = Walks p b.text.now b.design.file.now b.design.plan.now (place b.me pure l) at r

-- a byte, or that none is left, which is no kind
unfoldable pub Stands : (text : List ℕ) (at : ℕ) → Result (ℕ × ℕ) Reason → Type 0
Stands text at (Ok x) = Sees text at (Some x)
Stands text at (Err r) = Sees text at None × (r ≡ Reason.Kind)

pub record Reads (text : List ℕ) (at : ℕ) (r : Result (ℕ × ℕ) Reason) : Type 0 where
  pub reads : Stands text at r

-- a number or a truth, which asks nothing of the place, and a local: none asks anything of the plan
pub record Leaf (g : Tag) (text : List ℕ) (at : ℕ) (r : Result (DK.Kind × ℕ) Reason) : Type 0 where
  pub leaf : (file plan : List ℕ) (f : Place) → Walks (after g) text file plan f at r

pub record Local (text : List ℕ) (l : Locals) (at : ℕ) (r : Result (DK.Kind × ℕ) Reason) : Type 0 where
  pub leaf : (file plan : List ℕ) (me : ℕ) (pure : Bool) → Walks (after Tag.local) text file plan (place me pure l) at r

-- ---- operators

-- whether a part has the kind that is wanted
unfoldable pub Wanting : (wanted k : DK.Kind) → Result (Unit {0}) Reason → Type 0
Wanting wanted k (Ok u) = same_kind (kind wanted) (kind k) ≡ true
Wanting wanted k (Err r) = (same_kind (kind wanted) (kind k) ≡ false) × (r ≡ Reason.Kind)

pub record Wants (wanted k : DK.Kind) (r : Result (Unit {0}) Reason) : Type 0 where
  pub wants : Wanting wanted k r

-- what is tested at a place of the text, after the parts
pub record Tested (t : Test Kind) (at : ℕ) (r : Result (DK.Kind × ℕ) Reason) : Type 0 where
  pub tested : (text : List ℕ) → Agrees text (drop at text) (went r) t
  pub onward : Onward at (went r)

-- the kind that an operator takes, and the one that it gives
pub record Takes (op : DO.Operator) (k : DK.Kind) : Type 0 where
  pub takes : (o : Operator) → operation (Ok op) ≡ Operation.binary o → kind k ≡ K.takes o

pub record Gives (op : DO.Operator) (k : DK.Kind) : Type 0 where
  pub gives : (o : Operator) → operation (Ok op) ≡ Operation.binary o → kind k ≡ K.gives o

pub record Operates (op : DO.Operator) (a b : DK.Kind) (at : ℕ) (r : Result (DK.Kind × ℕ) Reason) : Type 0 where
  pub operates : (o : Operator) → operation (Ok op) ≡ Operation.binary o →
      Tested (K.wants (K.takes o) (kind a) (K.wants (K.takes o) (kind b) (passed (K.gives o)))) at r

pub record Negates (a : DK.Kind) (at : ℕ) (r : Result (DK.Kind × ℕ) Reason) : Type 0 where
  pub negates : Tested (K.wants Kind.bool (kind a) (passed Kind.bool)) at r

-- ---- calls

-- the kinds of what a call names: of its result, and of its parameter j
pub record Results (plan : List ℕ) (c : DC.Callee) (r : DK.Kind) : Type 0 where
  pub results : (D : Design) → Plans plan D → (y : Callee) → Is D c y → kind r ≡ result_of y

pub record Param (file plan : List ℕ) (c : DC.Callee) (j : ℕ) (r : DK.Kind) : Type 0 where
  pub is : (D : Design) → World file plan D → (y : Callee) → Is D c y → j < length (params_of y) → kind r ≡ get_or (params_of y) j Kind.void

-- whether the arguments have the kinds of these parameters
unfoldable pub fits : Design → Place → List Kind → Exprs → Test Bool
fits D f ks es = if_passed (K.kinds D f.me es f.pure (live_of f)) (λ js. passed (same_kinds ks js))

-- so many arguments of what a call names
pub record Fits (count : ℕ) (text file plan : List ℕ) (f : Place) (at : ℕ) (c : DC.Callee) (r : Result (Bool × ℕ) Reason) : Type 0 where
  pub does : (D : Design) → World file plan D → (y : Callee) → Is D c y → length (params_of y) ≡ count → (end : ℕ) (bad : Refusal) (levels : ℕ) →
      Means (G.exprs end bad (G.expr end bad levels) count (drop at text)) (fits D f (params_of y)) text (gave r)
  pub onward : Onward at (gave r)
