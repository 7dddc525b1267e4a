-- What the functions of the evaluator ensure: the code's values read as the definitions' own, and one record that every member of the cycle
-- of calls cites.
use Rattle.std.specs.Prelude.{ℕ, Bool, ◌+◌, ◌≤◌, ◌<◌, ◌≡◌, not, List, [], ◌∷◌, ◌++◌, map, ℤ, length, take, drop, set, Option, Some, None, Ok}
use Rattle.design.specs.Syntax.{Operator, Expr, Stmts, Method, Rule, Design}
use Rattle.design.specs.Take.{Refusal, Read}
use Rattle.design.specs.Plan.{World}
use Rattle.design.specs.declared.kinds.Operator as DO
use Rattle.design.specs.Kinds.{operation}
use Rattle.design.specs.Grammar.{Tag, Operation, Statement}
use Rattle.design.specs.Grammar as G
use Rattle.design.specs.Take as T
use Rattle.rule.specs.declared.Mark.{Mark}
use Rattle.rule.specs.declared.body.Body.{Body}
use Rattle.rule.specs.declared.body.Frame.{Frame}
use Rattle.rule.specs.declared.Answer.{Answer}
use Rattle.rule.specs.declared.Taken.{Taken}
use Rattle.rule.specs.declared.evaluate.Stated.{Stated}
use Rattle.rule.specs.declared.body.Call.{Call}
use Rattle.rule.specs.declared.naming.Callee as DC
use Rattle.rule.specs.declared.Value as DV
use Rattle.meaning.specs.Values.{Value, kind_of, same_kinds, Event, Out, and_then, needs, as_bool}
use Rattle.meaning.specs.Lookup.{Access}
use Rattle.meaning.specs.Naming.{bound, Callee, params_of}
use Rattle.meaning.specs.Evaluate as E
use Rattle.rule.specs.Log.{events}
use Rattle.rule.specs.Answers.{value, number_of, env_of}
use Rattle.rule.specs.Named.{Numbered}

-- Whose body, and whether a pure place.
pub record Place : Type 0 where
  pub me : ℕ
  pub pure : Bool

abbrev pub place : Body → Frame → Place
place b f = record { me = b.me; pure = f.pure }

-- The parts of a body that a function walks: an expression; what follows its tag; so many expressions; one statement and so many more.
pub data Part : Type 0 where
  whole : Part
  after : Tag → Part
  statements : ℕ → Part

abbrev pub Tree : Part → Type 0
Tree whole = Expr
Tree (after g) = Expr
Tree (statements more) = Stmts

abbrev pub parse : (p : Part) (end : ℕ) (bad : Refusal) (levels : ℕ) → List ℕ → Read (Tree p)
parse whole end bad levels s = G.expr end bad levels s
parse (after g) end bad levels s = G.after end bad (G.expr end bad levels) g s
parse (statements more) end bad levels s = G.statements end bad (G.expr end bad levels) more s

-- what a part does, in a frame and its locals
abbrev pub sense : (p : Part) → Design → List ℤ → (locals : List DV.Value) → Place → Tree p → List Event → Out Value
sense whole D state locals f t l = E.evaluate D state f.me t f.pure (env_of locals) l
sense (after g) D state locals f t l = E.evaluate D state f.me t f.pure (env_of locals) l
sense (statements more) D state locals f ss l = E.walk D state f.me (E.enter_below D state f.me) ss f.pure (env_of locals) l

-- The answer r is the outcome o: a value stands for what `made` makes of it, and says too how many events the log holds, and where the bytes
-- go on.
unfoldable pub Agrees : {B : Type 0} → (made : DV.Value → B) → (text log rest : List ℕ) → Answer → Out B → Type 0
Agrees made text log rest (Answer.Value v m) o = (o ≡ Out.got (made v) (events (take m.calls log))) × (drop m.at text ≡ rest)
Agrees made text log rest Answer.Unavailable o = o ≡ Out.unavailable
Agrees made text log rest (Answer.Stuck n) o = o ≡ Out.stuck (number_of n)

-- If a part of the text reads, the answer r is the outcome of what it is read as.
pub record Means {A B : Type 0} (made : DV.Value → B) (part : Read A) (sense : A → Out B) (text log : List ℕ) (r : Answer) : Type 0 where
  pub says : (a : A) (rest : List ℕ) → part ≡ T.got a rest → Agrees made text log rest r (sense a)

-- a value's mark lies behind the mark that was given, and within the body
unfoldable pub Onward : (end : ℕ) → Mark → Answer → Type 0
Onward end m (Answer.Value v n) = (m.at < n.at) × (n.at ≤ end) × (n.calls ≤ 64)
Onward end m Answer.Unavailable = Unit {0}
Onward end m (Answer.Stuck n) = Unit {0}

-- what each member of the cycle requires
pub record Ready (log : List ℕ) (m : Mark) : Type 0 where
  pub recorded : m.calls ≤ 64
  pub room : 64 ≤ length log

-- What each member of the cycle ensures of the part p that it walks, of the body `text`. How deep the part may be is no matter of the code: the
-- bytes that are left bound it.
pub record Does (p : Part) (text file plan : List ℕ) (state : List ℤ) (locals : List DV.Value) (log : List ℕ) (f : Place) (m : Mark) (log₁ : List ℕ) (r : Answer) : Type 0 where
  pub does : (D : Design) → World file plan D → (end : ℕ) (bad : Refusal) (levels : ℕ) → levels ≤ 16 →
      Means value (parse p end bad levels (drop m.at text)) (λ a. sense p D state locals f a (events (take m.calls log))) text log₁ r
  pub onward : Onward (length text) m r
  pub kept : length log₁ ≡ length log

-- a number, or a truth: it asks nothing of the frame
pub record Leaf (g : Tag) (text : List ℕ) (m : Mark) (r : Answer) : Type 0 where
  pub leaf : (file plan log : List ℕ) (locals : List DV.Value) (state : List ℤ) (f : Place) → m.calls ≤ 64 → Does (after g) text file plan state locals log f m log r

-- an answer that goes on from the mark m with the outcome of what is done there
unfoldable pub Stays : Mark → Answer → Type 0
Stays m (Answer.Value v n) = n ≡ m
Stays m Answer.Unavailable = Unit {0}
Stays m (Answer.Stuck n) = Unit {0}

pub record Gives (m : Mark) (o : List Event → Out Value) (r : Answer) : Type 0 where
  pub gives : (text log : List ℕ) → Agrees value text log (drop m.at text) r (o (events (take m.calls log)))
  pub stays : Stays m r

-- an operator's result on two values
pub record Operates (op : DO.Operator) (a b : DV.Value) (m : Mark) (r : Answer) : Type 0 where
  pub operates : (o : Operator) → operation (Ok op) ≡ Operation.binary o → Gives m (E.operate o (value a) (value b)) r

unfoldable pub negated : Value → List Event → Out Value
negated x l = as_bool x (λ p. Out.got (Value.bool (not p)) l)

-- ---- statements and arguments

-- what a statement leaves behind: its value, and the live locals
pub record Behind : Type 0 where
  pub value : Value
  pub live : List Value

-- one statement in a frame: E.walk, a step at a time
unfoldable pub stated : Design → List ℤ → (locals : List DV.Value) → Place → Statement → List Event → Out Behind
stated D state locals f (Statement.do_of e) l =
    and_then (E.evaluate D state f.me e f.pure (env_of locals) l) (λ v l1. Out.got (record { value = v; live = env_of locals }) l1)
stated D state locals f (Statement.let_of e) l =
    and_then (E.evaluate D state f.me e f.pure (env_of locals) l) (λ v l1.
    E.tested (bound (env_of locals) v) (λ more. Out.got (record { value = Value.void; live = more }) l1))

-- the locals behind a statement, which may bind one more
unfoldable pub behind : List DV.Value → Option DV.Value → List DV.Value
behind locals (Some v) = locals ++ (v ∷ [])
behind locals None = locals

pub record States (text file plan : List ℕ) (state : List ℤ) (locals : List DV.Value) (log : List ℕ) (f : Place) (m : Mark) (log₁ : List ℕ) (s : Stated) : Type 0 where
  pub does : (D : Design) → World file plan D → (end : ℕ) (bad : Refusal) (levels : ℕ) → levels ≤ 16 →
      Means (λ v. record { value = value v; live = env_of (behind locals s.bound) }) (G.statement end bad (G.expr end bad levels) (drop m.at text))
      (λ x. stated D state locals f x (events (take m.calls log))) text log₁ s.answer
  pub onward : Onward (length text) m s.answer
  pub few : length (behind locals s.bound) ≤ 16
  pub kept : length log₁ ≡ length log

unfoldable pub Along : (end : ℕ) → Mark → Answer → Type 0
Along end m (Answer.Value v n) = (m.at ≤ n.at) × (n.at ≤ end) × (n.calls ≤ 64)
Along end m Answer.Unavailable = Unit {0}
Along end m (Answer.Stuck n) = Unit {0}

-- so many arguments: their values are the first of args then
pub record Lists (count : ℕ) (text file plan : List ℕ) (state : List ℤ) (locals : List DV.Value) (log : List ℕ) (f : Place) (m : Mark) (args : List DV.Value) (log₁ : List ℕ) (r : Answer) : Type 0 where
  pub does : (D : Design) → World file plan D → (end : ℕ) (bad : Refusal) (levels : ℕ) → levels ≤ 16 →
      Means (λ v. env_of (take count args)) (G.exprs end bad (G.expr end bad levels) count (drop m.at text))
      (λ es. E.evals D state f.me (E.enter_below D state f.me) es f.pure (env_of locals) (events (take m.calls log))) text log₁ r
  pub along : Along (length text) m r
  pub kept : length log₁ ≡ length log

-- ---- calls

-- an event is recorded behind the others, unless there are 64
unfoldable pub Noted : (log : List ℕ) → Mark → (event : ℕ) → (log₁ : List ℕ) → Option Mark → Type 0
Noted log m e log₁ (Some n) = (m.calls < 64) × (log₁ ≡ set log m.calls e) × (n ≡ record { at = m.at; calls = m.calls + 1 })
Noted log m e log₁ None = (64 ≤ m.calls) × (log₁ ≡ log)

pub record Notes (log : List ℕ) (m : Mark) (event : ℕ) (log₁ : List ℕ) (r : Option Mark) : Type 0 where
  pub noted : Noted log m event log₁ r

-- the head of a call
unfoldable pub Headed : (text : List ℕ) (at : ℕ) → Option Call → Type 0
Headed text at (Some c) = (at < c.at) × (c.at ≤ length text) ×
    ((end : ℕ) (bad : Refusal) (expr : List ℕ → Read Expr) →
    G.after end bad expr Tag.call (drop at text) ≡
    T.bind (G.exprs end bad expr c.count (drop c.at text)) (λ es z. T.got (Expr.call c.instance c.method es) z))
Headed text at None = (end : ℕ) (bad : Refusal) (expr : List ℕ → Read Expr) → G.after end bad expr Tag.call (drop at text) ≡ T.refused bad

pub record Heads (text : List ℕ) (at : ℕ) (h : Option Call) : Type 0 where
  pub headed : Headed text at h

-- what the code has found is what the call names
unfoldable pub Is : Design → DC.Callee → Callee → Type 0
Is D DC.Callee.Read c = (p : ℕ) × (c ≡ Callee.port (Access.read p))
Is D DC.Callee.Write c = (p : ℕ) × (c ≡ Callee.port (Access.write p))
Is D (DC.Callee.User k) c = (x : Method) × (c ≡ Callee.user x) × Numbered D k x

-- what is left of a call when its arguments have values
unfoldable pub finish : Design → List ℤ → (me i k : ℕ) → Callee → List Value → List Event → Out Value
finish D state me i k c vs l =
    needs (same_kinds (params_of c) (map kind_of vs)) 21 (
    E.recorded (Event.call i k (E.given c vs)) l (λ l1.
    E.done D state me (E.enter_below D state me) i c vs l1))

-- a value stays at the call's end
unfoldable pub Rests : Mark → Answer → Type 0
Rests m (Answer.Value v n) = (n.at ≡ m.at) × (n.calls ≤ 64)
Rests m Answer.Unavailable = Unit {0}
Rests m (Answer.Stuck n) = Unit {0}

-- the locals are the arguments' values
pub record Finishes (callee : DC.Callee) (file plan : List ℕ) (state : List ℤ) (locals : List DV.Value) (log : List ℕ) (f : Place) (m : Mark) (i k : ℕ) (log₁ : List ℕ) (r : Answer) : Type 0 where
  pub finishes : (D : Design) → World file plan D → (c : Callee) → Is D callee c → length (params_of c) ≡ length locals → (text : List ℕ) →
      Agrees value text log₁ (drop m.at text) r (finish D state f.me i k c (env_of locals) (events (take m.calls log)))
  pub rests : Rests m r
  pub kept : length log₁ ≡ length log

-- a port asks nothing of the file, nor of the frame
pub record Port (callee : DC.Callee) (state : List ℤ) (locals : List DV.Value) (log : List ℕ) (m : Mark) (i k : ℕ) (log₁ : List ℕ) (r : Answer) : Type 0 where
  pub port : (file plan : List ℕ) (f : Place) → Finishes callee file plan state locals log f m i k log₁ r

-- ---- the same, of a body and a frame

abbrev pub Evaluates : Part → Body → Frame → (log : List ℕ) → Mark → (log₁ : List ℕ) → Answer → Type 0
Evaluates p b f log m log₁ r = Does p b.text.now b.design.file.now b.design.plan.now b.state.now f.locals.now log (place b f) m log₁ r

abbrev pub Steps : Body → Frame → (log : List ℕ) → Mark → (log₁ : List ℕ) → Stated → Type 0
Steps b f log m log₁ s = States b.text.now b.design.file.now b.design.plan.now b.state.now f.locals.now log (place b f) m log₁ s

abbrev pub Listed : (count : ℕ) → Body → Frame → (log : List ℕ) → Mark → (args : List DV.Value) (log₁ : List ℕ) → Answer → Type 0
Listed count b f log m args log₁ r = Lists count b.text.now b.design.file.now b.design.plan.now b.state.now f.locals.now log (place b f) m args log₁ r

abbrev pub Completes : DC.Callee → Body → Frame → (log : List ℕ) → Mark → (i k : ℕ) (log₁ : List ℕ) → Answer → Type 0
Completes callee b f log m i k log₁ r = Finishes callee b.design.file.now b.design.plan.now b.state.now f.locals.now log (place b f) m i k log₁ r

-- ---- a rule's turn

-- the answer of a rule's guard and body is the outcome o, whose value is Void
unfoldable pub Came : (log : List ℕ) → Answer → Out Value → Type 0
Came log (Answer.Value v m) o = o ≡ Out.got Value.void (events (take m.calls log))
Came log Answer.Unavailable o = o ≡ Out.unavailable
Came log (Answer.Stuck n) o = o ≡ Out.stuck (number_of n)

unfoldable pub Limited : Answer → Type 0
Limited (Answer.Value v m) = m.calls ≤ 64
Limited Answer.Unavailable = Unit {0}
Limited (Answer.Stuck n) = Unit {0}

-- a guard and a body, which are all of the text
pub record Acts (b : Body) (log log₁ : List ℕ) (r : Answer) : Type 0 where
  pub acts : (D : Design) → World b.design.file.now b.design.plan.now D → (x : Rule) (end : ℕ) (bad : Refusal) (rest : List ℕ) → x.owner ≡ b.me →
      G.expr end bad 16 b.text.now ≡ T.got x.guard rest → G.expr end bad 16 rest ≡ T.got x.body [] → Came log₁ r (E.rule D b.state.now x)
  pub limited : Limited r
  pub kept : length log₁ ≡ length log

unfoldable pub taken_of : Answer → Taken
taken_of (Answer.Value v m) = Taken.Recorded m.calls
taken_of Answer.Unavailable = Taken.Unavailable
taken_of (Answer.Stuck n) = Taken.Stuck n
