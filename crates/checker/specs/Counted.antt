-- What the functions ensure that count the calls of a body over its bytes.
use Rattle.std.specs.Prelude.{ℕ, zero, suc, ◌+◌, ◌≤◌, ◌<◌, ◌≡◌, List, length, drop, get_or, Option as Maybe, Some, None}
use Rattle.std.proofs.Math.Option.{some}
use Rattle.std.proofs.Math.ListN.{get_elem?}
use Rattle.design.specs.Syntax.{Operator, Expr, Exprs, Method, Rule, Design}
use Rattle.design.specs.Take.{Refusal, Read, got, bind, byte}
use Rattle.design.specs.Grammar.{Tag, Operation, operation_of}
use Rattle.design.specs.Grammar as G
use Rattle.design.specs.Records.{methods, rules}
use Rattle.design.specs.Plan.{Plans, World}
use Rattle.checker.specs.declared.calls.Counted.{Counted}
use Rattle.checker.specs.declared.calls.Head.{Head}
use Rattle.checker.specs.declared.calls.Tally.{Tally}
use Rattle.meaning.specs.Calls.{Table, calls_of, calls, calls_among, table_below, rule_calls}
use Rattle.meaning.specs.Check.{Verdict, count_all}

-- the count c is the number n, or both are over 64
pub data Alike (c n : ℕ) : Type 0 where
  exact : c ≡ n → Alike c n
  crowded : 64 < c → 64 < n → Alike c n

-- a byte; past the end stand zeros
pub record Byte (text : List ℕ) (at r : ℕ) : Type 0 where
  pub is : r ≡ get_or text at 0

-- the place behind so many bytes, where there are that many
pub record Beyond (text : List ℕ) (at count r : ℕ) : Type 0 where
  pub beyond : at + count ≤ length text → r ≡ at + count
  pub short : length text < at + count → r ≡ at

-- how many operands an operator has, by its byte
pub record Operands (op r : ℕ) : Type 0 where
  pub one : operation_of op ≡ Operation.not → r ≡ 1
  pub two : (o : Operator) → operation_of op ≡ Operation.binary o → r ≡ 2

-- ---- what is known when a body of instance `me` is counted

-- the counts of the methods of the instances below
pub record Known (plan counts : List ℕ) (me : ℕ) (D : Design) : Type 0 where
  pub plans : Plans plan D
  pub counted : (k : ℕ) (x : Method) → get_elem? (methods D.bodies) k ≡ some x → x.owner < me →
      Alike (get_or counts k 0) (calls (table_below D x.owner) x.body)

pub record CalleeCounts (plan counts : List ℕ) (me i m r : ℕ) : Type 0 where
  pub callee : (D : Design) → Known plan counts me D → Alike r (calls_of (table_below D me) i m)

-- ---- parts of a body

-- an expression that stands behind so many bytes
unfoldable pub behind : Refusal → (lead : ℕ) → (List ℕ → Read Expr) → (List ℕ → Read Expr)
behind bad zero E = E
behind bad (suc n) E = λ s. bind (byte bad s) (λ b r. behind bad n E r)

-- an expression; what follows its tag; so many expressions, each behind so many bytes, whose calls are added to some
pub data Part : Type 0 where
  whole : Part
  after : Tag → Part
  several : (lead count calls : ℕ) → Part

abbrev pub Tree : Part → Type 0
Tree whole = Expr
Tree (after g) = Expr
Tree (several lead count c) = Exprs

abbrev pub parse : (p : Part) (end : ℕ) (bad : Refusal) (levels : ℕ) → List ℕ → Read (Tree p)
parse whole end bad levels s = G.expr end bad levels s
parse (after g) end bad levels s = G.after end bad (G.expr end bad levels) g s
parse (several lead count c) end bad levels s = G.exprs end bad (behind bad lead (G.expr end bad levels)) count s

abbrev pub number : (p : Part) → Table → Tree p → ℕ
number whole t a = calls t a
number (after g) t a = calls t a
number (several lead count c) t es = c + calls_among t es

-- if the part at a place reads, r has its count and where the bytes go on
pub record Tells {A : Type 0} (part : Read A) (n : A → ℕ) (text : List ℕ) (r : Counted) : Type 0 where
  pub tells : (a : A) (rest : List ℕ) → part ≡ got a rest → Alike r.calls (n a) × (drop r.at text ≡ rest)

-- what each member of the cycle ensures of the part that it counts
pub record Counts (p : Part) (text plan counts : List ℕ) (me at levels : ℕ) (r : Counted) : Type 0 where
  pub says : (D : Design) → Known plan counts me D → (end : ℕ) (bad : Refusal) →
      Tells (parse p end bad levels (drop at text)) (number p (table_below D me)) text r

abbrev pub CountOf : Part → Tally → (at levels : ℕ) → Counted → Type 0
CountOf p t at levels r = Counts p t.text.now t.plan.now t.counts.now t.me at levels r

-- the levels of a part that has so many left for what it holds
abbrev pub over : Part → ℕ → ℕ
over whole levels = suc levels
over (after g) levels = levels
over (several lead count c) levels = levels

-- how a part goes on behind its head: what is left decides the whole
unfoldable pub Leads : Part → (text plan counts : List ℕ) → (me at levels : ℕ) → Head → Type 0
Leads p text plan counts me at levels (Head.Plain n) = Counts p text plan counts me at (over p levels) (record { calls = 0; at = n })
Leads p text plan counts me at levels (Head.If n) =
    (y : Counted) → Counts (after Tag.choice) text plan counts me n levels y → Counts p text plan counts me at (over p levels) y
Leads p text plan counts me at levels (Head.Exprs row n) =
    (y : Counted) → Counts (several row.lead row.count row.calls) text plan counts me n levels y → Counts p text plan counts me at (over p levels) y

pub record Heads (p : Part) (text plan counts : List ℕ) (me at : ℕ) (h : Head) : Type 0 where
  pub heads : (levels : ℕ) → Leads p text plan counts me at levels h

abbrev pub HeadOf : Part → Tally → (at : ℕ) → Head → Type 0
HeadOf p t at h = Heads p t.text.now t.plan.now t.counts.now t.me at h

-- ---- methods and rules

-- the counts of the first n methods, by their numbers through the file, and those of all
pub record Before (file plan counts : List ℕ) (n : ℕ) : Type 0 where
  pub before : (D : Design) → World file plan D → (k : ℕ) (x : Method) → k < n → get_elem? (methods D.bodies) k ≡ some x →
      Alike (get_or counts k 0) (calls (table_below D x.owner) x.body)

pub record Filled (file plan counts : List ℕ) : Type 0 where
  pub filled : (D : Design) → World file plan D → (k : ℕ) (x : Method) → get_elem? (methods D.bodies) k ≡ some x →
      Alike (get_or counts k 0) (calls (table_below D x.owner) x.body)

-- the count of method k, where those before it are known
pub record MethodCounts (file plan counts : List ℕ) (k r : ℕ) : Type 0 where
  pub method : (D : Design) → World file plan D → Before file plan counts k → (x : Method) → get_elem? (methods D.bodies) k ≡ some x →
      Alike r (calls (table_below D x.owner) x.body)

-- the count of rule n, where those of all methods are
pub record RuleCounts (file plan counts : List ℕ) (n r : ℕ) : Type 0 where
  pub rule : (D : Design) → World file plan D → Filled file plan counts → (x : Rule) → get_elem? (rules D.bodies) n ≡ some x →
      Alike r (rule_calls (table_below D (length D.instances)) x)

-- what the check answers where no rule, or the one at a place, has too many
unfoldable pub verdict : Maybe ℕ → Verdict
verdict None = Verdict.passes
verdict (Some place) = Verdict.fails (record { number = 27; place = place })

-- "Then each rule, in file order: the calls it could make, .. over 64 is 27 at that rule."
pub record RulesCount (file plan counts : List ℕ) (r : Maybe ℕ) : Type 0 where
  pub counted : (D : Design) → World file plan D → Filled file plan counts → verdict r ≡ count_all (table_below D (length D.instances)) (rules D.bodies)

pub record Crowded (file plan : List ℕ) (r : Maybe ℕ) : Type 0 where
  pub crowded : (D : Design) → World file plan D → verdict r ≡ count_all (table_below D (length D.instances)) (rules D.bodies)
