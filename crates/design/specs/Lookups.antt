-- What the lookups of a plan ensure: each says what the design holds that the plan is of.
use Rattle.std.specs.Prelude.{ℕ, ◌+◌, ◌*◌, ◌-◌, ◌≤◌, ◌<◌, ◌≡◌, List, map, length, take, drop, get_or, Option as Maybe, Some, None}
use Rattle.std.proofs.Math.Option.{Option, some, none}
use Rattle.std.proofs.Math.ListN.{get_elem?}
use Rattle.design.specs.declared.plan.Signature.{Signature}
use Rattle.design.specs.declared.Span.{Span}
use Rattle.design.specs.Syntax.{Instance, Method, Rule, Design}
use Rattle.design.specs.Records as R
use Rattle.design.specs.Records.{methods, rules}
use Rattle.design.specs.Parts.{method_of}
use Rattle.design.specs.Kinds.{kind, role}
use Rattle.design.specs.Plan.{ports_of, start_word, before, Plans, World}

-- a number of the plan; past its end stand zeros
pub record Entry (plan : List ℕ) (at r : ℕ) : Type 0 where
  pub is : r ≡ get_or plan at 0
  pub small : r < 65536

-- a number of a row; past the most rows of a kind stand zeros
pub record Cell (plan : List ℕ) (base row column r : ℕ) : Type 0 where
  pub is : row < 128 → r ≡ get_or plan (base + 4 * row + column) 0
  pub small : r < 65536

-- ---- how many

pub record Instances (plan : List ℕ) (r : ℕ) : Type 0 where
  pub counts : (D : Design) → Plans plan D → r ≡ length D.instances
  pub small : r < 65536

pub record Methods (plan : List ℕ) (r : ℕ) : Type 0 where
  pub counts : (D : Design) → Plans plan D → r ≡ length (methods D.bodies)
  pub small : r < 65536

pub record Rules (plan : List ℕ) (r : ℕ) : Type 0 where
  pub counts : (D : Design) → Plans plan D → r ≡ length (rules D.bodies)
  pub small : r < 65536

pub record Scheduled (plan : List ℕ) (r : ℕ) : Type 0 where
  pub counts : (D : Design) → Plans plan D → r ≡ length D.schedule
  pub small : r < 65536

-- the rule that entry j of the schedule names
pub record Named (plan : List ℕ) (j r : ℕ) : Type 0 where
  pub names : (D : Design) → Plans plan D → j < length D.schedule → r ≡ get_or D.schedule j 0
  pub small : r < 64

-- ---- an instance

-- a missing instance has no ports
unfoldable pub ports_at : Option Instance → ℕ
ports_at none = 0
ports_at (some x) = ports_of x

pub record Ports (plan : List ℕ) (i r : ℕ) : Type 0 where
  pub ports : (D : Design) → Plans plan D → r ≡ ports_at (get_elem? D.instances i)
  pub small : r < 65536

-- the word of an instance's start value
pub record Starts (plan : List ℕ) (i r : ℕ) : Type 0 where
  pub starts : (D : Design) (x : Instance) → Plans plan D → get_elem? D.instances i ≡ some x → r ≡ start_word x

-- ---- a method

-- an instance's method, by its number through the file: its own behind those of the instances before
unfoldable pub Finding : (plan : List ℕ) (i m : ℕ) → Maybe ℕ → Type 0
Finding plan i m (Some k) =
    (D : Design) → Plans plan D → (x : Method) × (method_of D.bodies i m ≡ some x) × (get_elem? (methods D.bodies) k ≡ some x) × (k ≡ before i (methods D.bodies) + m)
Finding plan i m None = (D : Design) → Plans plan D → method_of D.bodies i m ≡ none

pub record Finds (plan : List ℕ) (i m : ℕ) (r : Maybe ℕ) : Type 0 where
  pub finds : Finding plan i m r

pub record Describes (plan : List ℕ) (k : ℕ) (r : Signature) : Type 0 where
  pub role : (D : Design) (x : Method) → Plans plan D → get_elem? (methods D.bodies) k ≡ some x → role r.role ≡ x.role
  pub result : (D : Design) (x : Method) → Plans plan D → get_elem? (methods D.bodies) k ≡ some x → kind r.result ≡ x.result
  pub count : (D : Design) (x : Method) → Plans plan D → get_elem? (methods D.bodies) k ≡ some x → r.count ≡ length x.params
  pub small : r.count < 65536

pub record Owner (plan : List ℕ) (k r : ℕ) : Type 0 where
  pub owner : (D : Design) (x : Method) → Plans plan D → get_elem? (methods D.bodies) k ≡ some x → r ≡ x.owner
  pub small : r < 65536

-- where the record stands
pub record Place (plan : List ℕ) (k r : ℕ) : Type 0 where
  pub place : (file : List ℕ) (D : Design) (x : Method) → World file plan D → get_elem? (methods D.bodies) k ≡ some x → r ≡ x.place
  pub small : r < 65536

-- a part of the file, or none
pub record Between (file : List ℕ) (start end : ℕ) (r : List ℕ) : Type 0 where
  pub part : start ≤ end → end ≤ length file → r ≡ take (end - start) (drop start file)
  pub short : length r ≤ end - start

-- the bytes of the kinds of a method's parameters
pub record Kinds (file plan : List ℕ) (k : ℕ) (r : List ℕ) : Type 0 where
  pub kinds : (D : Design) (x : Method) → World file plan D → get_elem? (methods D.bodies) k ≡ some x → x.params ≡ map R.kind_of r
  pub few : length r ≤ 4

-- a part from one place to another
pub record Spanned (start end : ℕ) (r : Span) : Type 0 where
  pub starts : start ≤ end → r.start ≡ start
  pub ends : start ≤ end → r.start + r.size ≡ end
  pub small : r.start + r.size < 65536

pub record MethodSpan (plan : List ℕ) (k : ℕ) (r : Span) : Type 0 where
  pub start : (D : Design) (x : Method) → Plans plan D → get_elem? (methods D.bodies) k ≡ some x → r.start ≡ x.start
  pub size : (D : Design) (x : Method) → Plans plan D → get_elem? (methods D.bodies) k ≡ some x → r.size ≡ x.size
  pub small : r.start + r.size < 65536

-- the bytes of a method's body
pub record MethodText (file plan : List ℕ) (k : ℕ) (r : List ℕ) : Type 0 where
  pub text : (D : Design) (x : Method) → World file plan D → get_elem? (methods D.bodies) k ≡ some x → r ≡ take x.size (drop x.start file)
  pub short : length r < 65536

-- ---- a rule

pub record RuleOwner (plan : List ℕ) (n r : ℕ) : Type 0 where
  pub owner : (D : Design) (x : Rule) → Plans plan D → get_elem? (rules D.bodies) n ≡ some x → r ≡ x.owner
  pub small : r < 65536

pub record RulePlace (plan : List ℕ) (n r : ℕ) : Type 0 where
  pub place : (D : Design) (x : Rule) → Plans plan D → get_elem? (rules D.bodies) n ≡ some x → r ≡ x.place
  pub small : r < 65536

pub record RuleSpan (plan : List ℕ) (n : ℕ) (r : Span) : Type 0 where
  pub start : (D : Design) (x : Rule) → Plans plan D → get_elem? (rules D.bodies) n ≡ some x → r.start ≡ x.start
  pub size : (D : Design) (x : Rule) → Plans plan D → get_elem? (rules D.bodies) n ≡ some x → r.size ≡ x.size
  pub small : r.start + r.size < 65536

-- the bytes of a rule's guard and body
pub record RuleText (file plan : List ℕ) (n : ℕ) (r : List ℕ) : Type 0 where
  pub text : (D : Design) (x : Rule) → World file plan D → get_elem? (rules D.bodies) n ≡ some x → r ≡ take x.size (drop x.start file)
  pub short : length r < 65536
