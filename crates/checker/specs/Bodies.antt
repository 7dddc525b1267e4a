-- What the walk of one body ensures, and of all of them, in file order.
use Rattle.std.specs.Prelude.{ℕ, ◌≤◌, ◌≡◌, Bool, true, false, ltb, List, map, length, take, Result, Ok, Err}
use Rattle.std.proofs.Math.Option.{some}
use Rattle.std.proofs.Math.ListN.{get_elem?}
use Rattle.design.specs.Syntax.{Method, Rule, Design}
use Rattle.design.specs.Records.{Reading, reading, kind_of, methods, rules}
use Rattle.design.specs.declared.kinds.Kind as DK
use Rattle.design.specs.Kinds.{kind}
use Rattle.design.specs.Plan.{Plans, World}
use Rattle.meaning.specs.Naming.{Test, passed, failed}
use Rattle.rule.specs.Answers.{number_of}
use Rattle.rule.specs.declared.Reason.{Reason}
use Rattle.checker.specs.declared.Failure.{Failure}
use Rattle.meaning.specs.Kinds.{walk_method, walk_rule}
use Rattle.meaning.specs.Check.{walk_all}
use Rattle.checker.specs.Answers.{verdict}

-- what is left of a walked body: that it passed, or its number
unfoldable pub tested : Result (Unit {0}) Reason → Test (Unit {0})
tested (Ok u) = passed tt
tested (Err r) = failed (number_of r)

-- the kinds of a method's parameters, and then room
pub record Params (kinds : List ℕ) (r : List DK.Kind) : Type 0 where
  pub params : map kind (take (length kinds) r) ≡ map kind_of kinds

pub record MethodWalks (file plan : List ℕ) (k : ℕ) (r : Result (Unit {0}) Reason) : Type 0 where
  pub walks : (D : Design) → World file plan D → (x : Method) → get_elem? (methods D.bodies) k ≡ some x → walk_method D x ≡ tested r

pub record RuleWalks (file plan : List ℕ) (n : ℕ) (r : Result (Unit {0}) Reason) : Type 0 where
  pub walks : (D : Design) → World file plan D → (x : Rule) → get_elem? (rules D.bodies) n ≡ some x → walk_rule D x ≡ tested r

-- whether the next of the bodies that are left is method k and not rule n
pub record MethodNext (plan : List ℕ) (k n : ℕ) (r : Bool) : Type 0 where
  pub no_method : (D : Design) → Plans plan D → length (methods D.bodies) ≤ k → r ≡ false
  pub no_rule : (D : Design) (x : Method) → Plans plan D → get_elem? (methods D.bodies) k ≡ some x → length (rules D.bodies) ≤ n → r ≡ true
  pub both : (file : List ℕ) (D : Design) (x : Method) (y : Rule) → World file plan D → get_elem? (methods D.bodies) k ≡ some x →
      get_elem? (rules D.bodies) n ≡ some y → r ≡ ltb x.place y.place

-- bodies stand in the order in which the file is read
pub record WalksAll (file plan : List ℕ) (r : Result (Unit {0}) Failure) : Type 0 where
  pub all : (D : Design) → reading file ≡ Reading.design D → World file plan D → walk_all D D.bodies ≡ verdict r
