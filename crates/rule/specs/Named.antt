-- What the lookups of a call ensure.
use Rattle.std.specs.Prelude.{ℕ, ◌+◌, ◌*◌, ◌≡◌, Bool, not, ◌||◌, List, map, ltb, eqb, length, Result, Ok, Err}
use Rattle.std.proofs.Math.Option.{some}
use Rattle.std.proofs.Math.ListN.{get_elem?}
use Rattle.design.specs.Syntax.{Method, Design}
use Rattle.design.specs.Records as R
use Rattle.design.specs.Records.{methods}
use Rattle.design.specs.Plan.{before, Plans}
use Rattle.rule.specs.declared.naming.Callee as DC
use Rattle.rule.specs.declared.Reason.{Reason}
use Rattle.rule.specs.declared.Value as DV
use Rattle.meaning.specs.Values.{kind_of, same_kinds}
use Rattle.meaning.specs.Lookup.{Access, access, method_of}
use Rattle.meaning.specs.Naming.{Test, passed, failed, if_passed, test, found, Callee, role_of, params_of, is_value, named}
use Rattle.rule.specs.Answers.{number_of, env_of}

-- a method of a design, by its number through the file
abbrev pub Numbered : Design → ℕ → Method → Type 0
Numbered D k x = get_elem? (methods D.bodies) k ≡ some x

-- what the code has found is what the test on method m of instance i came to
unfoldable pub Names : Test Callee → Design → (i m : ℕ) → Result DC.Callee Reason → Type 0
Names t D i m (Ok DC.Callee.Read) = (p : ℕ) × (t ≡ passed (Callee.port (Access.read p)))
Names t D i m (Ok DC.Callee.Write) = (p : ℕ) × (t ≡ passed (Callee.port (Access.write p)))
Names t D i m (Ok (DC.Callee.User k)) = (x : Method) × (t ≡ passed (Callee.user x)) × Numbered D k x × (k ≡ before i (methods D.bodies) + m)
Names t D i m (Err r) = t ≡ failed (number_of r)

pub record Naming (plan : List ℕ) (me i m n : ℕ) (pure : Bool) (r : Result DC.Callee Reason) : Type 0 where
  pub names : (D : Design) → Plans plan D → Names (named D me i m n pure) D i m r

-- ---- the steps on the way

-- the tests on what a call names: "argument count (25), purity (26)"
unfoldable pub called : (arguments : ℕ) (pure : Bool) → Callee → Test Callee
called n pure c = test (eqb n (length (params_of c))) 25 (test (not pure || is_value (role_of c)) 26 (passed c))

-- a port of a register with so many
pub record PortNamed (count m n : ℕ) (pure : Bool) (r : Result DC.Callee Reason) : Type 0 where
  pub names : (D : Design) (i : ℕ) → Names (if_passed (test (ltb m (2 * count)) 24 (passed (Callee.port (access m)))) (called n pure)) D i m r

-- a method of a user's instance
pub record MethodNamed (plan : List ℕ) (i m n : ℕ) (pure : Bool) (r : Result DC.Callee Reason) : Type 0 where
  pub names : (D : Design) → Plans plan D → Names (if_passed (if_passed (found 24 (method_of D i m)) (λ y. passed (Callee.user y))) (called n pure)) D i m r

-- ---- kinds

-- whether as many values have these kinds, a byte each
pub record Fitting (kinds : List ℕ) (locals : List DV.Value) (r : Bool) : Type 0 where
  pub fits : length kinds ≡ length locals → r ≡ same_kinds (map R.kind_of kinds) (map kind_of (env_of locals))
