-- What the functions ensure: each answer is the definitions' own, in every design that the plan is of.
use Rattle.std.specs.Prelude.{ℕ, ◌/◌, ◌%◌, ◌<◌, ◌≡◌, Bool, true, false, not, ◌&&◌, List, eqb}
use Rattle.design.specs.Syntax.{Design}
use Rattle.design.specs.Plan.{Plans}
use Rattle.meaning.specs.Values.{Event}
use Rattle.meaning.specs.Lookup.{Access, access, is_register}
use Rattle.meaning.specs.Naming.{callee_of}
use Rattle.rule.specs.Log.{event_of, events, Ported}
use Rattle.conflict.specs.declared.Access as Code
use Rattle.conflict.specs.declared.Clash.{Clash}
use Rattle.meaning.specs.Conflict.{clash_inside, clash_earlier, clash_hardware, is_plain, any_two, any_pair}

unfoldable pub clash_of : Clash → Design → Event → Event → Bool
clash_of Clash.Inside = clash_inside
clash_of Clash.Earlier = clash_earlier
clash_of Clash.Hardware = clash_hardware

-- ---- a method of a register, and two of them: methods below 8 are ports

-- the code's access, in document 01's terms
unfoldable pub access_of : Code.Access → Access
access_of (Code.Access.Read port) = Access.read port
access_of (Code.Access.Write port) = Access.write port

pub record Ruled (rule : Access → Access → Bool) (a b : ℕ) (r : Bool) : Type 0 where
  pub ruled : a < 8 → b < 8 → r ≡ rule (access a) (access b)

-- ---- what the plan says of an instance and its methods

-- a user's method; one of a register is not asked for
pub record PlainMethod (plan : List ℕ) (i m : ℕ) (r : Bool) : Type 0 where
  pub plain : (D : Design) → Plans plan D → is_register D i ≡ false → r ≡ is_plain (callee_of D i m)

pub record Plain (plan : List ℕ) (i m : ℕ) (r : Bool) : Type 0 where
  pub plain : (D : Design) → Plans plan D → r ≡ is_plain (callee_of D i m)

-- ---- two events

pub record OnPorts (plan : List ℕ) (i : ℕ) (clash r : Bool) : Type 0 where
  pub clashes : (D : Design) → Plans plan D → r ≡ is_register D i && clash

-- 255 is the instance of a display, which takes no part
pub record Twice (plan : List ℕ) (i m y : ℕ) (r : Bool) : Type 0 where
  pub clashes : (D : Design) → Plans plan D → r ≡ not (eqb (y % 256) 255) && (eqb m (y / 256 % 256) && not (is_plain (callee_of D i m)))

-- the method of an event of a register is a port
pub record IsPort (D : Design) (x : ℕ) : Type 0 where
  pub port : is_register D (x % 256) ≡ true → x / 256 % 256 < 8

pub record Clashes (clash : Clash) (plan : List ℕ) (x y : ℕ) (r : Bool) : Type 0 where
  pub clashes : (D : Design) → Plans plan D → IsPort D x → IsPort D y → r ≡ clash_of clash D (event_of x) (event_of y)

-- ---- the searches

pub record Within (clash : Clash) (plan mine : List ℕ) (r : Bool) : Type 0 where
  pub within : (D : Design) → Plans plan D → Ported D (events mine) → r ≡ any_two (clash_of clash D) (events mine)

pub record Against (clash : Clash) (plan before mine : List ℕ) (r : Bool) : Type 0 where
  pub against : (D : Design) → Plans plan D → Ported D (events before) → Ported D (events mine) →
      r ≡ any_pair (clash_of clash D) (events before) (events mine)
