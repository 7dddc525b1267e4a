-- Values and their kinds, what a rule records, and how its evaluation ends.
use Rattle.std.specs.Prelude.{ℕ, Bool, true, false, ◌&&◌, List, [], ◌∷◌, ℤ}
use Rattle.design.specs.Syntax.{Kind}

pub data Value : Type 0 where
  num : ℤ → Value
  bool : Bool → Value
  void : Value

unfoldable pub kind_of : Value → Kind
kind_of (num z) = Kind.num
kind_of (bool b) = Kind.bool
kind_of void = Kind.void

unfoldable pub same_kind : Kind → Kind → Bool
same_kind Kind.void Kind.void = true
same_kind Kind.void Kind.num = false
same_kind Kind.void Kind.bool = false
same_kind Kind.num Kind.void = false
same_kind Kind.num Kind.num = true
same_kind Kind.num Kind.bool = false
same_kind Kind.bool Kind.void = false
same_kind Kind.bool Kind.num = false
same_kind Kind.bool Kind.bool = true

unfoldable pub same_kinds : List Kind → List Kind → Bool
same_kinds [] [] = true
same_kinds [] (k ∷ ks) = false
same_kinds (j ∷ js) [] = false
same_kinds (j ∷ js) (k ∷ ks) = same_kind j k && same_kinds js ks

-- What is recorded: a call, with the number that a register's write is given (0 for any other call), or a display.
pub data Event : Type 0 where
  call : (instance method : ℕ) (given : ℤ) → Event
  display : ℤ → Event

-- "Evaluation ends as a value, as unavailable, or as stuck with a reason." A value comes with all that was recorded up to it.
pub data Out (A : Type 0) : Type 0 where
  got : A → List Event → Out A
  unavailable : Out A
  stuck : (number : ℕ) → Out A

-- "The first part that is not a value ends the whole rule."
unfoldable pub and_then : {A B : Type 0} → Out A → (A → List Event → Out B) → Out B
and_then (got a l) f = f a l
and_then unavailable f = unavailable
and_then (stuck n) f = stuck n

-- what has to hold, or the rule is stuck with a number
unfoldable pub needs : {A : Type 0} → Bool → (number : ℕ) → Out A → Out A
needs true n o = o
needs false n o = stuck n

-- the number, or the truth, that a value has to be: "wrong kind of value" is 21
unfoldable pub as_num : {A : Type 0} → Value → (ℤ → Out A) → Out A
as_num (num z) f = f z
as_num (bool b) f = stuck 21
as_num void f = stuck 21

unfoldable pub as_bool : {A : Type 0} → Value → (Bool → Out A) → Out A
as_bool (num z) f = stuck 21
as_bool (bool b) f = f b
as_bool void f = stuck 21
