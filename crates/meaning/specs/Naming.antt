-- What a local and a call name, with the tests 22 to 26 and 28. Evaluation and check make these same tests, over values or over kinds.
use Rattle.std.specs.Prelude.{ℕ, zero, suc, ◌*◌, Bool, true, false, not, ◌||◌, List, [], ◌∷◌, ◌++◌, ltb, eqb, length}
use Rattle.std.proofs.Math.Option.{Option, some, none}
use Rattle.std.proofs.Math.ListN.{get_elem?}
use Rattle.design.specs.Syntax.{Exprs, Kind, Role, Instance, Method, Design}
use Rattle.design.specs.Records.{is_user}
use Rattle.meaning.specs.Lookup.{instance_of, ports, Access, access, method_of}

-- what a test gives, or the number with which it fails
pub data Test (A : Type 0) : Type 0 where
  passed : A → Test A
  failed : (number : ℕ) → Test A

unfoldable pub if_passed : {A B : Type 0} → Test A → (A → Test B) → Test B
if_passed (passed a) f = f a
if_passed (failed n) f = failed n

unfoldable pub test : {A : Type 0} → Bool → (number : ℕ) → Test A → Test A
test true n t = t
test false n t = failed n

unfoldable pub found : {A : Type 0} → (number : ℕ) → Option A → Test A
found n none = failed n
found n (some a) = passed a

-- ---- locals

-- "A local is a parameter or an earlier let of an open block, numbered by how many were live when it was bound."
unfoldable pub local_of : {A : Type 0} → (live : List A) → ℕ → Test A
local_of live i = found 22 (get_elem? live i)

-- "At most 16 are live in one body; the 17th is refused (28) when it is bound, after its expression."
unfoldable pub bound : {A : Type 0} → (live : List A) → A → Test (List A)
bound live a = test (ltb (length live) 16) 28 (passed (live ++ (a ∷ [])))

-- ---- calls

-- what a call names: a port of a register, or a method with a body
pub data Callee : Type 0 where
  port : Access → Callee
  user : Method → Callee

-- "Read is V, no parameters, Num; write is A, one Num."
unfoldable pub role_of : Callee → Role
role_of (port (Access.read p)) = Role.value
role_of (port (Access.write p)) = Role.action
role_of (user x) = x.role

unfoldable pub params_of : Callee → List Kind
params_of (port (Access.read p)) = []
params_of (port (Access.write p)) = Kind.num ∷ []
params_of (user x) = x.params

unfoldable pub result_of : Callee → Kind
result_of (port (Access.read p)) = Kind.num
result_of (port (Access.write p)) = Kind.void
result_of (user x) = x.result

unfoldable pub is_value : Role → Bool
is_value Role.value = true
is_value Role.action = false
is_value Role.action_value = false

-- "no such method or port" is 24; "A CR with p ports has 2i = read i and 2i+1 = write i for i below p."
unfoldable pub method_in : Design → (instance method : ℕ) → Instance → Test Callee
method_in D i m x =
    elim (is_user x) [
      | true ↦ if_passed (found 24 (method_of D i m)) (λ y. passed (user y))
      | false ↦ test (ltb m (2 * ports x)) 24 (passed (port (access m)))
    ]

unfoldable pub callee_of : Design → (instance method : ℕ) → Test Callee
callee_of D i m = if_passed (found 23 (instance_of D i)) (λ x. method_in D i m x)

unfoldable pub how_many : Exprs → ℕ
how_many Exprs.none = zero
how_many (Exprs.more e es) = suc (how_many es)

-- "A call may name only an instance with a number below that of the caller's own instance. In order: instance (23), method (24),
-- argument count (25), purity (26)". "pure places: no write, display, A or AV method there"
unfoldable pub named : Design → (me instance method arguments : ℕ) → (pure : Bool) → Test Callee
named D me i m n pure =
    test (ltb i me) 23 (
    if_passed (callee_of D i m) (λ c.
    test (eqb n (length (params_of c))) 25 (
    test (not pure || is_value (role_of c)) 26 (
    passed c))))
