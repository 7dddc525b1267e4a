-- What the numbers of a design name: instances, ports, methods, rules, and the registers' words in the state.
use Rattle.std.specs.Prelude.{ℕ, ◌/◌, ◌%◌, Bool, true, false, cond, not, List, eqb, ℤ, pos, get_or, set}
use Rattle.std.proofs.Math.Option.{Option, some, none}
use Rattle.std.proofs.Math.ListN.{get_elem?}
use Rattle.design.specs.Syntax.{Instance, Method, Rule, Design}
use Rattle.design.specs.Records.{is_user, methods, rules}
use Rattle.design.specs.Parts.{of_owner}

-- "RG, CR and UM are instances, numbered from 0 in file order"
unfoldable pub instance_of : Design → ℕ → Option Instance
instance_of D i = get_elem? D.instances i

-- "RG counts as a CR with one port."
unfoldable pub ports : Instance → ℕ
ports (Instance.register p z) = 1
ports (Instance.concurrent p n z) = n
ports (Instance.user p) = 0

unfoldable pub is_register : Design → ℕ → Bool
is_register D i =
    elim (instance_of D i) [
      | none ↦ false
      | some x ↦ not (is_user x)
    ]

-- "2i = read i and 2i+1 = write i"
pub data Access : Type 0 where
  read write : (port : ℕ) → Access

unfoldable pub access : (method : ℕ) → Access
access m = cond (eqb (m % 2) 0) (read (m / 2)) (write (m / 2))

unfoldable pub is_write : Access → Bool
is_write (read p) = false
is_write (write p) = true

-- "MD and RL belong to the latest instance", their owner; "Methods are numbered from 0 within their instance"
unfoldable pub methods_of : Design → ℕ → List Method
methods_of D i = of_owner i (methods D.bodies)

unfoldable pub method_of : Design → (instance method : ℕ) → Option Method
method_of D i m = get_elem? (methods_of D i) m

-- "rules from 0 through the file"
unfoldable pub rule_of : Design → ℕ → Option Rule
rule_of D n = get_elem? (rules D.bodies) n

-- ---- the state: a list of words

-- the place of an instance's word in the state
unfoldable pub register_place : Design → ℕ → ℕ
register_place D i = i

unfoldable pub word_of : Design → List ℤ → ℕ → ℤ
word_of D state i = get_or state (register_place D i) (pos 0)

unfoldable pub with_word : Design → List ℤ → ℕ → ℤ → List ℤ
with_word D state i z = set state (register_place D i) z
