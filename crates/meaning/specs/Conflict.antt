-- Conflicts between recorded calls, and the fate of a rule that came to a value.
use Rattle.std.specs.Prelude.{ℕ, Bool, false, cond, not, ◌&&◌, ◌||◌, List, [], ◌∷◌, ltb, leb, eqb, length}
use Rattle.design.specs.Syntax.{Design}
use Rattle.meaning.specs.Values.{Event}
use Rattle.meaning.specs.Lookup.{Access, access, is_register}
use Rattle.meaning.specs.Naming.{Test, passed, failed, Callee, role_of, params_of, is_value, callee_of}

-- "1 unavailable; 2 conflict inside the rule; 3 conflict with an earlier fired rule; 4 hardware conflict; 0 fired. Also 5 stuck, 6 not
-- reached."
pub data Fate : Type 0 where
  fired unavailable inside earlier hardware stuck not_reached : Fate

unfoldable pub fate_number : Fate → ℕ
fate_number Fate.fired = 0
fate_number Fate.unavailable = 1
fate_number Fate.inside = 2
fate_number Fate.earlier = 3
fate_number Fate.hardware = 4
fate_number Fate.stuck = 5
fate_number Fate.not_reached = 6

-- ---- ports of one register

-- "Inside (any order, same instance): write i with read j, i < j; write i with write j, i different from j."
unfoldable pub inside_ports : Access → Access → Bool
inside_ports (Access.write i) (Access.read j) = ltb i j
inside_ports (Access.read j) (Access.write i) = ltb i j
inside_ports (Access.write i) (Access.write j) = not (eqb i j)
inside_ports (Access.read i) (Access.read j) = false

-- "Earlier against later (same instance): write i then read j, j <= i; write i then write j, j < i; read i then write j, j < i."
unfoldable pub earlier_ports : Access → Access → Bool
earlier_ports (Access.write i) (Access.read j) = leb j i
earlier_ports (Access.write i) (Access.write j) = ltb j i
earlier_ports (Access.read i) (Access.write j) = ltb j i
earlier_ports (Access.read i) (Access.read j) = false

-- ---- recorded calls; a display takes no part

-- two calls of one instance, which is a register
unfoldable pub on_ports : Design → (Access → Access → Bool) → Event → Event → Bool
on_ports D clash (Event.call i m y) (Event.call j k z) = eqb i j && is_register D i && clash (access m) (access k)
on_ports D clash (Event.call i m y) (Event.display z) = false
on_ports D clash (Event.display y) (Event.call j k z) = false
on_ports D clash (Event.display y) (Event.display z) = false

unfoldable pub clash_inside : Design → Event → Event → Bool
clash_inside D a b = on_ports D inside_ports a b

unfoldable pub clash_earlier : Design → Event → Event → Bool
clash_earlier D a b = on_ports D earlier_ports a b

-- a V method without parameters
unfoldable pub is_plain : Test Callee → Bool
is_plain (passed c) = is_value (role_of c) && eqb (length (params_of c)) 0
is_plain (failed n) = false

-- "the same method of the same instance twice, .. unless it is a V method without parameters. User methods have this conflict only"
unfoldable pub clash_hardware : Design → Event → Event → Bool
clash_hardware D (Event.call i m y) (Event.call j k z) = eqb i j && eqb m k && not (is_plain (callee_of D i m))
clash_hardware D (Event.call i m y) (Event.display z) = false
clash_hardware D (Event.display y) (Event.call j k z) = false
clash_hardware D (Event.display y) (Event.display z) = false

-- ---- "Pairs are tried in call order; the first clashing pair ends the search."

unfoldable pub any : {A : Type 0} → (A → Bool) → List A → Bool
any f [] = false
any f (x ∷ xs) = f x || any f xs

-- some two of one list, in their order
unfoldable pub any_two : {A : Type 0} → (A → A → Bool) → List A → Bool
any_two f [] = false
any_two f (x ∷ xs) = any (f x) xs || any_two f xs

-- some one of the first list with some one of the second
unfoldable pub any_pair : {A : Type 0} → (A → A → Bool) → List A → List A → Bool
any_pair f [] ys = false
any_pair f (x ∷ xs) ys = any (f x) ys || any_pair f xs ys

-- ---- "Each gets one fate, the first that applies": `before` is what the rules recorded that fired earlier in the clock, `mine` what this
-- one recorded.

unfoldable pub judge : Design → (before mine : List Event) → Fate
judge D before mine =
    cond (any_two (clash_inside D) mine) Fate.inside (
    cond (any_pair (clash_earlier D) before mine) Fate.earlier (
    cond (any_two (clash_hardware D) mine || any_pair (clash_hardware D) before mine) Fate.hardware
    Fate.fired))
