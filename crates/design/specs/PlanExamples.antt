-- Rows of a plan, worked by hand from the records that they are of. Each is proved by computing it.
use Rattle.std.specs.Prelude.{ℕ, true, [], ◌∷◌, ◌≡◌, refl, pos, negsuc}
use Rattle.words.specs.Words.{word, wrap}
use Rattle.design.specs.Syntax.{Expr, Kind, Role, Instance, Method}
use Rattle.design.specs.Take.{pick}
use Rattle.design.specs.Plan.{ports_of, start_word, role_number, kind_number, shape, instance_row, method_row, rule_row, entry, before, first_of}

-- P10's register starts at 5
five : instance_row (Instance.register 0 (pos 5)) ≡ 1 ∷ 5 ∷ 0 ∷ []
unfolding instance_row ports_of start_word word wrap
five = refl

-- -1 is FFFF FFFF in hex
minus_one : instance_row (Instance.register 0 (negsuc 0)) ≡ 1 ∷ 65535 ∷ 65535 ∷ []
unfolding instance_row ports_of start_word word wrap
minus_one = refl

-- three ports and the least number, 8000 0000 in hex
three_ports : instance_row (Instance.concurrent 6 3 (negsuc 2147483647)) ≡ 3 ∷ 0 ∷ 32768 ∷ []
unfolding instance_row ports_of start_word word wrap
three_ports = refl

no_ports : instance_row (Instance.user 13) ≡ 0 ∷ 0 ∷ 0 ∷ []
unfolding instance_row ports_of start_word word wrap
no_ports = refl

method_of : (owner : ℕ) → Method
method_of owner = record { owner = owner; place = 20; role = Role.action_value; result = Kind.bool; params = Kind.num ∷ Kind.bool ∷ []; start = 29; size = 2; body = Expr.truth true }

-- AV is 2, Bool 2 and there are two parameters: 2 + 4 * 2 + 16 * 2; the body stands behind nine bytes of head
bool_of_two : method_row (method_of 3) ≡ 42 ∷ 29 ∷ 31 ∷ 3 ∷ []
unfolding method_row shape role_number kind_number method_of
bool_of_two = refl

-- P10's rule stands at 8; its guard and body have 17 bytes
counting : rule_row (record { owner = 1; place = 8; guard = Expr.truth true; body = Expr.truth true; start = 12; size = 17 }) ≡ 1 ∷ 8 ∷ 12 ∷ 29 ∷ []
unfolding rule_row
counting = refl

-- of four instances the second has two methods and the last one: two stand before the last's
firsts : (first_of 4 (method_of 1 ∷ method_of 1 ∷ method_of 3 ∷ []) 1 ≡ 0) × (first_of 4 (method_of 1 ∷ method_of 1 ∷ method_of 3 ∷ []) 3 ≡ 2)
    × (first_of 4 (method_of 1 ∷ method_of 1 ∷ method_of 3 ∷ []) 4 ≡ 65535)
unfolding first_of before pick method_of
firsts = (refl, refl, refl)

-- document 000's first schedule of the queues, drain before feed, and the entry that there is not
scheduled : (entry (λ n. n) (1 ∷ 0 ∷ []) 0 ≡ 1) × (entry (λ n. n) (1 ∷ 0 ∷ []) 1 ≡ 0) × (entry (λ n. n) (1 ∷ 0 ∷ []) 2 ≡ 65535)
unfolding entry
scheduled = (refl, refl, refl)
