-- The plan of a design: 1,092 numbers that say what its records say, so that no record is read again. Four numbers are a row; a number that
-- nothing has is `absent`.
--      0 and up, a row for each instance: its ports, the two halves of its start value's word, how many methods stand before it
--    256 and up, a row for each method, in file order: its shape, where its body starts and ends, its owner
--    768 and up, a row for each rule: its owner, where its record stands, where its guard starts and its body ends
--   1024 and up: how many instances, methods, rules and scheduled entries there are
--   1028 and up: the scheduled entries
use Rattle.std.specs.Prelude.{ℕ, zero, suc, ◌+◌, ◌*◌, ◌/◌, ◌%◌, ◌≤◌, ◌<◌, ◌≡◌, List, [], ◌∷◌, ltb, eqb, length, take, drop, get_or, ℤ, pos}
use Rattle.std.proofs.Math.Option.{some}
use Rattle.std.proofs.Math.ListN.{get_elem?}
use Rattle.words.specs.Words.{word, number}
use Rattle.design.specs.Syntax.{Kind, Role, Instance, Method, Rule, Design}
use Rattle.design.specs.Take.{got, pick}
use Rattle.design.specs.Grammar.{expr}
use Rattle.design.specs.Records as R
use Rattle.design.specs.Records.{methods, rules, is_user}

abbrev pub absent : ℕ
absent = 65535

abbrev pub size : ℕ
size = 1092

-- ---- what a row says

-- "RG counts as a CR with one port."
unfoldable pub ports_of : Instance → ℕ
ports_of (Instance.register p z) = 1
ports_of (Instance.concurrent p n z) = n
ports_of (Instance.user p) = 0

-- the word of the start value; a user's has none
unfoldable pub start_word : Instance → ℕ
start_word (Instance.register p z) = word z
start_word (Instance.concurrent p n z) = word z
start_word (Instance.user p) = 0

unfoldable pub start_value : Instance → ℤ
start_value (Instance.register p z) = z
start_value (Instance.concurrent p n z) = z
start_value (Instance.user p) = pos 0

-- "kind (0 V, 1 A, 2 AV); result (0 Void, 1 Num, 2 Bool)"
unfoldable pub role_number : Role → ℕ
role_number Role.value = 0
role_number Role.action = 1
role_number Role.action_value = 2

unfoldable pub kind_number : Kind → ℕ
kind_number Kind.void = 0
kind_number Kind.num = 1
kind_number Kind.bool = 2

-- a method's kind, its result and its parameter count, as one number
unfoldable pub shape : Method → ℕ
shape x = role_number x.role + 4 * kind_number x.result + 16 * length x.params

unfoldable pub instance_row : Instance → List ℕ
instance_row x = ports_of x ∷ start_word x % 65536 ∷ start_word x / 65536 ∷ []

unfoldable pub method_row : Method → List ℕ
method_row x = shape x ∷ x.start ∷ (x.start + x.size) ∷ x.owner ∷ []

unfoldable pub rule_row : Rule → List ℕ
rule_row r = r.owner ∷ r.place ∷ r.start ∷ (r.start + r.size) ∷ []

-- ---- rows

-- a number of the i-th of a list
unfoldable pub entry : {A : Type 0} → (A → ℕ) → List A → ℕ → ℕ
entry f [] i = absent
entry f (x ∷ xs) zero = f x
entry f (x ∷ xs) (suc i) = entry f xs i

-- the rows of a list, from `base` on, with room for so many; `width` numbers of each
pub record Rows {A : Type 0} (plan : List ℕ) (base room width : ℕ) (row : A → List ℕ) (xs : List A) : Type 0 where
  pub holds : (i j : ℕ) → i < room → j < width → get_or plan (base + 4 * i + j) 0 ≡ entry (λ x. get_or (row x) j 0) xs i

unfoldable pub before : ℕ → List Method → ℕ
before i [] = 0
before i (x ∷ xs) = pick (ltb x.owner i) (suc (before i xs)) (before i xs)

-- how many methods stand before instance i, of n instances
unfoldable pub first_of : (n : ℕ) → List Method → ℕ → ℕ
first_of n ms i = pick (ltb i n) (before i ms) absent

-- later methods have the same owner or a later one
pub data Sorted : List Method → Type 0 where
  empty : Sorted []
  behind : {x : Method} {xs : List Method} → ((k : ℕ) (y : Method) → get_elem? xs k ≡ some y → x.owner ≤ y.owner) → Sorted xs → Sorted (x ∷ xs)

-- the rows of what was read so far; counts and entries are still absent
pub record Outlines (plan : List ℕ) (xs : List Instance) (ms : List Method) (rs : List Rule) : Type 0 where
  pub full : length plan ≡ size
  pub instance_rows : Rows plan 0 64 3 instance_row xs
  pub firsts : (i : ℕ) → i < 64 → get_or plan (4 * i + 3) 0 ≡ first_of (length xs) ms i
  pub method_rows : Rows plan 256 128 4 method_row ms
  pub rule_rows : Rows plan 768 64 4 rule_row rs

-- ---- what holds of what is read

-- the body of a method, and the kinds of its parameters, are the bytes of the file that the method says
pub record MethodStands (file : List ℕ) (x : Method) : Type 0 where
  pub laid : x.start ≡ x.place + 7 + length x.params
  pub few : length x.params ≤ 4
  pub kinds : (j : ℕ) → j < length x.params → get_or x.params j Kind.void ≡ R.kind_of (get_or file (x.place + 5 + j) 0)
  pub within : x.start + x.size ≤ length file
  pub body : expr (x.start + x.size) (R.at (length file) x.place 7) 16 (take x.size (drop x.start file)) ≡ got x.body []

-- the guard and the body of a rule are
pub record RuleStands (file : List ℕ) (x : Rule) : Type 0 where
  pub laid : x.start ≡ x.place + 4
  pub within : x.start + x.size ≤ length file
  pub rest : List ℕ
  pub guard : expr (x.start + x.size) (R.at (length file) x.place 7) 16 (take x.size (drop x.start file)) ≡ got x.guard rest
  pub body : expr (x.start + x.size) (R.at (length file) x.place 7) 16 rest ≡ got x.body []

pub record Stands (file : List ℕ) (ms : List Method) (rs : List Rule) : Type 0 where
  pub methods_stand : (k : ℕ) (x : Method) → get_elem? ms k ≡ some x → MethodStands file x
  pub rules_stand : (n : ℕ) (r : Rule) → get_elem? rs n ≡ some r → RuleStands file r
  pub small : length file ≤ 32768

-- a CR has 1 to 4 ports, and a start value is a number of 32 bits
pub record InstanceFits (x : Instance) : Type 0 where
  pub user : is_user x ≡ eqb (ports_of x) 0
  pub few : ports_of x ≤ 4
  pub starts : number (start_word x) ≡ start_value x

-- the limits of a design, and who owns what
pub record Sound (xs : List Instance) (ms : List Method) (rs : List Rule) : Type 0 where
  pub ported : (i : ℕ) (x : Instance) → get_elem? xs i ≡ some x → InstanceFits x
  pub method_owners : (k : ℕ) (x : Method) → get_elem? ms k ≡ some x → x.owner < length xs
  pub rule_owners : (n : ℕ) (r : Rule) → get_elem? rs n ≡ some r → r.owner < length xs
  pub sorted : Sorted ms
  pub few_instances : length xs ≤ 64
  pub few_methods : length ms ≤ 128
  pub few_rules : length rs ≤ 64

-- each entry of the schedule names one of the rules
pub record Scheduled (rules : ℕ) (ns : List ℕ) : Type 0 where
  pub few : length ns ≤ 64
  pub named : (j : ℕ) → j < length ns → get_or ns j 0 < rules

-- ---- a design and its plan

pub record Plans (plan : List ℕ) (D : Design) : Type 0 where
  pub outlines : Outlines plan D.instances (methods D.bodies) (rules D.bodies)
  pub instances : get_or plan 1024 0 ≡ length D.instances
  pub methods_counted : get_or plan 1025 0 ≡ length (methods D.bodies)
  pub rules_counted : get_or plan 1026 0 ≡ length (rules D.bodies)
  pub scheduled : get_or plan 1027 0 ≡ length D.schedule
  pub entries : (j : ℕ) → j < 64 → get_or plan (1028 + j) 0 ≡ entry (λ n. n) D.schedule j
  pub sound : Sound D.instances (methods D.bodies) (rules D.bodies)
  pub schedule : Scheduled (length (rules D.bodies)) D.schedule

-- A design at hand: its plan, and the file that has its bodies.
pub record World (file plan : List ℕ) (D : Design) : Type 0 where
  pub plans : Plans plan D
  pub stands : Stands file (methods D.bodies) (rules D.bodies)
