-- "The design file": records to a design, or to the first refusal in the order of "Numbers handed back".
use Rattle.std.specs.Prelude.{ℕ, zero, suc, ◌+◌, ◌-◌, Bool, true, false, ◌&&◌, ◌||◌, not, List, [], ◌∷◌, ◌++◌, ltb, leb, eqb, length, take, drop}
use Rattle.std.proofs.Math.Option.{Option, some, none}
use Rattle.words.specs.Words.{number as signed}
use Rattle.design.specs.Syntax.{Expr, Kind, Role, Instance, Method, Rule, Body, Design}
use Rattle.design.specs.Take.{Refusal, Read, got, refused, bind, needs, pick, byte, two_bytes, four_bytes}
use Rattle.design.specs.Grammar.{expr, depth}

-- what has been read so far; the schedule is there once SC was read
pub record Draft : Type 0 where
  pub instances : List Instance
  pub bodies : List Body
  pub schedule : Option (List ℕ)

unfoldable pub empty : Draft
empty = record { instances = []; bodies = []; schedule = none }

-- methods and rules, each in file order
unfoldable pub methods : List Body → List Method
methods [] = []
methods (Body.method x ∷ bs) = x ∷ methods bs
methods (Body.rule r ∷ bs) = methods bs

unfoldable pub rules : List Body → List Rule
rules [] = []
rules (Body.method x ∷ bs) = rules bs
rules (Body.rule r ∷ bs) = r ∷ rules bs

-- the latest instance is a UM; where there is none, it is none
unfoldable pub is_user : Instance → Bool
is_user (Instance.register p z) = false
is_user (Instance.concurrent p n z) = false
is_user (Instance.user p) = true

unfoldable pub latest_is_user : List Instance → Bool
latest_is_user [] = false
latest_is_user (x ∷ []) = is_user x
latest_is_user (x ∷ y ∷ xs) = latest_is_user (y ∷ xs)

unfoldable pub with_instance : Draft → Instance → Draft
with_instance D x = record { instances = D.instances ++ (x ∷ []); bodies = D.bodies; schedule = D.schedule }

unfoldable pub with_body : Draft → Body → Draft
with_body D b = record { instances = D.instances; bodies = D.bodies ++ (b ∷ []); schedule = D.schedule }

unfoldable pub with_schedule : Draft → List ℕ → Draft
with_schedule D ns = record { instances = D.instances; bodies = D.bodies; schedule = some ns }

unfoldable pub is_closed : Option (List ℕ) → Bool
is_closed none = false
is_closed (some ns) = true

unfoldable pub is_empty : List ℕ → Bool
is_empty [] = true
is_empty (b ∷ s) = false

unfoldable pub among : ℕ → List ℕ → Bool
among n [] = false
among n (m ∷ ms) = eqb n m || among n ms

-- ---- the fields of a record, left to right, "each field its own 2 first"

pub data Mark : Type 0 where
  RG CR UM MD RL SC unknown : Mark

-- two bytes in ASCII: C 67, D 68, G 71, L 76, M 77, R 82, S 83, U 85
unfoldable pub mark_of : ℕ → ℕ → Mark
mark_of a b =
    pick (eqb a 82 && eqb b 71) RG (pick (eqb a 67 && eqb b 82) CR (pick (eqb a 85 && eqb b 77) UM
    (pick (eqb a 77 && eqb b 68) MD (pick (eqb a 82 && eqb b 76) RL (pick (eqb a 83 && eqb b 67) SC unknown)))))

-- "kind (0 V, 1 A, 2 AV)"; "result (0 Void, 1 Num, 2 Bool)", and so a parameter's kind
unfoldable pub role_of : ℕ → Role
role_of k = pick (eqb k 0) Role.value (pick (eqb k 1) Role.action Role.action_value)

unfoldable pub kind_of : ℕ → Kind
kind_of k = pick (eqb k 0) Kind.void (pick (eqb k 1) Kind.num Kind.bool)

-- "Kind A has result Void; V and AV have Num or Bool"
unfoldable pub agree : ℕ → ℕ → Bool
agree kind result = pick (eqb kind 1) (eqb result 0) (leb 1 result)

-- `size` is the file's length, and `place` the offset of the record's mark
module _ (size place : ℕ) where
  abbrev pub at : ℕ → Refusal
  at n = record { number = n; place = place }

  -- a field of one byte: "each field its own 2 first", then 6 where it is out of its range
  unfoldable pub field : (low high : ℕ) → List ℕ → Read ℕ
  field low high s = bind (byte (at 2) s) (λ b r. needs (leb low b && leb b high) (at 6) (got b r))

  -- "one kind byte (1 or 2) each"
  unfoldable pub params : ℕ → List ℕ → Read (List Kind)
  params zero s = got [] s
  params (suc n) s = bind (field 1 2 s) (λ k r. bind (params n r) (λ ks q. got (kind_of k ∷ ks) q))

  -- a length of two bytes, and so many bytes that `inner` reads, knowing where they start and how many they are:
  -- "A body that runs past the file is 2"; "a body that is not exactly its expressions" is 7
  unfoldable pub part : {A : Type 0} → ((start count : ℕ) → List ℕ → Read A) → List ℕ → Read A
  part inner s = bind (two_bytes (at 2) s) (λ n r. needs (leb n (length r)) (at 2)
      (bind (inner (size - length r) n (take n r)) (λ a q. needs (is_empty q) (at 7) (got a (drop n r)))))

  -- an expression of a body that starts at `start` and has `count` bytes
  unfoldable pub outermost : (start count : ℕ) → List ℕ → Read Expr
  outermost start count = expr (start + count) (at 7) depth

  -- "RG: start value, 4 bytes signed"
  unfoldable pub register_fields : List ℕ → Read Instance
  register_fields s = bind (four_bytes (at 2) s) (λ w r. got (Instance.register place (signed w)) r)

  -- "CR: ports, 1 byte (1 to 4); start value, 4 bytes signed"
  unfoldable pub concurrent_fields : List ℕ → Read Instance
  concurrent_fields s = bind (field 1 4 s) (λ p r. bind (four_bytes (at 2) r) (λ w q.
      got (Instance.concurrent place p (signed w)) q))

  -- "MD: kind; result; parameter count 0 to 4; one kind byte each; body length, 2 bytes; body";
  -- "kind with result when the result is read"
  unfoldable pub method_fields : (owner : ℕ) → List ℕ → Read Method
  method_fields owner s =
      bind (field 0 2 s) (λ k s1. bind (field 0 2 s1) (λ z s2. needs (agree k z) (at 6) (
      bind (field 0 4 s2) (λ n s3. bind (params n s3) (λ ks s4.
      part (λ start count t. bind (outermost start count t) (λ e q. got (record {
        owner = owner;
        place = place;
        role = role_of k;
        result = kind_of z;
        params = ks;
        start = start;
        size = count;
        body = e;
      }) q))
      s4)))))

  -- "RL: length, 2 bytes; the guard, then the body, in that length"
  unfoldable pub rule_fields : (owner : ℕ) → List ℕ → Read Rule
  rule_fields owner s =
      part (λ start count t. bind (outermost start count t) (λ g r. bind (outermost start count r) (λ e q. got (record {
        owner = owner;
        place = place;
        start = start;
        size = count;
        guard = g;
        body = e;
      }) q)))
      s

  -- "8: schedule names a missing rule, or one twice"; `seen` are the entries before
  unfoldable pub entries : (rules : ℕ) → (seen : List ℕ) → ℕ → List ℕ → Read (List ℕ)
  entries rules seen zero s = got seen s
  entries rules seen (suc n) s = bind (byte (at 2) s) (λ r q. needs (ltb r rules && not (among r seen)) (at 8)
      (entries rules (seen ++ (r ∷ [])) n q))

  -- "SC: count 0 to 64; that many rule numbers, 1 byte each"
  unfoldable pub schedule_fields : (rules : ℕ) → List ℕ → Read (List ℕ)
  schedule_fields rules s = bind (field 0 64 s) (λ n r. entries rules [] n r)

  -- ---- a record, by its mark: 3, 4, 5, then the fields

  unfoldable pub instance_fields : Mark → List ℕ → Read Instance
  instance_fields RG s = register_fields s
  instance_fields CR s = concurrent_fields s
  instance_fields UM s = got (Instance.user place) s
  instance_fields MD s = refused (at 3)
  instance_fields RL s = refused (at 3)
  instance_fields SC s = refused (at 3)
  instance_fields unknown s = refused (at 3)

  unfoldable pub instance_record : Draft → Mark → List ℕ → Read Draft
  instance_record D m s = needs (ltb (length D.instances) 64) (at 5) (bind (instance_fields m s) (λ x r. got (with_instance D x) r))

  unfoldable pub method_record : Draft → List ℕ → Read Draft
  method_record D s = needs (latest_is_user D.instances) (at 4) (needs (ltb (length (methods D.bodies)) 128) (at 5)
      (bind (method_fields (length D.instances - 1) s) (λ x r. got (with_body D (Body.method x)) r)))

  unfoldable pub rule_record : Draft → List ℕ → Read Draft
  rule_record D s = needs (latest_is_user D.instances) (at 4) (needs (ltb (length (rules D.bodies)) 64) (at 5)
      (bind (rule_fields (length D.instances - 1) s) (λ x r. got (with_body D (Body.rule x)) r)))

  unfoldable pub schedule_record : Draft → List ℕ → Read Draft
  schedule_record D s = bind (schedule_fields (length (rules D.bodies)) s) (λ ns r. got (with_schedule D ns) r)

  unfoldable pub after_mark : Draft → Mark → List ℕ → Read Draft
  after_mark D RG s = instance_record D RG s
  after_mark D CR s = instance_record D CR s
  after_mark D UM s = instance_record D UM s
  after_mark D MD s = method_record D s
  after_mark D RL s = rule_record D s
  after_mark D SC s = schedule_record D s
  after_mark D unknown s = refused (at 3)

  -- "4: any byte after SC"; else "2 for the mark" comes first
  unfoldable pub one_record : Draft → List ℕ → Read Draft
  one_record D s = needs (not (is_closed D.schedule)) (at 4) (bind (byte (at 2) s) (λ a r. bind (byte (at 2) r) (λ b q. after_mark D (mark_of a b) q)))

-- ---- the file

pub data Reading : Type 0 where
  design : Design → Reading
  refusal : Refusal → Reading

-- "9: the file ends without SC"
unfoldable pub closed : (size : ℕ) → List Instance → List Body → Option (List ℕ) → Reading
closed size xs bs none = refusal (record { number = 9; place = size })
closed size xs bs (some ns) = design (record { instances = xs; bodies = bs; schedule = ns })

-- "Records stand back to back". By recursion on the bytes: `inside` of them still belong to the record before, and are passed over.
unfoldable pub records : (size : ℕ) → Draft → (inside : ℕ) → List ℕ → Reading
records size D inside [] = closed size D.instances D.bodies D.schedule
records size D (suc n) (b ∷ s) = records size D n s
records size D zero (b ∷ s) =
    elim (one_record size (size - suc (length s)) D (b ∷ s)) [
      | got D1 rest ↦ records size D1 (length s - length rest) s
      | refused why ↦ refusal why
    ]

-- "Number 1 comes first"
unfoldable pub reading : List ℕ → Reading
reading file =
    elim (leb (length file) 32768) [
      | true ↦ records (length file) empty 0 file
      | false ↦ refusal (record { number = 1; place = 0 })
    ]
