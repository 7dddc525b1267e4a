-- What the functions ensure that read the fields of a record.
use Rattle.std.specs.Prelude.{ℕ, ◌+◌, ◌≤◌, ◌<◌, ◌^◌, ◌≡◌, List, [], length, drop, Option, Some, None, Result, Ok, Err}
use Rattle.design.specs.declared.Fault.{Fault}
use Rattle.design.specs.declared.fields.Register.{Register}
use Rattle.design.specs.Syntax.{Exprs, Kind, Instance, Method, Rule}
use Rattle.design.specs.Text.{Sees}
use Rattle.design.specs.Take.{Refusal, Read, got, refused, two_bytes, four_bytes}
use Rattle.design.specs.Grammar as G
use Rattle.design.specs.Records as R
use Rattle.design.specs.Answers.{fault_number}
use Rattle.design.specs.Plan.{ports_of, start_word, shape, InstanceFits}

-- a byte of a record, or the fault that the file ends before it
unfoldable pub looked_for : Result (ℕ × ℕ) Fault → Option (ℕ × ℕ)
looked_for (Ok x) = Some x
looked_for (Err f) = None

unfoldable pub CutAlone : Result (ℕ × ℕ) Fault → Type 0
CutAlone (Ok x) = Unit {0}
CutAlone (Err f) = f ≡ Fault.Cut

pub record ByteOrCut (file : List ℕ) (at : ℕ) (x : Result (ℕ × ℕ) Fault) : Type 0 where
  pub sees : Sees file at (looked_for x)
  pub cut : CutAlone x

-- fields that are read by one function
pub data Row : Type 0 where
  ranged : (low high : ℕ) → Row
  two four method rule : Row
  params bodies : (count : ℕ) → Row
  entries : (rules count : ℕ) → Row
  schedule : (rules : ℕ) → Row

abbrev pub Value : Row → Type 0
Value (ranged low high) = ℕ
Value two = ℕ
Value four = ℕ
Value method = Method
Value rule = Rule
Value (params count) = List Kind
Value (bodies count) = Exprs
Value (entries rules count) = List ℕ
Value (schedule rules) = List ℕ

-- how they are read, in a file of `size` bytes, in the record at `place` of the instance `owner`
abbrev pub parse : (r : Row) (size place owner : ℕ) → List ℕ → Read (Value r)
parse (ranged low high) size place owner s = R.field size place low high s
parse two size place owner s = two_bytes (R.at size place 2) s
parse four size place owner s = four_bytes (R.at size place 2) s
parse method size place owner s = R.method_fields size place owner s
parse rule size place owner s = R.rule_fields size place owner s
parse (params count) size place owner s = R.params size place count s
parse (bodies count) size place owner s =
    R.part size place (λ start bytes t. G.exprs (start + bytes) (R.at size place 7) (R.outermost size place start bytes) count t) s
parse (entries rules count) size place owner s = R.entries size place rules [] count s
parse (schedule rules) size place owner s = R.schedule_fields size place rules s

-- the number that a field tells of what was read: a byte in its range, a word, a method's shape, the count of entries
pub record InRange (low high a v : ℕ) : Type 0 where
  pub is : a ≡ v
  pub least : low ≤ v
  pub most : v ≤ high

pub record IsWord (a v : ℕ) : Type 0 where
  pub is : a ≡ v
  pub small : v < 2 ^ 32

pub record IsShape (x : Method) (v : ℕ) : Type 0 where
  pub is : v ≡ shape x
  pub small : v < 128

abbrev pub Shown : (r : Row) → Value r → ℕ → Type 0
Shown (ranged low high) a v = InRange low high a v
Shown two a v = a ≡ v
Shown four a v = IsWord a v
Shown method a v = IsShape a v
Shown rule a v = Unit {0}
Shown (params count) a v = Unit {0}
Shown (bodies count) a v = Unit {0}
Shown (entries rules count) a v = length a ≡ count
Shown (schedule rules) a v = length a ≡ v

-- the refusal of a fault at a place
abbrev pub refusal : Fault → ℕ → Refusal
refusal f place = record { number = fault_number f; place = place }

unfoldable pub Told : (r : Row) → Read (Value r) → (place : ℕ) → List ℕ → Result (ℕ × ℕ) Fault → Type 0
Told r p place file (Ok (v, n)) = (a : Value r) × (p ≡ got a (drop n file)) × Shown r a v
Told r p place file (Err f) = p ≡ refused (refusal f place)

unfoldable pub Within : List ℕ → ℕ → Result (ℕ × ℕ) Fault → Type 0
Within file at (Ok (v, n)) = (at ≤ n) × (n ≤ length file)
Within file at (Err f) = Unit {0}

-- a field that tells no number, by where the next one stands
abbrev pub placed : Result ℕ Fault → Result (ℕ × ℕ) Fault
placed (Ok n) = Ok (0, n)
placed (Err f) = Err f

pub record Tells (r : Row) (file : List ℕ) (at : ℕ) (x : Result (ℕ × ℕ) Fault) : Type 0 where
  pub told : (place owner : ℕ) → Told r (parse r (length file) place owner (drop at file)) place file x
  pub within : Within file at x

-- ---- an instance

unfoldable pub ToldInstance : Read Instance → (place : ℕ) → List ℕ → Result Register Fault → Type 0
ToldInstance p place file (Ok r) = (x : Instance) × (p ≡ got x (drop r.next file)) × (ports_of x ≡ r.ports) × (start_word x ≡ r.word) × InstanceFits x
ToldInstance p place file (Err f) = p ≡ refused (refusal f place)

unfoldable pub WithinInstance : List ℕ → ℕ → Result Register Fault → Type 0
WithinInstance file at (Ok r) = (at ≤ r.next) × (r.next ≤ length file)
WithinInstance file at (Err f) = Unit {0}

-- as many ports as a row has room for
unfoldable pub Small : Result Register Fault → Type 0
Small (Ok r) = r.ports ≤ 4
Small (Err f) = Unit {0}

pub record TellsInstance (m : R.Mark) (file : List ℕ) (at : ℕ) (x : Result Register Fault) : Type 0 where
  pub told : (place : ℕ) → ToldInstance (R.instance_fields (length file) place m (drop at file)) place file x
  pub within : WithinInstance file at x
  pub small : Small x
