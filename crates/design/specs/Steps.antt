-- What the functions ensure that read one record.
use Rattle.std.specs.Prelude.{ℕ, ◌+◌, ◌-◌, ◌≤◌, ◌<◌, ◌≡◌, true, false, List, eqb, length, take, drop, get_or, Option as Maybe, Some, None, Result, Ok, Err}
use Rattle.std.specs.Bool.{then_some}
use Rattle.std.proofs.Math.Option.{Option, some, none}
use Rattle.design.specs.declared.records.Mark.{Mark}
use Rattle.design.specs.declared.records.Tally.{Tally}
use Rattle.design.specs.declared.Fault.{Fault}
use Rattle.design.specs.Syntax.{Instance}
use Rattle.design.specs.Take.{Read, got, refused}
use Rattle.design.specs.Records as R
use Rattle.design.specs.Records.{Draft, methods, rules}
use Rattle.design.specs.declared.fields.Register.{Register}
use Rattle.design.specs.Fields.{refusal, TellsInstance}
use Rattle.design.specs.Plan.{absent, size, Outlines, Stands, Sound, Scheduled}

unfoldable pub mark_name : Maybe Mark → R.Mark
mark_name (Some Mark.Register) = R.RG
mark_name (Some Mark.Concurrent) = R.CR
mark_name (Some Mark.User) = R.UM
mark_name (Some Mark.Method) = R.MD
mark_name (Some Mark.Rule) = R.RL
mark_name (Some Mark.Schedule) = R.SC
mark_name None = R.unknown

-- what the plan's numbers need: that they are small
pub record Ready (t : Tally) : Type 0 where
  pub place : t.at ≤ 32768
  pub few_methods : t.methods ≤ 128
  pub owner : (n : ℕ) → t.owner ≡ Some n → n ≤ 64

-- ---- the tally after one record more

unfoldable pub with_instance : Tally → (ports next : ℕ) → Tally
with_instance t ports next = record {
  at = next;
  instances = t.instances + 1;
  methods = t.methods;
  rules = t.rules;
  owner = then_some (eqb ports 0) t.instances;
  closed = t.closed;
  schedule = t.schedule;
  scheduled = t.scheduled;
}

unfoldable pub with_method : Tally → (next : ℕ) → Tally
with_method t next = record {
  at = next;
  instances = t.instances;
  methods = t.methods + 1;
  rules = t.rules;
  owner = t.owner;
  closed = t.closed;
  schedule = t.schedule;
  scheduled = t.scheduled;
}

unfoldable pub with_rule : Tally → (next : ℕ) → Tally
with_rule t next = record {
  at = next;
  instances = t.instances;
  methods = t.methods;
  rules = t.rules + 1;
  owner = t.owner;
  closed = t.closed;
  schedule = t.schedule;
  scheduled = t.scheduled;
}

unfoldable pub with_schedule : Tally → (start count next : ℕ) → Tally
with_schedule t start count next = record {
  at = next;
  instances = t.instances;
  methods = t.methods;
  rules = t.rules;
  owner = t.owner;
  closed = true;
  schedule = start;
  scheduled = count;
}

-- ---- what a tally and a plan have to do with what was read

-- the latest instance, where that is a UM
unfoldable pub Owns : Maybe ℕ → List Instance → Type 0
Owns (Some n) xs = (R.latest_is_user xs ≡ true) × (n ≡ length xs - 1)
Owns None xs = R.latest_is_user xs ≡ false

pub record Tallied (t : Tally) (D : Draft) : Type 0 where
  pub instances : t.instances ≡ length D.instances
  pub methods_read : t.methods ≡ length (methods D.bodies)
  pub rules_read : t.rules ≡ length (rules D.bodies)
  pub owner : Owns t.owner D.instances
  pub closed : t.closed ≡ R.is_closed D.schedule

-- SC is the last record ("4: any byte after SC"), so once it was read, the place reached is behind its entries
unfoldable pub ScheduleRead : List ℕ → Tally → Option (List ℕ) → Type 0
ScheduleRead file t none = Unit {0}
ScheduleRead file t (some ns) =
    (ns ≡ take t.scheduled (drop t.schedule file)) × (length ns ≡ t.scheduled) × Scheduled t.rules ns × (t.schedule + t.scheduled ≡ t.at)

pub record Holds (file plan : List ℕ) (D : Draft) (t : Tally) : Type 0 where
  pub tallied : Tallied t D
  pub outlines : Outlines plan D.instances (methods D.bodies) (rules D.bodies)
  pub blank : (j : ℕ) → 1024 ≤ j → j < size → get_or plan j 0 ≡ absent
  pub stands : Stands file (methods D.bodies) (rules D.bodies)
  pub sound : Sound D.instances (methods D.bodies) (rules D.bodies)
  pub schedule_read : ScheduleRead file t D.schedule
  pub within : t.at ≤ length file

-- the record that was begun at the tally's place is read, or refused
unfoldable pub Advanced : Read Draft → (file plan : List ℕ) → Tally → Result Tally Fault → Type 0
Advanced p file plan t (Ok u) = (E : Draft) × (p ≡ got E (drop u.at file)) × Holds file plan E u × (t.at < u.at)
Advanced p file plan t (Err f) = p ≡ refused (refusal f t.at)

-- the two bytes of a mark stand before `at`, and SC was not read before
pub record Marked (m : R.Mark) (file : List ℕ) (t : Tally) (at : ℕ) : Type 0 where
  pub unclosed : t.closed ≡ false
  pub behind : at ≡ t.at + 2
  pub within : at ≤ length file
  pub mark : R.mark_of (get_or file t.at 0) (get_or file (t.at + 1) 0) ≡ m

pub record Continues (m : R.Mark) (file plan : List ℕ) (t : Tally) (at : ℕ) (plan₁ : List ℕ) (r : Result Tally Fault) : Type 0 where
  pub continues : (D : Draft) → Holds file plan D t → Marked m file t at →
      Advanced (R.after_mark (length file) t.at D m (drop at file)) file plan₁ t r

-- the marks of instances
pub data InstanceMark : R.Mark → Type 0 where
  rg : InstanceMark R.RG
  cr : InstanceMark R.CR
  um : InstanceMark R.UM

pub record Adds (plan : List ℕ) (t : Tally) (fields : Result Register Fault) (plan₁ : List ℕ) (r : Result Tally Fault) : Type 0 where
  pub adds : (m : R.Mark) (file : List ℕ) (at : ℕ) → InstanceMark m → TellsInstance m file at fields → Continues m file plan t at plan₁ r

pub record Advances (file plan : List ℕ) (t : Tally) (plan₁ : List ℕ) (r : Result Tally Fault) : Type 0 where
  pub advances : (D : Draft) → Holds file plan D t → Advanced (R.one_record (length file) t.at D (drop t.at file)) file plan₁ t r

-- so many entries of the schedule, from a place of the file on, stand in the plan; nothing else has changed
pub record Schedules (file : List ℕ) (start count : ℕ) (plan plan₁ : List ℕ) : Type 0 where
  pub full : length plan₁ ≡ length plan
  pub entries : (j : ℕ) → j < count → get_or plan₁ (1028 + j) 0 ≡ get_or file (start + j) 0
  pub before : (j : ℕ) → j < 1028 → get_or plan₁ j 0 ≡ get_or plan j 0
  pub behind : (j : ℕ) → 1028 + count ≤ j → get_or plan₁ j 0 ≡ get_or plan j 0
