-- The answer of reading a whole file, and its plan: one law for each way in which `plan_of` returns.
use Prim.Native.Nat.{ℕ, ◌+◌, ◌*◌, ◌≤◌, ◌<◌}
use mathlib.Core.Path.{◌≡◌, refl, ap, sym, ◌∙◌}
use mathlib.Core.Bool.{Bool, true, false, true≢false}
use mathlib.Core.List.{List, [], ◌∷◌}
use mathlib.Core.Option.{Option, some, none}
use Rattle.std.specs.Prelude.{Result, Ok, Err}
use native.Mathlib.Omega.{arith}
use lib.Dec.{ltb}
use lib.ListN.{length, take, drop, get_or}
use lib.Seq.{sets, length-sets, get_or-take, get_or-drop}
use borrow.Author.Tests.{le-leb, lt-leb, ltb-true, ltb-false}
use Rattle.design.specs.declared.Fault.{Fault}
use Rattle.design.specs.declared.Refused.{Refused}
use Rattle.design.specs.declared.Planned.{Planned}
use Rattle.design.specs.declared.records.Tally.{Tally}
use Rattle.design.specs.Syntax.{Instance, Body}
use Rattle.design.specs.Records as R
use Rattle.design.specs.Records.{Draft, reading, records, empty, methods, rules, closed, is_closed}
use Rattle.design.specs.Fields.{refusal}
use Rattle.design.specs.Plan.{entry, Outlines, Scheduled, World}
use Rattle.design.specs.Steps.{ScheduleRead, Holds, Schedules}
use Rattle.design.proofs.Table.{sets_before, sets_behind, sets_in, rows_same, entry_at, entry_past}
use Rattle.design.specs.Answers.{fault_number, answered, summary}
use Rattle.design.specs.Reads.{Filling, Fills, counted, PlanOf, Bounded, ReadsAs, Answers}

small : (file : List ℕ) → length file ≤ 32768 → reading file ≡ records (length file) empty 0 file
unfolding reading
small file h = rw (le-leb (length file) 32768 h, reading)

-- a refused file
refused_file : {file : List ℕ} (r : Refused) → r.place ≤ 32768 → reading file ≡ R.refusal (refusal r.fault r.place) → ReadsAs file (Err r)
unfolding answered counted summary PlanOf Bounded
refused_file r b e = record { answer = rw e; plan = rw e tt; bounded = b }

module _ {file : List ℕ} where
  pub long : 32768 < length file → ReadsAs file (Err (record { fault = Fault.Long; place = 0 }))
  unfolding reading fault_number
  long h = refused_file (record { fault = Fault.Long; place = 0 }) (omega arith) (rw (lt-leb (length file) 32768 h, reading))

  module _ {plan : List ℕ} (h : length file ≤ 32768) where
    pub no : {r : Refused} → Fills file plan (Err r) → ReadsAs file (Err r)
    unfolding Filling
    no {r} s = let g = s.fills in refused_file r g.1 (small file h ∙ g.0)

    pub unended : {t : Tally} → Fills file plan (Ok t) → t.closed ≡ false → ReadsAs file (Err (record { fault = Fault.Unended; place = length file }))
    unfolding Filling fault_number closed is_closed
    unended {t} s q =
        let g = s.fills in
        refused_file (record { fault = Fault.Unended; place = length file }) h (small file h ∙ g.2 ∙ open_still _ _ g.0.schedule (sym g.1.tallied.closed ∙ q))
      where
        open_still : (xs : List Instance) (bs : List Body) (o : Option (List ℕ)) → is_closed o ≡ false → closed (length file) xs bs o ≡ R.refusal (refusal Fault.Unended (length file))
        open_still xs bs none z = refl
        open_still xs bs (some ns) z = absurd (true≢false z)

-- ---- the counts and the entries of the schedule

-- a plan to which they are put, behind all rows
module _ {file plan plan₁ plan₂ : List ℕ} {D : Draft} {t : Tally} (h : Holds file plan D t)
    (c : plan₁ ≡ sets plan 1024 (t.instances ∷ t.methods ∷ t.rules ∷ t.scheduled ∷ [])) (s : Schedules file t.schedule t.scheduled plan₁ plan₂) where
  abbrev counts : List ℕ
  counts = t.instances ∷ t.methods ∷ t.rules ∷ t.scheduled ∷ []

  full_1 : length plan₁ ≡ 1092
  full_1 = ap length c ∙ length-sets plan 1024 counts ∙ h.outlines.full

  row_number : (i : ℕ) → i < 1024 → get_or plan₂ i 0 ≡ get_or plan i 0
  row_number i l = s.before i (omega arith) ∙ ap (λ p. get_or p i 0) c ∙ sets_before counts plan 1024 i l

  count_number : (j : ℕ) → j < 4 → get_or plan₂ (1024 + j) 0 ≡ get_or counts j 0
  count_number j l = s.before (1024 + j) (omega arith) ∙ ap (λ p. get_or p (1024 + j) 0) c ∙ sets_in counts plan 1024 j l (omega (arith, h.outlines.full))

  rest_number : (j : ℕ) → t.scheduled ≤ j → j < 64 → get_or plan₂ (1028 + j) 0 ≡ 65535
  rest_number j l m = s.behind (1028 + j) (omega arith) ∙ ap (λ p. get_or p (1028 + j) 0) c ∙ sets_behind counts plan 1024 (1028 + j) (omega arith) ∙ h.blank (1028 + j) (omega arith) (omega arith)

  still : Outlines plan₂ D.instances (methods D.bodies) (rules D.bodies)
  still =
      let o = h.outlines in
      record {
        full = s.full ∙ full_1;
        instance_rows = rows_same plan₂ o.instance_rows (λ i j l m. row_number (0 + 4 * i + j) (omega arith));
        firsts = λ i l. row_number (4 * i + 3) (omega arith) ∙ o.firsts i l;
        method_rows = rows_same plan₂ o.method_rows (λ i j l m. row_number (256 + 4 * i + j) (omega arith));
        rule_rows = rows_same plan₂ o.rule_rows (λ i j l m. row_number (768 + 4 * i + j) (omega arith));
      }

  entries : (ns : List ℕ) → ns ≡ take t.scheduled (drop t.schedule file) → length ns ≡ t.scheduled → (j : ℕ) → j < 64 → get_or plan₂ (1028 + j) 0 ≡ entry (λ n. n) ns j
  entries ns e l j m = go (ltb j t.scheduled) refl
    where
      go : (b : Bool) → ltb j t.scheduled ≡ b → get_or plan₂ (1028 + j) 0 ≡ entry (λ n. n) ns j
      go true q =
          let k = ltb-true j t.scheduled q in
          s.entries j k ∙ sym (ap (λ (xs : List ℕ). get_or xs j 0) e ∙ get_or-take t.scheduled (drop t.schedule file) j 0 k ∙ get_or-drop t.schedule file j 0) ∙ sym (entry_at ns j (omega arith))
      go false q = rest_number j (ltb-false j t.scheduled q) m ∙ sym (entry_past (λ n. n) ns j (omega (arith, ltb-false j t.scheduled q)))

  pub planned : (ns : List ℕ) → ns ≡ take t.scheduled (drop t.schedule file) → length ns ≡ t.scheduled → Scheduled t.rules ns →
      World file plan₂ (record { instances = D.instances; bodies = D.bodies; schedule = ns })
  planned ns e l n = record {
    plans = record {
      outlines = still;
      instances = count_number 0 (omega arith) ∙ h.tallied.instances;
      methods_counted = count_number 1 (omega arith) ∙ h.tallied.methods_read;
      rules_counted = count_number 2 (omega arith) ∙ h.tallied.rules_read;
      scheduled = count_number 3 (omega arith) ∙ sym l;
      entries = entries ns e l;
      sound = h.sound;
      schedule = record { few = n.few; named = λ j m. omega (arith, h.tallied.rules_read, n.named j m) };
    };
    stands = h.stands;
  }

module _ {file plan : List ℕ} {t : Tally} (s : Fills file plan (Ok t)) (q : t.closed ≡ true) where
  -- what the counts and the entries need
  counts_few : (length plan ≡ 1092) × (t.instances ≤ 64) × (t.methods ≤ 128) × (t.rules ≤ 64) × (t.scheduled ≤ 64) × (t.schedule + t.scheduled ≤ length file)
  unfolding Filling is_closed ScheduleRead
  counts_few = let g = s.fills in go g.0 g.0.schedule g.1 (sym g.1.tallied.closed ∙ q) refl
    where
      go : (D : Draft) (o : Option (List ℕ)) → Holds file plan D t → is_closed o ≡ true → D.schedule ≡ o →
          (length plan ≡ 1092) × (t.instances ≤ 64) × (t.methods ≤ 128) × (t.rules ≤ 64) × (t.scheduled ≤ 64) × (t.schedule + t.scheduled ≤ length file)
      go D none w z p = absurd (true≢false (sym z))
      go D (some ns) w z p =
          let s = rw p at w.schedule_read in
          (w.outlines.full, omega (arith, w.tallied.instances, w.sound.few_instances), omega (arith, w.tallied.methods_read, w.sound.few_methods), omega (arith, w.tallied.rules_read, w.sound.few_rules), omega (arith, s.1, s.2.few), omega (arith, s.3, w.within))

  pub few_counts : (t.instances ≤ 64) × (t.methods ≤ 128) × (t.rules ≤ 64) × (t.scheduled ≤ 64)
  few_counts = let n = counts_few in (n.1, n.2, n.3, n.4)

  pub few_entries : t.scheduled ≤ 64
  few_entries = (counts_few).4

  pub entries_within : t.schedule + t.scheduled ≤ length file
  entries_within = (counts_few).5

  pub done : {plan₁ plan₂ : List ℕ} → length file ≤ 32768 →
      plan₁ ≡ sets plan 1024 (t.instances ∷ t.methods ∷ t.rules ∷ t.scheduled ∷ []) → Schedules file t.schedule t.scheduled plan₁ plan₂ →
      ReadsAs file (Ok (record {
        counts = record { instances = t.instances; methods = t.methods; rules = t.rules; scheduled = t.scheduled };
        plan = plan₂;
      }))
  unfolding Filling closed is_closed ScheduleRead answered counted summary PlanOf Bounded
  done {plan₂ = plan₂} h c k =
      let g = s.fills in
      go g.0 g.0.schedule g.1 (sym g.1.tallied.closed ∙ q) refl (small file h ∙ g.2)
    where
      go : (D : Draft) (o : Option (List ℕ)) → Holds file plan D t → is_closed o ≡ true → D.schedule ≡ o →
          reading file ≡ closed (length file) D.instances D.bodies D.schedule → ReadsAs file (Ok (record {
            counts = record { instances = t.instances; methods = t.methods; rules = t.rules; scheduled = t.scheduled };
            plan = plan₂;
          }))
      go D none w z p f = absurd (true≢false (sym z))
      go D (some ns) w z p f =
          let d = f ∙ ap (closed (length file) D.instances D.bodies) p in
          let s = rw p at w.schedule_read in
          record {
            answer = rw (d, ← w.tallied.instances, ← w.tallied.methods_read, ← w.tallied.rules_read, s.1) refl;
            plan = rw d (planned w c k ns s.0 s.1 s.2);
            bounded = (omega (arith, w.tallied.instances, w.sound.few_instances), omega (arith, w.tallied.methods_read, w.sound.few_methods), omega (arith, w.tallied.rules_read, w.sound.few_rules), omega (arith, s.1, s.2.few));
          }

-- the same without the plan
pub answers : {file : List ℕ} (r : Result Planned Refused) → ReadsAs file r → Answers file (counted r)
answers r h = record { answer = h.answer; bounded = h.bounded }
