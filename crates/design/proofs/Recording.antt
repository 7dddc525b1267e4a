-- What is held of a draft, a tally and a plan is held of one record more: an instance, a method, a rule, and the schedule.
use Prim.Native.Nat.{ℕ, zero, suc, ◌+◌, ◌*◌, ◌-◌, ◌/◌, ◌%◌, ◌≤◌, ◌<◌}
use mathlib.Core.Path.{◌≡◌, refl, ap, sym, ◌∙◌}
use mathlib.Core.Bool.{Bool, true, false, true≢false}
use mathlib.Core.List.{List, [], ◌∷◌, ◌++◌}
use mathlib.Core.Option.{Option, some, none}
use native.Mathlib.Decide.{ℕ_discrete}
use native.Mathlib.Omega.{arith}
use lib.Dec.{ltb, eqb}
use lib.ListN.{length, take, drop, get_or}
use lib.Seq.{sets, length-sets}
use borrow.Author.Tests.{ltb-true, ltb-false}
use Rattle.design.specs.declared.records.Tally.{Tally}
use Rattle.design.specs.Syntax.{Instance, Method, Rule, Body}
use Rattle.design.specs.Records as R
use Rattle.design.specs.Records.{Draft, methods, rules}
use Rattle.design.specs.Plan.{ports_of, start_word, instance_row, method_row, rule_row, first_of, Outlines, MethodStands, RuleStands, Stands, InstanceFits, Sound, Scheduled}
use Rattle.std.specs.Bool.{then_some}
use Rattle.design.specs.Steps.{Ready, Owns, with_instance, with_method, with_rule, with_schedule, ScheduleRead, Holds}
use Rattle.design.proofs.Table.{longer, each_more, sets_before, sets_behind, sets_in, rows_add, rows_above, rows_below, methods_method, methods_rule, rules_method, rules_rule, latest, sorted_more, before_all, first_other, first_new, first_more}

-- what is held gives what the plan's numbers need
pub ready : {file plan : List ℕ} {D : Draft} {t : Tally} → Holds file plan D t → Ready t
unfolding Owns
ready h = record {
  place = omega (arith, h.within, h.stands.small);
  few_methods = omega (arith, h.tallied.methods_read, h.sound.few_methods);
  owner = λ n e. let w = rw e at h.tallied.owner in omega (arith, w.1, h.sound.few_instances);
}

owns : (b : Bool) (xs : List Instance) (n : ℕ) → R.latest_is_user xs ≡ b → n ≡ length xs - 1 → Owns (then_some b n) xs
unfolding Owns
owns true xs n u l = (u, l)
owns false xs n u l = u

-- before SC there is nothing to say of the schedule
still_open : (file : List ℕ) (t : Tally) (o : Option (List ℕ)) → R.is_closed o ≡ false → ScheduleRead file t o
unfolding R.is_closed ScheduleRead
still_open file t none e = tt
still_open file t (some ns) e = absurd (true≢false e)

-- the numbers behind all rows stay
still_blank : (plan : List ℕ) (at : ℕ) (vs : List ℕ) → ((j : ℕ) → 1024 ≤ j → j < 1092 → get_or plan j 0 ≡ 65535) → length vs ≡ 4 → at + 4 ≤ 1024 →
    (j : ℕ) → 1024 ≤ j → j < 1092 → get_or (sets plan at vs) j 0 ≡ 65535
still_blank plan at vs h four l j p q = sets_behind vs plan at j (omega arith) ∙ h j p q

-- ---- one instance more

module _ {file plan : List ℕ} {D : Draft} {t : Tally} (h : Holds file plan D t) (ports word : ℕ) where
  abbrev row : List ℕ
  row = ports ∷ (word % 65536) ∷ (word / 65536) ∷ t.methods ∷ []

  firsts_instance : t.instances < 64 → (i : ℕ) → i < 64 → Dec (i ≡ length D.instances) →
      get_or (sets plan (4 * t.instances) row) (4 * i + 3) 0 ≡ first_of (length D.instances + 1) (methods D.bodies) i
  firsts_instance few i l (yes e) =
      let n = h.tallied.instances in
      let w : 4 * i + 3 ≡ 4 * t.instances + 3 = omega arith in
      ap (λ k. get_or (sets plan (4 * t.instances) row) k 0) w ∙ sets_in row plan (4 * t.instances) 3 (omega arith) (omega (arith, h.outlines.full)) ∙ h.tallied.methods_read
      ∙ sym (before_all (length D.instances) (methods D.bodies) h.sound.method_owners) ∙ sym (first_new (length D.instances) (methods D.bodies))
      ∙ ap (first_of (length D.instances + 1) (methods D.bodies)) (sym e)
  firsts_instance few i l (no ne) = side (ltb i t.instances) refl ∙ h.outlines.firsts i l ∙ sym (first_other (length D.instances) (methods D.bodies) i ne)
    where
      side : (b : Bool) → ltb i t.instances ≡ b → get_or (sets plan (4 * t.instances) row) (4 * i + 3) 0 ≡ get_or plan (4 * i + 3) 0
      side true e = sets_before row plan (4 * t.instances) (4 * i + 3) (omega (arith, ltb-true i t.instances e))
      side false e = sets_behind row plan (4 * t.instances) (4 * i + 3) (omega (arith, ltb-false i t.instances e, h.tallied.instances, ne))

  new_row : (x : Instance) → ports_of x ≡ ports → start_word x ≡ word → (j : ℕ) → j < 3 → get_or row j 0 ≡ get_or (instance_row x) j 0
  unfolding instance_row
  new_row x p q zero l = sym p
  new_row x p q (suc zero) l = ap (λ w. w % 65536) (sym q)
  new_row x p q (suc (suc zero)) l = ap (λ w. w / 65536) (sym q)
  new_row x p q (suc (suc (suc j))) l = absurd (omega arith)

  outlines_instance : (x : Instance) → ports_of x ≡ ports → start_word x ≡ word → t.instances < 64 →
      Outlines (sets plan (4 * t.instances) row) (D.instances ++ (x ∷ [])) (methods D.bodies) (rules D.bodies)
  outlines_instance x p q few =
      let o = h.outlines in
      let n = h.tallied.instances in
      record {
        full = length-sets plan (4 * t.instances) row ∙ o.full;
        instance_rows = rows_add x (4 * t.instances) row o.instance_rows (omega arith) refl (omega arith) (omega (arith, o.full)) (new_row x p q);
        firsts = λ i l. rw (longer D.instances x) (firsts_instance few i l (ℕ_discrete i (length D.instances)));
        method_rows = rows_below (4 * t.instances) row o.method_rows refl (omega arith);
        rule_rows = rows_below (4 * t.instances) row o.rule_rows refl (omega arith);
      }

  sound_instance : (x : Instance) → InstanceFits x → length D.instances < 64 → Sound (D.instances ++ (x ∷ [])) (methods D.bodies) (rules D.bodies)
  sound_instance x p few =
      let s = h.sound in
      let w = longer D.instances x in
      record {
        ported = each_more InstanceFits D.instances x s.ported p;
        method_owners = λ k y e. omega (arith, w, s.method_owners k y e);
        rule_owners = λ k y e. omega (arith, w, s.rule_owners k y e);
        sorted = s.sorted;
        few_instances = omega (arith, w);
        few_methods = s.few_methods;
        few_rules = s.few_rules;
      }

  pub holds_instance : {u : Tally} {plan₁ : List ℕ} → t.closed ≡ false → (next : ℕ) (x : Instance) → ports_of x ≡ ports → start_word x ≡ word → InstanceFits x →
      next ≤ length file → t.instances < 64 → u ≡ with_instance t ports next →
      plan₁ ≡ sets plan (4 * t.instances) row → Holds file plan₁ (R.with_instance D x) u
  unfolding R.with_instance with_instance
  holds_instance unclosed next x p q pt within few e e2 =
      let n = h.tallied.instances in
      rw (e, e2) (record {
        tallied = record {
          instances = ap (λ k. k + 1) n ∙ sym (longer D.instances x);
          methods_read = h.tallied.methods_read;
          rules_read = h.tallied.rules_read;
          owner = owns (eqb ports 0) _ t.instances (latest D.instances x ∙ pt.user ∙ ap (λ c. eqb c 0) p) (omega (arith, longer D.instances x));
          closed = h.tallied.closed;
        };
        outlines = outlines_instance x p q few;
        blank = still_blank plan (4 * t.instances) row h.blank refl (omega arith);
        stands = h.stands;
        sound = sound_instance x pt (omega arith);
        schedule_read = still_open file _ D.schedule (sym h.tallied.closed ∙ unclosed);
        within = within;
      })

-- ---- one method more

module _ {file plan : List ℕ} {D : Draft} {t : Tally} (h : Holds file plan D t) where
  outlines_method : (x : Method) (vs : List ℕ) → vs ≡ method_row x → x.owner ≡ length D.instances - 1 → t.methods < 128 →
      Outlines (sets plan (256 + 4 * t.methods) vs) D.instances (methods (D.bodies ++ (Body.method x ∷ []))) (rules (D.bodies ++ (Body.method x ∷ [])))
  unfolding method_row
  outlines_method x vs r q few =
      let o = h.outlines in
      let k = h.tallied.methods_read in
      let four : length vs ≡ 4 = ap length r in
      rw (methods_method D.bodies x, rules_method D.bodies x) (record {
        full = length-sets plan (256 + 4 * t.methods) vs ∙ o.full;
        instance_rows = rows_above (256 + 4 * t.methods) vs o.instance_rows four (omega arith) (omega arith);
        firsts = λ i l.
            sets_before vs plan (256 + 4 * t.methods) (4 * i + 3) (omega arith)
            ∙ o.firsts i l ∙ sym (first_more (length D.instances) (methods D.bodies) x i q);
        method_rows = rows_add x (256 + 4 * t.methods) vs o.method_rows (omega arith) four (omega arith) (omega (arith, o.full)) (λ j l. ap (λ w. get_or w j 0) r);
        rule_rows = rows_below (256 + 4 * t.methods) vs o.rule_rows four (omega arith);
      })

  sound_method : (x : Method) → x.owner ≡ length D.instances - 1 → 0 < length D.instances → length (methods D.bodies) < 128 →
      Sound D.instances (methods (D.bodies ++ (Body.method x ∷ []))) (rules (D.bodies ++ (Body.method x ∷ [])))
  sound_method x q one few =
      let s = h.sound in
      rw (methods_method D.bodies x, rules_method D.bodies x) (record {
        ported = s.ported;
        method_owners = each_more (λ y. y.owner < length D.instances) (methods D.bodies) x s.method_owners (omega (arith, q));
        rule_owners = s.rule_owners;
        sorted = sorted_more x s.sorted (λ k y e. omega (arith, q, s.method_owners k y e));
        few_instances = s.few_instances;
        few_methods = rw (longer (methods D.bodies) x) (omega arith);
        few_rules = s.few_rules;
      })

  stands_method : (x : Method) → MethodStands file x → Stands file (methods (D.bodies ++ (Body.method x ∷ []))) (rules (D.bodies ++ (Body.method x ∷ [])))
  stands_method x st =
      let s = h.stands in
      rw (methods_method D.bodies x, rules_method D.bodies x) (record {
        methods_stand = each_more (MethodStands file) (methods D.bodies) x s.methods_stand st;
        rules_stand = s.rules_stand;
        small = s.small;
      })

  pub holds_method : {u : Tally} {plan₁ vs : List ℕ} → t.closed ≡ false → (next : ℕ) (x : Method) → vs ≡ method_row x → x.owner ≡ length D.instances - 1 → MethodStands file x →
      next ≤ length file → t.methods < 128 → 0 < length D.instances → u ≡ with_method t next →
      plan₁ ≡ sets plan (256 + 4 * t.methods) vs → Holds file plan₁ (R.with_body D (Body.method x)) u
  unfolding R.with_body with_method method_row
  holds_method {vs = vs} unclosed next x r q st within few one e e2 =
      let k = h.tallied.methods_read in
      rw (e, e2) (record {
        tallied = record {
          instances = h.tallied.instances;
          methods_read = ap (λ n. n + 1) k ∙ sym (longer (methods D.bodies) x) ∙ ap length (sym (methods_method D.bodies x));
          rules_read = h.tallied.rules_read ∙ ap length (sym (rules_method D.bodies x));
          owner = h.tallied.owner;
          closed = h.tallied.closed;
        };
        outlines = outlines_method x vs r q few;
        blank = still_blank plan (256 + 4 * t.methods) vs h.blank (ap length r) (omega arith);
        stands = stands_method x st;
        sound = sound_method x q one (omega arith);
        schedule_read = still_open file _ D.schedule (sym h.tallied.closed ∙ unclosed);
        within = within;
      })

-- ---- one rule more

module _ {file plan : List ℕ} {D : Draft} {t : Tally} (h : Holds file plan D t) where
  outlines_rule : (x : Rule) (vs : List ℕ) → vs ≡ rule_row x → t.rules < 64 →
      Outlines (sets plan (768 + 4 * t.rules) vs) D.instances (methods (D.bodies ++ (Body.rule x ∷ []))) (rules (D.bodies ++ (Body.rule x ∷ [])))
  unfolding rule_row
  outlines_rule x vs r few =
      let o = h.outlines in
      let k = h.tallied.rules_read in
      let four : length vs ≡ 4 = ap length r in
      rw (methods_rule D.bodies x, rules_rule D.bodies x) (record {
        full = length-sets plan (768 + 4 * t.rules) vs ∙ o.full;
        instance_rows = rows_above (768 + 4 * t.rules) vs o.instance_rows four (omega arith) (omega arith);
        firsts = λ i l. sets_before vs plan (768 + 4 * t.rules) (4 * i + 3) (omega arith) ∙ o.firsts i l;
        method_rows = rows_above (768 + 4 * t.rules) vs o.method_rows four (omega arith) (omega arith);
        rule_rows = rows_add x (768 + 4 * t.rules) vs o.rule_rows (omega arith) four (omega arith) (omega (arith, o.full)) (λ j l. ap (λ w. get_or w j 0) r);
      })

  sound_rule : (x : Rule) → x.owner ≡ length D.instances - 1 → 0 < length D.instances → length (rules D.bodies) < 64 →
      Sound D.instances (methods (D.bodies ++ (Body.rule x ∷ []))) (rules (D.bodies ++ (Body.rule x ∷ [])))
  sound_rule x q one few =
      let s = h.sound in
      rw (methods_rule D.bodies x, rules_rule D.bodies x) (record {
        ported = s.ported;
        method_owners = s.method_owners;
        rule_owners = each_more (λ y. y.owner < length D.instances) (rules D.bodies) x s.rule_owners (omega (arith, q));
        sorted = s.sorted;
        few_instances = s.few_instances;
        few_methods = s.few_methods;
        few_rules = rw (longer (rules D.bodies) x) (omega arith);
      })

  stands_rule : (x : Rule) → RuleStands file x → Stands file (methods (D.bodies ++ (Body.rule x ∷ []))) (rules (D.bodies ++ (Body.rule x ∷ [])))
  stands_rule x st =
      let s = h.stands in
      rw (methods_rule D.bodies x, rules_rule D.bodies x) (record {
        methods_stand = s.methods_stand;
        rules_stand = each_more (RuleStands file) (rules D.bodies) x s.rules_stand st;
        small = s.small;
      })

  pub holds_rule : {u : Tally} {plan₁ vs : List ℕ} → t.closed ≡ false → (next : ℕ) (x : Rule) → vs ≡ rule_row x → x.owner ≡ length D.instances - 1 → RuleStands file x →
      next ≤ length file → t.rules < 64 → 0 < length D.instances → u ≡ with_rule t next →
      plan₁ ≡ sets plan (768 + 4 * t.rules) vs → Holds file plan₁ (R.with_body D (Body.rule x)) u
  unfolding R.with_body with_rule rule_row
  holds_rule {vs = vs} unclosed next x r q st within few one e e2 =
      let k = h.tallied.rules_read in
      rw (e, e2) (record {
        tallied = record {
          instances = h.tallied.instances;
          methods_read = h.tallied.methods_read ∙ ap length (sym (methods_rule D.bodies x));
          rules_read = ap (λ n. n + 1) k ∙ sym (longer (rules D.bodies) x) ∙ ap length (sym (rules_rule D.bodies x));
          owner = h.tallied.owner;
          closed = h.tallied.closed;
        };
        outlines = outlines_rule x vs r few;
        blank = still_blank plan (768 + 4 * t.rules) vs h.blank (ap length r) (omega arith);
        stands = stands_rule x st;
        sound = sound_rule x q one (omega arith);
        schedule_read = still_open file _ D.schedule (sym h.tallied.closed ∙ unclosed);
        within = within;
      })

  -- ---- the schedule

  pub holds_schedule : (start count next : ℕ) (ns : List ℕ) → ns ≡ take count (drop start file) → length ns ≡ count → Scheduled t.rules ns → start + count ≡ next → next ≤ length file →
      Holds file plan (R.with_schedule D ns) (with_schedule t start count next)
  unfolding R.with_schedule with_schedule R.is_closed ScheduleRead
  holds_schedule start count next ns s c n end within = record {
    tallied = record {
      instances = h.tallied.instances;
      methods_read = h.tallied.methods_read;
      rules_read = h.tallied.rules_read;
      owner = h.tallied.owner;
      closed = refl;
    };
    outlines = h.outlines;
    blank = h.blank;
    stands = h.stands;
    sound = h.sound;
    schedule_read = (s, c, n, end);
    within = within;
  }
