-- One law for each way in which a function that reads a record returns: what its answer has to do with the definition's next design.
use Prim.Native.Nat.{ℕ, zero, suc, ◌+◌, ◌*◌, ◌-◌, ◌/◌, ◌%◌, ◌≤◌, ◌<◌}
use mathlib.Core.Path.{◌≡◌, refl, ap, sym, ◌∙◌}
use mathlib.Core.Bool.{Bool, true, false, ◌&&◌, true≢false}
use mathlib.Core.List.{List, [], ◌∷◌, ◌++◌, append_assoc, append-nil}
use Rattle.std.specs.Prelude.{Option, Some, None, Result, Ok, Err}
use Rattle.std.specs.Option.{ok_or}
use native.Mathlib.Omega.{arith}
use lib.Dec.{ltb}
use lib.ListN.{length, take, drop, get_or, length-drop}
use lib.Seq.{sets, length-take-le, get_or-take}
use borrow.Author.Tests.{lt-ltb, le-ltb, ltb-true}
use Rattle.design.specs.declared.Fault.{Fault}
use Rattle.design.specs.declared.fields.Register.{Register}
use Rattle.design.specs.declared.records.Mark.{Mark}
use Rattle.design.specs.declared.records.Tally.{Tally}
use Rattle.design.specs.Syntax.{Kind, Role, Instance, Method, Rule, Body}
use Rattle.design.specs.Take.{got, refused, bind, needs}
use Rattle.design.specs.Records as R
use Rattle.design.specs.Records.{Draft, methods, rules, latest_is_user}
use Rattle.design.specs.Answers.{fault_number}
use Rattle.design.specs.Fields.{Row, method, rule, schedule, refusal, ByteOrCut, Tells, ToldInstance, WithinInstance, Small, TellsInstance}
use Rattle.design.specs.Plan.{ports_of, start_word, role_number, kind_number, shape, method_row, rule_row, InstanceFits, Scheduled}
use Rattle.design.specs.Steps.{mark_name, Owns, with_instance, with_method, with_rule, with_schedule, Advanced, Continues, Ready, Holds, InstanceMark, rg, cr, um, Adds, Advances}
use Rattle.design.proofs.Rows as F
use Rattle.design.proofs.Inverting.{bound, needed, got_value, got_rest, method_read, rule_read}
use Rattle.design.proofs.Laid.{byte_read, one_on, field_read, rule_laid, method_laid}
use Rattle.design.proofs.Recording.{holds_instance, holds_method, holds_rule, holds_schedule}

-- ---- an instance

after_instance : (size place : ℕ) (D : Draft) {m : R.Mark} (s : List ℕ) → InstanceMark m → R.after_mark size place D m s ≡ R.instance_record size place D m s
unfolding R.after_mark
after_instance size place D s rg = refl
after_instance size place D s cr = refl
after_instance size place D s um = refl

module _ {m : R.Mark} {file : List ℕ} {at : ℕ} where
  instance_refused : {f : Fault} → TellsInstance m file at (Err f) → (place : ℕ) → R.instance_fields (length file) place m (drop at file) ≡ refused (refusal f place)
  unfolding ToldInstance
  instance_refused w place = w.told place

  instance_got : {r : Register} → TellsInstance m file at (Ok r) → (place : ℕ) →
      (x : Instance) × (R.instance_fields (length file) place m (drop at file) ≡ got x (drop r.next file)) × (ports_of x ≡ r.ports) × (start_word x ≡ r.word) × InstanceFits x
  unfolding ToldInstance
  instance_got w place = w.told place

  instance_within : {r : Register} → TellsInstance m file at (Ok r) → (at ≤ r.next) × (r.next ≤ length file)
  unfolding WithinInstance
  instance_within w = w.within

-- numbers that a row has room for
pub few_ports : {fields : Result Register Fault} {r : Register} → Small fields → fields ≡ Ok r → r.ports ≤ 4
unfolding Small
few_ports h e = rw e at h

pub nothing_small : (n : ℕ) → Small (Ok (record { ports = 0; word = 0; next = n }))
unfolding Small
nothing_small n = omega arith

module _ {plan : List ℕ} {t : Tally} {fields : Result Register Fault} where
  pub instance_limit : 64 ≤ t.instances → Adds plan t fields plan (Err Fault.Limit)
  unfolding Advanced R.instance_record needs fault_number
  instance_limit q = record {
    adds = λ m file at pl w. record {
      continues = λ D h k.
          let n = h.tallied.instances in
          rw (after_instance (length file) t.at D (drop at file) pl, le-ltb (length D.instances) 64 (omega arith));
    };
  }

  pub instance_no : {f : Fault} → t.instances < 64 → fields ≡ Err f → Adds plan t fields plan (Err f)
  unfolding Advanced R.instance_record needs bind
  instance_no q e = record {
    adds = λ m file at pl w. record {
      continues = λ D h k.
          let n = h.tallied.instances in
          rw (after_instance (length file) t.at D (drop at file) pl, lt-ltb (length D.instances) 64 (omega arith), instance_refused (rw e at w) t.at);
    };
  }

  pub instance_next : {r : Register} {u : Tally} {plan₁ : List ℕ} → t.instances < 64 → fields ≡ Ok r →
      (u ≡ with_instance t r.ports r.next) × (plan₁ ≡ sets plan (4 * t.instances) (r.ports ∷ (r.word % 65536) ∷ (r.word / 65536) ∷ t.methods ∷ [])) →
      Adds plan t fields plan₁ (Ok u)
  unfolding Advanced R.instance_record needs bind with_instance
  instance_next {r} q e p = record {
    adds = λ m file at pl w. record {
      continues = λ D h k.
          let a = h.tallied.instances in
          let g = instance_got (rw e at w) t.at in
          let b = instance_within (rw e at w) in (
            R.with_instance D g.0,
            rw (after_instance (length file) t.at D (drop at file) pl, lt-ltb (length D.instances) 64 (omega arith), g.1, p.0),
            holds_instance h r.ports r.word k.unclosed r.next g.0 g.2 g.3 g.4 b.1 q p.0 p.1,
            rw p.0 (omega (arith, k.behind, b.0)),
          );
    };
  }

-- ---- a method, and a rule

one_instance : (xs : List Instance) → latest_is_user xs ≡ true → 0 < length xs
unfolding latest_is_user
one_instance [] e = absurd (true≢false (sym e))
one_instance (x ∷ xs) e = omega arith

-- four numbers that are a row's
four_same : {a b c d e f g h : ℕ} → a ≡ e → b ≡ f → c ≡ g → d ≡ h → a ∷ b ∷ c ∷ d ∷ [] ≡ e ∷ f ∷ g ∷ h ∷ []
four_same p q r s = cc

role_small : (r : Role) → role_number r < 4
unfolding role_number
role_small Role.value = omega arith
role_small Role.action = omega arith
role_small Role.action_value = omega arith

kind_small : (k : Kind) → kind_number k < 4
unfolding kind_number
kind_small Kind.void = omega arith
kind_small Kind.num = omega arith
kind_small Kind.bool = omega arith

-- the parameter count of a shape
pub shape_count : (x : Method) → shape x / 16 ≡ length x.params
unfolding shape
shape_count x = omega (arith, role_small x.role, kind_small x.result)

as_method_row : (x : Method) {v at n owner : ℕ} → v ≡ shape x → x.place ≡ at → x.start ≡ x.place + 7 + length x.params → n ≡ x.start + x.size → x.owner ≡ owner →
    v ∷ (at + 7 + v / 16) ∷ n ∷ owner ∷ [] ≡ method_row x
unfolding method_row
as_method_row x e p l m o = four_same e (omega (arith, ap (λ w. w / 16) e, shape_count x)) m (sym o)

as_rule_row : (x : Rule) {at n owner : ℕ} → x.place ≡ at → x.start ≡ x.place + 4 → n ≡ x.start + x.size → x.owner ≡ owner →
    owner ∷ at ∷ (at + 4) ∷ n ∷ [] ≡ rule_row x
unfolding rule_row
as_rule_row x p l m o = four_same (sym o) (sym p) (omega arith) m

-- a method's shape is small, and its end lies in the file
pub shape_small : {file : List ℕ} {at v n : ℕ} → Tells method file at (Ok (v, n)) → v < 128
shape_small h = (F.is h 0 0).2.small

pub end_small : {r : Row} {file : List ℕ} {at v n : ℕ} → Tells r file at (Ok (v, n)) → length file ≤ 32768 → n ≤ 32768
end_small h l = let b = F.is_within h in omega (arith, b.1)

-- who owns what is read now
owned : (t : Tally) {owner : ℕ} → Ok owner ≡ ok_or t.owner Fault.Misplaced → t.owner ≡ Some owner
owned t q = F.some_of Fault.Misplaced t.owner q

pub owner_small : {t : Tally} {owner : ℕ} → Ready t → Ok owner ≡ ok_or t.owner Fault.Misplaced → owner ≤ 64
owner_small {t} {owner} r q = r.owner owner (owned t q)

module _ {file plan : List ℕ} {D : Draft} {t : Tally} (h : Holds file plan D t) where
  nobody : t.owner ≡ None → latest_is_user D.instances ≡ false
  unfolding Owns
  nobody e = rw e at h.tallied.owner

  somebody : {owner : ℕ} → t.owner ≡ Some owner → (latest_is_user D.instances ≡ true) × (owner ≡ length D.instances - 1)
  unfolding Owns
  somebody e = rw e at h.tallied.owner

module _ {file plan : List ℕ} {t : Tally} {at : ℕ} where
  pub method_misplaced : {f : Fault} → Err f ≡ ok_or t.owner Fault.Misplaced → Continues R.MD file plan t at plan (Err f)
  unfolding Advanced R.after_mark R.method_record needs fault_number
  method_misplaced e = let z = F.none_of Fault.Misplaced t.owner e in record { continues = λ D h k. rw (nobody h z.0, z.1) }

  pub rule_misplaced : {f : Fault} → Err f ≡ ok_or t.owner Fault.Misplaced → Continues R.RL file plan t at plan (Err f)
  unfolding Advanced R.after_mark R.rule_record needs fault_number
  rule_misplaced e = let z = F.none_of Fault.Misplaced t.owner e in record { continues = λ D h k. rw (nobody h z.0, z.1) }

  module _ {owner : ℕ} (q : Ok owner ≡ ok_or t.owner Fault.Misplaced) where
    pub method_limit : 128 ≤ t.methods → Continues R.MD file plan t at plan (Err Fault.Limit)
    unfolding Advanced R.after_mark R.method_record needs fault_number
    method_limit l = record {
      continues = λ D h k.
          let n = h.tallied.methods_read in
          rw ((somebody h (owned t q)).0, le-ltb (length (methods D.bodies)) 128 (omega arith));
    }

    pub rule_limit : 64 ≤ t.rules → Continues R.RL file plan t at plan (Err Fault.Limit)
    unfolding Advanced R.after_mark R.rule_record needs fault_number
    rule_limit l = record {
      continues = λ D h k.
          let n = h.tallied.rules_read in
          rw ((somebody h (owned t q)).0, le-ltb (length (rules D.bodies)) 64 (omega arith));
    }

    module _ (l : t.methods < 128) where
      pub method_no : {f : Fault} → Tells method file at (Err f) → Continues R.MD file plan t at plan (Err f)
      unfolding Advanced R.after_mark R.method_record needs bind
      method_no w = record {
        continues = λ D h k.
            let n = h.tallied.methods_read in
            rw ((somebody h (owned t q)).0, lt-ltb (length (methods D.bodies)) 128 (omega arith), F.refuses w t.at (length D.instances - 1));
      }

      pub method_next : {v n : ℕ} {u : Tally} {plan₁ : List ℕ} → Tells method file at (Ok (v, n)) →
          (u ≡ with_method t n) × (plan₁ ≡ sets plan (256 + 4 * t.methods) (v ∷ (t.at + 7 + v / 16) ∷ n ∷ owner ∷ [])) →
          Continues R.MD file plan t at plan₁ (Ok u)
      unfolding Advanced R.after_mark R.method_record needs bind with_method
      method_next {v} {n} w r = record {
        continues = λ D h k.
            let c = h.tallied.methods_read in
            let us = somebody h (owned t q) in
            let g = F.is w t.at (length D.instances - 1) in
            let b = F.is_within w in
            let i = method_read (length file) t.at (length D.instances - 1) (drop at file) g.1 in
            let ml = method_laid file n b.1 {x = g.0} (rw (i.0, i.1, ← k.behind) g.1) in (
              R.with_body D (Body.method g.0),
              rw (us.0, lt-ltb (length (methods D.bodies)) 128 (omega arith), g.1, r.0),
              holds_method h k.unclosed n g.0 (as_method_row g.0 g.2.is i.0 ml.0.laid ml.1 (i.1 ∙ sym us.1)) i.1 ml.0
                  b.1 l (one_instance D.instances us.0) r.0 r.1,
              rw r.0 (omega (arith, k.behind, b.0)),
            );
      }

    module _ (l : t.rules < 64) where
      pub rule_no : {f : Fault} → Tells rule file at (Err f) → Continues R.RL file plan t at plan (Err f)
      unfolding Advanced R.after_mark R.rule_record needs bind
      rule_no w = record {
        continues = λ D h k.
            let n = h.tallied.rules_read in
            rw ((somebody h (owned t q)).0, lt-ltb (length (rules D.bodies)) 64 (omega arith), F.refuses w t.at (length D.instances - 1));
      }

      pub rule_next : {z n : ℕ} {u : Tally} {plan₁ : List ℕ} → Tells rule file at (Ok (z, n)) →
          (u ≡ with_rule t n) × (plan₁ ≡ sets plan (768 + 4 * t.rules) (owner ∷ t.at ∷ (t.at + 4) ∷ n ∷ [])) →
          Continues R.RL file plan t at plan₁ (Ok u)
      unfolding Advanced R.after_mark R.rule_record needs bind with_rule
      rule_next {n = n} w r = record {
        continues = λ D h k.
            let c = h.tallied.rules_read in
            let us = somebody h (owned t q) in
            let g = F.is w t.at (length D.instances - 1) in
            let b = F.is_within w in
            let i = rule_read (length file) t.at (length D.instances - 1) (drop at file) g.1 in
            let rl = rule_laid file n b.1 {x = g.0} (rw (i.0, i.1, ← k.behind) g.1) in (
              R.with_body D (Body.rule g.0),
              rw (us.0, lt-ltb (length (rules D.bodies)) 64 (omega arith), g.1, r.0),
              holds_rule h k.unclosed n g.0 (as_rule_row g.0 i.0 rl.0.laid rl.1 (i.1 ∙ sym us.1)) i.1 rl.0
                  b.1 l (one_instance D.instances us.0) r.0 r.1,
              rw r.0 (omega (arith, k.behind, b.0)),
            );
      }

-- ---- the schedule

and_first : (a b : Bool) → a && b ≡ true → a ≡ true
and_first true b e = refl
and_first false b e = absurd (true≢false (sym e))

-- the entries that were read are the bytes that stand there, and each is below the number of rules; reading goes on behind them
entries_read : (size place rules : ℕ) (seen : List ℕ) (n : ℕ) (s : List ℕ) {ns r : List ℕ} → R.entries size place rules seen n s ≡ got ns r →
    (ns ≡ seen ++ take n s) × (n ≤ length s) × ((j : ℕ) → j < n → get_or s j 0 < rules) × (r ≡ drop n s)
unfolding R.entries
entries_read size place rules seen zero s e = (sym (got_value e) ∙ sym (append-nil seen), omega arith, λ j l. absurd (omega arith), sym (got_rest e))
entries_read size place rules seen (suc n) s {ns} e = bound _ _ e (λ b q p u. needed _ _ _ u (λ t v.
    let w = entries_read size place rules (seen ++ (b ∷ [])) n q v in
    let l = byte_read _ s p in
    (rw l (w.0 ∙ append_assoc seen (b ∷ []) (take n q)), rw l (omega (arith, w.1)), rw l (each b q (ltb-true b rules (and_first (ltb b rules) _ t)) w.2), rw l w.3)))
  where
    each : (b : ℕ) (q : List ℕ) → b < rules → ((j : ℕ) → j < n → get_or q j 0 < rules) → (j : ℕ) → j < suc n → get_or (b ∷ q) j 0 < rules
    each b q h w zero l = h
    each b q h w (suc j) l = w j (omega arith)

schedule_stands : (file : List ℕ) (place rules at : ℕ) {ns r : List ℕ} → R.schedule_fields (length file) place rules (drop at file) ≡ got ns r →
    (ns ≡ take (length ns) (drop (at + 1) file)) × Scheduled rules ns × (length r ≡ length file - (at + 1 + length ns)) × (at + 1 + length ns ≤ length file)
unfolding R.schedule_fields
schedule_stands file place rules at {ns} {r} e = bound _ _ e (λ n q p u. field_read (length file) place 0 64 (drop at file) p (λ l few.
    let o = one_on file at l in
    let x = entries_read (length file) place rules [] n q u in
    let y : q ≡ drop (at + 1) file = o.1 in
    let m : length q ≡ length file - (at + 1) = ap length y ∙ length-drop (at + 1) file in
    let c : length ns ≡ n = ap length x.0 ∙ length-take-le n q x.1 in
    let z : length r ≡ length q - n = ap length x.3 ∙ length-drop n q in (
      x.0 ∙ ap (take n) y ∙ ap (λ k. take k (drop (at + 1) file)) (sym c),
      record {
        few = omega arith;
        named = λ j l. rw (x.0, get_or-take n q j 0 (omega arith)) (x.2 j (omega arith));
      },
      omega arith,
      omega (arith, x.1, o.2),
    )))

pub schedule_room : {file : List ℕ} {at rules v n : ℕ} → Tells (schedule rules) file at (Ok (v, n)) → at + 1 ≤ length file
schedule_room {file} {at} {rules} w = let s = schedule_stands file 0 rules at (F.is w 0 0).1 in omega (arith, s.3)

module _ {file : List ℕ} {t : Tally} {at : ℕ} where
  pub schedule_no : {f : Fault} → Tells (schedule t.rules) file at (Err f) → (plan : List ℕ) →
      Continues R.SC file plan t at plan (Err f)
  unfolding Advanced R.after_mark R.schedule_record bind with_schedule
  schedule_no w plan = record { continues = λ D h k. rw (← h.tallied.rules_read, F.refuses w t.at 0) }

  pub schedule_next : {v n : ℕ} → Tells (schedule t.rules) file at (Ok (v, n)) → (plan : List ℕ) →
      Continues R.SC file plan t at plan (Ok (with_schedule t (at + 1) v n))
  unfolding Advanced R.after_mark R.schedule_record bind with_schedule
  schedule_next {v} {n} w plan = record {
    continues = λ D h k.
        let g = F.is w t.at 0 in
        let b = F.is_within w in
        let s = schedule_stands file t.at t.rules at g.1 in (
          R.with_schedule D g.0,
          rw (← h.tallied.rules_read, g.1) refl,
          holds_schedule h (at + 1) v n g.0 (rw g.2 at s.0) g.2 s.1 (omega (arith, s.2, s.3, g.2, b.1, length-drop n file)) b.1,
          omega (arith, k.behind, b.0),
        );
  }

-- ---- a record, by its mark

module _ {file plan : List ℕ} {t : Tally} where
  pub record_closed : t.closed ≡ true → Advances file plan t plan (Err Fault.Misplaced)
  unfolding Advanced R.one_record needs fault_number
  record_closed q = record { advances = λ D h. rw (sym h.tallied.closed ∙ q) }

  module _ (q : t.closed ≡ false) where
    pub record_cut : {f : Fault} → ByteOrCut file t.at (Err f) → Advances file plan t plan (Err f)
    unfolding Advanced R.one_record needs bind fault_number
    record_cut s = record { advances = λ D h. rw (sym h.tallied.closed ∙ q, F.byte_cut s t.at) }

    module _ {a n : ℕ} (s : ByteOrCut file t.at (Ok (a, n))) where
      pub record_cut_2 : {f : Fault} → ByteOrCut file n (Err f) → Advances file plan t plan (Err f)
      unfolding Advanced R.one_record needs bind fault_number
      record_cut_2 s2 = record { advances = λ D h. rw (sym h.tallied.closed ∙ q, F.byte_there s (refusal Fault.Cut t.at), F.byte_cut s2 t.at) }

      module _ {b at : ℕ} (s2 : ByteOrCut file n (Ok (b, at))) (x : Option Mark) (m : mark_name x ≡ R.mark_of a b) where
        goes_on : {plan₁ : List ℕ} {r : Result Tally Fault} → Continues (mark_name x) file plan t at plan₁ r → Advances file plan t plan₁ r
        unfolding R.one_record needs bind fault_number
        goes_on w =
            let f = F.byte_follows s in
            let g = F.byte_follows s2 in
            let second : get_or file n 0 ≡ get_or file (t.at + 1) 0 = ap (λ j. get_or file j 0) f.0 in
            record {
              advances = λ D h.
                  rw (sym h.tallied.closed ∙ q, F.byte_there s (refusal Fault.Cut t.at), F.byte_there s2 (refusal Fault.Cut t.at), ← m)
                  (w.continues D h (record {
                    unclosed = q;
                    behind = omega (arith, f.0, g.0);
                    within = g.1;
                    mark = rw (← second, ← f.3, ← g.3) (sym m);
                  }));
            }

        pub unknown : {f : Fault} → Err f ≡ ok_or x Fault.Mark → Advances file plan t plan (Err f)
        unfolding mark_name Advanced R.after_mark fault_number
        unknown {f} e = let z = F.none_of Fault.Mark x e in goes_on (rw z.0 (record { continues = λ D h k. rw z.1 }))

        pub marked : {k l : Mark} {plan₁ : List ℕ} {r : Result Tally Fault} → Ok k ≡ ok_or x Fault.Mark → k ≡ l → Continues (mark_name (Some l)) file plan t at plan₁ r →
            Advances file plan t plan₁ r
        marked e i w = goes_on (rw (F.some_of Fault.Mark x e, i) w)

  pub added : {at : ℕ} {m : R.Mark} {x : Result Register Fault} {plan₁ : List ℕ} {r : Result Tally Fault} → Adds plan t x plan₁ r → InstanceMark m → TellsInstance m file at x →
      Continues m file plan t at plan₁ r
  added {at} {m} a p w = a.adds m file at p w
