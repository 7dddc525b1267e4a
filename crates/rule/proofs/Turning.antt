-- A rule's turn: its guard and then its body, which are the text that the plan hands out. One law for each way in which a function returns;
-- where the plan is not the file's, nothing is promised but that the turn ends.
use Prim.Native.Nat.{ℕ, ◌+◌, ◌≤◌, ◌<◌}
use mathlib.Core.Path.{◌≡◌, refl, sym, ◌∙◌}
use mathlib.Core.Bool.{Bool, true, false}
use mathlib.Core.List.{List, []}
use mathlib.Core.Option.{some}
use native.Mathlib.Omega.{arith}
use lib.IntN.{ℤ}
use lib.ListN.{length, take, drop}
use Rattle.design.specs.Syntax.{Kind, Rule, Design}
use Rattle.design.specs.Take.{Refusal, got}
use Rattle.design.specs.Grammar as G
use Rattle.design.specs.Records as R
use Rattle.rule.specs.declared.Value as DV
use Rattle.rule.specs.declared.Reason.{Reason}
use Rattle.rule.specs.declared.Mark.{Mark}
use Rattle.rule.specs.declared.Answer.{Answer}
use Rattle.rule.specs.declared.body.Body.{Body}
use Rattle.rule.specs.declared.Taken.{Taken}
use Rattle.meaning.specs.Values.{Value, Out, and_then, as_bool, needs, kind_of, same_kind}
use Rattle.meaning.specs.Lookup.{rule_of}
use Rattle.meaning.specs.Evaluate as E
use Rattle.design.specs.Plan.{Plans, World}
use Rattle.design.specs.Lookups.{RuleOwner, RuleText}
use Rattle.rule.specs.Log.{events}
use Rattle.rule.specs.Answers.{value, number_of, env_of}
use Rattle.rule.specs.Post.{whole, Agrees, Does, Came, Limited, Acts, taken_of}
use Rattle.rule.specs.Promises.{Took, Few, Turns}
use Rattle.rule.proofs.Meaning as M
use Rattle.rule.proofs.Constructs.{onward}
use Rattle.rule.proofs.Operating.{NotBool}
use Rattle.rule.proofs.Operating as O

-- ---- an answer as a turn's end

pub ended_value : {a : Answer} {v : DV.Value} {m : Mark} → a ≡ Answer.Value v m → Taken.Recorded m.calls ≡ taken_of a
unfolding taken_of
ended_value e = rw e

pub ended_shut : {a : Answer} → a ≡ Answer.Unavailable → Taken.Unavailable ≡ taken_of a
unfolding taken_of
ended_shut e = rw e

pub ended_stuck : {a : Answer} {n : Reason} → a ≡ Answer.Stuck n → Taken.Stuck n ≡ taken_of a
unfolding taken_of
ended_stuck e = rw e

-- ---- the guard and the body

limits : {r : Answer} → M.Halts r → Limited r
unfolding Limited
limits M.shut = tt
limits M.fast = tt

came : {r : Answer} (h : M.Halts r) (log : List ℕ) {o : Out Value} → o ≡ M.halted h → Came log r o
unfolding M.halted Came
came M.shut log e = e
came M.fast log e = e

-- the guard's answer is its outcome, in no locals and with nothing recorded
guard_says : {text file plan : List ℕ} {state : List ℤ} {log : List ℕ} {me : ℕ} {log₁ : List ℕ} {r : Answer} →
    Does whole text file plan state [] log (record { me = me; pure = true }) (record { at = 0; calls = 0 }) log₁ r → (D : Design) → World file plan D →
    (x : Rule) (end : ℕ) (bad : Refusal) (rest : List ℕ) → x.owner ≡ me → G.expr end bad 16 text ≡ got x.guard rest →
    Agrees value text log₁ rest r (E.evaluate D state x.owner x.guard true [] [])
unfolding env_of
guard_says w D u x end bad rest o e = rw o ((w.does D u end bad 16 (omega arith)).says x.guard rest e)

-- a body's value that is not Void
pub data NotVoid : DV.Value → Type 0 where
  num : {w : ℕ} → NotVoid (DV.Value.Num w)
  truth : {b : Bool} → NotVoid (DV.Value.Bool b)

pub not_void : (a : DV.Value) → (a ≡ DV.Value.Void → ⊥) → NotVoid a
not_void (DV.Value.Num w) h = NotVoid.num
not_void (DV.Value.Bool b) h = NotVoid.truth
not_void DV.Value.Void h = absurd (h refl)

no_void : {v : DV.Value} → NotVoid v → same_kind Kind.void (kind_of (value v)) ≡ false
unfolding same_kind kind_of value
no_void NotVoid.num = refl
no_void NotVoid.truth = refl

reads_on : (text log rest : List ℕ) {r : Answer} {v : DV.Value} {m : Mark} (o : Out Value) → r ≡ Answer.Value v m → Agrees value text log rest r o → drop m.at text ≡ rest
unfolding Agrees
reads_on text log rest o e h = (rw e at h).1

module _ (b : Body) {log log₁ : List ℕ} {r : Answer}
    (w : Does whole b.text.now b.design.file.now b.design.plan.now b.state.now [] log (record { me = b.me; pure = true }) (record { at = 0; calls = 0 }) log₁ r) where
  pub act_halts : M.Halts r → Acts b log log₁ r
  unfolding E.rule
  act_halts h = record {
    acts = λ D u x end bad rest o e q. came h log₁ (rw (M.halts_by value h b.text.now log₁ rest (guard_says w D u x end bad rest o e)) (M.stays h _));
    limited = limits h;
    kept = w.kept;
  }

  module _ {v : DV.Value} {m : Mark} (y : r ≡ Answer.Value v m) where
    pub act_kind : NotBool v → Acts b log log₁ (Answer.Stuck Reason.Kind)
    unfolding E.rule and_then Came Limited number_of
    act_kind k = record {
      acts = λ D u x end bad rest o e q. rw (M.valued value b.text.now log₁ rest _ y (guard_says w D u x end bad rest o e)) (O.bool_stuck _ k);
      limited = tt;
      kept = w.kept;
    }

    module _ {t : Bool} (k : v ≡ DV.Value.Bool t) where
      pub act_shut : t ≡ false → Acts b log log₁ Answer.Unavailable
      unfolding E.rule and_then as_bool value Came Limited
      act_shut z = record {
        acts = λ D u x end bad rest o e q. rw (M.valued value b.text.now log₁ rest _ y (guard_says w D u x end bad rest o e), k, z);
        limited = tt;
        kept = w.kept;
      }

      module _ (z : t ≡ true) {log₂ : List ℕ} {r₂ : Answer}
          (w₂ : Does whole b.text.now b.design.file.now b.design.plan.now b.state.now [] log₁ (record { me = b.me; pure = false }) m log₂ r₂) where
        -- the body, behind a guard that holds
        body_says : (D : Design) → World b.design.file.now b.design.plan.now D → (x : Rule) (end : ℕ) (bad : Refusal) (rest : List ℕ) → x.owner ≡ b.me →
            G.expr end bad 16 b.text.now ≡ got x.guard rest → G.expr end bad 16 rest ≡ got x.body [] →
            Agrees value b.text.now log₂ [] r₂ (E.evaluate D b.state.now x.owner x.body false [] (events (take m.calls log₁)))
        unfolding env_of
        body_says D u x end bad rest o e q =
            let s = reads_on b.text.now log₁ rest _ y (guard_says w D u x end bad rest o e) in
            rw o ((rw s at ((w₂.does D u end bad 16 (omega arith)).says x.body [])) q)

        pub act_body_halts : M.Halts r₂ → Acts b log log₂ r₂
        unfolding E.rule and_then as_bool value
        act_body_halts h = record {
          acts = λ D u x end bad rest o e q. came h log₂ (rw (
            M.valued value b.text.now log₁ rest _ y (guard_says w D u x end bad rest o e),
            k,
            z,
            M.halts_by value h b.text.now log₂ [] (body_says D u x end bad rest o e q),
          ) (M.stays h _));
          limited = limits h;
          kept = w₂.kept ∙ w.kept;
        }

        module _ {v₂ : DV.Value} {m₂ : Mark} (y₂ : r₂ ≡ Answer.Value v₂ m₂) where
          pub act_no_void : NotVoid v₂ → Acts b log log₂ (Answer.Stuck Reason.Kind)
          unfolding E.rule and_then as_bool value needs Came Limited number_of
          act_no_void h = record {
            acts = λ D u x end bad rest o e q. rw (
              M.valued value b.text.now log₁ rest _ y (guard_says w D u x end bad rest o e),
              k,
              z,
              M.valued value b.text.now log₂ [] _ y₂ (body_says D u x end bad rest o e q),
              no_void h,
            );
            limited = tt;
            kept = w₂.kept ∙ w.kept;
          }

          pub act_done : v₂ ≡ DV.Value.Void → Acts b log log₂ (Answer.Value v₂ m₂)
          unfolding E.rule and_then as_bool value needs same_kind kind_of Came Limited
          act_done h = record {
            acts = λ D u x end bad rest o e q. rw (
              M.valued value b.text.now log₁ rest _ y (guard_says w D u x end bad rest o e),
              k,
              z,
              M.valued value b.text.now log₂ [] _ y₂ (body_says D u x end bad rest o e q),
              h,
            );
            limited = (onward w₂ y₂).2;
            kept = w₂.kept ∙ w.kept;
          }

-- ---- the turn

as_taken : (log : List ℕ) (r : Answer) (o : Out Value) → Came log r o → Took log (taken_of r) o
unfolding Came Took taken_of
as_taken log (Answer.Value v m) o h = h
as_taken log Answer.Unavailable o h = h
as_taken log (Answer.Stuck n) o h = h

few_of : (r : Answer) → Limited r → Few (taken_of r)
unfolding Limited Few taken_of
few_of (Answer.Value v m) h = h
few_of Answer.Unavailable h = h
few_of (Answer.Stuck n) h = h

-- the owner is an instance, which has a word in the state
owner : {plan : List ℕ} {n me : ℕ} → RuleOwner plan n me → (D : Design) → Plans plan D → (x : Rule) → rule_of D n ≡ some x → (x.owner ≡ me) × (me < length D.instances)
unfolding rule_of
owner {n = n} {me} a D p x e = let o : x.owner ≡ me = sym (a.owner D x p e) in (o, omega (arith, p.sound.rule_owners n x e))

module _ {file plan : List ℕ} {state : List ℤ} {log : List ℕ} {n : ℕ} where
  -- a turn of no rule
  none : ((D : Design) → World file plan D → length state ≡ length D.instances → 64 ≤ length log → (x : Rule) → rule_of D n ≡ some x → ⊥) → Turns file plan state log n log Taken.Unavailable
  unfolding Few
  none h = record { took = λ D w s l x e. absurd (h D w s l x e); few = tt; kept = refl }

  pub no_log : length log < 64 → Turns file plan state log n log Taken.Unavailable
  no_log q = none (λ D w s l x e. omega arith)

  module _ {me : ℕ} (a : RuleOwner plan n me) where
    pub no_word : length state ≤ me → Turns file plan state log n log Taken.Unavailable
    no_word q = none (λ D w s l x e. let o = owner a D w.plans x e in omega (arith, o.1))

    pub no_owner : 64 ≤ me → Turns file plan state log n log Taken.Unavailable
    no_owner q = none (λ D w s l x e. let o = owner a D w.plans x e in omega (arith, o.1, w.plans.sound.few_instances))

pub turned : {b : Body} {log log₁ : List ℕ} {n : ℕ} {r : Answer} {d : Taken} → RuleOwner b.design.plan.now n b.me → RuleText b.design.file.now b.design.plan.now n b.text.now →
    Acts b log log₁ r → d ≡ taken_of r → Turns b.design.file.now b.design.plan.now b.state.now log n log₁ d
unfolding rule_of
turned {b} {log₁ = log₁} {n} {r} a t h q = rw q (record {
  took = λ D w v l x e.
      let o = owner a D w.plans x e in
      let z = w.stands.rules_stand n x e in
      as_taken log₁ r _ (h.acts D w x (x.start + x.size) (R.at (length b.design.file.now) x.place 7) z.rest o.0
      (rw (t.text D x w e) z.guard) z.body);
  few = few_of r h.limited;
  kept = h.kept;
})
