-- Operators, ifs and whens: one law for each way in which their functions return. A law's premises are what the function knows there:
-- what the members ensure of the parts, which variant each answer is, and the tests on the way.
use Prim.Native.Nat.{ℕ, zero, suc, ◌≤◌, ◌<◌}
use mathlib.Core.Path.{◌≡◌, refl, sym, ◌∙◌}
use mathlib.Core.Bool.{Bool, true, false}
use mathlib.Core.List.{List}
use native.Mathlib.Omega.{arith}
use lib.IntN.{ℤ}
use lib.ListN.{length, take, drop}
use Rattle.std.specs.Prelude.{Option as Maybe, Some, None, Ok}
use Rattle.design.specs.Syntax.{Operator, Expr, Design}
use Rattle.design.specs.Take.{Refusal, got, refused, bind}
use Rattle.design.specs.Grammar as G
use Rattle.design.specs.Grammar.{Tag, tag_of, Operation, operation_of}
use Rattle.design.specs.Text as S
use Rattle.design.specs.Text.{Sees, Skips, Within}
use Rattle.design.proofs.Taking.{found, ended, follows}
use Rattle.design.specs.declared.kinds.Operator as DO
use Rattle.design.specs.declared.kinds.Tag as DT
use Rattle.design.specs.Kinds as K
use Rattle.design.proofs.Depth.{deeper}
use Rattle.rule.specs.declared.Value as DV
use Rattle.rule.specs.declared.Reason.{Reason}
use Rattle.rule.specs.declared.Mark.{Mark}
use Rattle.rule.specs.declared.Answer.{Answer}
use Rattle.meaning.specs.Values.{and_then, as_bool}
use Rattle.meaning.specs.Evaluate as E
use Rattle.design.specs.Plan.{World}
use Rattle.rule.specs.Log.{events}
use Rattle.rule.specs.Answers.{value, number_of, env_of}
use Rattle.rule.specs.Post.{Place, whole, after, Agrees, Means, Onward, Does, Leaf, Stays, Gives, Operates, negated}
use Rattle.rule.proofs.Meaning as M
use Rattle.rule.proofs.Leaves.{unread}
use Rattle.rule.proofs.Operating.{NotBool}
use Rattle.rule.proofs.Operating as O

-- an operator that is not not takes two
binary_of : (op : DO.Operator) → (op ≡ DO.Operator.Not → ⊥) → (o : Operator) × (K.operation (Ok op) ≡ Operation.binary o)
unfolding K.operation
binary_of DO.Operator.Plus n = (Operator.plus, refl)
binary_of DO.Operator.Minus n = (Operator.minus, refl)
binary_of DO.Operator.Equal n = (Operator.equal, refl)
binary_of DO.Operator.Less n = (Operator.less, refl)
binary_of DO.Operator.And n = (Operator.and, refl)
binary_of DO.Operator.Or n = (Operator.or, refl)
binary_of DO.Operator.Not n = absurd (n refl)

-- ---- marks

pub farther : (end : ℕ) (m n : Mark) (r : Answer) → m.at ≤ n.at → Onward end n r → Onward end m r
unfolding Onward
farther end m n (Answer.Value v o) h w = (omega arith, w.1, w.2)
farther end m n Answer.Unavailable h w = tt
farther end m n (Answer.Stuck k) h w = tt

-- a value's mark, and what stays at it
pub onward : {p : Rattle.rule.specs.Post.Part} {text file plan : List ℕ} {state : List ℤ} {locals : List DV.Value} {log log₁ : List ℕ} {f : Place} {m n : Mark} {r : Answer} {v : DV.Value} →
    Does p text file plan state locals log f m log₁ r → r ≡ Answer.Value v n → (m.at < n.at) × (n.at ≤ length text) × (n.calls ≤ 64)
unfolding Onward
onward h e = rw e at h.onward

at_mark : (end : ℕ) (m n : Mark) (r : Answer) → Stays n r → (m.at < n.at) × (n.at ≤ end) × (n.calls ≤ 64) → Onward end m r
unfolding Stays Onward
at_mark end m n (Answer.Value v o) s w = rw s w
at_mark end m n Answer.Unavailable s w = tt
at_mark end m n (Answer.Stuck k) s w = tt

-- the frame of a guard or a condition
abbrev pub guarding : Place → Place
guarding f = record { me = f.me; pure = true }

module _ {text file plan : List ℕ} {state : List ℤ} {locals : List DV.Value} {log : List ℕ} {f : Place} {m : Mark} where
  -- ---- an expression, by its tag

  pub over : {x : Maybe (ℕ × ℕ)} → Sees text m.at x → x ≡ None → Does whole text file plan state locals log f m log (Answer.Stuck Reason.Kind)
  unfolding G.expr bind Onward
  over h e = record { does = λ D w end bad lv le. M.none_any {why = bad} (none end bad lv); onward = tt; kept = refl }
    where
      none : (end : ℕ) (bad : Refusal) (lv : ℕ) → G.expr end bad lv (drop m.at text) ≡ refused bad
      none end bad zero = refl
      none end bad (suc lv) = rw (ended h e bad)

  pub tagged : {log₁ : List ℕ} {r : Answer} {g : Tag} {x : Maybe (ℕ × ℕ)} {b n : ℕ} → Sees text m.at x → x ≡ Some (b, n) → tag_of b ≡ g →
      Does (after g) text file plan state locals log f (record { at = n; calls = m.calls }) log₁ r → Does whole text file plan state locals log f m log₁ r
  unfolding G.expr bind
  tagged {log₁} {r} {g} {n = n} h e q w =
      let k = follows h e in
      record {
        does = by;
        onward = farther (length text) m (record { at = n; calls = m.calls }) r (omega (arith, k.0)) w.onward;
        kept = w.kept;
      }
    where
      by : (D : Design) → World file plan D → (end : ℕ) (bad : Refusal) (lv : ℕ) → lv ≤ 16 →
          Means value (G.expr end bad lv (drop m.at text)) (λ a. E.evaluate D state f.me a f.pure (env_of locals) (events (take m.calls log))) text log₁ r
      by D u end bad zero le = M.none_any {why = bad} refl
      by D u end bad (suc lv) le = rw (found h e bad, q) (w.does D u end bad lv (omega arith))

  -- the same, where the code has the tag u
  pub begun : {log₁ : List ℕ} {r : Answer} {x : Maybe (ℕ × ℕ)} {b n : ℕ} {t u : DT.Tag} → Sees text m.at x → x ≡ Some (b, n) → K.IsTag b (Ok t) → t ≡ u →
      Does (after (K.tag (Ok u))) text file plan state locals log f (record { at = n; calls = m.calls }) log₁ r → Does whole text file plan state locals log f m log₁ r
  begun h e q z w = tagged h e (sym (rw z at q)) w

  pub unknown : Does (after Tag.unknown) text file plan state locals log f m log (Answer.Stuck Reason.Kind)
  unfolding G.after
  unknown = unread M.fast (λ n bad lv. refl)

  pub leaf : {g : Tag} {r : Answer} → Leaf g text m r → m.calls ≤ 64 → Does (after g) text file plan state locals log f m log r
  leaf h q = h.leaf file plan log locals state f q

  -- ---- operators

  pub operator_cut : {x : Maybe (ℕ × ℕ)} → Sees text m.at x → x ≡ None → Does (after Tag.operator) text file plan state locals log f m log (Answer.Stuck Reason.Kind)
  unfolding G.after bind
  operator_cut h e = unread M.fast (λ n bad lv. rw (ended h e bad))

  pub operator_bad : {x : Maybe (ℕ × ℕ)} {b n : ℕ} → Sees text m.at x → x ≡ Some (b, n) → operation_of b ≡ Operation.unknown → Does (after Tag.operator) text file plan state locals log f m log (Answer.Stuck Reason.Kind)
  unfolding G.after G.operands bind
  operator_bad {b = b} h e q = unread M.fast (λ n bad lv. rw (found h e bad, q))

  -- the first operand has no value
  pub operator_halts : {log₁ : List ℕ} {r : Answer} {x : Maybe (ℕ × ℕ)} {b n : ℕ} → Sees text m.at x → x ≡ Some (b, n) →
      Does whole text file plan state locals log f (record { at = n; calls = m.calls }) log₁ r → M.Halts r → Does (after Tag.operator) text file plan state locals log f m log₁ r
  unfolding G.after G.operands bind E.evaluate E.eval
  operator_halts {log₁} {r} {b = b} {n} h e w s = record {
    does = λ D u end bad lv le. rw (found h e bad) (by (operation_of b) D u end bad lv le);
    onward = M.no_mark (length text) m s;
    kept = w.kept;
  }
    where
      by : (o : Operation) (D : Design) → World file plan D → (end : ℕ) (bad : Refusal) (lv : ℕ) → lv ≤ 16 →
          Means value (G.operands end bad (G.expr end bad lv) o (drop n text))
          (λ a. E.evaluate D state f.me a f.pure (env_of locals) (events (take m.calls log))) text log₁ r
      by (Operation.binary o) D u end bad lv le = M.fails _ (w.does D u end bad lv le) s (λ a t q. M.any (G.expr end bad lv t) (λ b c. got (Expr.binary o a b) c) (λ b c. M.halt {a = Expr.binary o a b} {rest = c} s (rw q (M.stays s _))))
      by Operation.not D u end bad lv le = M.fails _ (w.does D u end bad lv le) s (λ a t q. M.halt s (rw q (M.stays s _)))
      by Operation.unknown D u end bad lv le = M.none_any {why = bad} refl

  pub not_done : {log₁ : List ℕ} {r r₁ : Answer} {v : DV.Value} {m₁ : Mark} {x : Maybe (ℕ × ℕ)} {b n : ℕ} → Sees text m.at x → x ≡ Some (b, n) → operation_of b ≡ Operation.not →
      Does whole text file plan state locals log f (record { at = n; calls = m.calls }) log₁ r₁ → r₁ ≡ Answer.Value v m₁ → Gives m₁ (negated (value v)) r →
      Does (after Tag.operator) text file plan state locals log f m log₁ r
  unfolding G.after G.operands bind E.evaluate E.eval and_then negated
  not_done {r = r} {m₁ = m₁} {n = n} h e q w y g =
      let k = follows h e in
      let o = onward w y in
      record {
        does = λ D u end bad lv le. rw (found h e bad, q) (M.then _ (w.does D u end bad lv le) y (λ a p. M.stop (rw p (g.gives _ _))));
        onward = at_mark (length text) m m₁ r g.stays (omega (arith, k.0, o.0), o.1, o.2);
        kept = w.kept;
      }

  module _ {log₁ log₂ : List ℕ} {r₁ r : Answer} {v : DV.Value} {m₁ : Mark} {x : Maybe (ℕ × ℕ)} {b n : ℕ} {op : DO.Operator} where
    pub second_halts : Sees text m.at x → x ≡ Some (b, n) → operation_of b ≡ K.operation (Ok op) → (op ≡ DO.Operator.Not → ⊥) →
        Does whole text file plan state locals log f (record { at = n; calls = m.calls }) log₁ r₁ → r₁ ≡ Answer.Value v m₁ →
        Does whole text file plan state locals log₁ f m₁ log₂ r → M.Halts r → Does (after Tag.operator) text file plan state locals log f m log₂ r
    unfolding G.after G.operands bind E.evaluate E.eval and_then
    second_halts h e q ne w y w₂ s =
        let o = binary_of _ ne in
        record {
          does = λ D u end bad lv le. rw (found h e bad, q, o.1) (M.then _ (w.does D u end bad lv le) y (λ a p. M.fails _ (w₂.does D u end bad lv le) s (λ c t p₂. M.halt s (rw (p, p₂) (M.stays s _)))));
          onward = M.no_mark (length text) m s;
          kept = w₂.kept ∙ w.kept;
        }

    pub operated : {r₂ : Answer} {v₂ : DV.Value} {m₂ : Mark} → Sees text m.at x → x ≡ Some (b, n) → operation_of b ≡ K.operation (Ok op) → (op ≡ DO.Operator.Not → ⊥) →
        Does whole text file plan state locals log f (record { at = n; calls = m.calls }) log₁ r₁ → r₁ ≡ Answer.Value v m₁ →
        Does whole text file plan state locals log₁ f m₁ log₂ r₂ → r₂ ≡ Answer.Value v₂ m₂ → Operates op v v₂ m₂ r → Does (after Tag.operator) text file plan state locals log f m log₂ r
    unfolding G.after G.operands bind E.evaluate E.eval and_then
    operated {m₂ = m₂} h e q ne w y w₂ y₂ g =
        let o = binary_of _ ne in
        let k = follows h e in
        let i = onward w y in
        let j = onward w₂ y₂ in
        let z = g.operates o.0 o.1 in
        record {
          does = λ D u end bad lv le. rw (found h e bad, q, o.1) (M.then _ (w.does D u end bad lv le) y (λ a p. M.then _ (w₂.does D u end bad lv le) y₂ (λ c p₂. M.stop (rw (p, p₂) (z.gives _ _)))));
          onward = at_mark (length text) m m₂ r z.stays (omega (arith, k.0, i.0, j.0), j.1, j.2);
          kept = w₂.kept ∙ w.kept;
        }

  -- ---- if, and when: the condition stands in a pure place

  module _ {log₁ : List ℕ} {r : Answer} where
    pub if_halts : Does whole text file plan state locals log (guarding f) m log₁ r → M.Halts r → Does (after Tag.choice) text file plan state locals log f m log₁ r
    unfolding G.after E.evaluate E.eval
    if_halts w s = record {
      does = λ D u end bad lv le. M.fails _ (w.does D u end bad lv le) s (λ c t q. M.any _ _ (λ a p. M.any _ _ (λ b o. M.halt s (rw q (M.stays s _)))));
      onward = M.no_mark (length text) m s;
      kept = w.kept;
    }

    pub when_halts : Does whole text file plan state locals log (guarding f) m log₁ r → M.Halts r → Does (after Tag.guarded) text file plan state locals log f m log₁ r
    unfolding G.after E.evaluate E.eval
    when_halts w s = record {
      does = λ D u end bad lv le. M.fails _ (w.does D u end bad lv le) s (λ c t q. M.any _ _ (λ a p. M.halt s (rw q (M.stays s _))));
      onward = M.no_mark (length text) m s;
      kept = w.kept;
    }

    module _ {v : DV.Value} {m₁ : Mark} where
      pub if_kind : Does whole text file plan state locals log (guarding f) m log₁ r → r ≡ Answer.Value v m₁ → NotBool v →
          Does (after Tag.choice) text file plan state locals log f m log₁ (Answer.Stuck Reason.Kind)
      unfolding G.after E.evaluate E.eval and_then Agrees Onward number_of
      if_kind w y k = record {
        does = λ D u end bad lv le. M.then _ (w.does D u end bad lv le) y (λ c q. M.any _ _ (λ a p. M.any _ _ (λ b o. M.stop (rw q (O.bool_stuck _ k)))));
        onward = tt;
        kept = w.kept;
      }

      pub when_kind : Does whole text file plan state locals log (guarding f) m log₁ r → r ≡ Answer.Value v m₁ → NotBool v →
          Does (after Tag.guarded) text file plan state locals log f m log₁ (Answer.Stuck Reason.Kind)
      unfolding G.after E.evaluate E.eval and_then Agrees Onward number_of
      when_kind w y k = record {
        does = λ D u end bad lv le. M.then _ (w.does D u end bad lv le) y (λ c q. M.any _ _ (λ a p. M.stop (rw q (O.bool_stuck _ k))));
        onward = tt;
        kept = w.kept;
      }

      pub when_shut : {t : Bool} → Does whole text file plan state locals log (guarding f) m log₁ r → r ≡ Answer.Value v m₁ → v ≡ DV.Value.Bool t → t ≡ false →
          Does (after Tag.guarded) text file plan state locals log f m log₁ Answer.Unavailable
      unfolding G.after E.evaluate E.eval and_then as_bool Agrees Onward value
      when_shut w y k z = record {
        does = λ D u end bad lv le. M.then _ (w.does D u end bad lv le) y (λ c q. M.any _ _ (λ a p. M.stop (rw (q, k, z))));
        onward = tt;
        kept = w.kept;
      }

      module _ {t : Bool} {log₂ : List ℕ} {r₂ : Answer} where
        pub when_done : Does whole text file plan state locals log (guarding f) m log₁ r → r ≡ Answer.Value v m₁ → v ≡ DV.Value.Bool t → t ≡ true →
            Does whole text file plan state locals log₁ f m₁ log₂ r₂ → Does (after Tag.guarded) text file plan state locals log f m log₂ r₂
        unfolding G.after E.evaluate E.eval and_then as_bool value
        when_done w y k z g =
            let o = onward w y in
            record {
              does = λ D u end bad lv le. M.then _ (w.does D u end bad lv le) y (λ c q. M.wraps _ (g.does D u end bad lv le) (λ a. rw (q, k, z)));
              onward = farther (length text) m m₁ r₂ (omega (arith, o.0)) g.onward;
              kept = g.kept ∙ w.kept;
            }

        -- the condition holds: the first arm is evaluated, and the second passed over
        pub then_halts : Does whole text file plan state locals log (guarding f) m log₁ r → r ≡ Answer.Value v m₁ → v ≡ DV.Value.Bool t → t ≡ true →
            Does whole text file plan state locals log₁ f m₁ log₂ r₂ → M.Halts r₂ → Does (after Tag.choice) text file plan state locals log f m log₂ r₂
        unfolding G.after E.evaluate E.eval and_then as_bool value
        then_halts w y k z g s = record {
          does = λ D u end bad lv le. M.then _ (w.does D u end bad lv le) y (λ c q. M.fails _ (g.does D u end bad lv le) s (λ a p q₂. M.any _ _ (λ b o. M.halt s (rw (q, k, z) q₂))));
          onward = M.no_mark (length text) m s;
          kept = g.kept ∙ w.kept;
        }

        module _ {v₂ : DV.Value} {m₂ : Mark} {x : Maybe ℕ} where
          pub then_bad : {r₃ : Reason} → Does whole text file plan state locals log (guarding f) m log₁ r → r ≡ Answer.Value v m₁ → v ≡ DV.Value.Bool t →
              Does whole text file plan state locals log₁ f m₁ log₂ r₂ → r₂ ≡ Answer.Value v₂ m₂ →
              Skips S.whole text m₂.at 16 x → x ≡ None → Does (after Tag.choice) text file plan state locals log f m log₂ (Answer.Stuck r₃)
          unfolding G.after Onward
          then_bad w y k g j p q = record {
            does = λ D u end bad lv le. M.then _ (w.does D u end bad lv le) y (λ c a. M.then _ (g.does D u end bad lv le) j (λ b e. M.broken _ (p.passes end bad) q (deeper end bad lv 16 le _)));
            onward = tt;
            kept = g.kept ∙ w.kept;
          }

          pub then_done : {n : ℕ} → Does whole text file plan state locals log (guarding f) m log₁ r → r ≡ Answer.Value v m₁ → v ≡ DV.Value.Bool t → t ≡ true →
              Does whole text file plan state locals log₁ f m₁ log₂ r₂ → r₂ ≡ Answer.Value v₂ m₂ →
              Skips S.whole text m₂.at 16 x → x ≡ Some n →
              Does (after Tag.choice) text file plan state locals log f m log₂ (Answer.Value v₂ (record { at = n; calls = m₂.calls }))
          unfolding G.after E.evaluate E.eval and_then as_bool value Agrees Onward Within
          then_done {n} w y k z g j p q =
              let a = onward w y in
              let b = onward g j in
              let i = rw q at p.within in
              record {
                does = λ D u end bad lv le. M.then _ (w.does D u end bad lv le) y (λ c e. M.then _ (g.does D u end bad lv le) j (λ d e₂.
                    M.passed _ (p.passes end bad) q (deeper end bad lv 16 le _) (λ o. M.stop (rw (e, k, z, e₂), refl))));
                onward = (omega (arith, a.0, b.0, i.0), i.1, b.2);
                kept = g.kept ∙ w.kept;
              }

      pub else_bad : {x : Maybe ℕ} {r₃ : Reason} → Does whole text file plan state locals log (guarding f) m log₁ r → r ≡ Answer.Value v m₁ →
          Skips S.whole text m₁.at 16 x → x ≡ None → Does (after Tag.choice) text file plan state locals log f m log₁ (Answer.Stuck r₃)
      unfolding G.after Onward
      else_bad w y p q = record {
        does = λ D u end bad lv le. M.then _ (w.does D u end bad lv le) y (λ c a. M.broken _ (p.passes end bad) q (deeper end bad lv 16 le _));
        onward = tt;
        kept = w.kept;
      }

      module _ {t : Bool} {log₂ : List ℕ} {r₂ : Answer} {x : Maybe ℕ} where
        pub else_done : {n : ℕ} → Does whole text file plan state locals log (guarding f) m log₁ r → r ≡ Answer.Value v m₁ → v ≡ DV.Value.Bool t → t ≡ false →
            Skips S.whole text m₁.at 16 x → x ≡ Some n →
            Does whole text file plan state locals log₁ f (record { at = n; calls = m₁.calls }) log₂ r₂ → Does (after Tag.choice) text file plan state locals log f m log₂ r₂
        unfolding G.after E.evaluate E.eval and_then as_bool value Within
        else_done {n} w y k z p q g =
            let a = onward w y in
            let i = rw q at p.within in
            record {
              does = λ D u end bad lv le. M.then _ (w.does D u end bad lv le) y (λ c e. M.passed _ (p.passes end bad) q (deeper end bad lv 16 le _) (λ o. M.wraps _ (g.does D u end bad lv le) (λ b. rw (e, k, z))));
              onward = farther (length text) m (record { at = n; calls = m₁.calls }) r₂ (omega (arith, a.0, i.0)) g.onward;
              kept = g.kept ∙ w.kept;
            }
