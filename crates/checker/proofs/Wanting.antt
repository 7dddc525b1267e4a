-- Whether a kind is the one that is wanted, and what the operators want of them: one law for each way in which a test returns.
use Prim.Native.Nat.{ℕ}
use mathlib.Core.Path.{◌≡◌, refl, sym, ◌∙◌}
use mathlib.Core.Bool.{Bool, true, false, not}
use native.Mathlib.Omega.{arith}
use borrow.Author.Tests.{not-true, not-false}
use Rattle.std.proofs.Common.{◌⊎◌, inl, inr}
use denote.Enum.Bare.{sameb}
use Rattle.std.specs.Prelude.{Result, Ok, Err}
use Rattle.design.specs.contracts.kinds.Kind.{the_type}
use Rattle.design.specs.declared.kinds.Kind as DK
use Rattle.design.specs.declared.kinds.Operator as DO
use Rattle.design.specs.Kinds.{kind, operation}
use Rattle.design.specs.Syntax.{Operator, Kind}
use Rattle.design.specs.Grammar.{Operation}
use Rattle.rule.specs.declared.Reason.{Reason}
use Rattle.meaning.specs.Values.{same_kind}
use Rattle.meaning.specs.Naming.{Test, passed, failed, test}
use Rattle.rule.specs.Answers.{number_of}
use Rattle.meaning.specs.Kinds as K
use Rattle.checker.specs.Bodies.{tested}
use Rattle.checker.specs.Walks.{went, Agrees, Onward, Tested, Wanting, Wants, Takes, Gives, Operates, Negates}

-- the derived test of equality is the definitions'
pub same : (a b : DK.Kind) → sameb the_type a b ≡ same_kind (kind b) (kind a)
unfolding same_kind kind
same DK.Kind.Void DK.Kind.Void = refl
same DK.Kind.Void DK.Kind.Num = refl
same DK.Kind.Void DK.Kind.Bool = refl
same DK.Kind.Num DK.Kind.Void = refl
same DK.Kind.Num DK.Kind.Num = refl
same DK.Kind.Num DK.Kind.Bool = refl
same DK.Kind.Bool DK.Kind.Void = refl
same DK.Kind.Bool DK.Kind.Num = refl
same DK.Kind.Bool DK.Kind.Bool = refl

module _ {a b : DK.Kind} {t : Bool} (e : t ≡ sameb the_type b a) where
  pub is_wanted : {u : Unit {0}} → t ≡ true → Wants a b (Ok u)
  unfolding Wanting
  is_wanted h = record { wants = sym (same b a) ∙ sym e ∙ h }

  pub is_other : t ≡ false → Wants a b (Err Reason.Kind)
  unfolding Wanting
  is_other h = record { wants = (sym (same b a) ∙ sym e ∙ h, refl) }

-- the same of the derived test of difference
module _ {a b : DK.Kind} {t : Bool} (e : t ≡ not (sameb the_type b a)) where
  pub is_same : {u : Unit {0}} → t ≡ false → Wants a b (Ok u)
  is_same h = is_wanted {a = a} {b = b} refl (not-false _ (sym e ∙ h))

  pub differs : t ≡ true → Wants a b (Err Reason.Kind)
  differs h = is_other {a = a} {b = b} refl (not-true _ (sym e ∙ h))

-- the kind that is wanted, or 21
module _ {A : Type 0} {a b : DK.Kind} (u : Test A) where
  pub wanted : {o : Unit {0}} → Wants a b (Ok o) → K.wants (kind a) (kind b) u ≡ u
  unfolding K.wants test Wanting
  wanted h = rw h.wants

  module _ {e : Reason} (h : Wants a b (Err e)) where
    pub unwanted : K.wants (kind a) (kind b) u ≡ failed (number_of e)
    unfolding K.wants test Wanting number_of
    unwanted = rw (h.wants.0, h.wants.1)

-- a last test
pub decided : {a b : DK.Kind} (r : Result (Unit {0}) Reason) → Wants a b r → K.wants (kind a) (kind b) (passed tt) ≡ tested r
unfolding tested
decided (Ok o) h = wanted (passed tt) h
decided (Err e) h = unwanted (passed tt) h

module _ {u : Test Kind} {at : ℕ} where
  wrong : {e : Reason} → u ≡ failed (number_of e) → Tested u at (Err e)
  unfolding went Agrees Onward
  wrong e = record { tested = λ text. e; onward = tt }

  right : (k : DK.Kind) → u ≡ passed (kind k) → Tested u at (Ok (k, at))
  unfolding went Agrees Onward
  right k e = record { tested = λ text. (e, refl); onward = omega arith }

module _ {a : DK.Kind} {at : ℕ} where
  pub not_bool : {o : Unit {0}} → Wants DK.Kind.Bool a (Ok o) → Negates a at (Ok (DK.Kind.Bool, at))
  unfolding kind
  not_bool h = record { negates = right DK.Kind.Bool (wanted (passed Kind.bool) h) }

  pub not_other : {e : Reason} → Wants DK.Kind.Bool a (Err e) → Negates a at (Err e)
  unfolding kind
  not_other h = record { negates = wrong (unwanted (passed Kind.bool) h) }

-- ---- operators of two operands

one : {o p : Operator} → Operation.binary o ≡ Operation.binary p → o ≡ p
one e = cc

unary : {X : Type 0} {o : Operator} → Operation.not ≡ Operation.binary o → X
unary e = absurd (let z : ◌≡◌ {A = ℕ} 0 1 = cc in omega arith)

module _ {op : DO.Operator} where
  pub takes_bool : (op ≡ DO.Operator.And) ⊎ ((op ≡ DO.Operator.Or) ⊎ (op ≡ DO.Operator.Not)) → Takes op DK.Kind.Bool
  unfolding operation kind K.takes
  takes_bool (inl e) = rw e (record { takes = λ o h. rw (← one h) })
  takes_bool (inr (inl e)) = rw e (record { takes = λ o h. rw (← one h) })
  takes_bool (inr (inr e)) = rw e (record { takes = λ o h. unary h })

  pub gives_num : (op ≡ DO.Operator.Plus) ⊎ (op ≡ DO.Operator.Minus) → Gives op DK.Kind.Num
  unfolding operation kind K.gives
  gives_num (inl e) = rw e (record { gives = λ o h. rw (← one h) })
  gives_num (inr e) = rw e (record { gives = λ o h. rw (← one h) })

pub takes_num : (op : DO.Operator) → (op ≡ DO.Operator.And → ⊥) → (op ≡ DO.Operator.Or → ⊥) → (op ≡ DO.Operator.Not → ⊥) → Takes op DK.Kind.Num
unfolding operation kind K.takes
takes_num DO.Operator.Plus p q r = record { takes = λ o h. rw (← one h) }
takes_num DO.Operator.Minus p q r = record { takes = λ o h. rw (← one h) }
takes_num DO.Operator.Equal p q r = record { takes = λ o h. rw (← one h) }
takes_num DO.Operator.Less p q r = record { takes = λ o h. rw (← one h) }
takes_num DO.Operator.And p q r = absurd (p refl)
takes_num DO.Operator.Or p q r = absurd (q refl)
takes_num DO.Operator.Not p q r = absurd (r refl)

pub gives_bool : (op : DO.Operator) → (op ≡ DO.Operator.Plus → ⊥) → (op ≡ DO.Operator.Minus → ⊥) → Gives op DK.Kind.Bool
unfolding operation kind K.gives
gives_bool DO.Operator.Plus p q = absurd (p refl)
gives_bool DO.Operator.Minus p q = absurd (q refl)
gives_bool DO.Operator.Equal p q = record { gives = λ o h. rw (← one h) }
gives_bool DO.Operator.Less p q = record { gives = λ o h. rw (← one h) }
gives_bool DO.Operator.And p q = record { gives = λ o h. rw (← one h) }
gives_bool DO.Operator.Or p q = record { gives = λ o h. rw (← one h) }
gives_bool DO.Operator.Not p q = record { gives = λ o h. unary h }

module _ {op : DO.Operator} {at : ℕ} {a b k : DK.Kind} (w : Takes op k) where
  pub first_other : {e : Reason} → Wants k a (Err e) → Operates op a b at (Err e)
  first_other x = record { operates = λ o h. wrong (rw (← w.takes o h) (unwanted _ x)) }

  module _ {n : Unit {0}} (x : Wants k a (Ok n)) where
    pub second_other : {e : Reason} → Wants k b (Err e) → Operates op a b at (Err e)
    second_other y = record { operates = λ o h. wrong (rw (← w.takes o h) (wanted _ x ∙ unwanted _ y)) }

    pub operated : {m : Unit {0}} {g : DK.Kind} → Wants k b (Ok m) → Gives op g → Operates op a b at (Ok (g, at))
    operated {g = g} y z = record { operates = λ o h. right g (rw (← w.takes o h, ← z.gives o h) (wanted _ x ∙ wanted _ y)) }
