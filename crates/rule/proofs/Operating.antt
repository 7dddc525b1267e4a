-- The operators: one law for each way in which `operate`, `arithmetic`, `logic` and `negate` return. The words' own laws say what the board's
-- arithmetic makes of two words.
use Prim.Native.Nat.{ℕ}
use mathlib.Core.Path.{◌≡◌, refl, ap, sym, ◌∙◌}
use mathlib.Core.Bool.{Bool, true, false, not, ◌&&◌, ◌||◌}
use mathlib.Core.List.{List}
use lib.IntN.{ℤ}
use Rattle.std.specs.Prelude.{Ok}
use Rattle.words.specs.Words as W
use Rattle.words.specs.Words.{number, word}
use Rattle.words.proofs.Laws as L
use Rattle.design.specs.Syntax.{Operator}
use Rattle.design.specs.declared.kinds.Operator as DO
use Rattle.design.specs.Kinds as K
use Rattle.design.specs.Grammar.{Operation}
use Rattle.rule.specs.declared.Value as DV
use Rattle.rule.specs.declared.Reason.{Reason}
use Rattle.rule.specs.declared.Mark.{Mark}
use Rattle.rule.specs.declared.Answer.{Answer}
use Rattle.meaning.specs.Values.{Value, Event, Out, as_num, as_bool}
use Rattle.meaning.specs.Evaluate as E
use Rattle.rule.specs.Answers.{value, number_of}
use Rattle.rule.specs.Post.{Agrees, Stays, Gives, Operates, negated}

same : {o p : Operator} → Operation.binary o ≡ Operation.binary p → o ≡ p
same e = cc

not_binary : {X : Type 0} {o : Operator} → Operation.not ≡ Operation.binary o → X
not_binary e = cc

-- ---- kinds

pub data NotNum : DV.Value → Type 0 where
  truth : {b : Bool} → NotNum (DV.Value.Bool b)
  void : NotNum DV.Value.Void

pub data NotBool : DV.Value → Type 0 where
  num : {w : ℕ} → NotBool (DV.Value.Num w)
  void : NotBool DV.Value.Void

-- what the `else` of a `let Value::Num(..)` knows, and of a `let Value::Bool(..)`
pub not_num : (a : DV.Value) → ((w : ℕ) → a ≡ DV.Value.Num w → ⊥) → NotNum a
not_num (DV.Value.Num w) h = absurd (h w refl)
not_num (DV.Value.Bool b) h = NotNum.truth
not_num DV.Value.Void h = NotNum.void

pub not_bool : (a : DV.Value) → ((b : Bool) → a ≡ DV.Value.Bool b → ⊥) → NotBool a
not_bool (DV.Value.Num w) h = NotBool.num
not_bool (DV.Value.Bool b) h = absurd (h b refl)
not_bool DV.Value.Void h = NotBool.void

pub num_stuck : {A : Type 0} {a : DV.Value} (f : ℤ → Out A) → NotNum a → as_num (value a) f ≡ Out.stuck 21
unfolding as_num value
num_stuck f NotNum.truth = refl
num_stuck f NotNum.void = refl

pub bool_stuck : {A : Type 0} {a : DV.Value} (f : Bool → Out A) → NotBool a → as_bool (value a) f ≡ Out.stuck 21
unfolding as_bool value
bool_stuck f NotBool.num = refl
bool_stuck f NotBool.void = refl

-- ---- negate

module _ {a : DV.Value} {m : Mark} where
  pub negate_kind : NotBool a → Gives m (negated (value a)) (Answer.Stuck Reason.Kind)
  unfolding negated Agrees Stays number_of
  negate_kind h = record { gives = λ text log. bool_stuck _ h; stays = tt }

  pub negate_done : {x : Bool} → a ≡ DV.Value.Bool x → Gives m (negated (value a)) (Answer.Value (DV.Value.Bool (not x)) m)
  unfolding negated Agrees Stays as_bool value
  negate_done e = record { gives = λ text log. (rw e, refl); stays = refl }

-- ---- operate

module _ {op : DO.Operator} {m : Mark} where
  -- a value, or none, from what the operator makes of the two
  gives_value : {p : Operator} {a b r : DV.Value} → K.operation (Ok op) ≡ Operation.binary p → ((l : List Event) → E.operate p (value a) (value b) l ≡ Out.got (value r) l) →
      Operates op a b m (Answer.Value r m)
  unfolding Agrees Stays
  gives_value e h = record { operates = λ o i. record { gives = λ text log. (rw (← same (sym e ∙ i)) (h _), refl); stays = refl } }

  gives_none : {a b : DV.Value} → ((o : Operator) → K.operation (Ok op) ≡ Operation.binary o → (l : List Event) → E.operate o (value a) (value b) l ≡ Out.stuck 21) →
      Operates op a b m (Answer.Stuck Reason.Kind)
  unfolding Agrees Stays number_of
  gives_none h = record { operates = λ o i. record { gives = λ text log. h o i _; stays = tt } }

  -- two words
  module _ {a b : ℕ} where
    pub adds : {w : ℕ} → op ≡ DO.Operator.Plus → w ≡ word (W.plus (number a) (number b)) → Operates op (DV.Value.Num a) (DV.Value.Num b) m (Answer.Value (DV.Value.Num w) m)
    unfolding K.operation E.operate as_num value
    adds e q = gives_value {p = Operator.plus} (rw e) (λ l. rw (q, L.number_word (W.plus (number a) (number b)) (L.plus_fits (number a) (number b))) refl)

    pub subtracts : {w : ℕ} → op ≡ DO.Operator.Minus → w ≡ word (W.minus (number a) (number b)) → Operates op (DV.Value.Num a) (DV.Value.Num b) m (Answer.Value (DV.Value.Num w) m)
    unfolding K.operation E.operate as_num value
    subtracts e q = gives_value {p = Operator.minus} (rw e) (λ l. rw (q, L.number_word (W.minus (number a) (number b)) (L.minus_fits (number a) (number b))) refl)

    pub equals : {t : Bool} → op ≡ DO.Operator.Equal → t ≡ W.equal (number a) (number b) → Operates op (DV.Value.Num a) (DV.Value.Num b) m (Answer.Value (DV.Value.Bool t) m)
    unfolding K.operation E.operate as_num value
    equals e q = gives_value {p = Operator.equal} (rw e) (λ l. rw q refl)

    pub lesser : {t : Bool} → op ≡ DO.Operator.Less → t ≡ W.less (number a) (number b) → Operates op (DV.Value.Num a) (DV.Value.Num b) m (Answer.Value (DV.Value.Bool t) m)
    unfolding K.operation E.operate as_num value
    lesser e q = gives_value {p = Operator.less} (rw e) (λ l. rw q refl)

  -- two truths
  module _ {a b : Bool} where
    conjoins : op ≡ DO.Operator.And → Operates op (DV.Value.Bool a) (DV.Value.Bool b) m (Answer.Value (DV.Value.Bool (a && b)) m)
    unfolding K.operation E.operate as_bool value
    conjoins e = gives_value {p = Operator.and} (rw e) (λ l. refl)

    disjoins : op ≡ DO.Operator.Or → Operates op (DV.Value.Bool a) (DV.Value.Bool b) m (Answer.Value (DV.Value.Bool (a || b)) m)
    unfolding K.operation E.operate as_bool value
    disjoins e = gives_value {p = Operator.or} (rw e) (λ l. refl)

    answers : (x : Bool) {y : Bool} → y ≡ x → Operates op (DV.Value.Bool a) (DV.Value.Bool b) m (Answer.Value (DV.Value.Bool y) m) →
        Operates op (DV.Value.Bool a) (DV.Value.Bool b) m (Answer.Value (DV.Value.Bool x) m)
    answers x e h = rw e at h

    -- the code goes by the first truth, and answers the second or the first
    pub and_true : op ≡ DO.Operator.And → a ≡ true → Operates op (DV.Value.Bool a) (DV.Value.Bool b) m (Answer.Value (DV.Value.Bool b) m)
    and_true k e = answers b (ap (λ z. z && b) e) (conjoins k)

    pub and_false : op ≡ DO.Operator.And → a ≡ false → Operates op (DV.Value.Bool a) (DV.Value.Bool b) m (Answer.Value (DV.Value.Bool a) m)
    and_false k e = answers a (ap (λ z. z && b) e ∙ sym e) (conjoins k)

    pub or_true : op ≡ DO.Operator.Or → a ≡ true → Operates op (DV.Value.Bool a) (DV.Value.Bool b) m (Answer.Value (DV.Value.Bool a) m)
    or_true k e = answers a (ap (λ z. z || b) e ∙ sym e) (disjoins k)

    pub or_false : op ≡ DO.Operator.Or → a ≡ false → Operates op (DV.Value.Bool a) (DV.Value.Bool b) m (Answer.Value (DV.Value.Bool b) m)
    or_false k e = answers b (ap (λ z. z || b) e) (disjoins k)

-- the operators that take no words, and no truths
pub no_words : (op : DO.Operator) {m : Mark} {a b : ℕ} → (op ≡ DO.Operator.Plus → ⊥) → (op ≡ DO.Operator.Minus → ⊥) → (op ≡ DO.Operator.Equal → ⊥) → (op ≡ DO.Operator.Less → ⊥) →
    Operates op (DV.Value.Num a) (DV.Value.Num b) m (Answer.Stuck Reason.Kind)
unfolding K.operation E.operate as_bool value
no_words DO.Operator.Plus p q r s = absurd (p refl)
no_words DO.Operator.Minus p q r s = absurd (q refl)
no_words DO.Operator.Equal p q r s = absurd (r refl)
no_words DO.Operator.Less p q r s = absurd (s refl)
no_words DO.Operator.And p q r s = gives_none (λ o i l. rw (← same i) refl)
no_words DO.Operator.Or p q r s = gives_none (λ o i l. rw (← same i) refl)
no_words DO.Operator.Not p q r s = gives_none (λ o i l. not_binary i)

pub no_truths : (op : DO.Operator) {m : Mark} {a b : Bool} → (op ≡ DO.Operator.And → ⊥) → (op ≡ DO.Operator.Or → ⊥) →
    Operates op (DV.Value.Bool a) (DV.Value.Bool b) m (Answer.Stuck Reason.Kind)
unfolding K.operation E.operate as_num value
no_truths DO.Operator.Plus p q = gives_none (λ o i l. rw (← same i) refl)
no_truths DO.Operator.Minus p q = gives_none (λ o i l. rw (← same i) refl)
no_truths DO.Operator.Equal p q = gives_none (λ o i l. rw (← same i) refl)
no_truths DO.Operator.Less p q = gives_none (λ o i l. rw (← same i) refl)
no_truths DO.Operator.And p q = absurd (p refl)
no_truths DO.Operator.Or p q = absurd (q refl)
no_truths DO.Operator.Not p q = gives_none (λ o i l. not_binary i)

module _ {op : DO.Operator} {a b : DV.Value} {m : Mark} {r : Answer} where
  pub of_words : {x y : ℕ} → a ≡ DV.Value.Num x → b ≡ DV.Value.Num y → Operates op (DV.Value.Num x) (DV.Value.Num y) m r → Operates op a b m r
  of_words p q h = rw (p, q) h

  pub of_truths : {x y : Bool} → a ≡ DV.Value.Bool x → b ≡ DV.Value.Bool y → Operates op (DV.Value.Bool x) (DV.Value.Bool y) m r → Operates op a b m r
  of_truths p q h = rw (p, q) h

-- two values that are not both Nums, nor both Bools
mixed : (op : DO.Operator) (a b : DV.Value) {m : Mark} → ((x y : ℕ) → a ≡ DV.Value.Num x → b ≡ DV.Value.Num y → ⊥) → ((x y : Bool) → a ≡ DV.Value.Bool x → b ≡ DV.Value.Bool y → ⊥) →
    Operates op a b m (Answer.Stuck Reason.Kind)
unfolding E.operate as_num as_bool value
mixed op a b n t = gives_none (λ o i l. go o a b n t l)
  where
    nums : (f : ℤ → ℤ → Out Value) (a b : DV.Value) → ((x y : ℕ) → a ≡ DV.Value.Num x → b ≡ DV.Value.Num y → ⊥) → as_num (value a) (λ x. as_num (value b) (λ y. f x y)) ≡ Out.stuck 21
    nums f (DV.Value.Num x) (DV.Value.Num y) h = absurd (h x y refl refl)
    nums f (DV.Value.Num x) (DV.Value.Bool y) h = refl
    nums f (DV.Value.Num x) DV.Value.Void h = refl
    nums f (DV.Value.Bool x) b h = refl
    nums f DV.Value.Void b h = refl

    bools : (f : Bool → Bool → Out Value) (a b : DV.Value) → ((x y : Bool) → a ≡ DV.Value.Bool x → b ≡ DV.Value.Bool y → ⊥) → as_bool (value a) (λ x. as_bool (value b) (λ y. f x y)) ≡ Out.stuck 21
    bools f (DV.Value.Bool x) (DV.Value.Bool y) h = absurd (h x y refl refl)
    bools f (DV.Value.Bool x) (DV.Value.Num y) h = refl
    bools f (DV.Value.Bool x) DV.Value.Void h = refl
    bools f (DV.Value.Num x) b h = refl
    bools f DV.Value.Void b h = refl

    go : (o : Operator) (a b : DV.Value) → ((x y : ℕ) → a ≡ DV.Value.Num x → b ≡ DV.Value.Num y → ⊥) → ((x y : Bool) → a ≡ DV.Value.Bool x → b ≡ DV.Value.Bool y → ⊥) →
        (l : List Event) → E.operate o (value a) (value b) l ≡ Out.stuck 21
    go Operator.plus a b n t l = nums _ a b n
    go Operator.minus a b n t l = nums _ a b n
    go Operator.equal a b n t l = nums _ a b n
    go Operator.less a b n t l = nums _ a b n
    go Operator.and a b n t l = bools _ a b t
    go Operator.or a b n t l = bools _ a b t

module _ {op : DO.Operator} {a b : DV.Value} {m : Mark} where
  pub word_first : {x : ℕ} → a ≡ DV.Value.Num x → ((y : ℕ) → b ≡ DV.Value.Num y → ⊥) → Operates op a b m (Answer.Stuck Reason.Kind)
  word_first {x} e n = mixed op a b (λ u y p q. n y q) (λ u y p q. let z : DV.Value.Num x ≡ DV.Value.Bool u = sym e ∙ p in cc)

  pub truth_first : {x : Bool} → a ≡ DV.Value.Bool x → ((y : Bool) → b ≡ DV.Value.Bool y → ⊥) → Operates op a b m (Answer.Stuck Reason.Kind)
  truth_first {x} e n = mixed op a b (λ u y p q. let z : DV.Value.Bool x ≡ DV.Value.Num u = sym e ∙ p in cc) (λ u y p q. n y q)

  pub void_first : a ≡ DV.Value.Void → Operates op a b m (Answer.Stuck Reason.Kind)
  void_first e = mixed op a b (λ u y p q. let z : DV.Value.Void ≡ DV.Value.Num u = sym e ∙ p in cc) (λ u y p q. let z : DV.Value.Void ≡ DV.Value.Bool u = sym e ∙ p in cc)
