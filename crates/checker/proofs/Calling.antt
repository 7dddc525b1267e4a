-- What a call names, its arguments and the call: one law for each way in which their functions return. The loop over the arguments keeps
-- `Row`: what is left of them, from where the loop stands, decides the whole.
use Prim.Native.Nat.{ℕ, zero, suc, ◌+◌, ◌-◌, ◌≤◌, ◌<◌}
use mathlib.Core.Path.{◌≡◌, refl, ap, sym, ◌∙◌}
use mathlib.Core.Bool.{Bool, true, false, not, ◌&&◌}
use mathlib.Core.List.{List, [], ◌∷◌, map}
use native.Mathlib.Numerals.{add-one}
use native.Mathlib.Omega.{arith}
use lib.Dec.{ltb}
use lib.ListN.{length, drop, get_or, length-map, drop_of_length-le}
use lib.Seq.{drop-cons}
use borrow.Author.Tests.{eqb-true}
use denote.Enum.Bare.{sameb}
use Rattle.std.specs.Prelude.{Result, Ok, Err}
use Rattle.design.specs.contracts.kinds.Kind.{the_type}
use Rattle.design.specs.declared.kinds.Kind as DK
use Rattle.design.specs.Kinds.{kind, IsKind}
use Rattle.design.specs.Syntax.{Expr, Exprs, Kind, Design}
use Rattle.design.specs.Take.{Refusal, Read, got, bind}
use Rattle.design.specs.Grammar as G
use Rattle.design.specs.Grammar.{Tag}
use Rattle.design.specs.Records as R
use Rattle.design.specs.Plan.{Plans, World}
use Rattle.design.specs.declared.plan.Signature.{Signature}
use Rattle.design.specs.Lookups.{Describes, Kinds}
use Rattle.design.proofs.Inverting.{bound, got_value}
use Rattle.rule.specs.declared.Reason.{Reason}
use Rattle.rule.specs.declared.naming.Callee as DC
use Rattle.meaning.specs.Values.{same_kind, same_kinds}
use Rattle.meaning.specs.Naming.{Test, passed, failed, if_passed, test, Callee, params_of, result_of, how_many, callee_of, named}
use Rattle.rule.specs.Named.{Names, Naming}
use Rattle.rule.specs.Post.{Is}
use Rattle.rule.specs.Answers.{number_of}
use Rattle.meaning.specs.Kinds as K
use Rattle.checker.specs.Walks.{Place, went, gave, live_of, whole, after, calls, Agrees, Means, Onward, Walks, Reads, Results, Param, fits, Fits}
use Rattle.rule.proofs.Passed.{both, held}
use Rattle.checker.proofs.Parts as M
use Rattle.checker.proofs.Wanting as W

-- ---- parameters and result

kind_at : (s : List ℕ) (j : ℕ) → j < length s → get_or (map R.kind_of s) j Kind.void ≡ R.kind_of (get_or s j 0)
kind_at [] j h = absurd (omega arith)
kind_at (a ∷ s) zero h = refl
kind_at (a ∷ s) (suc j) h = kind_at s j (omega arith)

-- what is no method with a body: a write has one parameter, a Num
pub data Plain : DC.Callee → Type 0 where
  read : Plain DC.Callee.Read
  write : Plain DC.Callee.Write

-- what the `else` of a `let Callee::User(..)` knows
pub plain : (c : DC.Callee) → ((k : ℕ) → c ≡ DC.Callee.User k → ⊥) → Plain c
plain DC.Callee.Read h = Plain.read
plain DC.Callee.Write h = Plain.write
plain (DC.Callee.User k) h = absurd (h k refl)

pub plain_param : {file plan : List ℕ} {c : DC.Callee} {j : ℕ} → Plain c → Param file plan c j DK.Kind.Num
unfolding Is params_of kind
plain_param Plain.read = record { is = λ D w y (p, e) h. absurd (omega (arith, rw e at h)) }
plain_param {j = j} Plain.write = record { is = λ D w y (p, e) h. rw e (one j (rw e at h)) }
  where
    one : (j : ℕ) → j < 1 → Kind.num ≡ get_or (Kind.num ∷ []) j Kind.void
    one zero h = refl
    one (suc j) h = absurd (omega arith)

module _ {file plan : List ℕ} {c : DC.Callee} {k : ℕ} {ks : List ℕ} (e : c ≡ DC.Callee.User k) (h : Kinds file plan k ks) where
  -- the parameters of the method that is named
  with_params : {X : Type 0} (D : Design) → World file plan D → (y : Callee) → Is D c y → (params_of y ≡ map R.kind_of ks →
      length (params_of y) ≡ length ks → X) → X
  unfolding Is params_of
  with_params D w y i next =
      let (x, q, n) = rw e at i in
      let ps : params_of y ≡ map R.kind_of ks = ap params_of q ∙ h.kinds D x w n in
      next ps (ap length ps ∙ length-map ks R.kind_of)

  pub param_past : {j : ℕ} {r : DK.Kind} → length ks ≤ j → Param file plan c j r
  param_past q = record { is = λ D w y i l. with_params D w y i (λ p n. absurd (omega arith)) }

  pub user_param : {j n : ℕ} {r : DK.Kind} → j < length ks → n ≡ get_or ks j 0 → IsKind n r → Param file plan c j r
  user_param {j} q z is = record { is = λ D w y i l. with_params D w y i (λ p n. is ∙ rw (p, z) (sym (kind_at ks j q))) }

module _ {plan : List ℕ} {c : DC.Callee} where
  pub read_result : c ≡ DC.Callee.Read → Results plan c DK.Kind.Num
  unfolding Is kind result_of
  read_result e = record { results = λ D p y i. let (a, q) = rw e at i in rw q }

  pub write_result : c ≡ DC.Callee.Write → Results plan c DK.Kind.Void
  unfolding Is kind result_of
  write_result e = record { results = λ D p y i. let (a, q) = rw e at i in rw q }

  pub user_result : {k : ℕ} {s : Signature} → c ≡ DC.Callee.User k → Describes plan k s → Results plan c s.result
  unfolding Is result_of
  user_result e h = record { results = λ D p y i. let (x, q, n) = rw e at i in h.result D x p n ∙ sym (ap result_of q) }

-- ---- what was named

-- a call that has passed its tests has as many arguments as there are parameters
counted : (D : Design) (me i m n : ℕ) (pure : Bool) {y : Callee} → named D me i m n pure ≡ passed y → n ≡ length (params_of y)
unfolding named
counted D me i m n pure {y} e =
    held (ltb i me) _ _ e (λ h e1. both (callee_of D i m) _ e1 (λ a p e2. held _ _ _ e2 (λ t e3. held _ _ _ e3 (λ _ q.
    eqb-true n _ t ∙ ap (λ c. length (params_of c)) (same q)))))
  where
    same : {a b : Callee} → passed a ≡ passed b → a ≡ b
    same q = cc

-- what the tests passed with is what was found
named_on : {X : Type 0} (t : Test Callee) (D : Design) (i m : ℕ) (c : DC.Callee) → Names t D i m (Ok c) → ((y : Callee) → t ≡ passed y → Is D c y → X) → X
unfolding Names Is
named_on t D i m DC.Callee.Read (p, e) next = next _ e (p, refl)
named_on t D i m DC.Callee.Write (p, e) next = next _ e (p, refl)
named_on t D i m (DC.Callee.User k) (x, e, q, n) next = next _ e (x, refl, q)

-- ---- arguments

pub record Row (count : ℕ) (text file plan : List ℕ) (f : Place) (at : ℕ) (c : DC.Callee) (fit : Bool) (here j : ℕ) : Type 0 where
  pub decides : (r : Result (Bool × ℕ) Reason) →
      ((D : Design) → World file plan D → (y : Callee) → Is D c y → length (params_of y) ≡ count → (end : ℕ) (bad : Refusal) (levels : ℕ) →
      Means (G.exprs end bad (G.expr end bad levels) (count - j) (drop here text))
      (λ es. if_passed (K.kinds D f.me es f.pure (live_of f)) (λ js. passed (fit && same_kinds (drop j (params_of y)) js)))
      text (gave r)) →
      Onward here (gave r) → Fits count text file plan f at c r
  pub since : at ≤ here

and_true : (a : Bool) → (a && true) ≡ a
and_true true = refl
and_true false = refl

-- one argument is compared with the first parameter that is left, and the others with those behind it
compared : (p : Test (List Kind)) (fit more t : Bool) (k : Kind) (ks : List Kind) (j : ℕ) → j < length ks → t ≡ same_kind (get_or ks j Kind.void) k →
    ((b : Bool) → (fit && (t && b)) ≡ (more && b)) →
    if_passed (if_passed p (λ js. passed (k ∷ js))) (λ js. passed (fit && same_kinds (drop j ks) js)) ≡
    if_passed p (λ js. passed (more && same_kinds (drop (j + 1) ks) js))
unfolding if_passed same_kinds
compared (passed js) fit more t k ks j h e f = rw (add-one j, drop-cons ks j Kind.void h, ← e) (ap passed (f (same_kinds (drop (suc j) ks) js)))
compared (failed n) fit more t k ks j h e f = refl

module _ {count : ℕ} {text file plan : List ℕ} {f : Place} {at : ℕ} {c : DC.Callee} where
  pub row_starts : Row count text file plan f at c true at 0
  unfolding fits
  row_starts =
      let z : count - 0 ≡ count = omega arith in
      record { decides = λ r h o. record { does = λ D u y i e end bad levels. rw z at (h D u y i e end bad levels); onward = o }; since = omega arith }

  module _ {fit : Bool} {here j : ℕ} (l : Row count text file plan f at c fit here j) where
    pub row_done : count ≤ j → Fits count text file plan f at c (Ok (fit, here))
    unfolding G.exprs K.kinds if_passed same_kinds gave Onward
    row_done q =
        let z : count - j ≡ 0 = omega arith in
        l.decides _
        (λ D u y i e end bad levels. rw z (M.comes (rw (drop_of_length-le (params_of y) {i = j} (omega arith)) (ap passed (and_true fit)))))
        (omega arith)

    module _ (q : j < count) where
      pub row_no : {why : Reason} → Walks whole text file plan f here (Err why) → Fits count text file plan f at c (Err why)
      unfolding G.exprs K.kinds if_passed went gave Onward
      row_no w =
          let z : count - j ≡ suc (count - (j + 1)) = omega arith in
          l.decides _ (λ D u y i e end bad levels. rw z (M.fails _ (w.does D u end bad levels) refl (λ a t p i. M.any _ _ (λ es o m. M.ends refl (rw i))))) tt

      module _ {k p : DK.Kind} {n : ℕ} (w : Walks whole text file plan f here (Ok (k, n))) (i : Param file plan c j p) where
        row_goes : {t : Bool} → sameb the_type k p ≡ t → (more : Bool) → ((b : Bool) → (fit && (t && b)) ≡ (more && b)) → Row count text file plan f at c more n (j + 1)
        unfolding G.exprs K.kinds went if_passed
        row_goes {t} v more x =
            let z : count - j ≡ suc (count - (j + 1)) = omega arith in
            let o = M.goes w in
            record {
              decides = λ r₁ g d. l.decides r₁
                  (λ D u y callee e end bad levels. rw z (M.then _ (w.does D u end bad levels) refl (λ a b h.
                  M.wraps _ (g D u y callee e end bad levels) (λ es.
                  let in_row : j < length (params_of y) = omega arith in
                  rw h (compared (K.kinds D f.me es f.pure (live_of f)) fit more t (kind k) (params_of y) j in_row
                  (sym v ∙ W.same k p ∙ ap (λ g. same_kind g (kind k)) (i.is D u y callee in_row)) x)))))
                  (M.farther (gave r₁) o d);
              since = omega (arith, l.since);
            }

        module _ {more d : Bool} (v : d ≡ not (sameb the_type k p)) where
          pub row_fits : d ≡ false → more ≡ fit → Row count text file plan f at c more n (j + 1)
          row_fits x m = row_goes (not_false _ (sym v ∙ x)) _ (λ b. rw m)
            where
              not_false : (b : Bool) → not b ≡ false → b ≡ true
              not_false true e = refl
              not_false false e = sym e

          pub row_misfits : d ≡ true → more ≡ false → Row count text file plan f at c more n (j + 1)
          row_misfits x m = row_goes (not_true _ (sym v ∙ x)) _ (λ b. rw m (never fit))
            where
              not_true : (b : Bool) → not b ≡ true → b ≡ false
              not_true false e = refl
              not_true true e = sym e

              never : (a : Bool) → (a && false) ≡ false
              never true = refl
              never false = refl

-- ---- calls

row_count : (end : ℕ) (bad : Refusal) (E : List ℕ → Read Expr) (n : ℕ) (s : List ℕ) {es : Exprs} {r : List ℕ} → G.exprs end bad E n s ≡ got es r →
    how_many es ≡ n
unfolding G.exprs how_many
row_count end bad E zero s e = rw (← got_value e)
row_count end bad E (suc n) s e =
    bound _ _ e (λ a t p q. bound _ _ q (λ es z i j. rw (← got_value j) (ap suc (row_count end bad E n t i))))

-- whether the arguments fit, and then the test that they do
fit_first : (p : Test (List Kind)) (ks : List Kind) (k : Kind) →
    if_passed p (λ js. test (same_kinds ks js) 21 (passed k)) ≡ if_passed (if_passed p (λ js. passed (same_kinds ks js))) (λ b. test b 21 (passed k))
unfolding if_passed
fit_first (passed js) ks k = refl
fit_first (failed n) ks k = refl

module _ {text file plan : List ℕ} {f : Place} {at : ℕ} where
  pub call_cut : {why : Reason} → Reads text at (Err why) → Walks (after Tag.call) text file plan f at (Err why)
  unfolding G.after bind went Onward
  call_cut h = record { does = λ D u end bad levels. M.none {why = bad} (rw (M.ended h bad)); onward = tt }

  module _ {i n₁ : ℕ} (h₁ : Reads text at (Ok (i, n₁))) where
    pub call_cut_2 : {why : Reason} → Reads text n₁ (Err why) → Walks (after Tag.call) text file plan f at (Err why)
    unfolding G.after bind went Onward
    call_cut_2 h = record { does = λ D u end bad levels. M.none {why = bad} (rw (M.found h₁ bad, M.ended h bad)); onward = tt }

    module _ {m n₂ : ℕ} (h₂ : Reads text n₁ (Ok (m, n₂))) where
      pub call_cut_3 : {why : Reason} → Reads text n₂ (Err why) → Walks (after Tag.call) text file plan f at (Err why)
      unfolding G.after bind went Onward
      call_cut_3 h = record { does = λ D u end bad levels. M.none {why = bad} (rw (M.found h₁ bad, M.found h₂ bad, M.ended h bad)); onward = tt }

      pub call_done : {n n₃ k a b : ℕ} {r : Result (DK.Kind × ℕ) Reason} → Reads text n₂ (Ok (n, n₃)) → Walks (calls a b k) text file plan f n₃ r → a ≡ i → b ≡ m →
          k ≡ n →
          Walks (after Tag.call) text file plan f at r
      unfolding G.after bind
      call_done {r = r} h₃ w is-a is_b is-k = record {
        does = λ D u end bad levels.
            rw (M.found h₁ bad, M.found h₂ bad, M.found h₃ bad, ← is-a, ← is_b, ← is-k)
            (M.tried _ bad (M.wraps _ (w.does D u end bad levels) (λ es. refl)));
        onward = M.farther (went r) (omega (arith, (M.follows h₁).0, (M.follows h₂).0, (M.follows h₃).0)) w.onward;
      }

module _ {text file plan : List ℕ} {f : Place} {at i m n : ℕ} where
  pub unnamed : {why : Reason} → Naming plan f.me i m n f.pure (Err why) → Walks (calls i m n) text file plan f at (Err why)
  unfolding Agrees K.kind if_passed went Onward Names
  unnamed names = record {
    does = λ D u end bad levels. record {
      says = λ es z p.
          let t = names.names D u.plans in
          rw (row_count end bad (G.expr end bad levels) n (drop at text) p, t);
    };
    onward = tt;
  }

  module _ {c : DC.Callee} (names : Naming plan f.me i m n f.pure (Ok c)) {g : Result (Bool × ℕ) Reason} (w : Fits n text file plan f at c g) where
    -- a call whose arguments were walked
    walked : {r : Result (DK.Kind × ℕ) Reason} → ((D : Design) → Plans plan D → (y : Callee) → Is D c y → (es : Exprs) (rest : List ℕ) →
        Agrees text rest (gave g) (fits D f (params_of y) es) →
        Agrees text rest (went r) (if_passed (fits D f (params_of y) es) (λ b. test b 21 (passed (result_of y))))) →
        Onward at (went r) → Walks (calls i m n) text file plan f at r
    unfolding K.kind if_passed fits
    walked {r} next o = record {
      does = λ D u end bad levels. record {
        says = λ es z p.
            let count = row_count end bad (G.expr end bad levels) n (drop at text) p in
            named_on (named D f.me i m n f.pure) D i m c (names.names D u.plans) (λ y by is.
            let many : length (params_of y) ≡ n = sym (counted D f.me i m n f.pure by) in
            let same = fit_first (K.kinds D f.me es f.pure (live_of f)) (params_of y) (result_of y) in
            rw (count, by, same) (next D u.plans y is es z ((w.does D u y is many end bad levels).says es z p)));
      };
      onward = o;
    }

    pub arguments_no : {why : Reason} → g ≡ Err why → Walks (calls i m n) text file plan f at (Err why)
    unfolding Agrees gave went Onward if_passed
    arguments_no s = walked (λ D u y is es z q. let t = rw s at q in rw t) tt

    module _ {fit : Bool} {l : ℕ} (s : g ≡ Ok (fit, l)) where
      pub misfits : fit ≡ false → Walks (calls i m n) text file plan f at (Err Reason.Kind)
      unfolding Agrees gave went Onward if_passed test number_of
      misfits t = walked (λ D u y is es z q. let a = rw (s, t) at q in rw a.0) tt

      pub gives : {v : DK.Kind} → fit ≡ true → Results plan c v → Walks (calls i m n) text file plan f at (Ok (v, l))
      unfolding Agrees gave went Onward if_passed test
      gives t e = walked (λ D u y is es z q. let a = rw (s, t) at q in (rw (a.0, e.results D u y is), a.1)) (let o = rw s at w.onward in o)
