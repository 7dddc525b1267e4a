-- Values have their kinds, and calls are few: by induction on the tree, where a callee is known to end well, and then on the instance
-- number, since a call names an instance below the caller's.
use Prim.Native.Nat.{ℕ, zero, suc, ◌+◌, ◌<◌}
use mathlib.Core.Path.{◌≡◌, refl, ap, sym, ◌∙◌}
use mathlib.Core.Bool.{Bool, true, false}
use mathlib.Core.List.{List, [], ◌∷◌, map}
use native.Mathlib.Omega.{arith}
use lib.Dec.{eqb}
use lib.IntN.{ℤ}
use lib.ListN.{length}
use borrow.Author.Tests.{eqb-true, eqb-false}
use Rattle.design.specs.Syntax.{Expr, Exprs, Stmts, Kind, Method, Design}
use Rattle.meaning.specs.Values.{Value, kind_of, Event, Out}
use Rattle.meaning.specs.Lookup.{Access}
use Rattle.meaning.specs.Naming.{passed, Callee, params_of, result_of, is_value, callee_of}
use Rattle.meaning.specs.Evaluate.{Enter, done, eval, evals, walk, enter_below, evaluate}
use Rattle.meaning.specs.Kinds.{kind, kinds, last_kind, walk_method}
use Rattle.meaning.specs.Calls.{Table, calls_of, calls, calls_among, calls_in, table_below}
use Rattle.meaning.specs.Check.{Verdict, walk_all}
use Rattle.rule.proofs.Passed.{both, held, named_below}
use Rattle.checker.proofs.Passing.{same_self, all_same, wanted, user_there}
use Rattle.checker.proofs.Ending.{Ends, value, Of, OfAll, more_room, then, needing, testing, number_in, truth_in, recording, binding, naming, operating}
use Rattle.checker.proofs.Ending as E
use Rattle.checker.proofs.Walked.{method_walked}
use Rattle.checker.proofs.Counting.{Covers, below}

-- methods of the instances below n end with a value of the declared kind, after at most so many calls
abbrev pub Entered : Design → ℕ → ((i m : ℕ) → Method → ℕ) → Enter → Type 0
Entered D n count enter =
    (i m : ℕ) (x : Method) (vs : List Value) (l : List Event) → i < n → callee_of D i m ≡ passed (Callee.user x) → OfAll x.params vs →
    Ends (Of x.result) (length l + count i m x) (enter i x vs l)

abbrev by_table : Table → (i m : ℕ) → Method → ℕ
by_table t i m x = calls_of t i m

abbrev by_body : Design → (i m : ℕ) → Method → ℕ
by_body D i m x = calls (table_below D i) x.body

as_found : {j k : Kind} {n : ℕ} {o : Out Value} → passed j ≡ passed k → Ends (Of j) n o → Ends (Of k) n o
as_found {j} {k} e h = let p : j ≡ k = cc in rw p at h

module _ (D : Design) (state : List ℤ) (me : ℕ) (enter : Enter) (t : Table) (entered : Entered D me (by_table t) enter) where
  does : (i m : ℕ) (c : Callee) (vs : List Value) (l : List Event) → i < me → callee_of D i m ≡ passed c → OfAll (params_of c) vs →
      Ends (Of (result_of c)) (length l + calls_of t i m) (done D state me enter i c vs l)
  unfolding done result_of params_of kind_of
  does i m (Callee.port (Access.read p)) vs l h e k = value {l = l} refl (omega arith)
  does i m (Callee.port (Access.write p)) vs l h e k = value {l = l} refl (omega arith)
  does i m (Callee.user x) vs l h e k =
      then _ (entered i m x vs l h e k) (omega arith) (λ v l1 p q. needing _ 21 (rw p (same_self x.result)) (value p q))

  mutual
    unfolding eval evals walk kind kinds last_kind calls calls_among calls_in kind_of

    ends : (e : Expr) (pure : Bool) (live : List Value) (l : List Event) {k : Kind} → kind D me e pure (map kind_of live) ≡ passed k →
        Ends (Of k) (length l + calls t e) (eval D state me enter e pure live l)
    ends (Expr.number z) pure live l {k} e = value {a = Value.num z} {l = l} (let p : Kind.num ≡ k = cc in p) (omega arith)
    ends (Expr.truth b) pure live l {k} e = value {a = Value.bool b} {l = l} (let p : Kind.bool ≡ k = cc in p) (omega arith)
    ends (Expr.local i) pure live l e = naming live i l e (omega arith)
    ends (Expr.binary o a b) pure live l e =
        both _ _ e (λ x p e1. both _ _ e1 (λ y q e2. wanted _ _ _ e2 (λ f e3. wanted _ _ _ e3 (λ g e4.
        then _ (ends a pure live l p) (omega arith) (λ v l1 pv h1. then _ (ends b pure live l1 q) (omega arith) (λ w l2 pw h2.
        as_found e4 (operating o v w l2 (pv ∙ f) (pw ∙ g) (omega arith))))))))
    ends (Expr.negate a) pure live l e =
        both _ _ e (λ x p e1. wanted _ _ _ e1 (λ f e2.
        then _ (ends a pure live l p) (omega arith) (λ v l1 pv h1. truth_in v _ (pv ∙ f) (λ b.
        as_found e2 (value {l = l1} refl (omega arith))))))
    ends (Expr.choose c a b) pure live l e =
        both _ _ e (λ x p e1. wanted _ _ _ e1 (λ f e2. both _ _ e2 (λ y q e3. both _ _ e3 (λ z r e4. wanted _ _ _ e4 (λ g e5.
        then _ (ends c true live l p) (omega arith) (λ v l1 pv h1. truth_in v _ (pv ∙ f) (elim [
          | true ↦ as_found e5 (more_room (omega arith) (ends a pure live l1 q))
          | false ↦ as_found (ap passed g ∙ e5) (more_room (omega arith) (ends b pure live l1 r))
        ])))))))
    ends (Expr.guarded at g a) pure live l e =
        both _ _ e (λ x p e1. wanted _ _ _ e1 (λ f e2.
        then _ (ends g true live l p) (omega arith) (λ v l1 pv h1. truth_in v _ (pv ∙ f) (elim [
          | true ↦ more_room (omega arith) (ends a pure live l1 e2)
          | false ↦ E.unavailable
        ]))))
    ends (Expr.block ss) pure live l e = ends_block ss pure live l e
    ends (Expr.call i m es) pure live l e =
        both _ _ e (λ c p e1. both _ _ e1 (λ ks q e2. held _ _ _ e2 (λ s e3.
        let n = named_below D me i m _ pure p in
        testing _ p (then _ (ends_all es pure live l q) (omega arith) (λ vs l1 pvs h1.
        needing _ 21 (rw pvs s) (recording _ l1 _ (omega arith) (λ l2 h2.
        as_found e3 (more_room (omega arith) (does i m c vs l2 n.0 n.1 (pvs ∙ sym (all_same _ _ s)))))))))))
    ends (Expr.display a) pure live l e =
        held _ _ _ e (λ h e1. both _ _ e1 (λ x p e2. wanted _ _ _ e2 (λ f e3.
        needing _ 26 h (then _ (ends a pure live l p) (omega arith) (λ v l1 pv h1. number_in v _ (pv ∙ f) (λ z. recording _ l1 _ (omega arith) (λ l2 h2.
        as_found e3 (value {a = Value.void} {l = l2} refl (omega arith)))))))))

    ends_all : (es : Exprs) (pure : Bool) (live : List Value) (l : List Event) {ks : List Kind} → kinds D me es pure (map kind_of live) ≡ passed ks →
        Ends (OfAll ks) (length l + calls_among t es) (evals D state me enter es pure live l)
    ends_all Exprs.none pure live l {ks} e = value {a = []} {l = l} (let p : [] ≡ ks = cc in p) (omega arith)
    ends_all (Exprs.more a es) pure live l {ks} e =
        both _ _ e (λ j p e1. both _ _ e1 (λ js q e2.
        then _ (ends a pure live l p) (omega arith) (λ v l1 pv h1. then _ (ends_all es pure live l1 q) (omega arith) (λ vs l2 pvs h2.
        value {a = v ∷ vs} {l = l2} (let r : kind_of v ∷ map kind_of vs ≡ ks = cc in r) (omega arith)))))

    ends_block : (ss : Stmts) (pure : Bool) (live : List Value) (l : List Event) {k : Kind} → last_kind D me ss pure (map kind_of live) ≡ passed k →
        Ends (Of k) (length l + calls_in t ss) (walk D state me enter ss pure live l)
    ends_block (Stmts.last_do a) pure live l e = ends a pure live l e
    ends_block (Stmts.last_let a) pure live l e =
        both _ _ e (λ x p e1. both _ _ e1 (λ ks q e2. then _ (ends a pure live l p) (omega arith) (λ v l1 pv h1.
        binding live v _ pv q (λ more pm. as_found e2 (value {a = Value.void} {l = l1} refl (omega arith))))))
    ends_block (Stmts.then_do a ss) pure live l e =
        both _ _ e (λ x p e1. then _ (ends a pure live l p) (omega arith) (λ v l1 pv h1. more_room (omega arith) (ends_block ss pure live l1 e1)))
    ends_block (Stmts.then_let a ss) pure live l e =
        both _ _ e (λ x p e1. both _ _ e1 (λ ks q e2. then _ (ends a pure live l p) (omega arith) (λ v l1 pv h1.
        binding live v _ pv q (λ more pm. more_room (omega arith) (ends_block ss pure more l1 (rw pm e2))))))

module _ (D : Design) (walked : walk_all D D.bodies ≡ Verdict.passes) (state : List ℤ) where
  covered : {me : ℕ} {t : Table} {enter : Enter} → Covers D t me → Entered D me (by_body D) enter → Entered D me (by_table t) enter
  covered c h i m x vs l b e k = let r = c.covers i m x b e in more_room (omega arith) (h i m x vs l b e k)

  entering : (n : ℕ) → Entered D n (by_body D) (enter_below D state n)
  unfolding enter_below walk_method
  entering zero i m x vs l h e k = absurd (omega arith)
  entering (suc n) i m x vs l h e k = go (eqb i n) refl (entering n)
    where
      go : (t : Bool) → eqb i n ≡ t → Entered D n (by_body D) (enter_below D state n) → Ends (Of x.result) (length l + by_body D i m x) (elim t [
        | true ↦ eval D state n (enter_below D state n) x.body (is_value x.role) vs l
        | false ↦ enter_below D state n i x vs l
      ])
      go true p ih = user_there D i m e (λ y f g.
          let w = method_walked D walked i m g in
          both (kind D x.owner x.body (is_value x.role) x.params) _ w.0 (λ j q r. wanted _ _ _ r (λ s _.
          let o : x.owner ≡ n = w.1 ∙ eqb-true i n p in
          let u : kind D n x.body (is_value x.role) (map kind_of vs) ≡ passed x.result = cc in
          let z : by_body D i m x ≡ by_body D n m x = ap (λ a. by_body D a m x) (eqb-true i n p) in
          more_room (omega arith) (ends D state n (enter_below D state n) (table_below D n) (covered (below D n) ih) x.body (is_value x.role) vs l u))))
      go false p ih = ih i m x vs l (omega (arith, eqb-false i n p)) e k

  -- an expression in a body of instance `me`, by any table that covers what it can call
  pub evaluating : {me : ℕ} {t : Table} → Covers D t me → (e : Expr) (pure : Bool) (live : List Value) (l : List Event) {k : Kind} →
      kind D me e pure (map kind_of live) ≡ passed k → Ends (Of k) (length l + calls t e) (evaluate D state me e pure live l)
  unfolding evaluate
  evaluating {me} {t} c e pure live l h = ends D state me (enter_below D state me) t (covered c (entering me)) e pure live l h
