-- What a rule records of registers are ports, of which there are at most four: by induction on the tree, where a callee is known to record
-- no other, and then on the instance number. Each recorded call passed `named`, and an instance that was read has its ports in their range.
use Prim.Native.Nat.{ℕ, zero, suc, ◌*◌, ◌≤◌, ◌<◌}
use mathlib.Core.Path.{◌≡◌, refl, sym, subst, ◌∙◌}
use mathlib.Core.Bool.{Bool, true, false, true≢false}
use mathlib.Core.List.{List, [], ◌∷◌, ◌++◌}
use mathlib.Core.Option.{some}
use native.Mathlib.Omega.{arith}
use lib.Dec.{ltb, eqb}
use lib.IntN.{ℤ}
use lib.ListN.{length, get_elem?}
use borrow.Author.Tests.{ltb-true}
use Rattle.design.specs.Syntax.{Operator, Expr, Exprs, Stmts, Instance, Method, Rule, Design}
use Rattle.design.specs.Records.{is_user}
use Rattle.design.specs.Plan.{Plans}
use Rattle.meaning.specs.Values.{Value, Event, Out, and_then, needs, as_num, as_bool}
use Rattle.meaning.specs.Lookup.{Access, instance_of, ports, is_register, access, method_of}
use Rattle.meaning.specs.Naming.{Test, passed, failed, if_passed, test, found, Callee, is_value, method_in, callee_of}
use Rattle.meaning.specs.Evaluate.{Enter, tested, recorded, operate, done, eval, evals, walk, enter_below, evaluate, rule}
use Rattle.rule.specs.Log.{Ported}
use Rattle.rule.proofs.Callees.{same_ports}
use Rattle.rule.proofs.Passed.{both, held, there, named_below}

-- ---- lists of events

pub none_ported : {D : Design} → Ported D []
none_ported = record { ported = λ k i m z e r. absurd (let z : ◌≡◌ {A = ℕ} 0 1 = cc in omega arith) }

of_two : {D : Design} (es fs : List Event) → Ported D es → Ported D fs → (k i m : ℕ) (z : ℤ) → get_elem? (es ++ fs) k ≡ some (Event.call i m z) → is_register D i ≡ true → m < 8
of_two [] fs p q k i m z e r = q.ported k i m z e r
of_two (x ∷ es) fs p q zero i m z e r = p.ported zero i m z e r
of_two (x ∷ es) fs p q (suc k) i m z e r = of_two es fs (record { ported = λ k i m z e r. p.ported (suc k) i m z e r }) q k i m z e r

pub both_ported : {D : Design} {es fs : List Event} → Ported D es → Ported D fs → Ported D (es ++ fs)
both_ported {es = es} {fs} p q = record { ported = of_two es fs p q }

one_ported : {D : Design} (e : Event) → ((i m : ℕ) (z : ℤ) → e ≡ Event.call i m z → is_register D i ≡ true → m < 8) → Ported D (e ∷ [])
one_ported {D} e h = record { ported = go }
  where
    go : (k i m : ℕ) (z : ℤ) → get_elem? (e ∷ []) k ≡ some (Event.call i m z) → is_register D i ≡ true → m < 8
    go zero i m z f r = h i m z (cc) r
    go (suc k) i m z f r = absurd (let z : ◌≡◌ {A = ℕ} 0 1 = cc in omega arith)

-- ---- instances

few_ports : {plan : List ℕ} {D : Design} → Plans plan D → (i : ℕ) (x : Instance) → instance_of D i ≡ some x → ports x ≤ 4
unfolding instance_of
few_ports p i x e = rw (← same_ports x) (p.sound.ported i x e).few

-- ---- evaluations

-- what is recorded, if a value comes of it, are ports
data Keeps (D : Design) {A : Type 0} : Out A → Type 0 where
  value : {a : A} {l : List Event} → Ported D l → Keeps D (Out.got a l)
  unavailable : Keeps D Out.unavailable
  stuck : {n : ℕ} → Keeps D (Out.stuck n)

kept : {A : Type 0} {D : Design} {o : Out A} {a : A} {l : List Event} → Keeps D o → o ≡ Out.got a l → Ported D l
kept {l = l} (value {l = m} p) e = let z : m ≡ l = cc in rw z at p
kept unavailable e = absurd (let z : ◌≡◌ {A = ℕ} 0 1 = cc in omega arith)
kept stuck e = absurd (let z : ◌≡◌ {A = ℕ} 0 1 = cc in omega arith)

module _ {D : Design} {B : Type 0} where
  then : {A : Type 0} {o : Out A} (f : A → List Event → Out B) → Keeps D o → ((a : A) (l : List Event) → Ported D l → Keeps D (f a l)) → Keeps D (and_then o f)
  unfolding and_then
  then f (value {a} {l} p) next = next a l p
  then f unavailable next = unavailable
  then f stuck next = stuck

  needing : (t : Bool) (n : ℕ) {o : Out B} → Keeps D o → Keeps D (needs t n o)
  unfolding needs
  needing true n h = h
  needing false n h = stuck

  testing : {A : Type 0} (t : Test A) (f : A → Out B) → ((a : A) → t ≡ passed a → Keeps D (f a)) → Keeps D (tested t f)
  unfolding tested
  testing (passed a) f next = next a refl
  testing (failed n) f next = stuck

  number_in : (v : Value) (f : ℤ → Out B) → ((z : ℤ) → Keeps D (f z)) → Keeps D (as_num v f)
  unfolding as_num
  number_in (Value.num z) f next = next z
  number_in (Value.bool b) f next = stuck
  number_in Value.void f next = stuck

  truth_in : (v : Value) (f : Bool → Out B) → ((b : Bool) → Keeps D (f b)) → Keeps D (as_bool v f)
  unfolding as_bool
  truth_in (Value.num z) f next = stuck
  truth_in (Value.bool b) f next = next b
  truth_in Value.void f next = stuck

  recording : (e : Event) (l : List Event) (f : List Event → Out B) → Ported D l → Ported D (e ∷ []) → ((l1 : List Event) → Ported D l1 → Keeps D (f l1)) →
      Keeps D (recorded e l f)
  unfolding recorded
  recording e l f p q next = go (ltb (length l) 64)
    where
      go : (t : Bool) → Keeps D {A = B} (elim t [
        | true ↦ f (l ++ (e ∷ []))
        | false ↦ Out.stuck 27
      ])
      go true = next _ (both_ported p q)
      go false = stuck

operating : {D : Design} (o : Operator) (v w : Value) (l : List Event) → Ported D l → Keeps D (operate o v w l)
unfolding operate
operating Operator.plus v w l h = number_in v _ (λ x. number_in w _ (λ y. value h))
operating Operator.minus v w l h = number_in v _ (λ x. number_in w _ (λ y. value h))
operating Operator.equal v w l h = number_in v _ (λ x. number_in w _ (λ y. value h))
operating Operator.less v w l h = number_in v _ (λ x. number_in w _ (λ y. value h))
operating Operator.and v w l h = truth_in v _ (λ x. truth_in w _ (λ y. value h))
operating Operator.or v w l h = truth_in v _ (λ x. truth_in w _ (λ y. value h))

module _ (D : Design) (few : (i : ℕ) (x : Instance) → instance_of D i ≡ some x → ports x ≤ 4) (state : List ℤ) where
  -- a call that may be made, of a register
  port_named : (i m : ℕ) {c : Callee} → callee_of D i m ≡ passed c → is_register D i ≡ true → m < 8
  unfolding callee_of method_in is_register
  port_named i m {c} e r = both (found 23 (instance_of D i)) _ e (λ x p q. go x (there 23 _ p) (is_user x) refl q)
    where
      go : (x : Instance) → instance_of D i ≡ some x → (t : Bool) → is_user x ≡ t → ◌≡◌ {A = Test Callee} (elim t [
        | true ↦ if_passed (found 24 (method_of D i m)) (λ y. passed (Callee.user y))
        | false ↦ test (ltb m (2 * ports x)) 24 (passed (Callee.port (access m)))
      ]) (passed c) → m < 8
      go x p true t q = absurd (true≢false (sym r ∙ rw (p, is_register, t)))
      go x p false t q = held _ _ _ q (λ h _. let l = few i x p in omega (arith, ltb-true m (2 * ports x) h))

  call_ported : (i m : ℕ) (z : ℤ) {c : Callee} → callee_of D i m ≡ passed c → Ported D (Event.call i m z ∷ [])
  call_ported i m z e = one_ported (Event.call i m z) (λ j k y f r.
      let a : i ≡ j = cc in let b : m ≡ k = cc in subst (λ n. n < 8) b (port_named i m e (rw a r)))

  display_ported : (z : ℤ) → Ported D (Event.display z ∷ [])
  display_ported z = one_ported (Event.display z) (λ j k y f r. absurd (let z : ◌≡◌ {A = ℕ} 0 1 = cc in omega arith))

  abbrev Entered : Enter → Type 0
  Entered enter = (i : ℕ) (x : Method) (vs : List Value) (l : List Event) → Ported D l → Keeps D (enter i x vs l)

  module _ (me : ℕ) (enter : Enter) (entered : Entered enter) where
    does : (i : ℕ) (c : Callee) (vs : List Value) (l : List Event) → Ported D l → Keeps D (done D state me enter i c vs l)
    unfolding done
    does i (Callee.port (Access.read p)) vs l h = value h
    does i (Callee.port (Access.write p)) vs l h = value h
    does i (Callee.user x) vs l h = then _ (entered i x vs l h) (λ v l1 h1. needing _ 21 (value h1))

    mutual
      unfolding eval evals walk

      keeps : (e : Expr) (pure : Bool) (live : List Value) (l : List Event) → Ported D l → Keeps D (eval D state me enter e pure live l)
      keeps (Expr.number z) pure live l h = value h
      keeps (Expr.truth b) pure live l h = value h
      keeps (Expr.local i) pure live l h = testing _ _ (λ v _. value h)
      keeps (Expr.binary o a b) pure live l h =
          then _ (keeps a pure live l h) (λ x l1 h1. then _ (keeps b pure live l1 h1) (λ y l2 h2. operating o x y l2 h2))
      keeps (Expr.negate a) pure live l h = then _ (keeps a pure live l h) (λ x l1 h1. truth_in x _ (λ p. value h1))
      keeps (Expr.choose c a b) pure live l h =
          then _ (keeps c true live l h) (λ x l1 h1. truth_in x _ (elim [
            | true ↦ keeps a pure live l1 h1
            | false ↦ keeps b pure live l1 h1
          ]))
      keeps (Expr.guarded at g a) pure live l h =
          then _ (keeps g true live l h) (λ x l1 h1. truth_in x _ (elim [
            | true ↦ keeps a pure live l1 h1
            | false ↦ unavailable
          ]))
      keeps (Expr.block ss) pure live l h = keeps_block ss pure live l h
      keeps (Expr.call i m es) pure live l h =
          testing _ _ (λ c e. then _ (keeps_all es pure live l h) (λ vs l1 h1. needing _ 21 (
          recording _ l1 _ h1 (call_ported i m _ (named_below D me i m _ pure e).1) (λ l2 h2. does i c vs l2 h2))))
      keeps (Expr.display a) pure live l h =
          needing _ 26 (then _ (keeps a pure live l h) (λ x l1 h1. number_in x _ (λ z.
          recording _ l1 _ h1 (display_ported z) (λ l2 h2. value h2))))

      keeps_all : (es : Exprs) (pure : Bool) (live : List Value) (l : List Event) → Ported D l → Keeps D (evals D state me enter es pure live l)
      keeps_all Exprs.none pure live l h = value h
      keeps_all (Exprs.more a es) pure live l h =
          then _ (keeps a pure live l h) (λ v l1 h1. then _ (keeps_all es pure live l1 h1) (λ vs l2 h2. value h2))

      keeps_block : (ss : Stmts) (pure : Bool) (live : List Value) (l : List Event) → Ported D l → Keeps D (walk D state me enter ss pure live l)
      keeps_block (Stmts.last_do a) pure live l h = keeps a pure live l h
      keeps_block (Stmts.last_let a) pure live l h = then _ (keeps a pure live l h) (λ v l1 h1. testing _ _ (λ more _. value h1))
      keeps_block (Stmts.then_do a ss) pure live l h = then _ (keeps a pure live l h) (λ v l1 h1. keeps_block ss pure live l1 h1)
      keeps_block (Stmts.then_let a ss) pure live l h =
          then _ (keeps a pure live l h) (λ v l1 h1. testing _ _ (λ more _. keeps_block ss pure more l1 h1))

  entering : (n : ℕ) → Entered (enter_below D state n)
  unfolding enter_below
  entering zero i x vs l h = stuck
  entering (suc n) i x vs l h = go (eqb i n) (entering n)
    where
      go : (t : Bool) → Entered (enter_below D state n) → Keeps D {A = Value} (elim t [
        | true ↦ eval D state n (enter_below D state n) x.body (is_value x.role) vs l
        | false ↦ enter_below D state n i x vs l
      ])
      go true ih = keeps n (enter_below D state n) ih x.body (is_value x.role) vs l h
      go false ih = ih i x vs l h

  evaluating : (me : ℕ) (e : Expr) (pure : Bool) (live : List Value) (l : List Event) → Ported D l → Keeps D (evaluate D state me e pure live l)
  unfolding evaluate
  evaluating me e pure live l h = keeps me (enter_below D state me) (entering me) e pure live l h

  turned : (r : Rule) → Keeps D (rule D state r)
  unfolding rule
  turned r =
      then _ (evaluating r.owner r.guard true [] [] none_ported) (λ g l h. truth_in g _ (elim [
        | true ↦ then _ (evaluating r.owner r.body false [] l h) (λ v l1 h1. needing _ 21 (value h1))
        | false ↦ unavailable
      ]))

-- what a rule recorded
pub rule_ported : {plan : List ℕ} {D : Design} (state : List ℤ) (r : Rule) {v : Value} {es : List Event} → Plans plan D → rule D state r ≡ Out.got v es → Ported D es
rule_ported {D = D} state r w e = kept (turned D (few_ports w) state r) e
