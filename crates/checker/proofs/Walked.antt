-- What the check went through: a design that passes has walked every method and every rule, and has counted every rule's calls.
use Prim.Native.Nat.{ℕ, zero, suc, ◌≤◌}
use mathlib.Core.Path.{◌≡◌, refl}
use mathlib.Core.Bool.{Bool, true, false}
use mathlib.Core.List.{List, [], ◌∷◌}
use mathlib.Core.Option.{some}
use native.Mathlib.Omega.{arith}
use lib.Dec.{leb, eqb}
use lib.ListN.{length, get_elem?}
use borrow.Author.Tests.{leb-true, eqb-true}
use Rattle.design.specs.Syntax.{Method, Rule, Body, Design}
use Rattle.design.specs.Take.{pick}
use Rattle.design.specs.Records.{methods, rules}
use Rattle.design.specs.Parts.{of_owner}
use Rattle.meaning.specs.Lookup.{methods_of, method_of, rule_of}
use Rattle.meaning.specs.Naming.{Test, passed, failed}
use Rattle.meaning.specs.Kinds.{walk_method, walk_rule, walk_body}
use Rattle.meaning.specs.Calls.{Table, table_below, rule_calls}
use Rattle.meaning.specs.Check.{Verdict, passes, fails, body_place, walk_all, count_all, check}

-- the first body has been walked, and then the others
first_walked : {X : Type 0} (D : Design) (b : Body) (bs : List Body) → walk_all D (b ∷ bs) ≡ passes → (walk_body D b ≡ passed tt → walk_all D bs ≡ passes → X) → X
unfolding walk_all
first_walked {X} D b bs e next = go (walk_body D b) refl e
  where
    go : (w : Test (Unit {0})) → walk_body D b ≡ w → ◌≡◌ {A = Verdict} (elim w [
      | passed ok ↦ walk_all D bs
      | failed n ↦ fails (record { number = n; place = body_place b })
    ]) passes → X
    go (passed ok) p e = next p e
    go (failed n) p e = let z : ◌≡◌ {A = ℕ} 0 1 = cc in absurd (omega arith)

first_counted : {X : Type 0} (t : Table) (r : Rule) (rs : List Rule) → count_all t (r ∷ rs) ≡ passes → (rule_calls t r ≤ 64 → count_all t rs ≡ passes → X) → X
unfolding count_all
first_counted {X} t r rs e next = go (leb (rule_calls t r) 64) refl e
  where
    go : (w : Bool) → leb (rule_calls t r) 64 ≡ w → ◌≡◌ {A = Verdict} (elim w [
      | true ↦ count_all t rs
      | false ↦ fails (record { number = 27; place = r.place })
    ]) passes → X
    go true p e = next (leb-true _ 64 p) e
    go false p e = let z : ◌≡◌ {A = ℕ} 0 1 = cc in absurd (omega arith)

-- all bodies were walked, and then the calls of all rules counted
pub went_through : {X : Type 0} (D : Design) → check D ≡ passes →
    (walk_all D D.bodies ≡ passes → count_all (table_below D (length D.instances)) (rules D.bodies) ≡ passes → X) → X
unfolding check
went_through {X} D e next = go (walk_all D D.bodies) refl e
  where
    go : (w : Verdict) → walk_all D D.bodies ≡ w → ◌≡◌ {A = Verdict} (elim w [
      | passes ↦ count_all (table_below D (length D.instances)) (rules D.bodies)
      | fails why ↦ fails why
    ]) passes → X
    go passes p e = next p e
    go (fails why) p e = let z : ◌≡◌ {A = ℕ} 0 1 = cc in absurd (omega arith)

-- a method of instance i
pub owned : {X : Type 0} (i : ℕ) (y : Method) (ys : List Method) (m : ℕ) {x : Method} → get_elem? (of_owner i (y ∷ ys)) m ≡ some x →
    (y ≡ x → y.owner ≡ i → X) → ((k : ℕ) → get_elem? (of_owner i ys) k ≡ some x → X) → X
unfolding of_owner pick
owned {X} i y ys m {x} e this that = go (eqb y.owner i) refl m e
  where
    go : (t : Bool) → eqb y.owner i ≡ t → (m : ℕ) → get_elem? (pick t (y ∷ of_owner i ys) (of_owner i ys)) m ≡ some x → X
    go true p zero e = this (cc) (eqb-true _ _ p)
    go true p (suc m) e = that m e
    go false p m e = that m e

module _ (D : Design) where
  method_in : (bs : List Body) → walk_all D bs ≡ passes → (i m : ℕ) {x : Method} → get_elem? (of_owner i (methods bs)) m ≡ some x →
      (walk_method D x ≡ passed tt) × (x.owner ≡ i)
  unfolding methods of_owner walk_body
  method_in [] h i m e = let z : ◌≡◌ {A = ℕ} 0 1 = cc in absurd (omega arith)
  method_in (Body.method y ∷ bs) h i m e = first_walked D (Body.method y) bs h (λ w r. owned i y (methods bs) m e (λ p q. (rw p at w, rw p at q)) (λ k f. method_in bs r i k f))
  method_in (Body.rule y ∷ bs) h i m e = first_walked D (Body.rule y) bs h (λ w r. method_in bs r i m e)

  rule_in : (bs : List Body) → walk_all D bs ≡ passes → (n : ℕ) {x : Rule} → get_elem? (rules bs) n ≡ some x → walk_rule D x ≡ passed tt
  unfolding rules walk_body
  rule_in [] h n e = let z : ◌≡◌ {A = ℕ} 0 1 = cc in absurd (omega arith)
  rule_in (Body.method y ∷ bs) h n e = first_walked D (Body.method y) bs h (λ w r. rule_in bs r n e)
  rule_in (Body.rule y ∷ bs) h zero e = first_walked D (Body.rule y) bs h (λ w r. let p : y ≡ _ = cc in rw p at w)
  rule_in (Body.rule y ∷ bs) h (suc n) e = first_walked D (Body.rule y) bs h (λ w r. rule_in bs r n e)

  pub method_walked : walk_all D D.bodies ≡ passes → (i m : ℕ) {x : Method} → method_of D i m ≡ some x → (walk_method D x ≡ passed tt) × (x.owner ≡ i)
  unfolding method_of methods_of
  method_walked h i m e = method_in D.bodies h i m e

  pub rule_walked : walk_all D D.bodies ≡ passes → (n : ℕ) {x : Rule} → rule_of D n ≡ some x → walk_rule D x ≡ passed tt
  unfolding rule_of
  rule_walked h n e = rule_in D.bodies h n e

counted_in : (t : Table) (rs : List Rule) → count_all t rs ≡ passes → (n : ℕ) {x : Rule} → get_elem? rs n ≡ some x → rule_calls t x ≤ 64
counted_in t [] h n e = let z : ◌≡◌ {A = ℕ} 0 1 = cc in absurd (omega arith)
counted_in t (y ∷ rs) h zero e = first_counted t y rs h (λ w r. let p : y ≡ _ = cc in rw p at w)
counted_in t (y ∷ rs) h (suc n) e = first_counted t y rs h (λ w r. counted_in t rs r n e)

pub rule_counted : (D : Design) (t : Table) → count_all t (rules D.bodies) ≡ passes → (n : ℕ) {x : Rule} → rule_of D n ≡ some x → rule_calls t x ≤ 64
unfolding rule_of
rule_counted D t h n e = counted_in t (rules D.bodies) h n e
