-- How an evaluation ends whose kinds are right: as a value as foreseen, as unavailable, or at the call limit, where so many calls were
-- foreseen. One law for each step of an evaluation.
use Prim.Native.Nat.{ℕ, zero, suc, ◌+◌, ◌≤◌, ◌<◌}
use mathlib.Core.Path.{◌≡◌, refl, ◌∙◌}
use mathlib.Core.Bool.{Bool, true, false}
use mathlib.Core.List.{List, [], ◌∷◌, ◌++◌, map}
use native.Mathlib.Omega.{arith}
use lib.Dec.{ltb}
use lib.IntN.{ℤ}
use lib.ListN.{length, length-append, length-map}
use borrow.Author.Tests.{ltb-false}
use Rattle.design.specs.Syntax.{Operator, Kind}
use Rattle.meaning.specs.Values.{Value, kind_of, Event, Out, got, stuck, and_then, needs, as_num, as_bool}
use Rattle.meaning.specs.Naming.{Test, passed, test, found, local_of, bound}
use Rattle.meaning.specs.Evaluate.{tested, recorded, operate}
use Rattle.meaning.specs.Kinds.{takes, gives}
use Rattle.rule.proofs.Passed.{held, never}

-- a value of which P holds, after at most `most` calls; stuck only at the 65th call, and only where `most` is over 64
pub data Ends {A : Type 0} (P : A → Type 0) (most : ℕ) : Out A → Type 0 where
  value : {a : A} {l : List Event} → P a → length l ≤ most → Ends P most (got a l)
  unavailable : Ends P most Out.unavailable
  crowded : 64 < most → Ends P most (stuck 27)

abbrev pub Of : Kind → Value → Type 0
Of k v = kind_of v ≡ k

abbrev pub OfAll : List Kind → List Value → Type 0
OfAll ks vs = map kind_of vs ≡ ks

pub more_room : {A : Type 0} {P : A → Type 0} {m n : ℕ} {o : Out A} → m ≤ n → Ends P m o → Ends P n o
more_room h (value {a} {l} p q) = value {a = a} {l = l} p (omega arith)
more_room h unavailable = unavailable
more_room h (crowded c) = crowded (omega arith)

kinds_longer : (live : List Value) (v : Value) {k : Kind} → Of k v → map kind_of (live ++ (v ∷ [])) ≡ map kind_of live ++ (k ∷ [])
kinds_longer [] v p = cc
kinds_longer (x ∷ xs) v p = let h = kinds_longer xs v p in cc

module _ {B : Type 0} {Q : B → Type 0} {n : ℕ} where
  pub then : {A : Type 0} {P : A → Type 0} {m : ℕ} {o : Out A} (f : A → List Event → Out B) → Ends P m o → m ≤ n →
      ((a : A) (l : List Event) → P a → length l ≤ m → Ends Q n (f a l)) → Ends Q n (and_then o f)
  unfolding and_then
  then f (value {a} {l} p q) h next = next a l p q
  then f unavailable h next = unavailable
  then f (crowded c) h next = crowded (omega arith)

  pub needing : {o : Out B} (t : Bool) (number : ℕ) → t ≡ true → Ends Q n o → Ends Q n (needs t number o)
  unfolding needs
  needing t number e h = rw e h

  pub testing : {A : Type 0} {t : Test A} {a : A} (f : A → Out B) → t ≡ passed a → Ends Q n (f a) → Ends Q n (tested t f)
  unfolding tested
  testing f e h = rw e h

  pub number_in : (v : Value) (f : ℤ → Out B) → Of Kind.num v → ((z : ℤ) → Ends Q n (f z)) → Ends Q n (as_num v f)
  unfolding as_num kind_of
  number_in (Value.num z) f e next = next z
  number_in (Value.bool b) f e next = let z : ◌≡◌ {A = ℕ} 0 1 = cc in absurd (omega arith)
  number_in Value.void f e next = let z : ◌≡◌ {A = ℕ} 0 1 = cc in absurd (omega arith)

  pub truth_in : (v : Value) (f : Bool → Out B) → Of Kind.bool v → ((b : Bool) → Ends Q n (f b)) → Ends Q n (as_bool v f)
  unfolding as_bool kind_of
  truth_in (Value.num z) f e next = let z : ◌≡◌ {A = ℕ} 0 1 = cc in absurd (omega arith)
  truth_in (Value.bool b) f e next = next b
  truth_in Value.void f e next = let z : ◌≡◌ {A = ℕ} 0 1 = cc in absurd (omega arith)

  pub recording : (e : Event) (l : List Event) (f : List Event → Out B) → length l + 1 ≤ n →
      ((l1 : List Event) → length l1 ≡ length l + 1 → Ends Q n (f l1)) → Ends Q n (recorded e l f)
  unfolding recorded
  recording e l f h next = go (ltb (length l) 64) refl
    where
      go : (t : Bool) → ltb (length l) 64 ≡ t → Ends Q n (elim t [
        | true ↦ f (l ++ (e ∷ []))
        | false ↦ stuck 27
      ])
      go true p = next (l ++ (e ∷ [])) (length-append l (e ∷ []))
      go false p = crowded (omega (arith, ltb-false (length l) 64 p))

  -- a let binds its value as the walk binds its kind
  pub binding : (live : List Value) (v : Value) {k : Kind} {ks : List Kind} (f : List Value → Out B) → Of k v → bound (map kind_of live) k ≡ passed ks →
      ((more : List Value) → OfAll ks more → Ends Q n (f more)) → Ends Q n (tested (bound live v) f)
  unfolding bound tested test
  binding live v {k} {ks} f p e next =
      held (ltb (length (map kind_of live)) 16) 28 (passed (map kind_of live ++ (k ∷ []))) e (λ h q.
      let r : ltb (length live) 16 ≡ true = rw (length-map live kind_of) at h in
      rw r (next (live ++ (v ∷ [])) (kinds_longer live v p ∙ taken q)))
    where
      taken : {js : List Kind} → passed js ≡ passed ks → js ≡ ks
      taken q = cc

-- a local's value is of the kind that the walk finds for it
pub naming : (live : List Value) (i : ℕ) (l : List Event) {n : ℕ} {k : Kind} → local_of (map kind_of live) i ≡ passed k → length l ≤ n →
    Ends (Of k) n (tested (local_of live i) (λ v. got v l))
unfolding local_of found tested
naming [] i l e h = never e
naming (v ∷ vs) zero l {k = k} e h = value {a = v} (let p : kind_of v ≡ k = cc in p) h
naming (v ∷ vs) (suc i) l e h = naming vs i l e h

pub operating : (o : Operator) (v w : Value) (l : List Event) {n : ℕ} → Of (takes o) v → Of (takes o) w → length l ≤ n → Ends (Of (gives o)) n (operate o v w l)
unfolding operate takes gives kind_of
operating Operator.plus v w l p q h = number_in v _ p (λ x. number_in w _ q (λ y. value refl h))
operating Operator.minus v w l p q h = number_in v _ p (λ x. number_in w _ q (λ y. value refl h))
operating Operator.equal v w l p q h = number_in v _ p (λ x. number_in w _ q (λ y. value refl h))
operating Operator.less v w l p q h = number_in v _ p (λ x. number_in w _ q (λ y. value refl h))
operating Operator.and v w l p q h = truth_in v _ p (λ x. truth_in w _ q (λ y. value refl h))
operating Operator.or v w l p q h = truth_in v _ p (λ x. truth_in w _ q (λ y. value refl h))
