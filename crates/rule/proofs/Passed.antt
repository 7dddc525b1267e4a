-- What a test that passed says: the tests in it passed too. Inversions hand on what they find.
use Prim.Native.Nat.{ℕ, ◌<◌}
use mathlib.Core.Path.{◌≡◌, refl, ◌∙◌}
use mathlib.Core.Bool.{Bool, true, false}
use mathlib.Core.Option.{Option, some, none}
use native.Mathlib.Omega.{arith}
use lib.Dec.{ltb}
use borrow.Author.Tests.{ltb-true}
use Rattle.design.specs.Syntax.{Design}
use Rattle.meaning.specs.Naming.{Test, passed, failed, if_passed, test, found, Callee, callee_of, named}

-- what failed did not pass
pub never : {X A : Type 0} {n : ℕ} {a : A} → failed n ≡ passed a → X
never e = let z : ◌≡◌ {A = ℕ} 0 1 = cc in absurd (omega arith)

-- of two tests in a row the first passed, and then the second
pub both : {X A B : Type 0} (p : Test A) (f : A → Test B) {b : B} → if_passed p f ≡ passed b → ((a : A) → p ≡ passed a → f a ≡ passed b → X) → X
unfolding if_passed
both (passed a) f e next = next a refl e
both (failed n) f e next = never e

pub held : {X A : Type 0} (t : Bool) (n : ℕ) (p : Test A) {a : A} → test t n p ≡ passed a → (t ≡ true → p ≡ passed a → X) → X
unfolding test
held true n p e next = next refl e
held false n p e next = never e

pub there : {A : Type 0} (n : ℕ) (o : Option A) {a : A} → found n o ≡ passed a → o ≡ some a
unfolding found
there n none e = never e
there n (some a) e = cc

-- a call that may be made names an instance below the caller's
pub named_below : (D : Design) (me i m n : ℕ) (pure : Bool) {c : Callee} → named D me i m n pure ≡ passed c → (i < me) × (callee_of D i m ≡ passed c)
unfolding named
named_below D me i m n pure e =
    held (ltb i me) _ _ e (λ h e1. both (callee_of D i m) _ e1 (λ a p e2. held _ _ _ e2 (λ _ e3. held _ _ _ e3 (λ _ q. (ltb-true i me h, p ∙ q)))))
