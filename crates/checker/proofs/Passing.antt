-- What a test that passed says of kinds: those that were compared are the same. Inversions hand on what they find.
use Prim.Native.Nat.{ℕ, ◌*◌}
use mathlib.Core.Path.{◌≡◌, refl, sym, ◌∙◌}
use mathlib.Core.Bool.{Bool, true, false, ◌&&◌, true≢false}
use mathlib.Core.List.{List, [], ◌∷◌}
use mathlib.Core.Option.{some}
use native.Mathlib.Omega.{arith}
use lib.Dec.{ltb}
use Rattle.design.specs.Syntax.{Kind, Method, Instance, Design}
use Rattle.design.specs.Records.{is_user}
use Rattle.meaning.specs.Values.{same_kind, same_kinds}
use Rattle.meaning.specs.Lookup.{instance_of, ports, access, method_of}
use Rattle.meaning.specs.Naming.{Test, passed, if_passed, test, found, Callee, method_in, callee_of}
use Rattle.rule.proofs.Passed.{both, held, there}
use Rattle.meaning.specs.Kinds.{wants}

-- ---- kinds

pub same : (j k : Kind) → same_kind j k ≡ true → j ≡ k
unfolding same_kind
same Kind.void Kind.void h = refl
same Kind.void Kind.num h = absurd (true≢false (sym h))
same Kind.void Kind.bool h = absurd (true≢false (sym h))
same Kind.num Kind.void h = absurd (true≢false (sym h))
same Kind.num Kind.num h = refl
same Kind.num Kind.bool h = absurd (true≢false (sym h))
same Kind.bool Kind.void h = absurd (true≢false (sym h))
same Kind.bool Kind.num h = absurd (true≢false (sym h))
same Kind.bool Kind.bool h = refl

pub same_self : (k : Kind) → same_kind k k ≡ true
unfolding same_kind
same_self Kind.void = refl
same_self Kind.num = refl
same_self Kind.bool = refl

pub all_same : (js ks : List Kind) → same_kinds js ks ≡ true → js ≡ ks
unfolding same_kinds
all_same [] [] h = refl
all_same [] (k ∷ ks) h = absurd (true≢false (sym h))
all_same (j ∷ js) [] h = absurd (true≢false (sym h))
all_same (j ∷ js) (k ∷ ks) h = go (same_kind j k) (same j k) (all_same js ks) h
  where
    go : (t : Bool) → (t ≡ true → j ≡ k) → (same_kinds js ks ≡ true → js ≡ ks) → (t && same_kinds js ks) ≡ true → j ∷ js ≡ k ∷ ks
    go true p q h = let e = p refl in let f = q h in cc
    go false p q h = absurd (true≢false (sym h))

pub wanted : {X A : Type 0} (k j : Kind) (p : Test A) {a : A} → wants k j p ≡ passed a → (j ≡ k → p ≡ passed a → X) → X
unfolding wants
wanted k j p e next = held (same_kind k j) 21 p e (λ h q. next (sym (same k j h)) q)

-- ---- callees

-- a method with a body is one of an instance that is there
pub user_there : {X : Type 0} (D : Design) (i m : ℕ) {x : Method} → callee_of D i m ≡ passed (Callee.user x) →
    ((y : Instance) → instance_of D i ≡ some y → method_of D i m ≡ some x → X) → X
unfolding callee_of method_in
user_there {X} D i m {x} e next = both (found 23 (instance_of D i)) _ e (λ y p q. go y (there 23 _ p) (is_user y) q)
  where
    go : (y : Instance) → instance_of D i ≡ some y → (t : Bool) → ◌≡◌ {A = Test Callee} (elim t [
      | true ↦ if_passed (found 24 (method_of D i m)) (λ z. passed (Callee.user z))
      | false ↦ test (ltb m (2 * ports y)) 24 (passed (Callee.port (access m)))
    ]) (passed (Callee.user x)) → X
    go y p true e = both _ _ e (λ z q r. next y p (there 24 _ q ∙ cc))
    go y p false e = held _ _ _ e (λ _ q. let z : ◌≡◌ {A = ℕ} 0 1 = cc in absurd (omega arith))
