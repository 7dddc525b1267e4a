-- What was read says how: where a record was read as a method or a rule, the place and the owner are those that it was read
-- with. Inversions hand on what they find, so that anything can be rewritten in it.
use Prim.Native.Nat.{ℕ, ◌-◌, ◌≤◌}
use mathlib.Core.Path.{◌≡◌, refl, ap, sym, ◌∙◌}
use mathlib.Core.Bool.{Bool, true, false, true≢false}
use mathlib.Core.List.{List, [], ◌∷◌}
use native.Mathlib.Omega.{arith}
use lib.Dec.{leb}
use lib.ListN.{length, take, drop}
use borrow.Author.Tests.{leb-true}
use Rattle.design.specs.Syntax.{Method, Rule}
use Rattle.design.specs.Take.{Refusal, Read, got, refused, bind, needs, two_bytes}
use Rattle.design.specs.Records as R

pub never : {A : Type 0} {w : Refusal} {a : A} {s : List ℕ} → refused w ≡ got a s → ⊥
never e = let z : ◌≡◌ {A = ℕ} 0 1 = cc in omega arith

pub got_value : {A : Type 0} {a b : A} {s t : List ℕ} → got a s ≡ got b t → a ≡ b
got_value e = cc

pub got_rest : {A : Type 0} {a b : A} {s t : List ℕ} → got a s ≡ got b t → s ≡ t
got_rest e = cc

-- where a row of reads is done, its first read is, and the others are after it
pub bound : {X A B : Type 0} (p : Read A) (k : A → List ℕ → Read B) {b : B} {t : List ℕ} → bind p k ≡ got b t →
    ((a : A) (s : List ℕ) → p ≡ got a s → k a s ≡ got b t → X) → X
unfolding bind
bound (got a s) k e next = next a s refl e
bound (refused w) k e next = absurd (never e)

-- what was needed held
pub needed : {X A : Type 0} (t : Bool) (why : Refusal) (p : Read A) {a : A} {s : List ℕ} → needs t why p ≡ got a s → (t ≡ true → p ≡ got a s → X) → X
unfolding needs
needed true why p e next = next refl e
needed false why p e next = absurd (never e)

nothing : (s : List ℕ) → R.is_empty s ≡ true → s ≡ []
unfolding R.is_empty
nothing [] h = refl
nothing (b ∷ s) h = absurd (true≢false (sym h))

-- a body that was read: its length, that it is within the file, and what its inside was read as
pub part_read : {X A : Type 0} (size place : ℕ) (inner : ℕ → ℕ → List ℕ → Read A) (s : List ℕ) {a : A} {t : List ℕ} → R.part size place inner s ≡ got a t →
    ((n : ℕ) (r : List ℕ) → two_bytes (R.at size place 2) s ≡ got n r → n ≤ length r → inner (size - length r) n (take n r) ≡ got a [] → t ≡ drop n r → X) → X
unfolding R.part
part_read {X} {A} size place inner s {a} {t} e next =
    bound (two_bytes (R.at size place 2) s) _ e (λ n r p q.
    needed (leb n (length r)) _ _ q (λ l u.
    bound (inner (size - length r) n (take n r)) _ u (λ b rest i v.
    needed (R.is_empty rest) _ _ v (λ z w.
    next n r p (leb-true n (length r) l) (i ∙ ends (got_value w) (nothing rest z)) (sym (got_rest w))))))
  where
    ends : {b c : A} {u : List ℕ} → b ≡ c → u ≡ [] → got b u ≡ got c []
    ends p q = cc

module _ (size place : ℕ) where
  -- a method's place and owner
  pub method_read : (owner : ℕ) {x : Method} (s : List ℕ) {t : List ℕ} → R.method_fields size place owner s ≡ got x t → (x.place ≡ place) × (x.owner ≡ owner)
  unfolding R.method_fields
  method_read owner s e =
      bound _ _ e (λ k s1 p1 e1. bound _ _ e1 (λ z s2 p2 e2. needed _ _ _ e2 (λ g e3. bound _ _ e3 (λ n s3 p3 e4. bound _ _ e4 (λ ks s4 p4 e5.
      part_read size place _ s4 e5 (λ n r p l u w. bound _ _ u (λ b q v y. (ap (λ m. m.place) (sym (got_value y)), ap (λ m. m.owner) (sym (got_value y))))))))))

  -- a rule's
  pub rule_read : (owner : ℕ) {x : Rule} (s : List ℕ) {t : List ℕ} → R.rule_fields size place owner s ≡ got x t → (x.place ≡ place) × (x.owner ≡ owner)
  unfolding R.rule_fields
  rule_read owner s e =
      part_read size place _ s e (λ n r p l u w. bound _ _ u (λ g q v y. bound _ _ y (λ b q v y.
      (ap (λ m. m.place) (sym (got_value y)), ap (λ m. m.owner) (sym (got_value y))))))
