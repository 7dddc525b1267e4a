-- Two reads that end alike: both refused with the same refusal, or both done with the same bytes left, whatever their values are.
-- What is put around a part changes the value alone, so a function that passes over the part has passed over the whole.
use Prim.Native.Nat.{ℕ, ◌-◌}
use mathlib.Core.Bool.{Bool, true, false}
use mathlib.Core.List.{List}
use lib.Dec.{leb}
use lib.ListN.{length, take, drop}
use Rattle.design.specs.Syntax.{Expr, Exprs}
use Rattle.design.specs.Take.{Refusal, Read, got, refused, bind, needs, two_bytes}
use Rattle.design.specs.Grammar.{exprs}
use Rattle.design.specs.Records.{part, at, is_empty}

pub data Alike {A B : Type 0} : Read A → Read B → Type 0 where
  done : (a : A) (b : B) (s : List ℕ) → Alike (got a s) (got b s)
  same : (why : Refusal) → Alike (refused why) (refused why)

pub itself : {A : Type 0} (p : Read A) → Alike p p
itself (got a s) = done a a s
itself (refused why) = same why

-- what is put around a read
pub around : {A B : Type 0} (c : A → B) (p : Read A) → Alike p (bind p (λ a s. got (c a) s))
unfolding bind
around c (got a s) = done a (c a) s
around c (refused why) = same why

-- reads that go on alike
pub go_on : {A B C D : Type 0} {p : Read A} {q : Read B} (k : A → List ℕ → Read C) (l : B → List ℕ → Read D) → Alike p q →
    ((a : A) (b : B) (s : List ℕ) → Alike (k a s) (l b s)) → Alike (bind p k) (bind q l)
unfolding bind
go_on k l (done a b s) h = h a b s
go_on k l (same why) h = same why

pub go_with : {A C D : Type 0} (p : Read A) (k : A → List ℕ → Read C) (l : A → List ℕ → Read D) →
    ((a : A) (s : List ℕ) → Alike (k a s) (l a s)) → Alike (bind p k) (bind p l)
unfolding bind
go_with (got a s) k l h = h a s
go_with (refused why) k l h = same why

pub test : {A B : Type 0} {p : Read A} {q : Read B} (b : Bool) (why : Refusal) → Alike p q → Alike (needs b why p) (needs b why q)
unfolding needs
test true why h = h
test false why h = same why

-- a body, by how its inside is read
pub parts : {A B : Type 0} (size place : ℕ) (inner : ℕ → ℕ → List ℕ → Read A) (other : ℕ → ℕ → List ℕ → Read B) (s : List ℕ) →
    ((start count : ℕ) (t : List ℕ) → Alike (inner start count t) (other start count t)) → Alike (part size place inner s) (part size place other s)
unfolding part
parts size place inner other s h =
    go_with (two_bytes (at size place 2) s) _ _ (λ n r.
    test (leb n (length r)) _ (go_on _ _ (h (size - length r) n (take n r)) (λ a b q. test (is_empty q) _ (done a b (drop n r)))))

-- one expression, and two, as rows of expressions
module _ (end : ℕ) (bad : Refusal) (E : List ℕ → Read Expr) (s : List ℕ) {A : Type 0} where
  pub row_one : (f : Expr → A) → Alike (exprs end bad E 1 s) (bind (E s) (λ a r. got (f a) r))
  unfolding exprs bind
  row_one f = go_with (E s) _ _ (λ a r. done (Exprs.more a Exprs.none) (f a) r)

pub row_two : (end : ℕ) (bad : Refusal) (E : List ℕ → Read Expr) (s : List ℕ) {A : Type 0} (f : Expr → Expr → A) →
    Alike (exprs end bad E 2 s) (bind (E s) (λ a r. bind (E r) (λ b q. got (f a b) q)))
unfolding exprs bind
row_two end bad E s {A} f = go_with (E s) _ _ (λ a r. second a (E r))
  where
    second : (a : Expr) (x : Read Expr) →
        Alike (bind (bind x (λ b q. got (Exprs.more b Exprs.none) q)) (λ es q. got (Exprs.more a es) q)) (bind x (λ b q. got (f a b) q))
    second a (got b q) = done (Exprs.more a (Exprs.more b Exprs.none)) (f a b) q
    second a (refused why) = same why
