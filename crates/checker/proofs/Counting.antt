-- The table of calls: its row of an instance has, for each method, the calls that the method's body could make by the rows before. So for
-- every callee the table says as many calls as its body could make.
use Prim.Native.Nat.{ℕ, zero, suc, ◌≤◌, ◌<◌}
use mathlib.Core.Path.{◌≡◌, refl, ap, sym, ◌∙◌}
use mathlib.Core.List.{List, [], ◌∷◌, ◌++◌, map}
use mathlib.Core.Option.{some}
use native.Mathlib.Omega.{arith}
use native.Mathlib.Decide.{ℕ_discrete}
use lib.ListN.{length, get_or, get_elem?, length-append, get_or-append}
use Rattle.design.specs.Syntax.{Method, Design}
use Rattle.design.proofs.Table.{index_below}
use Rattle.meaning.specs.Lookup.{instance_of, methods_of, method_of}
use Rattle.meaning.specs.Naming.{passed, Callee, callee_of}
use Rattle.meaning.specs.Calls.{Table, calls_of, calls, with_instance, table_below}
use Rattle.checker.proofs.Passing.{user_there}

-- for the methods of the instances below n, the table says no fewer calls than their bodies could make
pub record Covers (D : Design) (t : Table) (n : ℕ) : Type 0 where
  pub covers : (i m : ℕ) (x : Method) → i < n → callee_of D i m ≡ passed (Callee.user x) → calls (table_below D i) x.body ≤ calls_of t i m

at_end : {A : Type 0} (xs : List A) (x d : A) → get_or (xs ++ (x ∷ [])) (length xs) d ≡ x
at_end [] x d = refl
at_end (y ∷ ys) x d = at_end ys x d

mapped : {A : Type 0} (f : A → ℕ) (xs : List A) (i : ℕ) {x : A} → get_elem? xs i ≡ some x → get_or (map f xs) i 0 ≡ f x
mapped f [] i e = let z : ◌≡◌ {A = ℕ} 0 1 = cc in absurd (omega arith)
mapped f (x ∷ xs) zero e = cc
mapped f (x ∷ xs) (suc i) e = mapped f xs i e

-- the row of instance i
abbrev row_of : Design → ℕ → List ℕ
row_of D i = map (λ x. calls (table_below D i) x.body) (methods_of D i)

module _ (D : Design) where
  pub rows : (n : ℕ) → length (table_below D n) ≡ n
  unfolding table_below with_instance
  rows zero = refl
  rows (suc n) = let h = rows n in length-append (table_below D n) _ ∙ omega arith

  pub row : (n i : ℕ) → i < n → get_or (table_below D n) i [] ≡ row_of D i
  unfolding table_below with_instance
  row zero i h = absurd (omega arith)
  row (suc n) i h = go (ℕ_discrete i n) (row n i)
    where
      go : Dec (i ≡ n) → (i < n → get_or (table_below D n) i [] ≡ row_of D i) → get_or (table_below D n ++ (row_of D n ∷ [])) i [] ≡ row_of D i
      go (yes e) ih = ap (λ k. get_or (table_below D n ++ (row_of D n ∷ [])) k []) (e ∙ sym (rows n)) ∙ at_end (table_below D n) (row_of D n) [] ∙ ap (row_of D) (sym e)
      go (no ne) ih = let l = rows n in get_or-append (table_below D n) (row_of D n ∷ []) [] i (omega arith) ∙ ih (omega arith)

  pub counted : (n i m : ℕ) {x : Method} → i < n → method_of D i m ≡ some x → calls_of (table_below D n) i m ≡ calls (table_below D i) x.body
  unfolding calls_of method_of
  counted n i m h e = rw (row n i h) (mapped _ (methods_of D i) m e)

  -- of the instances below n
  pub below : (n : ℕ) → Covers D (table_below D n) n
  below n = record { covers = λ i m x h e. user_there D i m e (λ y p q. let c = counted n i m h q in omega arith) }

  -- of all that there are
  pub all_below : (n : ℕ) → Covers D (table_below D (length D.instances)) n
  unfolding instance_of
  all_below n = record { covers = λ i m x h e. user_there D i m e (λ y p q. let c = counted (length D.instances) i m (index_below D.instances i y p) q in omega arith) }
