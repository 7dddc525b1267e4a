-- What a call's callee could make, by the counts of the methods and the plan: one law for each way in which the lookup returns. The row of an
-- instance in the table of calls has a number for each of its methods, and none past them.
use Prim.Native.Nat.{ℕ, zero, suc, ◌≤◌, ◌<◌}
use mathlib.Core.Path.{◌≡◌, refl, ap, sym, subst, ◌∙◌}
use mathlib.Core.List.{List, [], ◌∷◌, map}
use mathlib.Core.Option.{some, none, none-ne-some}
use native.Mathlib.Omega.{arith}
use lib.ListN.{get_or, get_elem?}
use Rattle.design.specs.Syntax.{Method, Design}
use Rattle.design.specs.Records.{methods}
use Rattle.design.specs.Parts.{of_owner}
use Rattle.design.specs.Parts as P
use Rattle.std.specs.Prelude.{Option as Maybe, Some, None}
use Rattle.design.specs.Lookups.{Finding, Finds}
use Rattle.design.proofs.Lookups.{get_d_past}
use Rattle.meaning.specs.Lookup.{methods_of, method_of}
use Rattle.meaning.specs.Calls.{calls_of, calls, table_below}
use Rattle.checker.specs.Counted.{Alike, exact, Known, CalleeCounts}
use Rattle.checker.proofs.Walked.{owned}
use Rattle.checker.proofs.Counting.{rows, row, counted}

-- past the methods of an instance
unmapped : {A : Type 0} (f : A → ℕ) (xs : List A) (i : ℕ) → get_elem? xs i ≡ none → 0 ≡ get_or (map f xs) i 0
unmapped f [] i e = refl
unmapped f (x ∷ xs) zero e = absurd (none-ne-some _ (sym e))
unmapped f (x ∷ xs) (suc i) e = unmapped f xs i e

-- a method of an instance is its own
own : (i : ℕ) (ms : List Method) (m : ℕ) {x : Method} → get_elem? (of_owner i ms) m ≡ some x → x.owner ≡ i
unfolding of_owner
own i [] m e = absurd (none-ne-some _ e)
own i (y ∷ ys) m e = owned i y ys m e (λ p q. rw p at q) (λ k f. own i ys k f)

module _ {plan counts : List ℕ} {me i : ℕ} (m : ℕ) where
  -- of no instance below
  pub not_below : me ≤ i → CalleeCounts plan counts me i m 0
  unfolding calls_of
  not_below h = record {
    callee = λ D k. exact (let l = rows D me in ap (λ r. get_or r m 0) (get_d_past (table_below D me) i [] (omega arith)));
  }

module _ {plan counts : List ℕ} {me i m : ℕ} {f : Maybe ℕ} (h : i < me) (s : Finds plan i m f) where
  pub nowhere : f ≡ None → CalleeCounts plan counts me i m 0
  unfolding Finding P.method_of calls_of methods_of
  nowhere e = record { callee = λ D k. exact (rw (row D me i h) (unmapped _ (methods_of D i) m ((rw e at s.finds) D k.plans))) }

  module _ {k : ℕ} (e : f ≡ Some k) where
    there : (D : Design) → Known plan counts me D → Alike (get_or counts k 0) (calls_of (table_below D me) i m)
    unfolding Finding P.method_of method_of methods_of
    there D w =
        let (x, q, n, z) = (rw e at s.finds) D w.plans in
        let o : x.owner ≡ i = own i (methods D.bodies) m q in
        subst (Alike (get_or counts k 0)) (ap (λ j. calls (table_below D j) x.body) o ∙ sym (counted D me i m h q)) (w.counted k x n (omega arith))

    pub counted_there : {r : ℕ} → r ≡ get_or counts k 0 → CalleeCounts plan counts me i m r
    counted_there q = record { callee = λ D w. rw q (there D w) }
