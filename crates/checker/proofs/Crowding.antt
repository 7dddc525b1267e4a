-- The counts of methods and rules. Methods are counted in file order, and owners never fall, so what a body calls has been counted before
-- it. The rules that are left, from where the loop stands, decide what the check answers.
use Prim.Native.Nat.{ℕ, zero, suc, ◌+◌, ◌≤◌, ◌<◌, min}
use mathlib.Core.Path.{◌≡◌, ap, sym, subst, ◌∙◌}
use mathlib.Core.List.{List, [], ◌∷◌}
use mathlib.Core.Option.{some, some-injective}
use native.Mathlib.Omega.{arith}
use native.Mathlib.Numerals.{add-one}
use lib.ListN.{length, drop, get_or, get_elem?, drop_of_length-le}
use borrow.Author.Tests.{le-leb, lt-leb}
use Rattle.design.specs.Syntax.{Method, Rule, Design}
use Rattle.design.specs.Records as R
use Rattle.design.specs.Records.{methods, rules}
use Rattle.design.specs.Plan.{Sorted, behind, World}
use Rattle.design.specs.Lookups.{Instances, Methods, Rules, Owner, MethodText, RulePlace, RuleText}
use Rattle.design.proofs.Table.{there, index_below}
use Rattle.checker.specs.declared.calls.Counted.{Counted}
use Rattle.std.specs.Prelude.{Some, None}
use Rattle.meaning.specs.Calls.{Table, calls, table_below, rule_calls}
use Rattle.meaning.specs.Check.{Verdict, count_all}
use Rattle.checker.specs.Counted.{Alike, exact, crowded, Known, whole, Counts, Before, Filled, MethodCounts, RuleCounts, verdict, RulesCount}
use Rattle.checker.proofs.Tallying.{alike_on, capped, plus}

few : {c n : ℕ} → Alike c n → c ≤ 64 → n ≤ 64
few (exact e) h = omega arith
few (crowded p q) h = absurd (omega arith)

many : {c n : ℕ} → Alike c n → 64 < c → 64 < n
many (exact e) h = omega arith
many (crowded p q) h = q

from_there : {A : Type 0} (xs : List A) (n : ℕ) {x : A} → get_elem? xs n ≡ some x → drop n xs ≡ x ∷ drop (suc n) xs
from_there [] n e = absurd (let z : ◌≡◌ {A = ℕ} 0 1 = cc in omega arith)
from_there (y ∷ xs) zero e = ap (λ z. z ∷ xs) (some-injective _ _ e)
from_there (y ∷ xs) (suc n) e = from_there xs n e

-- methods of earlier instances stand before
earlier : (ms : List Method) (k j : ℕ) {x y : Method} → Sorted ms → get_elem? ms k ≡ some x → get_elem? ms j ≡ some y → y.owner < x.owner → j < k
earlier [] k j s e f l = absurd (let z : ◌≡◌ {A = ℕ} 0 1 = cc in omega arith)
earlier (a ∷ ms) zero zero s e f l = absurd (let z = ap (λ (m : Method). m.owner) (some-injective _ _ (sym e ∙ f)) in omega arith)
earlier (a ∷ ms) zero (suc j) {y = y} (behind below s) e f l =
    absurd (let z = ap (λ (m : Method). m.owner) (some-injective _ _ e) in omega (arith, below j y f))
earlier (a ∷ ms) (suc k) zero s e f l = omega arith
earlier (a ∷ ms) (suc k) (suc j) (behind below s) e f l = let h = earlier ms k j s e f l in omega arith

-- ---- methods

-- what is known of a body of that instance, where the methods of earlier instances are counted
known : {file plan counts : List ℕ} {D : Design} (me : ℕ) → World file plan D →
    ((k : ℕ) (x : Method) → get_elem? (methods D.bodies) k ≡ some x → x.owner < me →
    Alike (get_or counts k 0) (calls (table_below D x.owner) x.body)) → Known plan counts me D
known me w h = record { plans = w.plans; counted = h }

pub method_counted : {file plan counts text : List ℕ} {k owner : ℕ} {c : Counted} → Owner plan k owner → MethodText file plan k text →
    Counts whole text plan counts owner 0 16 c → MethodCounts file plan counts k c.calls
method_counted {file} {k = k} {owner} {c} o t d = record {
  method = λ D w g x e.
      let own : owner ≡ x.owner = o.owner D x w.plans e in
      let u = known owner w (λ j z f l. g.before D w j z (earlier _ k j w.plans.sound.sorted e f (omega arith)) f) in
      subst (λ m. Alike c.calls (calls (table_below D m) x.body)) own
      ((d.says D u (x.start + x.size) (R.at (length file) x.place 7)).tells x.body [] (rw (t.text D x w e) (w.stands.methods_stand k x e).body)).0;
}

module _ {file plan : List ℕ} where
  pub all_filled : {counts : List ℕ} {k n m : ℕ} → Before file plan counts k → Methods plan n → m ≡ min n 128 → m ≤ k → Filled file plan counts
  all_filled {k = k} h m e l = record {
    filled = λ D w j x f. h.before D w j x (omega (arith, index_below (methods D.bodies) j x f, m.counts D w.plans, w.plans.sound.few_methods)) f;
  }

-- ---- rules

pub rule_counted : {file plan counts text : List ℕ} {n instances s : ℕ} {g b : Counted} → Instances plan instances → RuleText file plan n text →
    Counts whole text plan counts instances 0 16 g → Counts whole text plan counts instances g.at 16 b → s ≡ min (g.calls + b.calls) 65 →
    RuleCounts file plan counts n s
unfolding rule_calls
rule_counted {file} {n = n} {instances} i t u v q = record {
  rule = λ D w h x e.
      let st = w.stands.rules_stand n x e in
      let k = known instances w (λ j y f l. h.filled D w j y f) in
      let bad = R.at (length file) x.place 7 in
      let a = (u.says D k (x.start + x.size) bad).tells x.guard st.rest (rw (t.text D x w e) st.guard) in
      let b = (v.says D k (x.start + x.size) bad).tells x.body [] (rw a.1 st.body) in
      rw (sym (i.counts D w.plans)) (alike_on (capped q) (plus a.0 b.0));
}

-- ---- the rules in file order

module _ (t : Table) (x : Rule) (rs : List Rule) where
  crowded_rule : 64 < rule_calls t x → count_all t (x ∷ rs) ≡ Verdict.fails (record { number = 27; place = x.place })
  unfolding count_all
  crowded_rule h = rw (lt-leb (rule_calls t x) 64 h, count_all)

  passed_rule : rule_calls t x ≤ 64 → count_all t (x ∷ rs) ≡ count_all t rs
  unfolding count_all
  passed_rule h = rw (le-leb (rule_calls t x) 64 h, count_all)

abbrev all_calls : Design → Table
all_calls D = table_below D (length D.instances)

-- the rules from n on decide
pub record Left (file plan counts : List ℕ) (n : ℕ) : Type 0 where
  pub left : (D : Design) → World file plan D → Filled file plan counts →
      count_all (all_calls D) (rules D.bodies) ≡ count_all (all_calls D) (drop n (rules D.bodies))

module _ {file plan counts : List ℕ} where
  module _ {n rs : ℕ} (h : Left file plan counts n) (c : Rules plan rs) where
    pub done : rs ≤ n → RulesCount file plan counts None
    unfolding verdict count_all
    done l = record { counted = λ D w k. sym (h.left D w k ∙ rw (drop_of_length-le (rules D.bodies) {i = n} (omega (arith, c.counts D w.plans)))) }

    module _ {r : ℕ} (l : n < rs) (q : RuleCounts file plan counts n r) where
      -- rule n, and those behind it
      rule_there : {X : Type 0} (D : Design) → World file plan D → Filled file plan counts →
          ((x : Rule) → get_elem? (rules D.bodies) n ≡ some x → drop n (rules D.bodies) ≡ x ∷ drop (n + 1) (rules D.bodies) →
          Alike r (rule_calls (all_calls D) x) → X) → X
      rule_there D w k next =
          let g = there (rules D.bodies) n (omega (arith, c.counts D w.plans)) in
          next g.0 g.1 (from_there (rules D.bodies) n g.1 ∙ ap (λ i. g.0 ∷ drop i (rules D.bodies)) (sym (add-one n))) (q.rule D w k g.0 g.1)

      pub over : {place : ℕ} → 64 < r → RulePlace plan n place → RulesCount file plan counts (Some place)
      unfolding verdict
      over o p = record {
        counted = λ D w k. rule_there D w k (λ x e d a.
            sym (h.left D w k ∙ rw (d, crowded_rule _ x (drop (n + 1) (rules D.bodies)) (many a o), p.place D x w.plans e)));
      }

      pub next : r ≤ 64 → Left file plan counts (n + 1)
      next o = record { left = λ D w k. rule_there D w k (λ x e d a. h.left D w k ∙ rw d (passed_rule _ x _ (few a o))) }
