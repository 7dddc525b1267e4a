-- What falls along the cycle of the walk: the bytes of the body that are left, and then the member's rank. An expression has rank 0, so that
-- any member may walk one where it stands itself; behind a byte any member may follow.
use Prim.Native.Nat.{ℕ, suc, ◌+◌, ◌-◌, ◌*◌, ◌≤◌, ◌<◌}
use mathlib.Core.Path.{◌≡◌}
use mathlib.Core.Bool.{Bool, true}
use mathlib.Core.List.{List}
use native.Mathlib.Omega.{arith}
use lib.Dec.{leb}
use lib.ListN.{length}
use borrow.Author.Tests.{leb-true}
use Rattle.std.specs.Prelude.{Ok}
use Rattle.design.specs.declared.kinds.Kind as DK
use Rattle.rule.specs.declared.naming.Callee as DC
use Rattle.checker.specs.Walks.{Place, Part, Walks, Reads}
use Rattle.checker.proofs.Blocks.{Left, since}
use Rattle.checker.proofs.Calling.{Row}
use Rattle.checker.proofs.Parts as M

unfoldable pub weight : (left rank : ℕ) → ℕ
weight left rank = left * 4 + rank

module _ (text : List ℕ) (at b : ℕ) {t : ℕ} (w : weight (length text - at) b ≡ t) (a : ℕ) where
  -- no earlier, a member of a lower rank
  lower : (n : ℕ) → at ≤ n → leb (suc a) b ≡ true → weight (length text - n) a < t
  unfolding weight
  lower n l h = omega (arith, leb-true (suc a) b h)

  -- fewer bytes
  fewer : (n : ℕ) → at < n → n ≤ length text → leb a 3 ≡ true → weight (length text - n) a < t
  unfolding weight
  fewer n l m h = omega (arith, leb-true a 3 h)

  pub rank_less : leb (suc a) b ≡ true → weight (length text - at) a < t
  rank_less h = lower at (omega arith) h

  module _ {c n : ℕ} (s : Reads text at (Ok (c, n))) where
    pub byte_less : leb a 3 ≡ true → weight (length text - n) a < t
    byte_less h = let i = M.follows s in fewer n (omega (arith, i.0)) i.1 h

    pub second_less : {p : Part} {file plan : List ℕ} {f : Place} {k : DK.Kind} {m : ℕ} → Walks p text file plan f n (Ok (k, m)) → leb (suc a) b ≡ true →
        weight (length text - m) a < t
    second_less {m = m} d h = let i = M.follows s in lower m (omega (arith, i.0, M.goes d)) h

    pub head_less : {c₂ n₂ c₃ n₃ : ℕ} → Reads text n (Ok (c₂, n₂)) → Reads text n₂ (Ok (c₃, n₃)) → leb a 3 ≡ true → weight (length text - n₃) a < t
    head_less {n₃ = n₃} s₂ s₃ h = let i = M.follows s₃ in fewer n₃ (omega (arith, (M.follows s).0, (M.follows s₂).0, i.0)) i.1 h

  module _ {p : Part} {file plan : List ℕ} {f : Place} {k : DK.Kind} {n : ℕ} (d : Walks p text file plan f at (Ok (k, n))) where
    pub value_less : leb (suc a) b ≡ true → weight (length text - n) a < t
    value_less h = lower n (M.goes d) h

    pub values_less : {q : Part} {g : Place} {j : DK.Kind} {m : ℕ} → Walks q text file plan g n (Ok (j, m)) → leb (suc a) b ≡ true →
        weight (length text - m) a < t
    values_less {m = m} d₂ h = lower m (omega (arith, M.goes d, M.goes d₂)) h

  module _ {file plan : List ℕ} {f : Place} {here : ℕ} where
    pub statement_less : {count i live c n : ℕ} {locals : List DK.Kind} {k : DK.Kind} → Left count text file plan f at i live locals k here → i < count →
        Reads text here (Ok (c, n)) → leb (suc a) b ≡ true → weight (length text - n) a < t
    statement_less {n = n} l q s h = lower n (omega (arith, since l q, (M.follows s).0)) h

    pub argument_less : {count j : ℕ} {c : DC.Callee} {fit : Bool} → Row count text file plan f at c fit here j → leb (suc a) b ≡ true →
        weight (length text - here) a < t
    argument_less l h = lower here l.since h
