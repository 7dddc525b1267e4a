-- More levels of depth read the same: what reads with so many left reads with more of them, as the same tree. So a walker need not know how deep
-- it is.
use Prim.Native.Nat.{ℕ, zero, suc, ◌-◌, ◌≤◌}
use mathlib.Core.Path.{◌≡◌}
use mathlib.Core.Bool.{◌&&◌}
use mathlib.Core.List.{List}
use native.Mathlib.Omega.{arith}
use lib.Dec.{eqb, leb}
use Rattle.design.specs.Syntax.{Expr}
use Rattle.design.specs.Take.{Refusal, Read, got, bind, needs, pick, byte}
use Rattle.design.specs.Grammar as G
use Rattle.design.specs.Grammar.{Tag, tag_of, Operation, operation_of, Statement}
use Rattle.design.proofs.Inverting.{never, bound, needed}

-- one reader reads what another reads
abbrev Covers : {A : Type 0} → (List ℕ → Read A) → (List ℕ → Read A) → Type 0
Covers {A} E F = (s : List ℕ) (a : A) (r : List ℕ) → E s ≡ got a r → F s ≡ got a r

module _ (end : ℕ) (bad : Refusal) (E F : List ℕ → Read Expr) (h : Covers E F) where
  exprs_more : (n : ℕ) → Covers (G.exprs end bad E n) (G.exprs end bad F n)
  unfolding G.exprs bind
  exprs_more zero s a r e = e
  exprs_more (suc n) s a r e = bound (E s) _ e (λ x t p u. bound (G.exprs end bad E n t) _ u (λ xs q p₂ v. rw (h s x t p, exprs_more n t xs q p₂) v))

  statement_more : Covers (G.statement end bad E) (G.statement end bad F)
  unfolding G.statement bind needs
  statement_more s a r e = bound (byte bad s) _ e (λ t q p u. needed (leb 8 t && leb t 9) bad _ u (λ c v.
      bound (E q) (λ x o. got (pick (eqb t 8) (Statement.let_of x) (Statement.do_of x)) o) v (λ x o p₂ w. rw (p, c, h q x o p₂) w)))

  statements_more : (n : ℕ) → Covers (G.statements end bad E n) (G.statements end bad F n)
  unfolding G.statements bind
  statements_more zero s a r e = bound (G.statement end bad E s) _ e (λ x t p u. rw (statement_more s x t p) u)
  statements_more (suc n) s a r e =
      bound (G.statement end bad E s) _ e (λ x t p u. bound (G.statements end bad E n t) _ u (λ xs q p₂ v. rw (statement_more s x t p, statements_more n t xs q p₂) v))

  operands_more : (o : Operation) → Covers (G.operands end bad E o) (G.operands end bad F o)
  unfolding G.operands bind
  operands_more (Operation.binary o) s a r e = bound (E s) _ e (λ x t p u. bound (E t) _ u (λ y q p₂ v. rw (h s x t p, h t y q p₂) v))
  operands_more Operation.not s a r e = bound (E s) _ e (λ x t p u. rw (h s x t p) u)
  operands_more Operation.unknown s a r e = e

  after_more : (g : Tag) → Covers (G.after end bad E g) (G.after end bad F g)
  unfolding G.after bind needs
  after_more Tag.number s a r e = e
  after_more Tag.truth s a r e = e
  after_more Tag.local s a r e = e
  after_more Tag.operator s a r e = bound (byte bad s) _ e (λ o t p u. rw p (operands_more (operation_of o) t a r u))
  after_more Tag.choice s a r e =
      bound (E s) _ e (λ c t p u. bound (E t) _ u (λ x q p₂ v. bound (E q) _ v (λ y o p₃ w. rw (h s c t p, h t x q p₂, h q y o p₃) w)))
  after_more Tag.guarded s a r e = bound (E s) _ e (λ c t p u. bound (E t) _ u (λ x q p₂ v. rw (h s c t p, h t x q p₂) v))
  after_more Tag.block s a r e = bound (byte bad s) _ e (λ n t p u. needed (leb 1 n && leb n 32) bad _ u (λ c v. bound (G.statements end bad E (n - 1) t) _ v (λ xs q p₂ w.
      rw (p, c, statements_more (n - 1) t xs q p₂) w)))
  after_more Tag.call s a r e = bound (byte bad s) _ e (λ i t p u. bound (byte bad t) _ u (λ m q p₂ v. bound (byte bad q) _ v (λ n o p₃ w. needed (leb n 4) bad _ w (λ c x.
      bound (G.exprs end bad E n o) _ x (λ es z p₄ y. rw (p, p₂, p₃, c, exprs_more n o es z p₄) y)))))
  after_more Tag.display s a r e = bound (E s) _ e (λ x t p u. rw (h s x t p) u)
  after_more Tag.unknown s a r e = e

pub deeper : (end : ℕ) (bad : Refusal) (l m : ℕ) → l ≤ m → Covers (G.expr end bad l) (G.expr end bad m)
unfolding G.expr bind
deeper end bad zero m h s a r e = absurd (never e)
deeper end bad (suc l) zero h s a r e = absurd (omega arith)
deeper end bad (suc l) (suc m) h s a r e =
    bound (byte bad s) _ e (λ t q p u. rw p (after_more end bad (G.expr end bad l) (G.expr end bad m) (deeper end bad l m (omega arith)) (tag_of t) q a r u))
