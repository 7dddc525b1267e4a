-- What is passed over: the end of a whole follows from the ends of its parts. First the laws of any parts, then one law for each way in
-- which a function of the cycle returns. A loop over parts keeps `Goes`: what is left to pass over, from where the loop stands, decides.
use Prim.Native.Nat.{ℕ, zero, suc, ◌+◌, ◌-◌, ◌≤◌, ◌<◌}
use mathlib.Core.Path.{◌≡◌, refl, ap}
use mathlib.Core.List.{List}
use native.Mathlib.Omega.{arith}
use lib.Dec.{eqb}
use lib.ListN.{length, drop}
use borrow.Author.Tests.{le-leb, lt-leb}
use Rattle.design.specs.declared.text.Head.{Head}
use Rattle.design.specs.Syntax.{Expr, Exprs}
use Rattle.std.specs.Prelude.{Option, Some, None, Ok, Err, ◌&&◌, leb, true, false}
use Rattle.design.specs.declared.kinds.Statement.{Statement}
use Rattle.design.specs.declared.kinds.Unknown.{Unknown}
use Rattle.design.specs.Kinds.{IsStatement}
use Rattle.design.specs.Take.{Refusal, Read, got, refused, bind, needs, pick, byte}
use Rattle.design.specs.Grammar as G
use Rattle.design.specs.Grammar.{tag_of, let_of, do_of, last, then}
use Rattle.design.specs.Text.{Sees, Bounds, Leaves, Starts, Part, whole, one, several, statements, Reaches, Passes, Within, Skips}
use Rattle.design.proofs.Taking.{found, ended, follows}

-- the byte of a statement
pub a_statement : (b : ℕ) (s : Statement) → IsStatement b (Ok s) → (leb 8 b && leb b 9) ≡ true
a_statement b Statement.Let e = rw e refl
a_statement b Statement.Do e = rw e refl

above_nine : (b : ℕ) → 9 < b → (leb 8 b && leb b 9) ≡ false
above_nine b h = let k : 8 ≤ b = omega arith in rw (le-leb 8 b k, lt-leb b 9 h) refl

pub no_statement : (b : ℕ) → (b ≡ 8 → ⊥) → (b ≡ 9 → ⊥) → (leb 8 b && leb b 9) ≡ false
no_statement zero p q = refl
no_statement (suc zero) p q = refl
no_statement (suc (suc zero)) p q = refl
no_statement (suc (suc (suc zero))) p q = refl
no_statement (suc (suc (suc (suc zero)))) p q = refl
no_statement (suc (suc (suc (suc (suc zero))))) p q = refl
no_statement (suc (suc (suc (suc (suc (suc zero)))))) p q = refl
no_statement (suc (suc (suc (suc (suc (suc (suc zero))))))) p q = refl
no_statement (suc (suc (suc (suc (suc (suc (suc (suc zero)))))))) p q = absurd (p refl)
no_statement (suc (suc (suc (suc (suc (suc (suc (suc (suc zero))))))))) p q = absurd (q refl)
no_statement (suc (suc (suc (suc (suc (suc (suc (suc (suc (suc n)))))))))) p q = above_nine (suc (suc (suc (suc (suc (suc (suc (suc (suc (suc n)))))))))) (omega arith)

-- ---- any parts

-- the first part ends at n
passed : {A B : Type 0} {p : Read A} (k : A → List ℕ → Read B) {bad : Refusal} {text : List ℕ} {y : Option ℕ} {n : ℕ} →
    Passes p bad text (Some n) → ((a : A) → Passes (k a (drop n text)) bad text y) → Passes (bind p k) bad text y
unfolding Reaches bind
passed k h next = let w = h.reaches in rw w.1 (next w.0)

-- the first part does not read, so the whole does not
broken : {A B : Type 0} {p : Read A} (k : A → List ℕ → Read B) {bad : Refusal} {text : List ℕ} →
    Passes p bad text None → Passes (bind p k) bad text None
unfolding Reaches bind
broken k h = record { reaches = rw h.reaches }

-- what is put around a part takes no bytes
pub wrapped : {A B : Type 0} {p : Read A} (c : A → B) {bad : Refusal} {text : List ℕ} {x : Option ℕ} →
    Passes p bad text x → Passes (bind p (λ a s. got (c a) s)) bad text x
unfolding Reaches bind
wrapped {A} {B} {p} c {bad} {text} {x} h = record { reaches = go x h.reaches }
  where
    go : (x : Option ℕ) → Reaches p bad text x → Reaches (bind p (λ a s. got (c a) s)) bad text x
    go (Some n) w = (c w.0, rw w.1)
    go None e = rw e

none_bad : {A : Type 0} {p : Read A} {bad : Refusal} {text : List ℕ} → p ≡ refused bad → Passes p bad text None
unfolding Reaches
none_bad e = record { reaches = e }

farther : (text : List ℕ) {at n : ℕ} (y : Option ℕ) → at ≤ n → Within text n y → Within text at y
unfolding Within
farther text (Some m) h w = omega arith
farther text None h w = tt

-- ---- one step of the grammar

-- where k of some many are done, one is left and those behind it
pub one_left : {count k : ℕ} → k < count → count - k ≡ suc (count - (k + 1))
one_left h = omega arith

module _ (end : ℕ) (bad : Refusal) where
  pub expr_at : {levels inner : ℕ} (s : List ℕ) → (1 ≤ levels) × (inner ≡ levels - 1) →
      G.expr end bad levels s ≡ bind (byte bad s) (λ t r. G.after end bad (G.expr end bad inner) (tag_of t) r)
  unfolding G.expr
  expr_at {levels} {inner} s h = let e : levels ≡ suc inner = omega arith in ap (λ n. G.expr end bad n s) e

  pub exprs_more : (E : List ℕ → Read Expr) (k : ℕ) (s : List ℕ) → 0 < k →
      G.exprs end bad E k s ≡ bind (E s) (λ e r. bind (G.exprs end bad E (k - 1) r) (λ es q. got (Exprs.more e es) q))
  unfolding G.exprs
  exprs_more E k s h = let e : k ≡ suc (k - 1) = omega arith in ap (λ n. G.exprs end bad E n s) e

  -- the same where k of some many are done
  pub exprs_next : (E : List ℕ → Read Expr) (s : List ℕ) {count k : ℕ} → k < count →
      G.exprs end bad E (count - k) s ≡ bind (E s) (λ e r. bind (G.exprs end bad E (count - (k + 1)) r) (λ es q. got (Exprs.more e es) q))
  unfolding G.exprs
  exprs_next E s h = ap (λ n. G.exprs end bad E n s) (one_left h)

  pub statements_next : (E : List ℕ → Read Expr) (s : List ℕ) {count k : ℕ} → k < count →
      G.statements end bad E (count - k) s ≡ bind (G.statement end bad E s) (λ x r. bind (G.statements end bad E (count - (k + 1)) r) (λ ss q. got (then x ss) q))
  unfolding G.statements
  statements_next E s h = ap (λ n. G.statements end bad E n s) (one_left h)

-- ---- an expression

pub head_within : {text : List ℕ} {at : ℕ} {h : Head} {n : ℕ} → Starts text at (Some (h, n)) → n ≤ length text
unfolding Bounds
head_within s = s.bounds.1

module _ {text : List ℕ} {at levels : ℕ} where
  pub deep : (1 ≤ levels → ⊥) → {y : Option ℕ} → y ≡ None → Skips whole text at levels y
  unfolding G.expr Within
  deep l z = let e : levels ≡ 0 = omega arith in rw z (record { passes = λ end bad. none_bad (rw e); within = tt })

  leaves_at : {inner : ℕ} {x : Option (Head × ℕ)} → (1 ≤ levels) × (inner ≡ levels - 1) → Starts text at x → (end : ℕ) (bad : Refusal) →
      Leaves end bad (G.expr end bad inner) (G.expr end bad levels (drop at text)) text x
  leaves_at {inner} below s end bad = rw (expr_at end bad (drop at text) below) (s.leaves end bad (G.expr end bad inner))

  pub plain : {inner : ℕ} {h : Head} {n : ℕ} → (1 ≤ levels) × (inner ≡ levels - 1) → Starts text at (Some (h, n)) → h ≡ Head.Plain → Skips whole text at levels (Some n)
  unfolding Leaves Bounds Reaches Within
  plain below s e = record {
    passes = λ end bad. record { reaches = rw e at (leaves_at below s end bad) };
    within = s.bounds;
  }

  pub rows_to : {inner : ℕ} {h : Head} {k n : ℕ} {y : Option ℕ} → (1 ≤ levels) × (inner ≡ levels - 1) → Starts text at (Some (h, n)) → h ≡ Head.Exprs k →
      Skips (several k) text n inner y → Skips whole text at levels y
  unfolding Leaves Bounds
  rows_to {y = y} below s e w =
      let b = s.bounds in
      record {
        passes = λ end bad. let l = rw e at (leaves_at below s end bad) in rw l.1 (wrapped l.0 (w.passes end bad));
        within = farther text y b.0 w.within;
      }

  pub block_to : {inner : ℕ} {h : Head} {k n : ℕ} {y : Option ℕ} → (1 ≤ levels) × (inner ≡ levels - 1) → Starts text at (Some (h, n)) → h ≡ Head.Statements k →
      Skips (statements k) text n inner y → Skips whole text at levels y
  unfolding Leaves Bounds
  block_to {y = y} below s e w =
      let b = s.bounds in
      record {
        passes = λ end bad. let l = rw e at (leaves_at below s end bad) in rw l (wrapped Expr.block (w.passes end bad));
        within = farther text y b.0 w.within;
      }

  pub bad_head : {inner : ℕ} → (1 ≤ levels) × (inner ≡ levels - 1) → Starts text at None → {y : Option ℕ} → y ≡ None → Skips whole text at levels y
  unfolding Leaves Within
  bad_head below s z = rw z (record { passes = λ end bad. none_bad (leaves_at below s end bad); within = tt })

  -- ---- a statement

  pub statement_cut : Sees text at None → {y : Option ℕ} → y ≡ None → Skips one text at levels y
  unfolding G.statement bind Within
  statement_cut h z = rw z (record { passes = λ end bad. none_bad (rw (ended h refl bad)); within = tt })

  pub statement_bad : {b n : ℕ} {u : Unknown} → Sees text at (Some (b, n)) → IsStatement b (Err u) → Skips one text at levels None
  unfolding G.statement bind needs Within
  statement_bad {b = b} h q = record { passes = λ end bad. none_bad (rw (found h refl bad, no_statement b q.0 q.1)); within = tt }

  pub statement_to : {b n : ℕ} {y : Option ℕ} (s : Statement) → Sees text at (Some (b, n)) → IsStatement b (Ok s) →
      Skips whole text n levels y → Skips one text at levels y
  unfolding G.statement bind needs
  statement_to {b = b} {y = y} s h q w =
      let f = follows h refl in
      record {
        passes = λ end bad. rw (found h refl bad, a_statement b s q) (wrapped (λ a. pick (eqb b 8) (let_of a) (do_of a)) (w.passes end bad));
        within = farther text y (omega arith) w.within;
      }

-- ---- loops

-- what is left, from `here` on, decides the whole
pub record Goes (all rest : Part) (text : List ℕ) (at levels here : ℕ) : Type 0 where
  pub goes : (y : Option ℕ) → Skips rest text here levels y → Skips all text at levels y
  pub since : at ≤ here

module _ {text : List ℕ} {at levels count : ℕ} where
  none_done : (P : ℕ → Part) → Goes (P count) (P (count - 0)) text at levels at
  none_done P = let e : count - 0 ≡ count = omega arith in rw e (record { goes = λ y h. h; since = omega arith })

  pub several_start : Goes (several count) (several (count - 0)) text at levels at
  several_start = none_done several

  pub statements_start : Goes (statements count) (statements (count - 0)) text at levels at
  statements_start = none_done statements

module _ {all : Part} {text : List ℕ} {at levels here count k : ℕ} where
  pub several_bad : Goes all (several (count - k)) text at levels here → k < count → Skips whole text here levels None → {y : Option ℕ} → y ≡ None →
      Skips all text at levels y
  unfolding Within
  several_bad g q h z = rw z (g.goes None (record {
    passes = λ end bad. rw (exprs_next end bad (G.expr end bad levels) (drop here text) q) (broken _ (h.passes end bad));
    within = tt;
  }))

  pub several_more : {n : ℕ} → Goes all (several (count - k)) text at levels here → k < count → Skips whole text here levels (Some n) →
      Goes all (several (count - (k + 1))) text at levels n
  unfolding Within
  several_more g q h =
      let b = h.within in
      record {
        goes = λ y w. g.goes y (record {
          passes = λ end bad.
              rw (exprs_next end bad (G.expr end bad levels) (drop here text) q)
              (passed _ (h.passes end bad) (λ a. wrapped (Exprs.more a) (w.passes end bad)));
          within = farther text y b.0 w.within;
        });
        since = omega (arith, g.since, b.0);
      }

  pub several_done : Goes all (several (count - k)) text at levels here → here ≤ length text → count ≤ k → Skips all text at levels (Some here)
  unfolding Within Reaches G.exprs
  several_done g b q =
      let z : count - k ≡ 0 = omega arith in
      g.goes (Some here) (record { passes = λ end bad. record { reaches = (Exprs.none, rw z) }; within = omega arith })

  pub statements_bad : Goes all (statements (count - k)) text at levels here → k < count → Skips one text here levels None → {y : Option ℕ} → y ≡ None →
      Skips all text at levels y
  unfolding Within
  statements_bad g q h z = rw z (g.goes None (record {
    passes = λ end bad. rw (statements_next end bad (G.expr end bad levels) (drop here text) q) (broken _ (h.passes end bad));
    within = tt;
  }))

  pub statements_go : {n : ℕ} → Goes all (statements (count - k)) text at levels here → k < count → Skips one text here levels (Some n) →
      Goes all (statements (count - (k + 1))) text at levels n
  unfolding Within
  statements_go g q h =
      let b = h.within in
      record {
        goes = λ y w. g.goes y (record {
          passes = λ end bad.
              rw (statements_next end bad (G.expr end bad levels) (drop here text) q)
              (passed _ (h.passes end bad) (λ a. wrapped (then a) (w.passes end bad)));
          within = farther text y b.0 w.within;
        });
        since = omega (arith, g.since, b.0);
      }

  pub statements_last : {y : Option ℕ} → Goes all (statements (count - k)) text at levels here → count ≤ k → Skips one text here levels y →
      Skips all text at levels y
  unfolding G.statements
  statements_last {y} g q h =
      let z : count - k ≡ 0 = omega arith in
      g.goes y (record { passes = λ end bad. rw z (wrapped last (h.passes end bad)); within = h.within })

pub within_to : {p : Part} {text : List ℕ} {at levels n : ℕ} → Skips p text at levels (Some n) → n ≤ length text
unfolding Within
within_to h = h.within.1
