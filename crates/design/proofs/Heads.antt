-- What begins an expression: one law for each way in which a function on heads returns. A head that leaves several expressions is the
-- grammar's row of reads, one after the other, turned into a read of so many (`rows`).
use Prim.Native.Nat.{ℕ, zero, suc, ◌-◌, ◌≤◌, ◌<◌}
use mathlib.Core.Path.{◌≡◌, refl, sym, ◌∙◌}
use mathlib.Core.List.{List}
use native.Mathlib.Omega.{arith}
use lib.Dec.{eqb}
use lib.ListN.{length, drop}
use Rattle.words.specs.Words.{number as signed}
use borrow.Author.Tests.{ne_eqb, lt-ltb, le-ltb, le-leb, lt-leb}
use Rattle.design.specs.declared.text.Head.{Head}
use Rattle.design.specs.declared.kinds.Operator as DO
use Rattle.design.specs.Syntax.{Operator, Expr, Exprs}
use Rattle.std.specs.Prelude.{Option, Some, None, Result, Ok, Err}
use Rattle.design.specs.declared.kinds.Unknown.{Unknown}
use Rattle.design.specs.Kinds as K
use Rattle.design.specs.Take.{Refusal, Read, got, refused, bind, needs, pick}
use Rattle.design.specs.Grammar as G
use Rattle.design.specs.Grammar.{Tag, tag_of, Operation, operation_of, exprs}
use Rattle.design.specs.Text.{Sees, Bytes, Bounds, Leaves, After, Starts}
use Rattle.design.proofs.Taking.{found, ended, follows, room, no_room, four, four_at, four_cut}

-- the first of some expressions, and the others
unfoldable firsts : (Expr → Exprs → Expr) → Exprs → Expr
firsts f Exprs.none = Expr.local 0
firsts f (Exprs.more e es) = f e es

-- one expression read, and then a row of n, is a row of n + 1
rows : (end : ℕ) (bad : Refusal) (E : List ℕ → Read Expr) (n : ℕ) (f : Expr → Exprs → Expr) (k : Expr → List ℕ → Read Expr) (s : List ℕ) →
    ((a : Expr) (r : List ℕ) → k a r ≡ bind (exprs end bad E n r) (λ es q. got (f a es) q)) →
    bind (E s) k ≡ bind (exprs end bad E (suc n) s) (λ es q. got (firsts f es) q)
unfolding exprs bind firsts
rows end bad E n f k s h = go (E s)
  where
    again : (a : Expr) (x : Read Exprs) → bind x (λ es q. got (f a es) q) ≡ bind (bind x (λ es q. got (Exprs.more a es) q)) (λ es q. got (firsts f es) q)
    again a (got es q) = refl
    again a (refused w) = refl

    go : (x : Read Expr) → bind x k ≡ bind (bind x (λ e r. bind (exprs end bad E n r) (λ es q. got (Exprs.more e es) q))) (λ es q. got (firsts f es) q)
    go (got a r) = h a r ∙ again a (exprs end bad E n r)
    go (refused w) = refl

module _ (end : ℕ) (bad : Refusal) (E : List ℕ → Read Expr) (s : List ℕ) where
  one_row : (f : Expr → Expr) → bind (E s) (λ a r. got (f a) r) ≡ bind (exprs end bad E 1 s) (λ es q. got (firsts (λ a es. f a) es) q)
  unfolding exprs bind
  one_row f = rows end bad E 0 (λ a es. f a) (λ a r. got (f a) r) s (λ a r. refl)

two_row : (end : ℕ) (bad : Refusal) (E : List ℕ → Read Expr) (s : List ℕ) (f : Expr → Expr → Expr) →
    bind (E s) (λ a r. bind (E r) (λ b q. got (f a b) q)) ≡ bind (exprs end bad E 2 s) (λ es q. got (firsts (λ a. firsts (λ b es. f a b)) es) q)
two_row end bad E s f = rows end bad E 1 (λ a. firsts (λ b es. f a b)) _ s (λ a r. one_row end bad E r (f a))

three_row : (end : ℕ) (bad : Refusal) (E : List ℕ → Read Expr) (s : List ℕ) (f : Expr → Expr → Expr → Expr) →
    bind (E s) (λ a r. bind (E r) (λ b q. bind (E q) (λ c p. got (f a b c) p))) ≡
    bind (exprs end bad E 3 s) (λ es q. got (firsts (λ a. firsts (λ b. firsts (λ c es. f a b c))) es) q)
three_row end bad E s f = rows end bad E 2 (λ a. firsts (λ b. firsts (λ c es. f a b c))) _ s (λ a r. two_row end bad E r (f a))

-- an operator byte: those below 6 have two operands
pub operation : (b : ℕ) → b < 6 → (o : Operator) × (operation_of b ≡ Operation.binary o)
unfolding operation_of pick
operation zero h = (Operator.plus, refl)
operation (suc zero) h = (Operator.minus, refl)
operation (suc (suc zero)) h = (Operator.equal, refl)
operation (suc (suc (suc zero))) h = (Operator.less, refl)
operation (suc (suc (suc (suc zero)))) h = (Operator.and, refl)
operation (suc (suc (suc (suc (suc zero))))) h = (Operator.or, refl)
operation (suc (suc (suc (suc (suc (suc n)))))) h = absurd (omega arith)

pub no_operation : (b : ℕ) → 6 ≤ b → (b ≡ 6 → ⊥) → operation_of b ≡ Operation.unknown
unfolding operation_of pick
no_operation b h q =
    rw (ne_eqb b 0 (omega arith), ne_eqb b 1 (omega arith), ne_eqb b 2 (omega arith), ne_eqb b 3 (omega arith), ne_eqb b 4 (omega arith), ne_eqb b 5 (omega arith), ne_eqb b 6 q)

pub no_operator : (b : ℕ) (r : Result DO.Operator Unknown) → K.IsOperator b r → ((o : DO.Operator) → r ≡ Ok o → ⊥) → operation_of b ≡ Operation.unknown
unfolding K.operation
no_operator b (Ok o) e q = absurd (q o refl)
no_operator b (Err u) e q = sym e

-- ---- what follows a tag

deeper : (text : List ℕ) {at n : ℕ} (y : Option (Head × ℕ)) → at ≤ n → Bounds text n y → Bounds text at y
unfolding Bounds
deeper text (Some (head, m)) h b = omega arith
deeper text None h b = tt

module _ {text : List ℕ} {at : ℕ} where
  bad_head : {g : Tag} → ((end : ℕ) (bad : Refusal) (E : List ℕ → Read Expr) → G.after end bad E g (drop at text) ≡ refused bad) → After g text at None
  unfolding Leaves Bounds
  bad_head h = record { leaves = h; bounds = tt }

  pub number_cut : Bytes text at 4 None → {y : Option (Head × ℕ)} → y ≡ None → After Tag.number text at y
  unfolding G.after bind
  number_cut h z = rw z (bad_head (λ end bad E. rw (four_cut bad text at (no_room h refl))))

  pub number_done : {n : ℕ} → Bytes text at 4 (Some n) → After Tag.number text at (Some (Head.Plain, n))
  unfolding G.after bind Leaves Bounds
  number_done h =
      let r = room h refl in
      record { leaves = λ end bad E. (Expr.number (signed (four text at)), rw (four_at bad text at (omega arith), r.0)); bounds = omega arith }

  pub truth_cut : Sees text at None → {y : Option (Head × ℕ)} → y ≡ None → After Tag.truth text at y
  unfolding G.after bind
  truth_cut h z = rw z (bad_head (λ end bad E. rw (ended h refl bad)))

  pub truth_done : {b n : ℕ} → Sees text at (Some (b, n)) → b < 2 → After Tag.truth text at (Some (Head.Plain, n))
  unfolding G.after bind needs Leaves Bounds
  truth_done {b = b} h q = let f = follows h refl in record {
    leaves = λ end bad E. (Expr.truth (eqb b 1), rw (found h refl bad, lt-ltb b 2 q));
    bounds = omega arith;
  }

  pub truth_bad : {b n : ℕ} → Sees text at (Some (b, n)) → 2 ≤ b → After Tag.truth text at None
  unfolding G.after bind needs
  truth_bad {b = b} h q = bad_head (λ end bad E. rw (found h refl bad, le-ltb b 2 q))

  pub local_cut : Sees text at None → {y : Option (Head × ℕ)} → y ≡ None → After Tag.local text at y
  unfolding G.after bind
  local_cut h z = rw z (bad_head (λ end bad E. rw (ended h refl bad)))

  pub local_done : {b n : ℕ} → Sees text at (Some (b, n)) → After Tag.local text at (Some (Head.Plain, n))
  unfolding G.after bind Leaves Bounds
  local_done {b = b} h = let f = follows h refl in record { leaves = λ end bad E. (Expr.local b, rw (found h refl bad)); bounds = omega arith }

  pub operator_cut : Sees text at None → {y : Option (Head × ℕ)} → y ≡ None → After Tag.operator text at y
  unfolding G.after bind
  operator_cut h z = rw z (bad_head (λ end bad E. rw (ended h refl bad)))

  two_at : {b n : ℕ} (p : Operator) → Sees text at (Some (b, n)) → operation_of b ≡ Operation.binary p → After Tag.operator text at (Some (Head.Exprs 2, n))
  unfolding G.after G.operands bind Leaves Bounds
  two_at p h q = let f = follows h refl in record {
    leaves = λ end bad E. (firsts (λ a. firsts (λ b es. Expr.binary p a b)), rw (found h refl bad, q) (two_row end bad E _ (Expr.binary p)));
    bounds = omega arith;
  }

  pub operator_two : {b n : ℕ} (o : DO.Operator) → Sees text at (Some (b, n)) → K.IsOperator b (Ok o) → (o ≡ DO.Operator.Not → ⊥) →
      After Tag.operator text at (Some (Head.Exprs 2, n))
  unfolding K.operation
  operator_two DO.Operator.Plus h e q = two_at Operator.plus h (sym e)
  operator_two DO.Operator.Minus h e q = two_at Operator.minus h (sym e)
  operator_two DO.Operator.Equal h e q = two_at Operator.equal h (sym e)
  operator_two DO.Operator.Less h e q = two_at Operator.less h (sym e)
  operator_two DO.Operator.And h e q = two_at Operator.and h (sym e)
  operator_two DO.Operator.Or h e q = two_at Operator.or h (sym e)
  operator_two DO.Operator.Not h e q = absurd (q refl)

  pub operator_one : {b n : ℕ} → Sees text at (Some (b, n)) → operation_of b ≡ Operation.not → After Tag.operator text at (Some (Head.Exprs 1, n))
  unfolding G.after G.operands bind Leaves Bounds
  operator_one h q = let f = follows h refl in record {
    leaves = λ end bad E. (firsts (λ a es. Expr.negate a), rw (found h refl bad, q) (one_row end bad E _ Expr.negate));
    bounds = omega arith;
  }

  pub operator_bad : {b n : ℕ} → Sees text at (Some (b, n)) → operation_of b ≡ Operation.unknown → After Tag.operator text at None
  unfolding G.after G.operands bind
  operator_bad h q = bad_head (λ end bad E. rw (found h refl bad, q))

  pub choice : at ≤ length text → After Tag.choice text at (Some (Head.Exprs 3, at))
  unfolding G.after Leaves Bounds
  choice h = record { leaves = λ end bad E. (firsts (λ a. firsts (λ b. firsts (λ c es. Expr.choose a b c))), three_row end bad E _ Expr.choose); bounds = omega arith }

  pub guarded : at ≤ length text → After Tag.guarded text at (Some (Head.Exprs 2, at))
  unfolding G.after Leaves Bounds
  guarded h = record { leaves = λ end bad E. (_, two_row end bad E _ (Expr.guarded (end - length (drop at text)))); bounds = omega arith }

  pub display : at ≤ length text → After Tag.display text at (Some (Head.Exprs 1, at))
  unfolding G.after Leaves Bounds
  display h = record { leaves = λ end bad E. (_, one_row end bad E _ Expr.display); bounds = omega arith }

  pub unknown : After Tag.unknown text at None
  unfolding G.after
  unknown = bad_head (λ end bad E. refl)

  -- a block; k is the count as it was read and made wide
  pub block_cut : Sees text at None → {y : Option (Head × ℕ)} → y ≡ None → After Tag.block text at y
  unfolding G.after bind
  block_cut h z = rw z (bad_head (λ end bad E. rw (ended h refl bad)))

  pub block_few : {b n k : ℕ} → Sees text at (Some (b, n)) → k ≡ b → k < 1 → After Tag.block text at None
  unfolding G.after bind needs
  block_few h w q = bad_head (λ end bad E. rw (found h refl bad, ← w, lt-leb 1 _ q))

  pub block_many : {b n k : ℕ} → Sees text at (Some (b, n)) → k ≡ b → 1 ≤ k → 32 < k → After Tag.block text at None
  unfolding G.after bind needs
  block_many h w p q = bad_head (λ end bad E. rw (found h refl bad, ← w, le-leb 1 _ p, lt-leb _ 32 q))

  pub block_done : {b n k : ℕ} → Sees text at (Some (b, n)) → k ≡ b → 1 ≤ k → k ≤ 32 →
      After Tag.block text at (Some (Head.Statements (k - 1), n))
  unfolding G.after bind needs Leaves Bounds
  block_done h w p q = let f = follows h refl in record {
    leaves = λ end bad E. rw (found h refl bad, ← w, le-leb 1 _ p, le-leb _ 32 q);
    bounds = omega arith;
  }

  -- a call: instance, method, argument count
  pub call_cut : Sees text at None → {y : Option (Head × ℕ)} → y ≡ None → After Tag.call text at y
  unfolding G.after bind
  call_cut h z = rw z (bad_head (λ end bad E. rw (ended h refl bad)))

  pub call_cut_2 : {i n : ℕ} → Sees text at (Some (i, n)) → Sees text n None → {y : Option (Head × ℕ)} → y ≡ None → After Tag.call text at y
  unfolding G.after bind
  call_cut_2 h h2 z = rw z (bad_head (λ end bad E. rw (found h refl bad, ended h2 refl bad)))

  pub call_cut_3 : {i n m o : ℕ} → Sees text at (Some (i, n)) → Sees text n (Some (m, o)) →
      Sees text o None → {y : Option (Head × ℕ)} → y ≡ None → After Tag.call text at y
  unfolding G.after bind
  call_cut_3 h h2 h3 z = rw z (bad_head (λ end bad E. rw (found h refl bad, found h2 refl bad, ended h3 refl bad)))

  pub call_done : {i n m o b p k : ℕ} → Sees text at (Some (i, n)) → Sees text n (Some (m, o)) →
      Sees text o (Some (b, p)) → k ≡ b → k ≤ 4 → After Tag.call text at (Some (Head.Exprs k, p))
  unfolding G.after bind needs Leaves Bounds
  call_done {i = i} {m = m} h h2 h3 w q = let f = follows h refl in let f2 = follows h2 refl in let f3 = follows h3 refl in record {
    leaves = λ end bad E. (Expr.call i m, rw (found h refl bad, found h2 refl bad, found h3 refl bad, ← w, le-leb _ 4 q));
    bounds = omega arith;
  }

  pub call_bad : {i n m o b p k : ℕ} → Sees text at (Some (i, n)) → Sees text n (Some (m, o)) →
      Sees text o (Some (b, p)) → k ≡ b → 4 < k → After Tag.call text at None
  unfolding G.after bind needs
  call_bad h h2 h3 w q = bad_head (λ end bad E. rw (found h refl bad, found h2 refl bad, found h3 refl bad, ← w, lt-leb _ 4 q))

  -- ---- an expression, by its tag

  pub begin_cut : Sees text at None → {y : Option (Head × ℕ)} → y ≡ None → Starts text at y
  unfolding bind Leaves Bounds
  begin_cut h z = rw z (record { leaves = λ end bad E. rw (ended h refl bad); bounds = tt })

  pub tagged : {g : Tag} {b n : ℕ} {y : Option (Head × ℕ)} → Sees text at (Some (b, n)) → tag_of b ≡ g → After g text n y → Starts text at y
  unfolding bind
  tagged {y = y} h q w = let f = follows h refl in record {
    leaves = λ end bad E. rw (found h refl bad, q) (w.leaves end bad E);
    bounds = deeper text y (omega arith) w.bounds;
  }

-- the tags
pub within : {text : List ℕ} {at : ℕ} {b n : ℕ} → Sees text at (Some (b, n)) → n ≤ length text
within h = (follows h refl).1

-- none of them: what a `match` on the byte knows in its last arm
pub is_unknown : {b : ℕ} → (b ≡ 1 → ⊥) → (b ≡ 2 → ⊥) → (b ≡ 3 → ⊥) → (b ≡ 4 → ⊥) → (b ≡ 5 → ⊥) → (b ≡ 6 → ⊥) → (b ≡ 7 → ⊥) → (b ≡ 10 → ⊥) → (b ≡ 11 → ⊥) → tag_of b ≡ Tag.unknown
unfolding tag_of pick
is_unknown {b} p q r s t u v w x =
    rw (ne_eqb b 1 p, ne_eqb b 2 q, ne_eqb b 3 r, ne_eqb b 4 s, ne_eqb b 5 t, ne_eqb b 6 u, ne_eqb b 7 v, ne_eqb b 10 w, ne_eqb b 11 x)
