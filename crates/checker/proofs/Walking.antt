-- Leaves, operators, ifs, whens, displays and blocks: one law for each way in which their functions return. A law's premises are what the
-- function knows there: what the members ensure of the parts, which variant each answer is, and the tests on the way.
use Prim.Native.Nat.{ℕ, zero, suc, ◌+◌, ◌-◌, ◌≤◌, ◌<◌}
use mathlib.Core.Path.{◌≡◌, refl, ◌∙◌, sym, ap}
use mathlib.Core.Bool.{true, false}
use mathlib.Core.List.{List, [], ◌∷◌, map}
use mathlib.Core.Option.{some, none}
use native.Mathlib.Omega.{arith}
use lib.Dec.{ltb}
use lib.ListN.{length, drop, get_or, get_elem?}
use Rattle.std.specs.Prelude.{Bool, Result, Ok, Err}
use Rattle.design.specs.Syntax.{Operator, Expr, Design}
use Rattle.design.specs.Take.{Refusal, Read, got, refused, bind, pick}
use Rattle.design.specs.Grammar as G
use Rattle.design.specs.Grammar.{Tag, tag_of, Operation, operation_of}
use Rattle.design.specs.declared.kinds.Kind as DK
use denote.Enum.Bare.{sameb}
use Rattle.design.specs.contracts.kinds.Operator.{the_type}
use Rattle.design.specs.declared.kinds.Operator as DO
use Rattle.design.specs.Kinds.{kind, operation}
use Rattle.design.proofs.Taking.{four_at, four_cut}
use Rattle.rule.specs.declared.Reason.{Reason}
use Rattle.meaning.specs.Naming.{if_passed, test, local_of}
use Rattle.meaning.specs.Naming as N
use Rattle.design.specs.Plan.{World}
use Rattle.rule.specs.Answers.{number_of}
use Rattle.meaning.specs.Kinds as K
use Rattle.checker.specs.Walks.{Place, went, live_of, whole, after, statements, Means, Onward, place, Walks, Reads, Wants, Leaf, Local, Operates, Negates}
use Rattle.checker.specs.declared.locals.Locals.{Locals}
use Rattle.checker.proofs.Parts as M
use Rattle.checker.proofs.Wanting as W

-- ---- leaves

-- the n-th of the live locals
at_live : (locals : List DK.Kind) (n : ℕ) → n < length locals → get_elem? (map kind locals) n ≡ some (kind (get_or locals n DK.Kind.Void))
at_live [] n h = absurd (omega arith)
at_live (a ∷ locals) zero h = refl
at_live (a ∷ locals) (suc n) h = at_live locals n (omega arith)

past_live : (locals : List DK.Kind) (n : ℕ) → length locals ≤ n → get_elem? (map kind locals) n ≡ none
past_live [] n h = refl
past_live (a ∷ locals) zero h = absurd (omega arith)
past_live (a ∷ locals) (suc n) h = past_live locals n (omega arith)

-- what does not read may be answered with anything
unread : {g : Tag} {text file plan : List ℕ} {f : Place} {at : ℕ} →
    ((end : ℕ) (bad : Refusal) (levels : ℕ) → G.after end bad (G.expr end bad levels) g (drop at text) ≡ refused bad) →
    {why : Reason} → Walks (after g) text file plan f at (Err why)
unfolding went Onward
unread e = record { does = λ D u end bad levels. M.none {why = bad} (e end bad levels); onward = tt }

module _ {text : List ℕ} {at : ℕ} where
  pub number_cut : length text - at < 4 → Leaf Tag.number text at (Err Reason.Kind)
  unfolding G.after bind
  number_cut l = record { leaf = λ file plan f. unread (λ end bad levels. rw (four_cut bad text at (omega arith))) }

  pub number_done : 4 ≤ length text - at → Leaf Tag.number text at (Ok (DK.Kind.Num, at + 4))
  unfolding G.after bind went Onward K.kind kind
  number_done l = record {
    leaf = λ file plan f. record { does = λ D u end bad levels. rw (four_at bad text at (omega arith)) (M.comes refl); onward = omega arith };
  }

  module _ {e : Reason} (h : Reads text at (Err e)) where
    pub truth_cut : Leaf Tag.truth text at (Err e)
    unfolding G.after bind
    truth_cut = record { leaf = λ file plan f. unread (λ end bad levels. rw (M.ended h bad)) }

    pub local_cut : {l : Locals} → Local text l at (Err e)
    unfolding G.after bind
    local_cut = record { leaf = λ file plan me pure. unread (λ end bad levels. rw (M.ended h bad)) }

  module _ {b n : ℕ} (h : Reads text at (Ok (b, n))) where
    pub truth_done : Leaf Tag.truth text at (Ok (DK.Kind.Bool, n))
    unfolding G.after bind went Onward K.kind kind
    truth_done = record {
      leaf = λ file plan f. record {
        does = λ D u end bad levels. rw (M.found h bad) (M.tried (ltb b 2) bad (M.comes refl));
        onward = omega (arith, (M.follows h).0);
      };
    }

    module _ {l : Locals} {k : ℕ} (w : k ≡ b) where
      pub local_missing : length l.kinds.now ≤ k → Local text l at (Err Reason.Local)
      unfolding G.after bind went Onward number_of K.kind N.local_of N.found live_of
      local_missing q = record {
        leaf = λ file plan me pure. record {
          does = λ D u end bad levels. rw (M.found h bad) (M.ends refl (rw (past_live l.kinds.now b (omega arith))));
          onward = tt;
        };
      }

      pub local_done : {v : DK.Kind} → k < length l.kinds.now → v ≡ get_or l.kinds.now k DK.Kind.Void → Local text l at (Ok (v, n))
      unfolding G.after bind went Onward K.kind N.local_of N.found live_of
      local_done q z = record {
        leaf = λ file plan me pure. record {
          does = λ D u end bad levels. rw (M.found h bad) (M.comes (rw (← w, at_live l.kinds.now k q, z)));
          onward = omega (arith, (M.follows h).0);
        };
      }

-- ---- operators of two operands

binary_of : (op : DO.Operator) → (op ≡ DO.Operator.Not → ⊥) → (o : Operator) × (operation (Ok op) ≡ Operation.binary o)
unfolding operation
binary_of DO.Operator.Plus h = (Operator.plus, refl)
binary_of DO.Operator.Minus h = (Operator.minus, refl)
binary_of DO.Operator.Equal h = (Operator.equal, refl)
binary_of DO.Operator.Less h = (Operator.less, refl)
binary_of DO.Operator.And h = (Operator.and, refl)
binary_of DO.Operator.Or h = (Operator.or, refl)
binary_of DO.Operator.Not h = absurd (h refl)

is_not : (op : DO.Operator) → sameb the_type op DO.Operator.Not ≡ true → op ≡ DO.Operator.Not
is_not DO.Operator.Plus e = cc
is_not DO.Operator.Minus e = cc
is_not DO.Operator.Equal e = cc
is_not DO.Operator.Less e = cc
is_not DO.Operator.And e = cc
is_not DO.Operator.Or e = cc
is_not DO.Operator.Not e = refl

other_than : (op : DO.Operator) → sameb the_type op DO.Operator.Not ≡ false → op ≡ DO.Operator.Not → ⊥
other_than op e q = let z : sameb the_type DO.Operator.Not DO.Operator.Not ≡ false = rw q at e in cc

-- ---- an expression, by its tag

-- the frame of a guard or a condition
abbrev pub guarding : Place → Place
guarding f = record { me = f.me; pure = true; locals = f.locals }

module _ {text file plan : List ℕ} {f : Place} {at : ℕ} where
  pub over : {e : Reason} → Reads text at (Err e) → Walks whole text file plan f at (Err e)
  unfolding G.expr bind went Onward
  over h = record { does = λ D u end bad levels. M.none {why = bad} (by end bad levels); onward = tt }
    where
      by : (end : ℕ) (bad : Refusal) (levels : ℕ) → G.expr end bad levels (drop at text) ≡ refused bad
      by end bad zero = refl
      by end bad (suc levels) = rw (M.ended h bad)

  pub tagged : {r : Result (DK.Kind × ℕ) Reason} {g : Tag} {b n : ℕ} → Reads text at (Ok (b, n)) → tag_of b ≡ g → Walks (after g) text file plan f n r →
      Walks whole text file plan f at r
  unfolding G.expr bind
  tagged {r} h q w = record { does = λ D u end bad levels. by D u end bad levels; onward = M.farther (went r) (omega (arith, (M.follows h).0)) w.onward }
    where
      by : (D : Design) → World file plan D → (end : ℕ) (bad : Refusal) (levels : ℕ) →
          Means (G.expr end bad levels (drop at text)) (λ t. K.kind D f.me t f.pure (live_of f)) text (went r)
      by D u end bad zero = M.none {why = bad} refl
      by D u end bad (suc levels) = rw (M.found h bad, q) (w.does D u end bad levels)

  pub unknown : Walks (after Tag.unknown) text file plan f at (Err Reason.Kind)
  unfolding G.after
  unknown = unread (λ end bad levels. refl)

  pub leaf : {g : Tag} {r : Result (DK.Kind × ℕ) Reason} → Leaf g text at r → Walks (after g) text file plan f at r
  leaf h = h.leaf file plan f

  -- ---- operators

  pub operator_cut : {e : Reason} → Reads text at (Err e) → Walks (after Tag.operator) text file plan f at (Err e)
  unfolding G.after bind
  operator_cut h = unread (λ end bad levels. rw (M.ended h bad))

  module _ {b n : ℕ} (h : Reads text at (Ok (b, n))) where
    pub operator_bad : operation_of b ≡ Operation.unknown → Walks (after Tag.operator) text file plan f at (Err Reason.Kind)
    unfolding G.after G.operands bind
    operator_bad q = unread (λ end bad levels. rw (M.found h bad, q))

    -- the first operand has no kind
    pub operator_no : {why : Reason} → Walks whole text file plan f n (Err why) → Walks (after Tag.operator) text file plan f at (Err why)
    unfolding G.after G.operands bind K.kind if_passed went Onward
    operator_no {why} w = record { does = λ D u end bad levels. rw (M.found h bad) (by (operation_of b) D u end bad levels); onward = tt }
      where
        by : (o : Operation) (D : Design) → World file plan D → (end : ℕ) (bad : Refusal) (levels : ℕ) →
            Means (G.operands end bad (G.expr end bad levels) o (drop n text)) (λ t. K.kind D f.me t f.pure (live_of f)) text (went (Err why))
        by (Operation.binary o) D u end bad levels = M.fails _ (w.does D u end bad levels) refl (λ a t p q.
            M.any (G.expr end bad levels t) (λ c z. got (Expr.binary o a c) z) (λ c z i. M.ends {a = Expr.binary o a c} {rest = z} refl (rw q)))
        by Operation.not D u end bad levels = M.fails _ (w.does D u end bad levels) refl (λ a t p q. M.ends refl (rw q))
        by Operation.unknown D u end bad levels = M.none {why = bad} refl

    module _ {k : DK.Kind} {m : ℕ} (w : Walks whole text file plan f n (Ok (k, m))) where
      pub not_done : {r : Result (DK.Kind × ℕ) Reason} (op : DO.Operator) {t : Bool} → operation (Ok op) ≡ operation_of b → t ≡ sameb the_type op DO.Operator.Not →
          t ≡ true → Negates k m r → Walks (after Tag.operator) text file plan f at r
      unfolding G.after G.operands operation bind K.kind if_passed went
      not_done {r} op l v e g = let q : operation_of b ≡ Operation.not = sym l ∙ ap (λ x. operation (Ok x)) (is_not op (sym v ∙ e)) in record {
        does = λ D u end bad levels. rw (M.found h bad, q) (M.then _ (w.does D u end bad levels) refl (λ a p z. M.stop (rw z (g.negates.tested _))));
        onward = M.farther (went r) (omega (arith, (M.follows h).0, M.goes w)) g.negates.onward;
      }

      module _ (op : DO.Operator) {t : Bool} (l : operation (Ok op) ≡ operation_of b) (v : t ≡ sameb the_type op DO.Operator.Not) (ne : t ≡ false) where
        pub second_no : {why : Reason} → Walks whole text file plan f m (Err why) → Walks (after Tag.operator) text file plan f at (Err why)
        unfolding G.after G.operands bind K.kind if_passed went Onward
        second_no w₁ =
            let o = binary_of op (other_than op (sym v ∙ ne)) in
            let is : operation_of b ≡ Operation.binary o.0 = sym l ∙ o.1 in
            record {
              does = λ D u end bad levels.
                  rw (M.found h bad, is) (M.then _ (w.does D u end bad levels) refl (λ a p q.
                  M.fails _ (w₁.does D u end bad levels) refl (λ c t i j. M.ends refl (rw (q, j)))));
              onward = tt;
            }

        pub operated : {j : DK.Kind} {i : ℕ} {r : Result (DK.Kind × ℕ) Reason} → Walks whole text file plan f m (Ok (j, i)) → Operates op k j i r →
            Walks (after Tag.operator) text file plan f at r
        unfolding G.after G.operands bind K.kind if_passed went
        operated {r = r} w₁ g =
            let o = binary_of op (other_than op (sym v ∙ ne)) in
            let is : operation_of b ≡ Operation.binary o.0 = sym l ∙ o.1 in
            let z = g.operates o.0 o.1 in
            record {
              does = λ D u end bad levels.
                  rw (M.found h bad, is) (M.then _ (w.does D u end bad levels) refl (λ a p q.
                  M.then _ (w₁.does D u end bad levels) refl (λ c i j. M.stop (rw (q, j) (z.tested _)))));
              onward = M.farther (went r) (omega (arith, (M.follows h).0, M.goes w, M.goes w₁)) z.onward;
            }

  -- ---- if, and when: the condition stands in a pure place

  module _ {why : Reason} (w : Walks whole text file plan (guarding f) at (Err why)) where
    pub if_no : Walks (after Tag.choice) text file plan f at (Err why)
    unfolding G.after K.kind if_passed went Onward live_of
    if_no = record {
      does = λ D u end bad levels. M.fails _ (w.does D u end bad levels) refl (λ c t p q. M.any _ _ (λ a o i. M.any _ _ (λ b j l. M.ends refl (rw q))));
      onward = tt;
    }

    pub when_no : Walks (after Tag.guarded) text file plan f at (Err why)
    unfolding G.after K.kind if_passed went Onward live_of
    when_no = record {
      does = λ D u end bad levels. M.fails _ (w.does D u end bad levels) refl (λ c t p q. M.any _ _ (λ a o i. M.ends refl (rw q)));
      onward = tt;
    }

  module _ {k : DK.Kind} {n : ℕ} (w : Walks whole text file plan (guarding f) at (Ok (k, n))) where
    module _ {why : Reason} (v : Wants DK.Kind.Bool k (Err why)) where
      pub if_kind : Walks (after Tag.choice) text file plan f at (Err why)
      unfolding G.after K.kind if_passed went Onward live_of kind
      if_kind = record {
        does = λ D u end bad levels.
            M.then _ (w.does D u end bad levels) refl (λ c p q. M.any _ _ (λ a o i. M.any _ _ (λ b j l. M.ends refl (rw q (W.unwanted _ v)))));
        onward = tt;
      }

      pub when_kind : Walks (after Tag.guarded) text file plan f at (Err why)
      unfolding G.after K.kind if_passed went Onward live_of kind
      when_kind = record {
        does = λ D u end bad levels. M.then _ (w.does D u end bad levels) refl (λ c p q. M.any _ _ (λ a o i. M.ends refl (rw q (W.unwanted _ v))));
        onward = tt;
      }

    module _ {g : Unit {0}} (v : Wants DK.Kind.Bool k (Ok g)) where
      pub when_done : {r : Result (DK.Kind × ℕ) Reason} → Walks whole text file plan f n r → Walks (after Tag.guarded) text file plan f at r
      unfolding G.after K.kind if_passed went live_of kind
      when_done {r} w₁ = record {
        does = λ D u end bad levels. M.then _ (w.does D u end bad levels) refl (λ c p q. M.wraps _ (w₁.does D u end bad levels) (λ a. rw q (W.wanted _ v)));
        onward = M.farther (went r) (M.goes w) w₁.onward;
      }

      pub then_no : {why : Reason} → Walks whole text file plan f n (Err why) → Walks (after Tag.choice) text file plan f at (Err why)
      unfolding G.after K.kind if_passed went Onward live_of kind
      then_no w₁ = record {
        does = λ D u end bad levels.
            M.then _ (w.does D u end bad levels) refl (λ c p q. M.fails _ (w₁.does D u end bad levels) refl (λ a o i j. M.any _ _ (λ b l m.
            M.ends refl (rw (q, j) (W.wanted _ v)))));
        onward = tt;
      }

      module _ {j : DK.Kind} {m : ℕ} (w₁ : Walks whole text file plan f n (Ok (j, m))) where
        pub else_no : {why : Reason} → Walks whole text file plan f m (Err why) → Walks (after Tag.choice) text file plan f at (Err why)
        unfolding G.after K.kind if_passed went Onward live_of kind
        else_no w₂ = record {
          does = λ D u end bad levels.
              M.then _ (w.does D u end bad levels) refl (λ c p q. M.then _ (w₁.does D u end bad levels) refl (λ a g i.
              M.fails _ (w₂.does D u end bad levels) refl (λ b l d x. M.ends refl (rw (q, i, x) (W.wanted _ v)))));
          onward = tt;
        }

        module _ {i : DK.Kind} {l : ℕ} (w₂ : Walks whole text file plan f m (Ok (i, l))) where
          pub arms_differ : {why : Reason} → Wants j i (Err why) → Walks (after Tag.choice) text file plan f at (Err why)
          unfolding G.after K.kind if_passed went Onward live_of kind
          arms_differ x = record {
            does = λ D u end bad levels.
                M.then _ (w.does D u end bad levels) refl (λ c p q. M.then _ (w₁.does D u end bad levels) refl (λ a p₁ q₁.
                M.then _ (w₂.does D u end bad levels) refl (λ b p₂ q₂. M.ends refl (rw (q, q₁, q₂) (W.wanted _ v ∙ W.unwanted _ x)))));
            onward = tt;
          }

          pub arms_agree : {d : Unit {0}} → Wants j i (Ok d) → Walks (after Tag.choice) text file plan f at (Ok (j, l))
          unfolding G.after K.kind if_passed went Onward live_of kind
          arms_agree x = record {
            does = λ D u end bad levels.
                M.then _ (w.does D u end bad levels) refl (λ c p q. M.then _ (w₁.does D u end bad levels) refl (λ a p₁ q₁.
                M.then _ (w₂.does D u end bad levels) refl (λ b p₂ q₂. M.comes (rw (q, q₁, q₂) (W.wanted _ v ∙ W.wanted _ x)))));
            onward = omega (arith, M.goes w, M.goes w₁, M.goes w₂);
          }

  -- ---- display

  pub display_pure : f.pure ≡ true → Walks (after Tag.display) text file plan f at (Err Reason.Pure)
  unfolding G.after K.kind test went Onward number_of
  display_pure e = record { does = λ D u end bad levels. M.any _ _ (λ a s p. M.ends refl (rw e)); onward = tt }

  module _ (i : f.pure ≡ false) where
    pub display_no : {why : Reason} → Walks whole text file plan f at (Err why) → Walks (after Tag.display) text file plan f at (Err why)
    unfolding G.after K.kind test if_passed went Onward
    display_no w = record { does = λ D u end bad levels. M.fails _ (w.does D u end bad levels) refl (λ a t p q. M.ends refl (rw (q, i))); onward = tt }

    module _ {k : DK.Kind} {n : ℕ} (w : Walks whole text file plan f at (Ok (k, n))) where
      pub display_kind : {why : Reason} → Wants DK.Kind.Num k (Err why) → Walks (after Tag.display) text file plan f at (Err why)
      unfolding G.after K.kind test if_passed went Onward kind
      display_kind v = record {
        does = λ D u end bad levels. M.then _ (w.does D u end bad levels) refl (λ a p q. M.ends refl (rw (q, i) (W.unwanted _ v)));
        onward = tt;
      }

      pub display_done : {g : Unit {0}} → Wants DK.Kind.Num k (Ok g) → Walks (after Tag.display) text file plan f at (Ok (DK.Kind.Void, n))
      unfolding G.after K.kind test if_passed went Onward kind
      display_done v = record {
        does = λ D u end bad levels. M.then _ (w.does D u end bad levels) refl (λ a p q. M.comes (rw (q, i) (W.wanted _ v)));
        onward = M.goes w;
      }

  -- ---- block

  pub block_cut : {e : Reason} → Reads text at (Err e) → Walks (after Tag.block) text file plan f at (Err e)
  unfolding G.after bind
  block_cut h = unread (λ end bad levels. rw (M.ended h bad))

  module _ {b n k : ℕ} (h : Reads text at (Ok (b, n))) (c : k ≡ b) where
    pub block_empty : k < 1 → Walks (after Tag.block) text file plan f at (Err Reason.Kind)
    unfolding G.after bind Rattle.design.specs.Take.needs
    block_empty l = let z : b ≡ 0 = omega arith in unread (λ end bad levels. rw (M.found h bad, z))

    pub block_done : {r : Result (DK.Kind × ℕ) Reason} → Walks (statements (k - 1)) text file plan f n r → Walks (after Tag.block) text file plan f at r
    unfolding G.after bind K.kind
    block_done {r} w = record {
      does = λ D u end bad levels. rw (M.found h bad, ← c) (M.tried _ bad (M.wraps _ (w.does D u end bad levels) (λ a. refl)));
      onward = M.farther (went r) (omega (arith, (M.follows h).0)) w.onward;
    }

pub local : {text file plan : List ℕ} {me at : ℕ} {pure : Bool} {l : Locals} {r : Result (DK.Kind × ℕ) Reason} → Local text l at r →
    Walks (after Tag.local) text file plan (place me pure l) at r
local {file = file} {plan} {me} {pure = pure} h = h.leaf file plan me pure
