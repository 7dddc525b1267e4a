-- "Expressions, in prefix order": from the bytes of a body to a tree, by recursion on the levels of depth that are left.
-- `end` is the offset of the first byte past the body, so that a rest of the body stands at `end - length rest`.
-- `bad` is the refusal of anything that is wrong inside the body.
use Rattle.std.specs.Prelude.{ℕ, zero, suc, ◌-◌, ◌&&◌, List, ltb, leb, eqb, length}
use Rattle.words.specs.Words.{number as signed}
use Rattle.design.specs.Syntax.{Operator, Expr, Exprs, Stmts}
use Rattle.design.specs.Take.{Refusal, Read, got, refused, bind, needs, pick, byte, four_bytes}

pub data Tag : Type 0 where
  number truth local operator choice guarded block call display unknown : Tag

unfoldable pub tag_of : ℕ → Tag
tag_of t =
    pick (eqb t 1) number (pick (eqb t 2) truth (pick (eqb t 3) local (pick (eqb t 4) operator
    (pick (eqb t 5) choice (pick (eqb t 6) guarded (pick (eqb t 7) block (pick (eqb t 10) call
    (pick (eqb t 11) display unknown))))))))

pub data Operation : Type 0 where
  binary : Operator → Operation
  not unknown : Operation

unfoldable pub operation_of : ℕ → Operation
operation_of o =
    pick (eqb o 0) (binary Operator.plus) (pick (eqb o 1) (binary Operator.minus)
    (pick (eqb o 2) (binary Operator.equal) (pick (eqb o 3) (binary Operator.less)
    (pick (eqb o 4) (binary Operator.and) (pick (eqb o 5) (binary Operator.or)
    (pick (eqb o 6) not unknown))))))

pub data Statement : Type 0 where
  let_of do_of : Expr → Statement

unfoldable pub last : Statement → Stmts
last (let_of e) = Stmts.last_let e
last (do_of e) = Stmts.last_do e

unfoldable pub then : Statement → Stmts → Stmts
then (let_of e) ss = Stmts.then_let e ss
then (do_of e) ss = Stmts.then_do e ss

module _ (end : ℕ) (bad : Refusal) where
  -- over a reader of the expressions one level down
  module _ (expr : List ℕ → Read Expr) where
    unfoldable pub exprs : ℕ → List ℕ → Read Exprs
    exprs zero s = got Exprs.none s
    exprs (suc n) s = bind (expr s) (λ e r. bind (exprs n r) (λ es q. got (Exprs.more e es) q))

    -- "A statement is 08 (let) or 09 (do) and an expression; these two begin nothing else"
    unfoldable pub statement : List ℕ → Read Statement
    statement s = bind (byte bad s) (λ t r. needs (leb 8 t && leb t 9) bad
        (bind (expr r) (λ e q. got (pick (eqb t 8) (let_of e) (do_of e)) q)))

    -- one statement, and n more
    unfoldable pub statements : ℕ → List ℕ → Read Stmts
    statements zero s = bind (statement s) (λ x r. got (last x) r)
    statements (suc n) s = bind (statement s) (λ x r. bind (statements n r) (λ ss q. got (then x ss) q))

    unfoldable pub operands : Operation → List ℕ → Read Expr
    operands (binary o) s = bind (expr s) (λ a r. bind (expr r) (λ b q. got (Expr.binary o a b) q))
    operands not s = bind (expr s) (λ a r. got (Expr.negate a) r)
    operands unknown s = refused bad

    -- what follows a tag
    unfoldable pub after : Tag → List ℕ → Read Expr
    after number s = bind (four_bytes bad s) (λ w r. got (Expr.number (signed w)) r)
    after truth s = bind (byte bad s) (λ b r. needs (ltb b 2) bad (got (Expr.truth (eqb b 1)) r))
    after local s = bind (byte bad s) (λ n r. got (Expr.local n) r)
    after operator s = bind (byte bad s) (λ o r. operands (operation_of o) r)
    after choice s = bind (expr s) (λ c r. bind (expr r) (λ a q. bind (expr q) (λ b p. got (Expr.choose c a b) p)))
    after guarded s = bind (expr s) (λ g r. bind (expr r) (λ b q. got (Expr.guarded (end - length s) g b) q))
    after block s = bind (byte bad s) (λ n r. needs (leb 1 n && leb n 32) bad
        (bind (statements (n - 1) r) (λ ss q. got (Expr.block ss) q)))
    after call s = bind (byte bad s) (λ i r. bind (byte bad r) (λ m q. bind (byte bad q) (λ n p.
        needs (leb n 4) bad (bind (exprs n p) (λ es z. got (Expr.call i m es) z)))))
    after display s = bind (expr s) (λ e r. got (Expr.display e) r)
    after unknown s = refused bad

  -- one expression, where so many levels of depth are left
  unfoldable pub expr : ℕ → List ℕ → Read Expr
  expr zero s = refused bad
  expr (suc levels) s = bind (byte bad s) (λ t r. after (expr levels) (tag_of t) r)

-- "The outermost expression has depth 1 ..; depth 16 is read, 17 refused"
abbrev pub depth : ℕ
depth = 16
