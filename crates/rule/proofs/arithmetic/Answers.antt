-- `arithmetic` meets its contract. Assumes nothing.
use Rattle.std.proofs.Common.{rules}
use borrow.Author.Rules.{sfits_of}
use mir.Syntax.{w32}
use mir.ValLaws.{to_z-of_z}
use Rattle.rule.proofs.Operating as O
use Rattle.rule.proofs.arithmetic.Goals as goal

pub returns-in-Plus : goal.returns-in-Plus
returns-in-Plus c =
    let n = c.number-x in
    let k = c.number-y in
    let p = c.plus in
    O.adds (search rules) (cc (c.word.ensures, p.ensures, n.ensures, k.ensures, to_z-of_z w32 p.result (sfits_of p.type_inv), to_z-of_z w32 n.result (sfits_of n.type_inv), to_z-of_z w32 k.result (sfits_of k.type_inv)))

pub returns-in-Minus : goal.returns-in-Minus
returns-in-Minus c =
    let n = c.number-x in
    let k = c.number-y in
    let p = c.minus in
    O.subtracts (search rules) (cc (c.word-in-Minus.ensures, p.ensures, n.ensures, k.ensures, to_z-of_z w32 p.result (sfits_of p.type_inv), to_z-of_z w32 n.result (sfits_of n.type_inv), to_z-of_z w32 k.result (sfits_of k.type_inv)))

pub returns-in-Equal : goal.returns-in-Equal
returns-in-Equal c =
    let n = c.number-x in
    let k = c.number-y in
    O.equals (search rules) (cc (c.equal.ensures, n.ensures, k.ensures, to_z-of_z w32 n.result (sfits_of n.type_inv), to_z-of_z w32 k.result (sfits_of k.type_inv)))

pub returns-in-Less : goal.returns-in-Less
returns-in-Less c =
    let n = c.number-x in
    let k = c.number-y in
    O.lesser c.in-Less.is (cc (c.less.ensures, n.ensures, k.ensures, to_z-of_z w32 n.result (sfits_of n.type_inv), to_z-of_z w32 k.result (sfits_of k.type_inv)))

pub returns-in_default : goal.returns-in_default
returns-in_default c = search O.no_words
