-- `register` meets its contract. Assumes nothing.
use borrow.Author.Rules.{sfits_of}
use Rattle.rule.proofs.Invoking as I
use Rattle.rule.proofs.calling.register.Goals as goal

pub returns : goal.returns
returns c = I.word_back (sfits_of c.held.type_inv) c.word.ensures c.held.ensures
