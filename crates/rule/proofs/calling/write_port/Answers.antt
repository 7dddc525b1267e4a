-- `write_port` meets its contract. Assumes nothing.
use Rattle.std.proofs.Common.{rules}
use mathlib.Core.Path.{◌∙◌}
use Rattle.rule.proofs.Operating as O
use Rattle.rule.proofs.Invoking as I
use Rattle.rule.proofs.calling.write_port.Goals as goal

pub returns-in_default : goal.returns-in_default
returns-in_default c = I.write_none (c.copied.ensures ∙ c.first.ensures.value) c.in_default.is

pub returns-in_default-v : goal.returns-in_default-v
returns-in_default-v c = I.write_kind (c.copied.ensures ∙ c.first.ensures.value) c.in-Some.is (O.not_num _ c.in_default-v.not-Num)

pub returns-in_default-note : goal.returns-in_default-note
returns-in_default-note c = I.write_full (c.copied.ensures ∙ c.first.ensures.value) c.in-Some.is c.in-Num.is c.requires.0 c.note.ensures c.in_default-note.is

pub returns : goal.returns
returns c = I.write_done (c.copied.ensures ∙ c.first.ensures.value) c.in-Some.is c.in-Num.is c.requires.0 c.note.ensures c.in-Some-note.is c.requires.2 c.args.call.method_byte (search rules) c.packed.ensures
