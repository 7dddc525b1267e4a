-- `method_fields` meets its contract. Assumes nothing.
use Rattle.design.proofs.Rows as F
use Rattle.design.proofs.fields.method_fields.Goals as goal

pub returns-in_err-kind : goal.returns-in_err-kind
returns-in_err-kind c = rw (F.is_err _ c.from_residual.ensures.1) (F.method_no c.in_err-kind.ensures)

pub returns-in_err-res : goal.returns-in_err-res
returns-in_err-res c = rw (F.is_err _ c.from_residual-in_err-res.ensures.1) (F.method_no_2 c.in_ok-kind.ensures c.in_err-res.ensures)

pub returns-then-not-agree : goal.returns-then-not-agree
returns-then-not-agree c = F.method_disagrees c.in_ok-kind.ensures c.in_ok-res.ensures c.agree.ensures c.if-not-agree.true

pub returns-in_err-count : goal.returns-in_err-count
returns-in_err-count c = rw (F.is_err _ c.from_residual-in_err-count.ensures.1) (F.method_no_3 c.in_ok-kind.ensures c.in_ok-res.ensures c.agree.ensures c.if-not-agree.false c.in_err-count.ensures)

pub params-requires : goal.params-requires
params-requires c = F.reaches_within c.in_ok-count.ensures

pub returns-in_err-length : goal.returns-in_err-length
returns-in_err-length c = rw (F.is_err _ c.from_residual-in_err-length.ensures.1) (F.method_no_4 c.in_ok-kind.ensures c.in_ok-res.ensures c.agree.ensures c.if-not-agree.false c.in_ok-count.ensures c.in_err-length.ensures)

pub returns-in_err-next : goal.returns-in_err-next
returns-in_err-next c = rw (F.is_err _ c.from_residual-in_err-next.ensures.1) (F.method_no_5 c.in_ok-kind.ensures c.in_ok-res.ensures c.agree.ensures c.if-not-agree.false c.in_ok-count.ensures c.in_ok-length.ensures c.in_err-next.ensures)

pub shape-requires : goal.shape-requires
shape-requires c = (F.ranged_most c.in_ok-kind.ensures, F.ranged_most c.in_ok-res.ensures, F.ranged_most c.in_ok-count.ensures)

pub returns : goal.returns
returns c = F.method_done c.in_ok-kind.ensures c.in_ok-res.ensures c.agree.ensures c.if-not-agree.false c.in_ok-count.ensures c.in_ok-length.ensures c.in_ok-next.ensures c.shape.ensures
