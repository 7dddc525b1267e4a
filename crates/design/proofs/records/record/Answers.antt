-- `record` meets its contract. Assumes nothing.
use Rattle.design.specs.Steps.{mark_name, rg, cr, um}
use Rattle.design.proofs.Rows as F
use Rattle.design.proofs.Returning as N
use Rattle.design.proofs.records.record.Goals as goal

pub returns-then-t : goal.returns-then-t
returns-then-t c = N.record_closed c.if-t.true

pub returns-in_err-a : goal.returns-in_err-a
returns-in_err-a c = rw (F.is_err _ c.from_residual.ensures.1) (N.record_cut c.if-t.false c.in_err-a.ensures)

pub returns-in_err-b : goal.returns-in_err-b
returns-in_err-b c = rw (F.is_err _ c.from_residual-in_err-b.ensures.1) (N.record_cut_2 c.if-t.false c.in_ok-a.ensures c.in_err-b.ensures)

pub returns-in_err-ok_or : goal.returns-in_err-ok_or
returns-in_err-ok_or c = rw (F.is_err _ c.from_residual-in_err-ok_or.ensures.1) (N.unknown c.if-t.false c.in_ok-a.ensures c.in_ok-b.ensures _ c.mark_of.ensures c.in_err-ok_or.ensures.value)

pub instance_record-requires-in-User : goal.instance_record-requires-in-User
instance_record-requires-in-User c = (c.requires, N.nothing_small _)

pub returns-in-Register : goal.returns-in-Register
unfolding mark_name
returns-in-Register c = N.marked c.if-t.false c.in_ok-a.ensures c.in_ok-b.ensures _ c.mark_of.ensures c.in_ok-ok_or.ensures.value c.in-Register.is (N.added c.instance_record.ensures rg c.register_fields.ensures)

pub returns-in-Concurrent : goal.returns-in-Concurrent
unfolding mark_name
returns-in-Concurrent c = N.marked c.if-t.false c.in_ok-a.ensures c.in_ok-b.ensures _ c.mark_of.ensures c.in_ok-ok_or.ensures.value c.in-Concurrent.is (N.added c.instance_record-in-Concurrent.ensures cr c.concurrent_fields.ensures)

pub returns-in-User : goal.returns-in-User
unfolding mark_name
returns-in-User c = N.marked c.if-t.false c.in_ok-a.ensures c.in_ok-b.ensures _ c.mark_of.ensures c.in_ok-ok_or.ensures.value c.in-User.is (N.added c.instance_record-in-User.ensures um (F.user_done (F.next_within c.in_ok-b.ensures)))

pub returns-in-Method : goal.returns-in-Method
unfolding mark_name
returns-in-Method c = N.marked c.if-t.false c.in_ok-a.ensures c.in_ok-b.ensures _ c.mark_of.ensures c.in_ok-ok_or.ensures.value c.in-Method.is (c.method_record.ensures)

pub returns-in-Rule : goal.returns-in-Rule
unfolding mark_name
returns-in-Rule c = N.marked c.if-t.false c.in_ok-a.ensures c.in_ok-b.ensures _ c.mark_of.ensures c.in_ok-ok_or.ensures.value c.in-Rule.is (c.rule_record.ensures)

pub returns-in-Schedule : goal.returns-in-Schedule
unfolding mark_name
returns-in-Schedule c = N.marked c.if-t.false c.in_ok-a.ensures c.in_ok-b.ensures _ c.mark_of.ensures c.in_ok-ok_or.ensures.value c.in-Schedule.is (c.schedule_record.ensures _)
