-- Nothing is lost in one number: bytes, and what stands above them, do not run into each other, so equal numbers have equal parts. Since the
-- low byte is 1 to 12 of a refusal, 21 to 28 of a reason, and neither otherwise, equal numbers even come from equal answers.
use Prim.Native.Nat.{ℕ, ◌+◌, ◌*◌, ◌≤◌, ◌<◌}
use mathlib.Core.Path.{◌≡◌, refl, sym}
use native.Mathlib.Omega.{arith}
use Rattle.std.specs.Prelude.{Result, Ok, Err}
use Rattle.design.specs.declared.Refused.{Refused}
use Rattle.design.specs.declared.Counts.{Counts}
use Rattle.design.specs.Answers.{fault_number, answered}
use Rattle.design.specs.Parts.{Part}
use Rattle.design.specs.Reads.{Bounded}
use Rattle.rule.specs.Answers as R
use Rattle.clock.specs.declared.Outcome.{Outcome}
use Rattle.clock.specs.declared.Ending.{Ending}
use Rattle.clock.specs.declared.Ticked.{Ticked}
use Rattle.clock.specs.declared.Refusal.{Refusal}
use Rattle.clock.specs.declared.Ran.{Ran}
use Rattle.clock.specs.Answers.{number_of, place_of, outcome_of, ticked_of, clocked_of, ending_of, counted_of, ran_of, started_of}
use Rattle.clock.specs.Promises.{Named, ClockBounded, EndingNamed, RunBounded}
use Rattle.checker.specs.declared.Failure.{Failure}
use Rattle.checker.specs.Answers.{verdict}
use Rattle.host.specs.Packed.{refusal_of as refused-number, counts_of, part_number, placed, packed, outcome_number, ticked_number, clocked_number, ending_number, counted_number, started_number, verdict_number}
use Rattle.host.specs.Covers.{Places, Packs}
use Rattle.host.proofs.Packing.{few}
use Rattle.host.proofs.Covering.{few_refusals, few_reasons}

-- ---- parts

byte_apart : (n p m q : ℕ) → n < 256 → m < 256 → n + 256 * p ≡ m + 256 * q → (n ≡ m) × (p ≡ q)
byte_apart n p m q u v e = (omega arith, omega arith)

pub placed_apart : (n p m q : ℕ) → Places n p → Places m q → placed n p ≡ placed m q → (n ≡ m) × (p ≡ q)
unfolding placed
placed_apart n p m q u v e = (omega arith, omega arith)

pub packed_apart : (l n h a b c : ℕ) → Packs l n h → Packs a b c → packed l n h ≡ packed a b c → (l ≡ a) × (n ≡ b) × (h ≡ c)
unfolding packed
packed_apart l n h a b c u v e = (omega arith, omega arith, omega arith)

-- ---- reading

-- a refusal's number comes of that refusal only
pub read_apart : (a : Result Counts Refused) (w : Refused) → refused-number (answered a) ≡ refused-number (answered (Err w)) → answered a ≡ answered (Err w)
unfolding refused-number answered
read_apart (Ok c) w e = absurd (let m = few w.fault in omega arith)
read_apart (Err v) w e =
    let m = few w.fault in
    let n = few v.fault in
    let x : fault_number v.fault ≡ fault_number w.fault = omega arith in
    let y : v.place ≡ w.place = omega arith in
    rw (x, y)

pub counts_apart : (c d : Counts) → Bounded (Ok c) → Bounded (Ok d) → counts_of (answered (Ok c)) ≡ counts_of (answered (Ok d)) →
    answered (Ok c) ≡ answered (Ok d)
unfolding counts_of answered Bounded
counts_apart c d u v e =
    let x = byte_apart c.instances (c.methods + 256 * c.rules + 65536 * c.scheduled) d.instances (d.methods + 256 * d.rules + 65536 * d.scheduled) (omega arith) (omega arith) (omega arith) in
    let y = byte_apart c.methods (c.rules + 256 * c.scheduled) d.methods (d.rules + 256 * d.scheduled) (omega arith) (omega arith) (omega arith) in
    let z = byte_apart c.rules c.scheduled d.rules d.scheduled (omega arith) (omega arith) (omega arith) in
    rw (x.0, y.0, z.0, z.1)

-- of two parts, each in a file
pub part_apart : (p q : Part) → p.start + p.size ≤ 32768 → q.start + q.size ≤ 32768 → part_number p ≡ part_number q →
    (p.start ≡ q.start) × (p.size ≡ q.size)
unfolding part_number
part_apart p q u v e = (omega arith, omega arith)

-- ---- one clock

outcome_apart : (o u : Outcome) (d e : ℕ) → Named o → Named u → outcome_number (outcome_of o) d ≡ outcome_number (outcome_of u) e → (outcome_of o ≡ outcome_of u) × (d ≡ e)
unfolding outcome_number outcome_of packed Named
outcome_apart Outcome.Fired Outcome.Fired d e p q h = (refl, omega arith)
outcome_apart Outcome.Fired Outcome.Quiet d e p q h = absurd (omega arith)
outcome_apart Outcome.Fired (Outcome.Stuck n k) d e p q h = absurd (let r = few_reasons k in omega arith)
outcome_apart Outcome.Quiet Outcome.Fired d e p q h = absurd (omega arith)
outcome_apart Outcome.Quiet Outcome.Quiet d e p q h = (refl, omega arith)
outcome_apart Outcome.Quiet (Outcome.Stuck n k) d e p q h = absurd (let r = few_reasons k in omega arith)
outcome_apart (Outcome.Stuck n k) Outcome.Fired d e p q h = absurd (let r = few_reasons k in omega arith)
outcome_apart (Outcome.Stuck n k) Outcome.Quiet d e p q h = absurd (let r = few_reasons k in omega arith)
outcome_apart (Outcome.Stuck n k) (Outcome.Stuck m j) d e p q h =
    let r = few_reasons k in
    let s = few_reasons j in
    let a : n ≡ m = omega arith in
    let b : R.number_of k ≡ R.number_of j = omega arith in
    (rw (a, b), omega arith)

outcome_no_refusal : (o : Outcome) (d : ℕ) → Named o → (n p : ℕ) → 1 ≤ n → n ≤ 12 → placed n p ≡ outcome_number (outcome_of o) d → ⊥
unfolding outcome_number outcome_of placed packed Named
outcome_no_refusal Outcome.Fired d b n p l m h = omega arith
outcome_no_refusal Outcome.Quiet d b n p l m h = omega arith
outcome_no_refusal (Outcome.Stuck i k) d b n p l m h = let r = few_reasons k in omega arith

pub clock_apart : (a b : Result Ticked Refusal) → ClockBounded a → ClockBounded b → clocked_number (clocked_of a) ≡ clocked_number (clocked_of b) → clocked_of a ≡ clocked_of b
unfolding clocked_number ticked_number clocked_of ticked_of placed ClockBounded
clock_apart (Err w) (Err v) s t e =
    let m = few_refusals w in
    let n = few_refusals v in
    let x : number_of w ≡ number_of v = omega arith in
    let y : place_of w ≡ place_of v = omega arith in
    rw (x, y)
clock_apart (Err w) (Ok u) s t e = absurd (outcome_no_refusal u.outcome u.displays t.named (number_of w) (place_of w) (few_refusals w).0 (few_refusals w).1 e)
clock_apart (Ok u) (Err w) s t e = absurd (outcome_no_refusal u.outcome u.displays s.named (number_of w) (place_of w) (few_refusals w).0 (few_refusals w).1 (sym e))
clock_apart (Ok u) (Ok v) s t e =
    let h = outcome_apart u.outcome v.outcome u.displays v.displays s.named t.named e in
    rw (h.0, h.1)

-- ---- a run

ending_apart : (o u : Ending) (d e : ℕ) → EndingNamed o → EndingNamed u → ending_number (ending_of o) d ≡ ending_number (ending_of u) e → (ending_of o ≡ ending_of u) × (d ≡ e)
unfolding ending_number ending_of packed EndingNamed
ending_apart Ending.Limit Ending.Limit d e p q h = (refl, omega arith)
ending_apart Ending.Limit Ending.Quiet d e p q h = absurd (omega arith)
ending_apart Ending.Limit (Ending.Stuck n k) d e p q h = absurd (let r = few_reasons k in omega arith)
ending_apart Ending.Quiet Ending.Limit d e p q h = absurd (omega arith)
ending_apart Ending.Quiet Ending.Quiet d e p q h = (refl, omega arith)
ending_apart Ending.Quiet (Ending.Stuck n k) d e p q h = absurd (let r = few_reasons k in omega arith)
ending_apart (Ending.Stuck n k) Ending.Limit d e p q h = absurd (let r = few_reasons k in omega arith)
ending_apart (Ending.Stuck n k) Ending.Quiet d e p q h = absurd (let r = few_reasons k in omega arith)
ending_apart (Ending.Stuck n k) (Ending.Stuck m j) d e p q h =
    let r = few_reasons k in
    let s = few_reasons j in
    let a : n ≡ m = omega arith in
    let b : R.number_of k ≡ R.number_of j = omega arith in
    (rw (a, b), omega arith)

ending_no_refusal : (o : Ending) (d : ℕ) → EndingNamed o → (n p : ℕ) → 1 ≤ n → n ≤ 12 → placed n p ≡ ending_number (ending_of o) d → ⊥
unfolding ending_number ending_of placed packed EndingNamed
ending_no_refusal Ending.Limit d b n p l m h = omega arith
ending_no_refusal Ending.Quiet d b n p l m h = omega arith
ending_no_refusal (Ending.Stuck i k) d b n p l m h = let r = few_reasons k in omega arith

pub run_apart : (a b : Result Ran Refusal) → RunBounded a → RunBounded b → counted_number (ran_of a) ≡ counted_number (ran_of b) → ran_of a ≡ ran_of b
unfolding counted_number ran_of counted_of placed RunBounded
run_apart (Err w) (Err v) s t e =
    let m = few_refusals w in
    let n = few_refusals v in
    let x : number_of w ≡ number_of v = omega arith in
    let y : place_of w ≡ place_of v = omega arith in
    rw (x, y)
run_apart (Err w) (Ok u) s t e = absurd (ending_no_refusal u.ending u.count t (number_of w) (place_of w) (few_refusals w).0 (few_refusals w).1 e)
run_apart (Ok u) (Err w) s t e = absurd (ending_no_refusal u.ending u.count s (number_of w) (place_of w) (few_refusals w).0 (few_refusals w).1 (sym e))
run_apart (Ok u) (Ok v) s t e = let h = ending_apart u.ending v.ending u.count v.count s t e in rw (h.0, h.1)

-- ---- start values

pub start_apart : (a b : Result (Unit {0}) Refusal) → started_number (started_of a) ≡ started_number (started_of b) → started_of a ≡ started_of b
unfolding started_number started_of placed
start_apart (Err w) (Err v) e =
    let m = few_refusals w in
    let n = few_refusals v in
    let x : number_of w ≡ number_of v = omega arith in
    let y : place_of w ≡ place_of v = omega arith in
    rw (x, y)
start_apart (Err w) (Ok u) e = absurd (let m = few_refusals w in omega arith)
start_apart (Ok u) (Err v) e = absurd (let n = few_refusals v in omega arith)
start_apart (Ok u) (Ok v) e = refl

-- ---- the check

pub check_apart : (a b : Result (Unit {0}) Failure) → verdict_number (verdict a) ≡ verdict_number (verdict b) → verdict a ≡ verdict b
unfolding verdict_number verdict placed
check_apart (Ok u) (Ok v) e = refl
check_apart (Ok u) (Err (Failure.Refused w)) e = absurd (let m = few w.fault in omega arith)
check_apart (Ok u) (Err (Failure.Fails k p)) e = absurd (let m = few_reasons k in omega arith)
check_apart (Err (Failure.Refused w)) (Ok u) e = absurd (let m = few w.fault in omega arith)
check_apart (Err (Failure.Refused w)) (Err (Failure.Refused v)) e =
    let m = few w.fault in
    let n = few v.fault in
    let x : fault_number w.fault ≡ fault_number v.fault = omega arith in
    let y : w.place ≡ v.place = omega arith in
    rw (x, y)
check_apart (Err (Failure.Refused w)) (Err (Failure.Fails k p)) e = absurd (let m = few w.fault in let n = few_reasons k in omega arith)
check_apart (Err (Failure.Fails k p)) (Ok u) e = absurd (let m = few_reasons k in omega arith)
check_apart (Err (Failure.Fails k p)) (Err (Failure.Refused w)) e = absurd (let m = few w.fault in let n = few_reasons k in omega arith)
check_apart (Err (Failure.Fails k p)) (Err (Failure.Fails j q)) e =
    let m = few_reasons k in
    let n = few_reasons j in
    let x : R.number_of k ≡ R.number_of j = omega arith in
    let y : p ≡ q = omega arith in
    rw (x, y)
