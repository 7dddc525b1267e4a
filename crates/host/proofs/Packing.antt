-- Reading's answers as numbers: they are small, and each is the definition's number.
use Prim.Native.Nat.{ℕ, ◌+◌, ◌*◌, ◌≤◌}
use mathlib.Core.Path.{◌≡◌}
use mathlib.Core.List.{List}
use native.Mathlib.Omega.{arith}
use Rattle.std.specs.Prelude.{Ok, Err}
use Rattle.design.specs.declared.Fault.{Fault}
use Rattle.design.specs.declared.Refused.{Refused}
use Rattle.design.specs.declared.Counts.{Counts}
use Rattle.design.specs.declared.Span.{Span}
use Rattle.design.specs.Records.{reading}
use Rattle.design.specs.Answers.{fault_number, answered, summary}
use Rattle.design.specs.Parts.{Part}
use Rattle.design.specs.Reads.{Bounded, Answers, Spans}
use Rattle.host.specs.Packed.{refusal_of, counts_of, part_number, placed}
use Rattle.host.specs.Covers.{Places}

pub few : (f : Fault) → (1 ≤ fault_number f) × (fault_number f ≤ 9)
unfolding fault_number
few Fault.Long = (omega arith, omega arith)
few Fault.Cut = (omega arith, omega arith)
few Fault.Mark = (omega arith, omega arith)
few Fault.Misplaced = (omega arith, omega arith)
few Fault.Limit = (omega arith, omega arith)
few Fault.Field = (omega arith, omega arith)
few Fault.Body = (omega arith, omega arith)
few Fault.Schedule = (omega arith, omega arith)
few Fault.Unended = (omega arith, omega arith)

module _ {file : List ℕ} where
  -- a refusal
  pub place_small : {w : Refused} {n : ℕ} → Answers file (Err w) → n ≡ fault_number w.fault → Places n w.place
  unfolding Bounded
  place_small {w} h e = record { byte = omega (arith, (few w.fault).1); near = h.bounded }

  pub refusal_is : {w : Refused} {n : ℕ} → Answers file (Err w) → n ≡ fault_number w.fault → n + 256 * w.place ≡ refusal_of (summary (reading file))
  unfolding answered refusal_of placed
  refusal_is h e = rw (← h.answer, e)

  pub no_refusal : {c : Counts} → Answers file (Ok c) → 0 ≡ refusal_of (summary (reading file))
  unfolding answered refusal_of
  no_refusal h = rw (← h.answer)

  -- counts
  pub counts_are : {c : Counts} → Answers file (Ok c) →
      c.instances + 256 * c.methods + 65536 * c.rules + 16777216 * c.scheduled ≡ counts_of (summary (reading file))
  unfolding answered counts_of
  counts_are h = rw (← h.answer)

  pub no_counts : {w : Refused} → Answers file (Err w) → 0 ≡ counts_of (summary (reading file))
  unfolding answered counts_of
  no_counts h = rw (← h.answer)

-- a part
pub part_is : {file : List ℕ} {p : Part} {s : Span} {r : ℕ} → Spans file p s → r ≡ 65536 * s.start + s.size → r ≡ part_number p
unfolding part_number
part_is h q = rw (q, h.lies.start, h.lies.size)
