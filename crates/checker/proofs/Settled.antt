-- The promise of `check` settles its answer: a verdict's number and place lead back to the answer, so two answers with one verdict are the same.
use Prim.Native.Nat.{ℕ}
use mathlib.Core.Path.{◌≡◌, refl, ap, sym, ◌∙◌}
use mathlib.Core.List.{List}
use mathlib.Core.Option.{Option, some, none}
use Rattle.design.specs.declared.Fault.{Fault}
use Rattle.design.specs.Answers.{fault_number}
use Rattle.design.proofs.Settled.{fault_at, fault_back}
use Rattle.rule.specs.declared.Reason.{Reason}
use Rattle.rule.specs.Answers.{number_of}
use Rattle.rule.proofs.Settled.{reason_of, reason_back}
use Rattle.std.specs.Prelude.{Result, Ok, Err}
use Rattle.checker.specs.declared.Failure.{Failure}
use Rattle.meaning.specs.Check.{Verdict, passes, fails, check_file}
use Rattle.checker.specs.Answers.{verdict}

no_fault : (k : Reason) → fault_at (number_of k) ≡ none
unfolding fault_at number_of
no_fault Reason.Kind = refl
no_fault Reason.Local = refl
no_fault Reason.Instance = refl
no_fault Reason.Method = refl
no_fault Reason.Count = refl
no_fault Reason.Pure = refl
no_fault Reason.Calls = refl
no_fault Reason.Locals = refl

-- by a fault, or by a reason
failed_by : Option Fault → (number place : ℕ) → Failure
failed_by (some f) number place = Failure.Refused (record { fault = f; place = place })
failed_by none number place = Failure.Fails (reason_of number) place

failure : Failure → Result (Unit {0}) Failure
failure why = Err why

answer_of : Verdict → Result (Unit {0}) Failure
answer_of passes = Ok tt
answer_of (fails why) = failure (failed_by (fault_at why.number) why.number why.place)

back : (r : Result (Unit {0}) Failure) → answer_of (verdict r) ≡ r
unfolding answer_of failed_by failure verdict
back (Ok u) = refl
back (Err (Failure.Refused r)) = ap (λ (o : Option Fault). failure (failed_by o (fault_number r.fault) r.place)) (fault_back r.fault)
back (Err (Failure.Fails k place)) =
    ap (λ (o : Option Fault). failure (failed_by o (number_of k) place)) (no_fault k) ∙
    ap (λ (j : Reason). failure (Failure.Fails j place)) (reason_back k)

-- what `check` ensures of a file, of two answers
pub settled : (file : List ℕ) (a b : Result (Unit {0}) Failure) → verdict a ≡ check_file file → verdict b ≡ check_file file → a ≡ b
settled file a b p q = sym (back a) ∙ ap answer_of (p ∙ sym q) ∙ back b
