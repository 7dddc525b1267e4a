-- From a file to its design: what a refusal says of the file and the state, and what the code goes by where there is none.
use Prim.Native.Nat.{ℕ, ◌≤◌}
use mathlib.Core.Path.{◌≡◌, refl, sym, ◌∙◌}
use mathlib.Core.List.{List}
use native.Mathlib.Omega.{arith}
use lib.ListN.{length}
use Rattle.std.specs.Prelude.{Result, Ok, Err, IsErrAnd}
use Rattle.design.specs.declared.Fault.{Fault}
use Rattle.design.specs.declared.Counts.{Counts}
use Rattle.design.specs.declared.Refused.{Refused}
use Rattle.design.specs.declared.Planned.{Planned}
use Rattle.design.specs.Syntax.{Design}
use Rattle.design.specs.Records.{Reading, design, refusal, reading}
use Rattle.design.specs.Answers.{answered, summary, refused, fault_number}
use Rattle.design.specs.Reads.{counted, PlanOf, Bounded, ReadsAs}
use Rattle.clock.specs.declared.Refusal.{Refusal}
use Rattle.clock.specs.Answers.{number_of, place_of}
use Rattle.clock.specs.Post.{Away, unread, unfit, Opened, LetsIn, Admits}

-- the answer of reading is the definition's
read_refused : (g : Reading) (f : Fault) (place : ℕ) → refused (fault_number f) place ≡ summary g → g ≡ refusal (record { number = fault_number f; place = place })
unfolding summary
read_refused (design D) f place e = absurd (let z : ◌≡◌ {A = ℕ} 0 1 = cc in omega arith)
read_refused (refusal why) f place e = let n : fault_number f ≡ why.number = cc in let p : place ≡ why.place = cc in rw (n, p)

read_design : {X : Type 0} (g : Reading) (c : Counts) → answered (Ok c) ≡ summary g →
    ((D : Design) → g ≡ design D → c.instances ≡ length D.instances → X) → X
unfolding answered summary
read_design (design D) c e next = next D refl (cc)
read_design (refusal why) c e next = absurd (let z : ◌≡◌ {A = ℕ} 0 1 = cc in omega arith)

-- a refusal in reading is handed on
pub admit_refused : {file : List ℕ} {n : ℕ} {r : Refused} (o : Result Planned Refusal) → ReadsAs file (Err r) → IsErrAnd o (λ why. why ≡ Refusal.File r) → Admits file n o
unfolding LetsIn counted answered Bounded number_of place_of
admit_refused (Ok p) h e = absurd e
admit_refused {file} {n} {r} (Err why) h e = rw e (record { admits = (unread (read_refused (reading file) r.fault r.place h.answer), h.bounded) })

module _ {file : List ℕ} {n : ℕ} {p : Planned} (h : ReadsAs file (Ok p)) where
  pub admit_unfit : (n ≡ p.counts.instances → ⊥) → Admits file n (Err Refusal.State)
  unfolding LetsIn counted place_of
  admit_unfit ne = record { admits = (read_design (reading file) p.counts h.answer (λ D g i. unfit g (λ z. ne (z ∙ sym i))), omega arith) }

  pub admit_open : n ≡ p.counts.instances → Admits file n (Ok p)
  unfolding LetsIn counted PlanOf
  admit_open q = record {
    admits = read_design (reading file) p.counts h.answer (λ D g i. record { design_is = D; read = g; world = rw g at h.plan; fits = q ∙ i });
  }

module _ {file : List ℕ} {n : ℕ} where
  pub away : {why : Refusal} → Admits file n (Err why) → Away file n why × (place_of why ≤ 32768)
  unfolding LetsIn
  away h = h.admits

  pub opened : {p : Planned} → Admits file n (Ok p) → Opened file p.plan n
  unfolding LetsIn
  opened h = h.admits
