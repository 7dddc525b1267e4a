-- Where the bodies of rules and methods stand, in a file that is read anew: one law for each way in which a lookup returns.
use Prim.Native.Nat.{ℕ, ◌+◌, ◌≤◌, ◌<◌}
use mathlib.Core.Path.{◌≡◌, refl, ap, sym, ◌∙◌}
use mathlib.Core.List.{List}
use Rattle.std.specs.Prelude.{Some, None, Ok, Err}
use native.Mathlib.Omega.{arith}
use lib.ListN.{length, take, drop}
use Rattle.design.specs.declared.Refused.{Refused}
use Rattle.design.specs.declared.Planned.{Planned}
use Rattle.design.specs.declared.Span.{Span}
use Rattle.design.specs.Syntax.{Design}
use Rattle.design.specs.Take.{Refusal}
use Rattle.design.specs.Records.{Reading, design, refusal, reading, methods, rules}
use Rattle.design.specs.Answers.{answered, summary, counts}
use Rattle.design.specs.Answers as N
use Rattle.design.specs.Parts.{Part, nowhere, part_of_rule, part_of_method, rule_in, method_in, bytes_of}
use Rattle.design.specs.Plan.{World}
use Rattle.design.specs.Lookups.{Finding, Finds, MethodSpan, RuleSpan}
use Rattle.design.specs.Reads.{counted, PlanOf, ReadsAs, Spans}
use Rattle.design.proofs.Table.{past_end, there}

-- ---- a file that is refused, and one that is a design

refused_file : {X : Type 0} {file : List ℕ} {r : Refused} → ReadsAs file (Err r) → ((why : Refusal) → reading file ≡ refusal why → X) → X
unfolding counted answered summary
refused_file {X} {file} {r} h next = go (reading file) refl h.answer
  where
    go : (g : Reading) → reading file ≡ g → N.refused (N.fault_number r.fault) r.place ≡ summary g → X
    go (refusal why) q w = next why q
    go (design D) q w = absurd (let z : ◌≡◌ {A = ℕ} 0 1 = cc in omega arith)

pub read_file : {X : Type 0} {file : List ℕ} {p : Planned} → ReadsAs file (Ok p) →
    ((D : Design) → reading file ≡ design D → World file p.plan D → p.counts.instances ≡ length D.instances → p.counts.methods ≡ length (methods D.bodies) →
    p.counts.rules ≡ length (rules D.bodies) → p.counts.scheduled ≡ length D.schedule → X) → X
unfolding counted answered summary PlanOf
read_file {X} {file} {p} h next = go (reading file) refl h.answer h.plan
  where
    go : (r : Reading) → reading file ≡ r → counts p.counts.instances p.counts.methods p.counts.rules p.counts.scheduled ≡ summary r → PlanOf r file (Ok p) → X
    go (refusal why) q w u = absurd (let z : ◌≡◌ {A = ℕ} 0 1 = cc in omega arith)
    go (design D) q w u = next D q u (cc) (cc) (cc) (cc)

empty_lies : {file : List ℕ} {p : Part} → p ≡ nowhere → Spans file p (record { start = 0; size = 0 })
unfolding nowhere
empty_lies e = record { lies = record { start = ap (λ q. q.start) (sym e); size = ap (λ q. q.size) (sym e); within = omega arith }; small = omega arith }

-- a span that lies in the file
lies : {file : List ℕ} {p : Part} {r : Span} {start size : ℕ} → r.start ≡ start → r.size ≡ size → p ≡ record { start = start; size = size } → start + size ≤ length file → length file ≤ 32768 →
    Spans file p r
lies a b e l s = record {
  lies = record { start = a ∙ ap (λ q. q.start) (sym e); size = b ∙ ap (λ q. q.size) (sym e); within = omega arith };
  small = omega arith;
}

-- ---- rules

module _ {file : List ℕ} (n : ℕ) where
  pub rule_refused : {r : Refused} → ReadsAs file (Err r) → Spans file (rule_in (reading file) n) (record { start = 0; size = 0 })
  unfolding rule_in
  rule_refused h = refused_file h (λ why q. empty_lies (ap (λ r. rule_in r n) q))

  module _ {p : Planned} (h : ReadsAs file (Ok p)) where
    pub rule_missing : p.counts.rules ≤ n → Spans file (rule_in (reading file) n) (record { start = 0; size = 0 })
    unfolding rule_in part_of_rule
    rule_missing l = read_file h (λ D q w a b c d. empty_lies (ap (λ r. rule_in r n) q ∙ ap part_of_rule (past_end (rules D.bodies) n (omega arith))))

    pub rule_lies : {r : Span} → n < p.counts.rules → RuleSpan p.plan n r → Spans file (rule_in (reading file) n) r
    unfolding rule_in part_of_rule
    rule_lies l s = read_file h (λ D q w a b c d.
        let g = there (rules D.bodies) n (omega arith) in
        lies (s.start D g.0 w.plans g.1) (s.size D g.0 w.plans g.1) (ap (λ r. rule_in r n) q ∙ ap part_of_rule g.1) (w.stands.rules_stand n g.0 g.1).within w.stands.small)

-- ---- methods

module _ {file : List ℕ} (i m : ℕ) where
  pub method_refused : {r : Refused} → ReadsAs file (Err r) → Spans file (method_in (reading file) i m) (record { start = 0; size = 0 })
  unfolding method_in
  method_refused h = refused_file h (λ why q. empty_lies (ap (λ r. method_in r i m) q))

  module _ {p : Planned} (h : ReadsAs file (Ok p)) where
    pub method_missing : Finds p.plan i m None → Spans file (method_in (reading file) i m) (record { start = 0; size = 0 })
    unfolding method_in part_of_method Finding
    method_missing s = read_file h (λ D q w a b c d. empty_lies (ap (λ r. method_in r i m) q ∙ ap part_of_method (s.finds D w.plans)))

    pub method_lies : {k : ℕ} {r : Span} → Finds p.plan i m (Some k) → MethodSpan p.plan k r → Spans file (method_in (reading file) i m) r
    unfolding method_in part_of_method Finding
    method_lies {k} s t = read_file h (λ D q w a b c d.
        let g = s.finds D w.plans in
        lies (t.start D g.0 w.plans g.2) (t.size D g.0 w.plans g.2) (ap (λ r. method_in r i m) q ∙ ap part_of_method g.1) (w.stands.methods_stand k g.0 g.2).within w.stands.small)

-- ---- parts

pub part_is : {file : List ℕ} {p : Part} {r : Span} → Spans file p r → take r.size (drop r.start file) ≡ bytes_of file p
part_is h = rw (h.lies.start, h.lies.size)
