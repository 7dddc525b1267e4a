-- The promises of reading settle their answers: a number leads back to its fault, so two answers with one reply are the same; two tables
-- that outline one design hold the same 512 numbers, and its schedule ends the file; and what is left of a text tells the place reached.
use Prim.Native.Nat.{ℕ, zero, suc, ◌+◌, ◌*◌, ◌-◌, ◌/◌, ◌%◌, ◌≤◌, ◌<◌}
use mathlib.Core.Path.{◌≡◌, refl, ap, sym, subst, ◌∙◌}
use mathlib.Core.Bool.{Bool, true, false}
use mathlib.Core.List.{List, [], ◌∷◌}
use mathlib.Core.Option.{Option, some, none}
use Rattle.std.specs.Prelude.{Option as Maybe, Some, None, Result, Ok, Err}
use native.Mathlib.Omega.{arith}
use lib.Dec.{ltb}
use lib.ListN.{length, drop, get_or, get_elem?, length-drop}
use lib.Seq.{ext_get_or}
use borrow.Author.Tests.{ltb-true, ltb-false}
use Rattle.design.specs.declared.Fault.{Fault}
use Rattle.design.specs.declared.Counts.{Counts}
use Rattle.design.specs.declared.Refused.{Refused}
use Rattle.design.specs.declared.Planned.{Planned}
use Rattle.design.specs.declared.Span.{Span}
use Rattle.design.specs.Syntax.{Design}
use Rattle.design.specs.Records as R
use Rattle.design.specs.Records.{Reading, reading}
use Rattle.design.specs.Take.{Refusal}
use Rattle.design.specs.Plan.{Plans}
use Rattle.design.specs.Parts.{Part}
use Rattle.design.specs.Answers.{fault_number, Reply, counts, refused, answered, summary}
use Rattle.design.specs.Reads.{counted, PlanOf, ReadsAs, Answers, Spans}
use Rattle.design.specs.Text as T
use Rattle.design.specs.Text.{Follows, Sees, Reaches, Within, Skips}
use Rattle.design.proofs.Inverting.{never, got_rest}

-- ---- answers

-- "Numbers handed back": the fault of a number from 1 to 9
unfoldable pub fault_at : ℕ → Option Fault
fault_at zero = none
fault_at (suc n) =
    get_elem? (Fault.Long ∷ Fault.Cut ∷ Fault.Mark ∷ Fault.Misplaced ∷ Fault.Limit ∷ Fault.Field ∷ Fault.Body ∷ Fault.Schedule ∷ Fault.Unended ∷ []) n

pub fault_back : (f : Fault) → fault_at (fault_number f) ≡ some f
unfolding fault_at fault_number
fault_back Fault.Long = refl
fault_back Fault.Cut = refl
fault_back Fault.Mark = refl
fault_back Fault.Misplaced = refl
fault_back Fault.Limit = refl
fault_back Fault.Field = refl
fault_back Fault.Body = refl
fault_back Fault.Schedule = refl
fault_back Fault.Unended = refl

refused_at : Option Fault → ℕ → Result Counts Refused
refused_at (some f) place = Err (record { fault = f; place = place })
refused_at none place = Err (record { fault = Fault.Long; place = place })

answer_of : Reply → Result Counts Refused
answer_of (counts i m r s) = Ok (record { instances = i; methods = m; rules = r; scheduled = s })
answer_of (refused n place) = refused_at (fault_at n) place

back : (r : Result Counts Refused) → answer_of (answered r) ≡ r
unfolding answered answer_of refused_at
back (Ok c) = refl
back (Err r) = rw (fault_back r.fault)

same_answer : {a b : Result Counts Refused} {s : Reply} → answered a ≡ s → answered b ≡ s → a ≡ b
same_answer {a} {b} p q = sym (back a) ∙ ap answer_of (p ∙ sym q) ∙ back b

-- what `read` ensures of a file, of two answers
pub read_settled : (file : List ℕ) (a b : Result Counts Refused) → Answers file a → Answers file b → a ≡ b
read_settled file a b p q = same_answer p.answer q.answer

-- ---- plans

by_bound : {P : Type 0} → (i n : ℕ) → (i < n → P) → (n ≤ i → P) → P
by_bound {P} i n small large = go (ltb i n) refl
  where
    go : (b : Bool) → ltb i n ≡ b → P
    go true e = small (ltb-true i n e)
    go false e = large (ltb-false i n e)

-- numbers from `base` on, four a row, that both plans have by one rule
module _ (p q : List ℕ) (base room : ℕ) where
  same_rows : ((i j : ℕ) → i < room → j < 4 → get_or p (base + 4 * i + j) 0 ≡ get_or q (base + 4 * i + j) 0) → (n : ℕ) → base ≤ n → n < base + 4 * room → get_or p n 0 ≡ get_or q n 0
  same_rows h n low high =
      let here : base + 4 * ((n - base) / 4) + (n - base) % 4 ≡ n = omega arith in
      subst (λ (k : ℕ). get_or p k 0 ≡ get_or q k 0) here (h ((n - base) / 4) ((n - base) % 4) (omega arith) (omega arith))

-- the four numbers of an instance's row: three of them are the instance's own
instance_same : {p q : List ℕ} {D : Design} → Plans p D → Plans q D → (i j : ℕ) → i < 64 → j < 4 → get_or p (0 + 4 * i + j) 0 ≡ get_or q (0 + 4 * i + j) 0
instance_same {p} {q} a b i j l m =
    by_bound j 3 (λ k. a.outlines.instance_rows.holds i j l k ∙ sym (b.outlines.instance_rows.holds i j l k)) (λ k.
    let z : 4 * i + 3 ≡ 0 + 4 * i + j = omega arith in
    subst (λ (n : ℕ). get_or p n 0 ≡ get_or q n 0) z (a.outlines.firsts i l ∙ sym (b.outlines.firsts i l)))

pub same_plan : {p q : List ℕ} {D : Design} → Plans p D → Plans q D → p ≡ q
same_plan {p} {q} a b =
    ext_get_or 0 p q (a.outlines.full ∙ sym b.outlines.full) (λ n lt.
    by_bound n 256 (same_rows p q 0 64 (instance_same a b) n (omega arith)) (λ c.
    by_bound n 768 (same_rows p q 256 128 (λ i j l m. a.outlines.method_rows.holds i j l m ∙ sym (b.outlines.method_rows.holds i j l m)) n c) (λ d.
    by_bound n 1024 (same_rows p q 768 64 (λ i j l m. a.outlines.rule_rows.holds i j l m ∙ sym (b.outlines.rule_rows.holds i j l m)) n d) (λ e.
    by_bound n 1025 (λ k. at 1024 (omega arith) (a.instances ∙ sym b.instances)) (λ f.
    by_bound n 1026 (λ k. at 1025 (omega arith) (a.methods_counted ∙ sym b.methods_counted)) (λ g.
    by_bound n 1027 (λ k. at 1026 (omega arith) (a.rules_counted ∙ sym b.rules_counted)) (λ h.
    by_bound n 1028 (λ k. at 1027 (omega arith) (a.scheduled ∙ sym b.scheduled)) (λ i.
    let here : 1028 + (n - 1028) ≡ n = omega arith in
    let few : n - 1028 < 64 = omega (arith, a.outlines.full) in
    at (1028 + (n - 1028)) here (a.entries (n - 1028) few ∙ sym (b.entries (n - 1028) few))))))))))
  where
    at : {n : ℕ} (m : ℕ) → m ≡ n → get_or p m 0 ≡ get_or q m 0 → get_or p n 0 ≡ get_or q n 0
    at m e h = subst (λ (k : ℕ). get_or p k 0 ≡ get_or q k 0) e h

-- a file that is refused has no plan
no_plan : {P : Type 0} (p : Planned) (why : Refusal) → answered (counted (Ok p)) ≡ summary (R.refusal why) → P
unfolding counted answered summary
no_plan p why e = absurd (let z : ◌≡◌ {A = ℕ} 0 1 = cc in omega arith)

same_planned : (g : Reading) (file : List ℕ) (a b : Planned) → answered (counted (Ok a)) ≡ summary g → PlanOf g file (Ok a) → PlanOf g file (Ok b) → a.plan ≡ b.plan
unfolding PlanOf
same_planned (R.design D) file a b e p q = same_plan p.plans q.plans
same_planned (R.refusal why) file a b e p q = no_plan a why e

-- what `plan_of` ensures of a file, of two answers
pub plan_settled : (file : List ℕ) (a b : Result Planned Refused) → ReadsAs file a → ReadsAs file b → a ≡ b
unfolding counted
plan_settled file (Ok a) (Ok b) p q =
    let answer : ◌≡◌ {A = Result Counts Refused} (Ok a.counts) (Ok b.counts) = same_answer p.answer q.answer in
    let numbers : a.counts ≡ b.counts = cc in
    let plan : a.plan ≡ b.plan = same_planned (reading file) file a b p.answer p.plan q.plan in
    λ i. Ok (record { counts = numbers i; plan = plan i })
plan_settled file (Ok a) (Err s) p q =
    let answer : ◌≡◌ {A = Result Counts Refused} (Ok a.counts) (Err s) = same_answer p.answer q.answer in
    absurd (let z : ◌≡◌ {A = ℕ} 0 1 = cc in omega arith)
plan_settled file (Err r) (Ok b) p q =
    let answer : ◌≡◌ {A = Result Counts Refused} (Err r) (Ok b.counts) = same_answer p.answer q.answer in
    absurd (let z : ◌≡◌ {A = ℕ} 0 1 = cc in omega arith)
plan_settled file (Err r) (Err s) p q =
    let answer : ◌≡◌ {A = Result Counts Refused} (Err r) (Err s) = same_answer p.answer q.answer in
    let same : r ≡ s = cc in
    ap Err same

-- ---- parts

-- what `rule_span` and `method_span` ensure of a part, of two answers
pub span_settled : (file : List ℕ) (p : Part) (a b : Span) → Spans file p a → Spans file p b → a ≡ b
span_settled file p a b r s =
    let start : a.start ≡ b.start = r.lies.start ∙ sym s.lies.start in
    let size : a.size ≡ b.size = r.lies.size ∙ sym s.lies.size in
    λ i. record { start = start i; size = size i }

-- ---- bytes and expressions

-- what `text::byte` ensures of a place, of two answers
pub byte_settled : (text : List ℕ) (at : ℕ) (a b : Maybe (ℕ × ℕ)) → Sees text at a → Sees text at b → a ≡ b
unfolding Follows
byte_settled text at a b p q = go a b p.follows q.follows
  where
    go : (a b : Maybe (ℕ × ℕ)) → Follows text at a → Follows text at b → a ≡ b
    go (Some (x, n)) (Some (y, m)) p q = cc (p.0, p.3, q.0, q.3)
    go (Some (x, n)) None p q = absurd (omega (arith, p.0, p.1))
    go None (Some (y, m)) p q = absurd (omega (arith, q.0, q.1))
    go None None p q = refl

-- what `text::skip_expr` ensures (the part is `whole`), of two answers
pub skip_settled : (part : T.Part) (text : List ℕ) (at levels : ℕ) (a b : Maybe ℕ) → Skips part text at levels a → Skips part text at levels b → a ≡ b
unfolding Reaches Within
skip_settled part text at levels a b p q = go a b (p.passes 0 bad).reaches (q.passes 0 bad).reaches p.within q.within
  where
    bad : Refusal
    bad = record { number = 0; place = 0 }

    go : (a b : Maybe ℕ) → Reaches (T.parse part 0 bad levels (drop at text)) bad text a → Reaches (T.parse part 0 bad levels (drop at text)) bad text b →
        Within text at a → Within text at b → a ≡ b
    go (Some n) (Some m) p q v w =
        let left : drop n text ≡ drop m text = got_rest (sym p.1 ∙ q.1) in
        let same : n ≡ m = omega (arith, v.1, w.1, ap length left, length-drop n text, length-drop m text) in
        ap Some same
    go (Some n) None p q v w = absurd (never (sym q ∙ p.1))
    go None (Some m) p q v w = absurd (never (sym p ∙ q.1))
    go None None p q v w = refl
