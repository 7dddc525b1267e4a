-- The whole file: how far the loop is (`Fares`) is a design so far, what the tally and the plan have to do with it, and that the rest
-- of the file, read on from there, is what the whole file is read as. A record's bytes are passed over (`pass`).
use Prim.Native.Nat.{ℕ, zero, suc, ◌+◌, ◌*◌, ◌-◌, ◌≤◌, ◌<◌}
use mathlib.Core.Path.{◌≡◌, refl, ap, sym, ◌∙◌}
use mathlib.Core.Bool.{false}
use mathlib.Core.List.{List, [], ◌∷◌}
use mathlib.Core.Option.{none-ne-some}
use Rattle.std.specs.Prelude.{None, Ok, Err}
use native.Mathlib.Omega.{arith}
use lib.ListN.{length, drop, get_or, replicate, length-drop, length-replicate, get_or-replicate, drop_of_length-le}
use lib.Seq.{drop-cons, drop-drop}
use borrow.Author.Tests.{le-ltb}
use Rattle.design.specs.declared.Fault.{Fault}
use Rattle.design.specs.declared.records.Tally.{Tally}
use Rattle.design.specs.Take.{Refusal, Read, got, refused, pick}
use Rattle.design.specs.Records as R
use Rattle.design.specs.Records.{Draft, records, one_record, empty, methods, rules}
use Rattle.design.specs.Fields.{refusal}
use Rattle.design.specs.Plan.{absent, entry, Rows, instance_row, method_row, rule_row, first_of, Sorted}
use Rattle.design.specs.Steps.{Owns, ScheduleRead, Holds, Advanced, Advances}
use Rattle.design.specs.Reads.{Filling, Fills}

pub record Fares (file plan : List ℕ) (t : Tally) : Type 0 where
  pub so_far : Draft
  pub holds : Holds file plan so_far t
  pub rest : records (length file) empty 0 file ≡ records (length file) so_far 0 (drop t.at file)

-- ---- the start

nothing_yet : {A : Type 0} (base room width : ℕ) (row : A → List ℕ) → base + 4 * room ≤ 1024 → width ≤ 4 → Rows (replicate 1092 65535) base room width row []
unfolding entry
nothing_yet base room width row h few = record { holds = λ i j l m. get_or-replicate 1092 (base + 4 * i + j) 65535 0 (omega arith) }

pub starts : {file plan : List ℕ} → length file ≤ 32768 → plan ≡ replicate 1092 65535 →
    Fares file plan (record { at = 0; instances = 0; methods = 0; rules = 0; owner = None; closed = false; schedule = 0; scheduled = 0 })
unfolding empty methods rules R.latest_is_user R.is_closed Owns ScheduleRead first_of pick
starts {file} h e = record {
  so_far = empty;
  holds = rw e (record {
    tallied = record { instances = refl; methods_read = refl; rules_read = refl; owner = refl; closed = refl };
    outlines = record {
      full = length-replicate {A = ℕ} 1092 65535;
      instance_rows = nothing_yet 0 64 3 instance_row (omega arith) (omega arith);
      firsts = λ i l. get_or-replicate 1092 (4 * i + 3) 65535 0 (omega arith) ∙ sym (ap (λ b. pick b (Rattle.design.specs.Plan.before i []) absent) (le-ltb i 0 (omega arith)));
      method_rows = nothing_yet 256 128 4 method_row (omega arith) (omega arith);
      rule_rows = nothing_yet 768 64 4 rule_row (omega arith) (omega arith);
    };
    blank = λ j p q. get_or-replicate 1092 j 65535 0 q;
    stands = record {
      methods_stand = λ i x q. absurd (none-ne-some _ q);
      rules_stand = λ i x q. absurd (none-ne-some _ q);
      small = h;
    };
    sound = record {
      ported = λ i x q. absurd (none-ne-some _ q);
      method_owners = λ i x q. absurd (none-ne-some _ q);
      rule_owners = λ i x q. absurd (none-ne-some _ q);
      sorted = Sorted.empty;
      few_instances = omega arith;
      few_methods = omega arith;
      few_rules = omega arith;
    };
    schedule_read = tt;
    within = omega arith;
  });
  rest = refl;
}

-- ---- a step

-- the bytes of a record are passed over
pass : (size : ℕ) (D : Draft) (n : ℕ) (s : List ℕ) → n ≤ length s → records size D n s ≡ records size D 0 (drop n s)
unfolding records
pass size D zero s h = refl
pass size D (suc n) [] h = absurd (omega arith)
pass size D (suc n) (b ∷ s) h = pass size D n s (omega arith)

step_got : (size : ℕ) (D E : Draft) (b : ℕ) (s rest : List ℕ) → one_record size (size - suc (length s)) D (b ∷ s) ≡ got E rest →
    records size D 0 (b ∷ s) ≡ records size E (length s - length rest) s
unfolding records
step_got size D E b s rest e = rw (e, records)

step_refused : (size : ℕ) (D : Draft) (b : ℕ) (s : List ℕ) (why : Refusal) → one_record size (size - suc (length s)) D (b ∷ s) ≡ refused why →
    records size D 0 (b ∷ s) ≡ R.refusal why
unfolding records
step_refused size D b s why e = rw (e, records)

-- the record at a place, as the definition reads it there
at_place : (file : List ℕ) (at : ℕ) (D : Draft) → at < length file → {p : Read Draft} → one_record (length file) at D (drop at file) ≡ p →
    one_record (length file) (length file - suc (length (drop (suc at) file))) D (get_or file at 0 ∷ drop (suc at) file) ≡ p
at_place file at D h e =
    let w : length file - suc (length (drop (suc at) file)) ≡ at = ap (λ n. length file - suc n) (length-drop (suc at) file) ∙ omega arith in
    rw (w, ← drop-cons file at 0 h) e

module _ {file plan plan₁ : List ℕ} {t : Tally} (f : Fares file plan t) (h : t.at < length file) where
  pub steps : {u : Tally} → Advances file plan t plan₁ (Ok u) → Fares file plan₁ u × (t.at < u.at)
  unfolding Advanced
  steps {u} a =
      let g = a.advances f.so_far f.holds in
      let b = g.2.within in
      let x = step_got (length file) f.so_far g.0 (get_or file t.at 0) (drop (suc t.at) file) (drop u.at file) (at_place file t.at f.so_far h g.1) in
      let k : length (drop (suc t.at) file) - length (drop u.at file) ≡ u.at - suc t.at = ap (λ n. n - length (drop u.at file)) (length-drop (suc t.at) file) ∙ ap (λ n. length file - suc t.at - n) (length-drop u.at file) ∙ omega (arith, g.3, b) in
      let y = pass (length file) g.0 (u.at - suc t.at) (drop (suc t.at) file) (rw (length-drop (suc t.at) file) (omega (arith, b, g.3))) in
      let z : drop (u.at - suc t.at) (drop (suc t.at) file) ≡ drop u.at file = (let q : suc t.at + (u.at - suc t.at) ≡ u.at = omega (arith, g.3) in drop-drop (u.at - suc t.at) (suc t.at) file ∙ ap (λ n. drop n file) q) in (
        record {
          so_far = g.0;
          holds = g.2;
          rest = f.rest ∙ ap (records (length file) f.so_far 0) (drop-cons file t.at 0 h) ∙ x ∙ ap (λ n. records (length file) g.0 n (drop (suc t.at) file)) k ∙ y ∙ ap (records (length file) g.0 0) z;
        },
        g.3,
      )

  pub falls : {u : Tally} → Advances file plan t plan₁ (Ok u) → length file - u.at < length file - t.at
  falls a = let w = (steps a).1 in omega arith

  pub stops : {e : Fault} → Advances file plan t plan₁ (Err e) → Fills file plan₁ (Err (record { fault = e; place = t.at }))
  unfolding Advanced Filling
  stops {e} a =
      let g = a.advances f.so_far f.holds in
      record {
        fills = (
          f.rest ∙ ap (records (length file) f.so_far 0) (drop-cons file t.at 0 h)
              ∙ step_refused (length file) f.so_far (get_or file t.at 0) (drop (suc t.at) file) (refusal e t.at) (at_place file t.at f.so_far h g),
          omega (arith, f.holds.within, f.holds.stands.small),
        );
      }

pub ends : {file plan : List ℕ} {t : Tally} → Fares file plan t → length file ≤ t.at → Fills file plan (Ok t)
unfolding Filling records
ends {file} f h = record {
  fills = (f.so_far, f.holds, f.rest ∙ ap (records (length file) f.so_far 0) (drop_of_length-le file h), omega (arith, f.holds.within));
}
