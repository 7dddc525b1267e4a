-- Numbers, truths and locals, which are read and evaluated at once: one law for each way in which their functions return.
use Prim.Native.Nat.{ℕ, zero, suc, ◌+◌, ◌≤◌, ◌<◌}
use mathlib.Core.Path.{◌≡◌, refl}
use mathlib.Core.List.{List, [], ◌∷◌}
use mathlib.Core.Option.{some, none}
use native.Mathlib.Omega.{arith}
use lib.Dec.{eqb, ltb}
use lib.IntN.{ℤ}
use lib.ListN.{length, drop, get_or, get_elem?}
use Rattle.std.specs.Prelude.{Option as Maybe, Some, None}
use Rattle.std.specs.List.{slice_range}
use Rattle.std.specs.Int.{w32, from_le_bytes}
use Rattle.design.specs.Take.{Refusal, refused, bind}
use Rattle.design.specs.Grammar as G
use Rattle.design.specs.Grammar.{Tag}
use Rattle.design.specs.Text.{Sees}
use Rattle.design.proofs.Taking as T
use Rattle.design.proofs.Taking.{found, ended, follows}
use Rattle.design.proofs.Rows.{there}
use Rattle.rule.specs.declared.Value as DV
use Rattle.rule.specs.declared.Reason.{Reason}
use Rattle.rule.specs.declared.Mark.{Mark}
use Rattle.rule.specs.declared.Answer.{Answer}
use Rattle.meaning.specs.Naming as N
use Rattle.meaning.specs.Evaluate as E
use Rattle.rule.specs.Answers.{value, number_of, env_of}
use Rattle.rule.specs.Post.{Place, after, Agrees, Onward, Does, Leaf}
use Rattle.rule.proofs.Meaning as M

-- what does not read may be answered with anything but a value
module _ {text file plan : List ℕ} {state : List ℤ} {locals : List DV.Value} {log : List ℕ} {f : Place} {m : Mark} {g : Tag} where
  pub unread : {r : Answer} → M.Halts r → ((end : ℕ) (bad : Refusal) (lv : ℕ) → G.after end bad (G.expr end bad lv) g (drop m.at text) ≡ refused bad) →
      Does (after g) text file plan state locals log f m log r
  unread h e = record { does = λ D w end bad lv le. M.none_any {why = bad} (e end bad lv); onward = M.no_mark (length text) m h; kept = refl }

module _ {text : List ℕ} {m : Mark} where
  -- a number
  pub number_cut : length text < m.at + 4 → Leaf Tag.number text m (Answer.Stuck Reason.Kind)
  unfolding G.after bind
  number_cut h = record { leaf = λ file plan log locals state f few. unread M.fast (λ n bad lv. rw (T.four_cut bad text m.at h)) }

  module _ {s : List ℕ} (e : s ≡ slice_range text m.at (length text)) (l : length s + m.at ≡ length text) where
    pub number_done : {word : ℕ} → 4 ≤ length s → word ≡ from_le_bytes w32 (get_or s 0 0 ∷ get_or s 1 0 ∷ get_or s 2 0 ∷ get_or s 3 0 ∷ []) →
        Leaf Tag.number text m (Answer.Value (DV.Value.Num word) (record { at = m.at + 4; calls = m.calls }))
    unfolding G.after bind Agrees value Onward E.evaluate E.eval
    number_done {word} h q =
        let v : T.four text m.at ≡ word = omega (arith, there text m.at e l 0 m.at (omega arith) (omega arith), there text m.at e l 1 (m.at + 1) refl (omega arith), there text m.at e l 2 (m.at + 2) refl (omega arith), there text m.at e l 3 (m.at + 3) refl (omega arith)) in
        record {
          leaf = λ file plan log locals state f few. record {
            does = λ D world end bad lv le. rw (T.four_at bad text m.at (omega arith), ← v) (M.stop (refl, refl));
            onward = (omega arith, omega arith, few);
            kept = refl;
          };
        }

  -- a truth
  pub truth_cut : {x : Maybe (ℕ × ℕ)} → Sees text m.at x → x ≡ None → Leaf Tag.truth text m (Answer.Stuck Reason.Kind)
  unfolding G.after bind
  truth_cut h e = record { leaf = λ file plan log locals state f few. unread M.fast (λ n bad lv. rw (ended h e bad)) }

  pub truth_done : {x : Maybe (ℕ × ℕ)} {b n : ℕ} → Sees text m.at x → x ≡ Some (b, n) →
      Leaf Tag.truth text m (Answer.Value (DV.Value.Bool (eqb b 1)) (record { at = n; calls = m.calls }))
  unfolding G.after bind Agrees value Onward E.evaluate E.eval
  truth_done {b = b} {n} h e =
      let f1 = follows h e in
      record {
        leaf = λ file plan log locals state f few. record {
          does = λ D w end bad lv le. rw (found h e bad) (M.tried (ltb b 2) bad (M.stop (refl, refl)));
          onward = (omega (arith, f1.0), f1.1, few);
          kept = refl;
        };
      }

-- ---- a local

-- the n-th of the locals that live
at_live : (locals : List DV.Value) (n : ℕ) (v : DV.Value) → n < length locals → get_elem? (env_of locals) n ≡ some (value (get_or locals n v))
unfolding env_of
at_live [] n v h = absurd (omega arith)
at_live (a ∷ locals) zero v h = refl
at_live (a ∷ locals) (suc n) v h = at_live locals n v (omega arith)

past_live : (locals : List DV.Value) (n : ℕ) → length locals ≤ n → get_elem? (env_of locals) n ≡ none
unfolding env_of
past_live [] n h = refl
past_live (a ∷ locals) zero h = absurd (omega arith)
past_live (a ∷ locals) (suc n) h = past_live locals n (omega arith)

module _ {text : List ℕ} {locals : List DV.Value} {f : Place} {m : Mark} where
  pub local_cut : {x : Maybe (ℕ × ℕ)} → Sees text m.at x → x ≡ None → (file plan log : List ℕ) (state : List ℤ) →
      Does (after Tag.local) text file plan state locals log f m log (Answer.Stuck Reason.Kind)
  unfolding G.after bind
  local_cut h e file plan log state = unread M.fast (λ n bad lv. rw (ended h e bad))

  pub local_missing : {x : Maybe (ℕ × ℕ)} {b n k : ℕ} → Sees text m.at x → x ≡ Some (b, n) → k ≡ b → length locals ≤ k → (file plan log : List ℕ) (state : List ℤ) →
      Does (after Tag.local) text file plan state locals log f m log (Answer.Stuck Reason.Local)
  unfolding G.after bind Agrees number_of Onward E.evaluate E.eval E.tested N.local_of N.found
  local_missing {b = b} h e w past file plan log state = record {
    does = λ D u end bad lv le. rw (found h e bad) (M.stop (rw (past_live locals b (omega arith))));
    onward = tt;
    kept = refl;
  }

  pub local_done : {x : Maybe (ℕ × ℕ)} {b n k : ℕ} {v : DV.Value} → Sees text m.at x → x ≡ Some (b, n) → k ≡ b → k < length locals → v ≡ get_or locals k v → m.calls ≤ 64 → (file plan log : List ℕ) (state : List ℤ) →
      Does (after Tag.local) text file plan state locals log f m log (Answer.Value v (record { at = n; calls = m.calls }))
  unfolding G.after bind Agrees Onward E.evaluate E.eval E.tested N.local_of N.found
  local_done {b = b} {n} {k} {v} h e w within is rec file plan log state =
      let f1 = follows h e in
      record {
        does = λ D u end bad lv le. rw (found h e bad) (M.stop (rw (← w, at_live locals k v within, ← is), refl));
        onward = (omega (arith, f1.0), f1.1, rec);
        kept = refl;
      }
