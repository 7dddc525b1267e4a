-- Statements, blocks and arguments: one law for each way in which their functions return. A loop keeps `Goes`: what is left, in the frame
-- that the lets so far have made, decides the whole.
use Prim.Native.Nat.{ℕ, suc, ◌+◌, ◌-◌, ◌≤◌, ◌<◌}
use mathlib.Core.Path.{◌≡◌, refl, sym, ap, ◌∙◌}
use mathlib.Core.Bool.{Bool, true, false}
use mathlib.Core.List.{List, [], ◌∷◌, ◌++◌, append_assoc, append-nil}
use native.Mathlib.Omega.{arith}
use lib.Dec.{eqb, ltb}
use lib.IntN.{ℤ}
use lib.ListN.{length, take, drop, set, length-set, length-map}
use borrow.Author.Tests.{lt-ltb, le-ltb, lt-leb, le-leb}
use Rattle.std.proofs.lemmas.List.{map-append, take_more_set, length-append, length-take-le}
use Rattle.std.specs.Prelude.{Option as Maybe, Some, None, Ok}
use Rattle.design.specs.Syntax.{Expr, Exprs, Stmts, Design}
use Rattle.design.specs.Take.{Refusal, Read, got, bind, pick}
use Rattle.design.specs.Take as T
use Rattle.design.specs.Grammar as G
use Rattle.design.specs.Grammar.{Tag, Statement}
use Rattle.design.specs.Text.{Sees}
use Rattle.design.specs.declared.kinds.Statement as DS
use Rattle.design.specs.Kinds.{IsStatement}
use Rattle.design.proofs.Taking.{found, ended, follows}
use Rattle.design.proofs.Skipping.{a_statement, no_statement}
use Rattle.rule.specs.declared.Value as DV
use Rattle.rule.specs.declared.Reason.{Reason}
use Rattle.rule.specs.declared.Mark.{Mark}
use Rattle.rule.specs.declared.Answer.{Answer}
use Rattle.rule.specs.declared.evaluate.Stated.{Stated}
use Rattle.meaning.specs.Values.{Value, Event, Out, and_then}
use Rattle.meaning.specs.Naming.{Test, bound, test}
use Rattle.meaning.specs.Naming as N
use Rattle.meaning.specs.Evaluate as E
use Rattle.design.specs.Plan.{World}
use Rattle.rule.specs.Log.{events}
use Rattle.rule.specs.Answers.{value, number_of, env_of}
use Rattle.rule.specs.Post.{Place, whole, after, statements, Agrees, Means, Onward, Ready, Does, Behind, behind, stated, States, Along, Lists}
use Rattle.rule.proofs.Meaning as M
use Rattle.rule.proofs.Leaves.{unread}
use Rattle.rule.proofs.Constructs.{farther, onward}

-- one more local
grows : (locals : List DV.Value) (v : DV.Value) → env_of (locals ++ (v ∷ [])) ≡ env_of locals ++ (value v ∷ [])
unfolding env_of
grows locals v = map-append value locals (v ∷ [])

-- ---- outcomes in a row

pub in_row : {A B C : Type 0} (o : Out A) (f : A → List Event → Out B) (g : B → List Event → Out C) →
    and_then (and_then o f) g ≡ and_then o (λ a l. and_then (f a l) g)
unfolding and_then
in_row (Out.got a l) f g = refl
in_row Out.unavailable f g = refl
in_row (Out.stuck n) f g = refl

test_row : {A B C : Type 0} (t : Test A) (f : A → Out B) (g : B → List Event → Out C) → and_then (E.tested t f) g ≡ E.tested t (λ a. and_then (f a) g)
unfolding and_then E.tested
test_row (N.passed a) f g = refl
test_row (N.failed n) f g = refl

-- ---- the byte of a statement

a_let : {b : ℕ} (s : DS.Statement) → IsStatement b (Ok s) → (s ≡ DS.Statement.Do → ⊥) → b ≡ 8
a_let DS.Statement.Let e n = e
a_let DS.Statement.Do e n = absurd (n refl)

-- ---- where k of some are read

module _ (end : ℕ) (bad : Refusal) (E : List ℕ → Read Expr) (s : List ℕ) {count k : ℕ} (h : k < count) where
  one_left : count - k ≡ suc (count - (k + 1))
  one_left = omega arith

  exprs_next : G.exprs end bad E (count - k) s ≡ bind (E s) (λ e r. bind (G.exprs end bad E (count - (k + 1)) r) (λ es q. got (Exprs.more e es) q))
  unfolding G.exprs
  exprs_next = ap (λ n. G.exprs end bad E n s) one_left

  statements_next : G.statements end bad E (count - k) s ≡
      bind (G.statement end bad E s) (λ x r. bind (G.statements end bad E (count - (k + 1)) r) (λ ss q. got (G.then x ss) q))
  unfolding G.statements
  statements_next = ap (λ n. G.statements end bad E n s) one_left

module _ {text file plan : List ℕ} {state : List ℤ} {locals : List DV.Value} {log : List ℕ} {f : Place} {m : Mark} (few : length locals ≤ 16) where
  -- ---- a statement
  pub step_cut : {x : Maybe (ℕ × ℕ)} → Sees text m.at x → x ≡ None → States text file plan state locals log f m log (record { answer = Answer.Stuck Reason.Kind; bound = None })
  unfolding G.statement bind Onward behind
  step_cut h e = record { does = λ D w end bad lv le. M.none_any {why = bad} (rw (ended h e bad)); onward = tt; few = few; kept = refl }

  module _ {x : Maybe (ℕ × ℕ)} {b n : ℕ} where
    pub step_bad : Sees text m.at x → x ≡ Some (b, n) → (b ≡ 8 → ⊥) × (b ≡ 9 → ⊥) → States text file plan state locals log f m log (record { answer = Answer.Stuck Reason.Kind; bound = None })
    unfolding G.statement bind T.needs Onward behind
    step_bad h e p = record { does = λ D w end bad lv le. M.none_any {why = bad} (rw (found h e bad, no_statement b p.0 p.1)); onward = tt; few = few; kept = refl }

    module _ (h : Sees text m.at x) (e : x ≡ Some (b, n)) (st : DS.Statement) (is : IsStatement b (Ok st)) where
      module _ {log₁ : List ℕ} {r : Answer} (w : Does whole text file plan state locals log f (record { at = n; calls = m.calls }) log₁ r) where
        pub step_halts : M.Halts r → States text file plan state locals log f m log₁ (record { answer = r; bound = None })
        unfolding G.statement bind T.needs pick stated behind
        step_halts s = record {
          does = λ D u end bad lv le. rw (found h e bad, a_statement b st is) (M.fails _ (w.does D u end bad lv le) s (λ a t z. M.halt s (either D a (eqb b 8) z)));
          onward = M.no_mark (length text) m s;
          few = few;
          kept = w.kept;
        }
          where
            either : (D : Design) (a : Expr) (t : Bool) → E.evaluate D state f.me a f.pure (env_of locals) (events (take m.calls log)) ≡ M.halted s →
                stated D state locals f (pick t (Statement.let_of a) (Statement.do_of a)) (events (take m.calls log)) ≡ M.halted s
            either D a true z = rw z (M.stays s _)
            either D a false z = rw z (M.stays s _)

        module _ {v : DV.Value} {o : Mark} (y : r ≡ Answer.Value v o) where
          pub step_do : st ≡ DS.Statement.Do → States text file plan state locals log f m log₁ (record { answer = r; bound = None })
          unfolding G.statement bind T.needs pick stated and_then Agrees Onward behind
          step_do d =
              let z : b ≡ 9 = rw d at is in
              let k = follows h e in
              let j = onward w y in
              rw y (record {
                does = λ D u end bad lv le. rw (found h e bad, z) (M.then _ (w.does D u end bad lv le) y (λ a t. M.stop (rw t, refl)));
                onward = (omega (arith, k.0, j.0), j.1, j.2);
                few = few;
                kept = w.kept;
              })

          -- the 17th live local
          pub step_full : (st ≡ DS.Statement.Do → ⊥) → 16 ≤ length locals → States text file plan state locals log f m log₁ (record { answer = Answer.Stuck Reason.Locals; bound = None })
          unfolding G.statement bind T.needs pick stated and_then Agrees Onward behind bound test E.tested number_of env_of
          step_full ne l =
              let z : b ≡ 8 = a_let st is ne in
              let c : ltb (length (env_of locals)) 16 ≡ false = le-ltb (length (env_of locals)) 16 (omega (arith, length-map locals value)) in
              record {
                does = λ D u end bad lv le. rw (found h e bad, z) (M.then _ (w.does D u end bad lv le) y (λ a t. M.stop (rw (t, c))));
                onward = tt;
                few = few;
                kept = w.kept;
              }

          pub step_let : (st ≡ DS.Statement.Do → ⊥) → length locals < 16 →
              States text file plan state locals log f m log₁ (record { answer = Answer.Value DV.Value.Void o; bound = Some v })
          unfolding G.statement bind T.needs pick stated and_then Agrees Onward behind bound test E.tested value env_of
          step_let ne l =
              let z : b ≡ 8 = a_let st is ne in
              let c : ltb (length (env_of locals)) 16 ≡ true = lt-ltb (length (env_of locals)) 16 (omega (arith, length-map locals value)) in
              let k = follows h e in
              let j = onward w y in
              record {
                does = λ D u end bad lv le. rw (found h e bad, z) (M.then _ (w.does D u end bad lv le) y (λ a t. M.stop (rw (t, c, grows locals v), refl)));
                onward = (omega (arith, k.0, j.0), j.1, j.2);
                few = omega (arith, length-append locals (v ∷ []));
                kept = w.kept;
              }

-- ---- the walk of a block's statements

walk_then : (D : Design) (state : List ℤ) (locals : List DV.Value) (f : Place) (x : Statement) (ss : Stmts) (l : List Event) →
    E.walk D state f.me (E.enter_below D state f.me) (G.then x ss) f.pure (env_of locals) l
    ≡ and_then (stated D state locals f x l) (λ b l1. E.walk D state f.me (E.enter_below D state f.me) ss f.pure b.live l1)
unfolding G.then stated E.walk E.evaluate E.tested and_then
walk_then D state locals f (Statement.let_of e) ss l = sym (in_row (E.evaluate D state f.me e f.pure (env_of locals) l) _ _ ∙ after_test (E.evaluate D state f.me e f.pure (env_of locals) l))
  where
    k : Behind → List Event → Out Value
    k b l1 = E.walk D state f.me (E.enter_below D state f.me) ss f.pure b.live l1

    after_test : (o : Out Value) → and_then o (λ v l1. and_then (E.tested (bound (env_of locals) v) (λ more. Out.got (record { value = Value.void; live = more }) l1)) k)
        ≡ and_then o (λ v l1. E.tested (bound (env_of locals) v) (λ more. E.walk D state f.me (E.enter_below D state f.me) ss f.pure more l1))
    after_test (Out.got v l1) = test_row (bound (env_of locals) v) _ k
    after_test Out.unavailable = refl
    after_test (Out.stuck n) = refl
walk_then D state locals f (Statement.do_of e) ss l = sym (in_row (E.evaluate D state f.me e f.pure (env_of locals) l) _ _)

walk_last : (D : Design) (state : List ℤ) (locals : List DV.Value) (f : Place) (x : Statement) (l : List Event) →
    E.walk D state f.me (E.enter_below D state f.me) (G.last x) f.pure (env_of locals) l ≡ and_then (stated D state locals f x l) (λ b l1. Out.got b.value l1)
unfolding G.last stated E.walk E.evaluate and_then
walk_last D state locals f (Statement.let_of e) l = go (E.evaluate D state f.me e f.pure (env_of locals) l)
  where
    go : (o : Out Value) → and_then o (λ v l1. E.tested (bound (env_of locals) v) (λ more. Out.got Value.void l1))
        ≡ and_then (and_then o (λ v l1. E.tested (bound (env_of locals) v) (λ more. Out.got (record { value = Value.void; live = more }) l1))) (λ (b : Behind) l1. Out.got b.value l1)
    go (Out.got v l1) = sym (test_row (bound (env_of locals) v) _ _)
    go Out.unavailable = refl
    go (Out.stuck n) = refl
walk_last D state locals f (Statement.do_of e) l = go (E.evaluate D state f.me e f.pure (env_of locals) l)
  where
    go : (o : Out Value) → o ≡ and_then (and_then o (λ v l1. Out.got (record { value = v; live = env_of locals }) l1)) (λ (b : Behind) l1. Out.got b.value l1)
    go (Out.got v l1) = refl
    go Out.unavailable = refl
    go (Out.stuck n) = refl

-- k statements are done: what is left from `here` on, in the walk's own locals, of which n live, decides the whole
pub record Goes (more : ℕ) (text file plan : List ℕ) (state : List ℤ) (locals : List DV.Value) (log : List ℕ) (f : Place) (m : Mark) (own : List DV.Value) (log₁ : List ℕ) (n : ℕ) (here : Mark) (k : ℕ) : Type 0 where
  pub goes : (log₂ : List ℕ) (r : Answer) → Does (statements (more - k)) text file plan state (take n own) log₁ f here log₂ r → Does (statements more) text file plan state locals log f m log₂ r
  pub few : n ≤ 16
  pub recorded : here.calls ≤ 64
  pub since : m.at ≤ here.at
  pub kept : length log₁ ≡ length log

module _ {text file plan : List ℕ} {state : List ℤ} {locals : List DV.Value} {log : List ℕ} {f : Place} {m : Mark} {more : ℕ} where
  pub starts : {own : List DV.Value} → Ready log m → take (length locals) own ≡ locals → length locals ≤ 16 → Goes more text file plan state locals log f m own log (length locals) m 0
  starts r same few = record {
    goes = λ log₂ a h. let z : more - 0 ≡ more = omega arith in rw (z, same) at h;
    few = few;
    recorded = r.recorded;
    since = omega arith;
    kept = refl;
  }

  module _ {own : List DV.Value} {log₁ log₂ : List ℕ} {n : ℕ} {here : Mark} {j : ℕ} {s : Stated} (w : Goes more text file plan state locals log f m own log₁ n here j)
      (h : States text file plan state (take n own) log₁ f here log₂ s) where
    -- there is room for what a statement binds, which is written behind those that live
    pub walk_room : {v : DV.Value} → s.bound ≡ Some v → length own ≡ 16 → n < 16
    unfolding behind
    walk_room {v} b size =
        let few : length (take n own ++ (v ∷ [])) ≤ 16 = rw b at h.few in
        omega (arith, few, w.few, length-append (take n own) (v ∷ []), length-take-le n own (omega (arith, w.few, size)))

    pub walk_halts : j < more → M.Halts s.answer → Does (statements more) text file plan state locals log f m log₂ s.answer
    walk_halts q k = w.goes log₂ s.answer (record {
      does = λ D u end bad lv le.
          rw (statements_next end bad (G.expr end bad lv) (drop here.at text) q)
          (M.fails _ (h.does D u end bad lv le) k (λ x t z. M.any _ _ (λ ss o. M.halt k (rw (walk_then D state (take n own) f x ss (events (take here.calls log₁)), z) (M.stays k _)))));
      onward = M.no_mark (length text) here k;
      kept = h.kept;
    })

    walk_goes : {own₂ : List DV.Value} {n₂ : ℕ} {v : DV.Value} {o : Mark} → j < more → s.answer ≡ Answer.Value v o → take n₂ own₂ ≡ behind (take n own) s.bound → n₂ ≤ 16 →
        Goes more text file plan state locals log f m own₂ log₂ n₂ o (j + 1)
    unfolding Onward and_then
    walk_goes {o = o} q y grown few =
        let on = rw y at h.onward in
        record {
          goes = λ log₃ r e. let d = rw grown at e in w.goes log₃ r (record {
            does = λ D u end bad lv le.
                rw (statements_next end bad (G.expr end bad lv) (drop here.at text) q)
                (M.then _ (h.does D u end bad lv le) y (λ x z. M.wraps (G.then x) (d.does D u end bad lv le)
                (λ ss. rw (walk_then D state (take n own) f x ss (events (take here.calls log₁)), z) refl)));
            onward = farther (length text) here o r (omega (arith, on.0)) d.onward;
            kept = d.kept ∙ h.kept;
          });
          few = few;
          recorded = on.2;
          since = omega (arith, w.since, on.0);
          kept = h.kept ∙ w.kept;
        }

    pub walk_lets : {v u : DV.Value} {own₂ : List DV.Value} {n₂ : ℕ} {o : Mark} → j < more → s.answer ≡ Answer.Value v o → s.bound ≡ Some u → length own ≡ 16 → own₂ ≡ set own n u → n₂ ≡ n + 1 →
        Goes more text file plan state locals log f m own₂ log₂ n₂ o (j + 1)
    unfolding behind
    walk_lets {u = u} q y b size set_is one =
        let l = walk_room b size in
        walk_goes q y (rw (b, set_is, one) (take_more_set own n u (omega (arith, l, size)))) (omega (arith, l, one))

    pub walk_does : {v : DV.Value} {own₂ : List DV.Value} {n₂ : ℕ} {o : Mark} → j < more → s.answer ≡ Answer.Value v o → s.bound ≡ None → own₂ ≡ own → n₂ ≡ n →
        Goes more text file plan state locals log f m own₂ log₂ n₂ o (j + 1)
    unfolding behind
    walk_does q y b same as_many = walk_goes q y (rw (b, same, as_many) refl) (omega (arith, w.few, as_many))

    pub walk_done : more ≤ j → Does (statements more) text file plan state locals log f m log₂ s.answer
    unfolding G.statements
    walk_done q =
        let z : more - j ≡ 0 = omega arith in
        w.goes log₂ s.answer (record {
          does = λ D u end bad lv le. rw z (M.turns G.last (λ b. b.value) (h.does D u end bad lv le) (λ v. refl) (λ x. walk_last D state (take n own) f x (events (take here.calls log₁))));
          onward = h.onward;
          kept = h.kept;
        })

-- ---- a block

module _ {text file plan : List ℕ} {state : List ℤ} {locals : List DV.Value} {log : List ℕ} {f : Place} {m : Mark} where
  pub block_cut : {x : Maybe (ℕ × ℕ)} → Sees text m.at x → x ≡ None → Does (after Tag.block) text file plan state locals log f m log (Answer.Stuck Reason.Kind)
  unfolding G.after bind
  block_cut h e = unread M.fast (λ n bad lv. rw (ended h e bad))

  module _ {x : Maybe (ℕ × ℕ)} {b n k : ℕ} (h : Sees text m.at x) (e : x ≡ Some (b, n)) (c : k ≡ b) where
    pub block_low : k < 1 → Does (after Tag.block) text file plan state locals log f m log (Answer.Stuck Reason.Kind)
    unfolding G.after bind T.needs
    block_low q = unread M.fast (λ n bad lv. rw (found h e bad, lt-leb 1 b (omega arith)))

    pub block_high : 32 < k → Does (after Tag.block) text file plan state locals log f m log (Answer.Stuck Reason.Kind)
    unfolding G.after bind T.needs
    block_high q = unread M.fast (λ n bad lv. rw (found h e bad, le-leb 1 b (omega arith), lt-leb b 32 (omega arith)))

    pub block_done : {log₁ : List ℕ} {r : Answer} → 1 ≤ k → k ≤ 32 →
        Does (statements (k - 1)) text file plan state locals log f (record { at = n; calls = m.calls }) log₁ r → Does (after Tag.block) text file plan state locals log f m log₁ r
    unfolding G.after bind T.needs E.evaluate E.eval
    block_done {r = r} p q w =
        let i = follows h e in
        record {
          does = λ D u end bad lv le. rw (found h e bad, le-leb 1 b (omega arith), le-leb b 32 (omega arith), ← c) (M.wraps Expr.block (w.does D u end bad lv le) (λ ss. refl));
          onward = farther (length text) m (record { at = n; calls = m.calls }) r (omega (arith, i.0)) w.onward;
          kept = w.kept;
        }

-- ---- arguments

-- The arguments that are left decide the list: the values so far, which are the first of args, are of as many.
pub record Listing (count : ℕ) (text file plan : List ℕ) (state : List ℤ) (locals : List DV.Value) (log : List ℕ) (f : Place) (m : Mark) (args : List DV.Value) (log₁ : List ℕ) (here : Mark) (made : ℕ) : Type 0 where
  pub goes : (shown : DV.Value → List Value) (D : Design) → World file plan D → (end : ℕ) (bad : Refusal) (lv : ℕ) → lv ≤ 16 → (log₂ : List ℕ) (r : Answer) →
      Means shown (G.exprs end bad (G.expr end bad lv) (count - made) (drop here.at text))
      (λ es. and_then (E.evals D state f.me (E.enter_below D state f.me) es f.pure (env_of locals) (events (take here.calls log₁)))
      (λ vs l. Out.got (env_of (take made args) ++ vs) l)) text log₂ r →
      Means shown (G.exprs end bad (G.expr end bad lv) count (drop m.at text))
      (λ es. E.evals D state f.me (E.enter_below D state f.me) es f.pure (env_of locals) (events (take m.calls log))) text log₂ r
  pub recorded : here.calls ≤ 64
  pub size : length args ≡ 4
  pub since : m.at ≤ here.at
  pub inside : here.at ≤ length text
  pub kept : length log₁ ≡ length log

no_ahead : (end : ℕ) (m : Mark) {r : Answer} → M.Halts r → Along end m r
unfolding Along
no_ahead end m M.shut = tt
no_ahead end m M.fast = tt

module _ {text file plan : List ℕ} {state : List ℤ} {locals : List DV.Value} {log : List ℕ} {f : Place} {m : Mark} {count : ℕ} where
  pub list_starts : {args : List DV.Value} → Ready log m → m.at ≤ length text → length args ≡ 4 → Listing count text file plan state locals log f m args log m 0
  unfolding env_of and_then
  list_starts r q z = record {
    goes = λ shown D u end bad lv le log₂ a h.
        let n : count - 0 ≡ count = omega arith in
        M.same (λ es. bare (E.evals D state f.me (E.enter_below D state f.me) es f.pure (env_of locals) (events (take m.calls log)))) (rw n at h);
    recorded = r.recorded;
    size = z;
    since = omega arith;
    inside = q;
    kept = refl;
  }
    where
      bare : (o : Out (List Value)) → o ≡ and_then o (λ vs l. Out.got ([] ++ vs) l)
      bare (Out.got vs l) = refl
      bare Out.unavailable = refl
      bare (Out.stuck n) = refl

  module _ {args : List DV.Value} {log₁ log₂ : List ℕ} {here : Mark} {made : ℕ} {r : Answer} (w : Listing count text file plan state locals log f m args log₁ here made) where
    pub list_halts : made < count → Does whole text file plan state locals log₁ f here log₂ r → M.Halts r → Lists count text file plan state locals log f m args log₂ r
    unfolding E.evals E.evaluate
    list_halts q h k = record {
      does = λ D u end bad lv le. w.goes (λ v. env_of (take count args)) D u end bad lv le log₂ r
          (rw (exprs_next end bad (G.expr end bad lv) (drop here.at text) q)
          (M.fails _ (h.does D u end bad lv le) k (λ e t z. M.any _ _ (λ es o. M.halt k (rw (z, M.stays k _) (M.stays k _))))));
      along = no_ahead (length text) m k;
      kept = h.kept ∙ w.kept;
    }

    pub list_goes : {v : DV.Value} {n : Mark} {args₁ : List DV.Value} → made < count → count ≤ 4 → Does whole text file plan state locals log₁ f here log₂ r → r ≡ Answer.Value v n → args₁ ≡ set args made v →
        Listing count text file plan state locals log f m args₁ log₂ n (made + 1)
    unfolding E.evals E.evaluate and_then
    list_goes {v} {n} {args₁} q few h y b =
        let o = onward h y in
        record {
          goes = λ shown D u end bad lv le log₃ r₃ d. w.goes shown D u end bad lv le log₃ r₃
              (rw (exprs_next end bad (G.expr end bad lv) (drop here.at text) q)
              (M.then _ (h.does D u end bad lv le) y (λ e z. M.wraps (Exprs.more e) d (λ es.
              rw z (longer (E.evals D state f.me (E.enter_below D state f.me) es f.pure (env_of locals) (events (take n.calls log₂))))))));
          recorded = o.2;
          size = rw (b, length-set args made v) w.size;
          since = omega (arith, w.since, o.0);
          inside = o.1;
          kept = h.kept ∙ w.kept;
        }
      where
        longer : (o : Out (List Value)) →
            and_then (and_then o (λ vs l. Out.got (value v ∷ vs) l)) (λ vs l. Out.got (env_of (take made args) ++ vs) l) ≡ and_then o (λ vs l. Out.got (env_of (take (made + 1) args₁) ++ vs) l)
        longer (Out.got vs l) = rw (b, take_more_set args made v (omega (arith, w.size)), grows (take made args) v, append_assoc (env_of (take made args)) (value v ∷ []) vs) refl
        longer Out.unavailable = refl
        longer (Out.stuck n) = refl

  module _ {args : List DV.Value} {log₁ : List ℕ} {here : Mark} {made : ℕ} (w : Listing count text file plan state locals log f m args log₁ here made) where
    pub list_done : made ≤ count → count ≤ made → count ≤ 4 → Lists count text file plan state locals log f m args log₁ (Answer.Value DV.Value.Void here)
    unfolding G.exprs E.evals and_then Agrees Along
    list_done p q few =
        let z : count - made ≡ 0 = omega arith in
        let a : made ≡ count = omega arith in
        record {
          does = λ D u end bad lv le. w.goes (λ v. env_of (take count args)) D u end bad lv le log₁ (Answer.Value DV.Value.Void here) (rw (z, a) (M.stop (rw (append-nil (env_of (take count args))) refl, refl)));
          along = (w.since, w.inside, w.recorded);
          kept = w.kept;
        }
