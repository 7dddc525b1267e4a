-- A block's statements: one law for each way in which their function returns. Its loop keeps `Left`: what is left, from where the loop stands
-- and with the locals that are live there, decides the whole.
use Prim.Native.Nat.{ℕ, zero, suc, ◌+◌, ◌-◌, ◌≤◌, ◌<◌}
use mathlib.Core.Path.{◌≡◌, refl, ap, ◌∙◌}
use mathlib.Core.Bool.{Bool, true, false, ◌&&◌}
use mathlib.Core.List.{List, [], ◌∷◌, ◌++◌, map}
use native.Mathlib.Numerals.{add-one}
use native.Mathlib.Omega.{arith}
use lib.Dec.{eqb, ltb, leb}
use lib.ListN.{length, take, drop, set, length-append, length-drop, length-set}
use Rattle.std.proofs.Math.Seq.{take-append_seam}
use borrow.Author.Tests.{lt-ltb, le-ltb, ne_eqb, eqb-true, eqb-false, leb-true}
use Rattle.std.specs.Prelude.{Result, Ok, Err}
use Rattle.design.specs.Syntax.{Expr, Design}
use Rattle.design.specs.Take.{Refusal, Read, got, refused, bind, needs, pick}
use Rattle.design.specs.Grammar as G
use Rattle.design.specs.Grammar.{Statement, let_of, do_of}
use Rattle.design.specs.declared.kinds.Kind as DK
use denote.Enum.Bare.{sameb}
use Rattle.design.specs.contracts.kinds.Statement.{the_type}
use Rattle.design.specs.declared.kinds.Statement as DS
use Rattle.design.specs.Kinds.{kind, IsStatement}
use Rattle.rule.specs.declared.Reason.{Reason}
use Rattle.meaning.specs.Naming.{if_passed, test}
use Rattle.meaning.specs.Naming as N
use Rattle.design.specs.Plan.{World}
use Rattle.rule.specs.Answers.{number_of}
use Rattle.meaning.specs.Kinds as K
use Rattle.checker.specs.Walks.{Place, went, live_of, whole, statements, Means, Onward, Walks, Reads}
use Rattle.checker.proofs.Parts as M

-- ---- one statement

module _ {b : ℕ} {t : Bool} where
  pub is_let : (s : DS.Statement) → IsStatement b (Ok s) → t ≡ sameb the_type s DS.Statement.Let → t ≡ true → b ≡ 8
  is_let DS.Statement.Let h v e = h
  is_let DS.Statement.Do h v e = cc

  pub is_do : (s : DS.Statement) → IsStatement b (Ok s) → t ≡ sameb the_type s DS.Statement.Let → t ≡ false → b ≡ 8 → ⊥
  is_do DS.Statement.Let h v e q = cc
  is_do DS.Statement.Do h v e q = omega arith

-- what is put around a part, and what is needed of it, can wait
join : {A B C : Type 0} (x : Read A) (c : A → B) (k : B → List ℕ → Read C) → bind (bind x (λ e q. got (c e) q)) k ≡ bind x (λ e q. k (c e) q)
unfolding bind
join (got a s) c k = refl
join (refused w) c k = refl

waits : {A B : Type 0} (t : Bool) (why : Refusal) (x : Read A) (k : A → List ℕ → Read B) → bind (needs t why x) k ≡ needs t why (bind x k)
unfolding bind needs
waits true why x k = refl
waits false why x k = refl

neither : (b : ℕ) → (b ≡ 8 → ⊥) → (b ≡ 9 → ⊥) → (leb 8 b && leb b 9) ≡ false
neither b p q = go (leb 8 b) (leb b 9) refl refl
  where
    go : (s t : Bool) → leb 8 b ≡ s → leb b 9 ≡ t → (s && t) ≡ false
    go true true x y = absurd (let i = leb-true 8 b x in let j = leb-true b 9 y in p (omega (arith, q)))
    go true false x y = refl
    go false t x y = refl

module _ {text : List ℕ} {here : ℕ} (end : ℕ) (bad : Refusal) (E : List ℕ → Read Expr) {A : Type 0} (k : Statement → List ℕ → Read A) where
  cut_step : {e : Reason} → Reads text here (Err e) → bind (G.statement end bad E (drop here text)) k ≡ refused bad
  unfolding G.statement bind
  cut_step h = rw (M.ended h bad)

  module _ {b n : ℕ} (h : Reads text here (Ok (b, n))) where
    no_step : (b ≡ 8 → ⊥) → (b ≡ 9 → ⊥) → bind (G.statement end bad E (drop here text)) k ≡ refused bad
    unfolding G.statement bind needs
    no_step p q = rw (M.found h bad, neither b p q)

    let_step : b ≡ 8 → bind (G.statement end bad E (drop here text)) k ≡ bind (E (drop n text)) (λ a q. k (let_of a) q)
    unfolding G.statement bind needs pick
    let_step z = rw (M.found h bad, z) (join (E (drop n text)) let_of k)

    do_step : (b ≡ 8 → ⊥) → bind (G.statement end bad E (drop here text)) k ≡ needs (leb 8 b && leb b 9) bad (bind (E (drop n text)) (λ a q. k (do_of a) q))
    unfolding G.statement bind pick
    do_step z = rw (M.found h bad, ne_eqb b 8 z) (waits (leb 8 b && leb b 9) bad _ k ∙ ap (needs (leb 8 b && leb b 9) bad) (join (E (drop n text)) do_of k))

-- ---- the locals

live_length : (locals : List DK.Kind) (live : ℕ) → live ≤ length locals → length (map kind (take live locals)) ≡ live
live_length [] zero h = refl
live_length [] (suc live) h = absurd (omega arith)
live_length (a ∷ s) zero h = refl
live_length (a ∷ s) (suc live) h = ap suc (live_length s live (omega arith))

pub one_more : (locals : List DK.Kind) (live : ℕ) (k : DK.Kind) → live < length locals →
    map kind (take (suc live) (set locals live k)) ≡ map kind (take live locals) ++ (kind k ∷ [])
one_more [] live k h = absurd (omega arith)
one_more (a ∷ s) zero k h = refl
one_more (a ∷ s) (suc live) k h = ap (λ t. kind a ∷ t) (one_more s live k (omega arith))

-- the place of a statement, which is lent so many of the block's own locals
abbrev pub holding : Place → ℕ → List DK.Kind → Place
holding f live locals = record { me = f.me; pure = f.pure; locals = take live locals }

-- ---- the statements that are left

record Rest (more : ℕ) (text file plan : List ℕ) (f : Place) (at left live : ℕ) (locals : List DK.Kind) (here : ℕ) : Type 0 where
  decides : (r : Result (DK.Kind × ℕ) Reason) → Walks (statements left) text file plan (holding f live locals) here r →
      Walks (statements more) text file plan f at r
  since : at ≤ here
  few : live ≤ 16
  full : length locals ≡ 16

module _ {more : ℕ} {text file plan : List ℕ} {f : Place} {at left live : ℕ} {locals : List DK.Kind} {here : ℕ}
    (l : Rest more text file plan f at left live locals here) where
  abbrev Part : Design → (end : ℕ) (bad : Refusal) (levels left : ℕ) → Result (DK.Kind × ℕ) Reason → Type 0
  Part D end bad levels left r =
      Means (G.statements end bad (G.expr end bad levels) left (drop here text)) (λ ss. K.last_kind D f.me ss f.pure (map kind (take live locals)))
      text (went r)

  cut : {e : Reason} → Reads text here (Err e) → Walks (statements more) text file plan f at (Err e)
  unfolding G.statements Onward went live_of
  cut {e} h = l.decides _ (record { does = λ D u end bad levels. by D end bad levels left; onward = tt })
    where
      by : (D : Design) (end : ℕ) (bad : Refusal) (levels left : ℕ) → Part D end bad levels left (Err e)
      by D end bad levels zero = M.none {why = bad} (cut_step end bad (G.expr end bad levels) _ h)
      by D end bad levels (suc left) = M.none {why = bad} (cut_step end bad (G.expr end bad levels) _ h)

  module _ {b n : ℕ} (h : Reads text here (Ok (b, n))) where
    other : (b ≡ 8 → ⊥) → (b ≡ 9 → ⊥) → Walks (statements more) text file plan f at (Err Reason.Kind)
    unfolding G.statements Onward went live_of
    other p q = l.decides _ (record { does = λ D u end bad levels. by D end bad levels left; onward = tt })
      where
        by : (D : Design) (end : ℕ) (bad : Refusal) (levels left : ℕ) → Part D end bad levels left (Err Reason.Kind)
        by D end bad levels zero = M.none {why = bad} (no_step end bad (G.expr end bad levels) _ h p q)
        by D end bad levels (suc left) = M.none {why = bad} (no_step end bad (G.expr end bad levels) _ h p q)

    value_no : {why : Reason} → Walks whole text file plan (holding f live locals) n (Err why) → Walks (statements more) text file plan f at (Err why)
    unfolding G.statements G.last G.then K.last_kind if_passed Onward went live_of
    value_no {why} w = l.decides _ (record { does = λ D u end bad levels. by D u end bad levels left (eqb b 8) refl; onward = tt })
      where
        by : (D : Design) → World file plan D → (end : ℕ) (bad : Refusal) (levels left : ℕ) (t : Bool) → eqb b 8 ≡ t → Part D end bad levels left (Err why)
        by D u end bad levels zero true t =
            rw (let_step end bad (G.expr end bad levels) _ h (eqb-true b 8 t)) (M.fails _ (w.does D u end bad levels) refl (λ a z p q. M.ends refl (rw q)))
        by D u end bad levels zero false t =
            rw (do_step end bad (G.expr end bad levels) _ h (eqb-false b 8 t))
            (M.tried _ bad (M.fails _ (w.does D u end bad levels) refl (λ a z p q. M.ends refl (rw q))))
        by D u end bad levels (suc left) true t =
            rw (let_step end bad (G.expr end bad levels) _ h (eqb-true b 8 t))
            (M.fails _ (w.does D u end bad levels) refl (λ a z p q. M.any _ _ (λ ss i j. M.ends refl (rw q))))
        by D u end bad levels (suc left) false t =
            rw (do_step end bad (G.expr end bad levels) _ h (eqb-false b 8 t))
            (M.tried _ bad (M.fails _ (w.does D u end bad levels) refl (λ a z p q. M.any _ _ (λ ss i j. M.ends refl (rw q)))))

    module _ {k : DK.Kind} {m : ℕ} (w : Walks whole text file plan (holding f live locals) n (Ok (k, m))) where
      last_do : left ≡ 0 → (b ≡ 8 → ⊥) → Walks (statements more) text file plan f at (Ok (k, m))
      unfolding G.statements G.last K.last_kind
      last_do z ne = l.decides _ (record {
        does = λ D u end bad levels. rw (z, do_step end bad (G.expr end bad levels) _ h ne) (M.tried _ bad (M.wraps _ (w.does D u end bad levels) (λ a. refl)));
        onward = M.farther (went (Ok (k, m))) (omega (arith, (M.follows h).0)) w.onward;
      })

      again_do : (left ≡ 0 → ⊥) → (b ≡ 8 → ⊥) → Rest more text file plan f at (left - 1) live locals m
      unfolding G.statements G.then K.last_kind if_passed went live_of
      again_do nz ne =
          let z : left ≡ suc (left - 1) = omega arith in
          let o = M.goes w in
          record {
            decides = λ r₁ v. l.decides r₁ (record {
              does = λ D u end bad levels.
                  rw (z, do_step end bad (G.expr end bad levels) _ h ne)
                  (M.tried _ bad (M.then _ (w.does D u end bad levels) refl (λ a p q. M.wraps _ (v.does D u end bad levels) (λ ss. rw q))));
              onward = M.farther (went r₁) (omega (arith, (M.follows h).0)) v.onward;
            });
            since = omega (arith, l.since, (M.follows h).0);
            few = l.few;
            full = l.full;
          }

      module _ (is-let : b ≡ 8) where
        too_many : 16 ≤ live → Walks (statements more) text file plan f at (Err Reason.Locals)
        unfolding G.statements G.last G.then K.last_kind if_passed N.bound test Onward went live_of number_of
        too_many g = l.decides _ (record { does = λ D u end bad levels. by D u end bad levels left; onward = tt })
          where
            many : ltb (length (map kind (take live locals))) 16 ≡ false
            many = rw (live_length locals live (omega (arith, l.few, l.full))) (le-ltb live 16 g)

            by : (D : Design) → World file plan D → (end : ℕ) (bad : Refusal) (levels left : ℕ) → Part D end bad levels left (Err Reason.Locals)
            by D u end bad levels zero =
                rw (let_step end bad (G.expr end bad levels) _ h is-let) (M.then _ (w.does D u end bad levels) refl (λ a p q. M.ends refl (rw (q, many))))
            by D u end bad levels (suc left) =
                rw (let_step end bad (G.expr end bad levels) _ h is-let)
                (M.then _ (w.does D u end bad levels) refl (λ a p q. M.any _ _ (λ ss i j. M.ends refl (rw (q, many)))))

        few_live : live < 16 → ltb (length (map kind (take live locals))) 16 ≡ true
        few_live g = rw (live_length locals live (omega (arith, l.few, l.full))) (lt-ltb live 16 g)

        last_let : left ≡ 0 → live < 16 → Walks (statements more) text file plan f at (Ok (DK.Kind.Void, m))
        unfolding G.statements G.last K.last_kind if_passed N.bound test Onward went live_of kind
        last_let z g = l.decides _ (record {
          does = λ D u end bad levels.
              rw (z, let_step end bad (G.expr end bad levels) _ h is-let) (M.then _ (w.does D u end bad levels) refl (λ a p q. M.comes (rw (q, few_live g))));
          onward = omega (arith, (M.follows h).0, M.goes w);
        })

        again_let : (left ≡ 0 → ⊥) → live < 16 → Rest more text file plan f at (left - 1) (live + 1) (set locals live k) m
        unfolding G.statements G.then K.last_kind if_passed N.bound test went live_of
        again_let nz g =
            let z : left ≡ suc (left - 1) = omega arith in
            let o = M.goes w in
            let one = one_more locals live k (omega (arith, l.full)) in
            record {
              decides = λ r₁ v. l.decides r₁ (record {
                does = λ D u end bad levels.
                    rw (z, let_step end bad (G.expr end bad levels) _ h is-let)
                    (M.then _ (w.does D u end bad levels) refl (λ a p q. M.wraps _ (v.does D u end bad levels) (λ ss. rw (q, few_live g, add-one live, one))));
                onward = M.farther (went r₁) (omega (arith, (M.follows h).0)) v.onward;
              });
              since = omega (arith, l.since, (M.follows h).0);
              few = omega arith;
              full = length-set locals live k ∙ l.full;
            }

-- ---- the loop: while statements are left they decide the whole, and behind the last the whole has its kind

pub record Left (count : ℕ) (text file plan : List ℕ) (f : Place) (at i live : ℕ) (locals : List DK.Kind) (k : DK.Kind) (here : ℕ) : Type 0 where
  rest : i < count → Rest (count - 1) text file plan f at (count - 1 - i) live locals here
  over : count ≤ i → Walks (statements (count - 1)) text file plan f at (Ok (k, here))

module _ {count : ℕ} {text file plan : List ℕ} {f : Place} {at : ℕ} where
  -- the block's own locals begin with a copy of those that it is lent
  pub starts : {k : DK.Kind} {copied : List DK.Kind} (room : List DK.Kind) → copied ≡ f.locals → length f.locals ≤ 16 → length room ≡ 16 → 0 < count →
      Left count text file plan f at 0 (length f.locals) (copied ++ drop (length f.locals) room) k at
  starts room same few full p = rw same (record {
    rest = λ q.
        let z : count - 1 - 0 ≡ count - 1 = omega arith in
        rw z (record {
          decides = λ r w. rw (take-append_seam f.locals (drop (length f.locals) room)) at w;
          since = omega arith;
          few = few;
          full = length-append f.locals (drop (length f.locals) room) ∙ rw (length-drop (length f.locals) room, full) (omega arith);
        });
    over = λ q. absurd (omega arith);
  })

  module _ {i live : ℕ} {locals : List DK.Kind} {k : DK.Kind} {here : ℕ} (l : Left count text file plan f at i live locals k here) where
    pub done : count ≤ i → Walks (statements (count - 1)) text file plan f at (Ok (k, here))
    done = l.over

    module _ (q : i < count) where
      pub since : at ≤ here
      since = (l.rest q).since

      pub few : live ≤ 16
      few = (l.rest q).few

      pub no_statement : {e : Reason} → Reads text here (Err e) → Walks (statements (count - 1)) text file plan f at (Err e)
      no_statement h = cut (l.rest q) h

      module _ {b n : ℕ} (h : Reads text here (Ok (b, n))) where
        pub no_such : (b ≡ 8 → ⊥) → (b ≡ 9 → ⊥) → Walks (statements (count - 1)) text file plan f at (Err Reason.Kind)
        no_such x y = other (l.rest q) h x y

        pub no_kind : {why : Reason} → Walks whole text file plan (holding f live locals) n (Err why) → Walks (statements (count - 1)) text file plan f at (Err why)
        no_kind w = value_no (l.rest q) h w

        module _ {v : DK.Kind} {m : ℕ} (w : Walks whole text file plan (holding f live locals) n (Ok (v, m))) where
          pub no_room : b ≡ 8 → 16 ≤ live → Walks (statements (count - 1)) text file plan f at (Err Reason.Locals)
          no_room e g = too_many (l.rest q) h w e g

          -- the statements behind the next
          further : {live₁ : ℕ} {locals₁ : List DK.Kind} → Rest (count - 1) text file plan f at (count - 1 - i - 1) live₁ locals₁ m →
              Rest (count - 1) text file plan f at (count - 1 - (i + 1)) live₁ locals₁ m
          further r = let z : count - 1 - (i + 1) ≡ count - 1 - i - 1 = omega arith in rw z r

          pub after_do : {live₁ : ℕ} {locals₁ : List DK.Kind} {k₁ : DK.Kind} → (b ≡ 8 → ⊥) → live₁ ≡ live → locals₁ ≡ locals → k₁ ≡ v →
              Left count text file plan f at (i + 1) live₁ locals₁ k₁ m
          after_do ne x y z = rw (x, y, z) (record {
            rest = λ p. further (again_do (l.rest q) h w (λ e. omega arith) ne);
            over = λ p. last_do (l.rest q) h w (omega arith) ne;
          })

          pub after_let : {live₁ : ℕ} {locals₁ : List DK.Kind} {k₁ : DK.Kind} → b ≡ 8 → live < 16 → live₁ ≡ live + 1 → locals₁ ≡ set locals live v →
              k₁ ≡ DK.Kind.Void → Left count text file plan f at (i + 1) live₁ locals₁ k₁ m
          after_let e g x y z = rw (x, y, z) (record {
            rest = λ p. further (again_let (l.rest q) h w e (λ e. omega arith) g);
            over = λ p. last_let (l.rest q) h w e (omega arith) g;
          })
