-- What a fired rule writes, and what a log displays, event by event: one law for each way in which a function returns, and for each step of a loop. What is left of the
-- events decides the whole, and what was done of them is the definition's own on the events so far.
use Prim.Native.Nat.{ℕ, suc, ◌+◌, ◌/◌, ◌%◌, ◌≤◌, ◌<◌}
use mathlib.Core.Path.{◌≡◌, refl, sym, ap, ◌∙◌}
use mathlib.Core.Bool.{Bool, true, false, cond, not, ◌&&◌, ◌||◌}
use mathlib.Core.List.{List, [], ◌∷◌, ◌++◌, map-append, append-nil, append_assoc}
use native.Mathlib.Omega.{arith}
use native.Mathlib.Numerals.{add-one}
use lib.Dec.{ltb, eqb}
use lib.IntN.{ℤ, pos}
use lib.ListN.{length, take, drop, get_or, set, length-append, drop_of_length-le}
use lib.Seq.{drop-cons, set_out, take-suc, take_all}
use borrow.Author.Tests.{lt-ltb, eq-eqb, ne_eqb, eqb-true}
use Rattle.words.specs.Words.{number}
use Rattle.design.specs.Syntax.{Design}
use Rattle.meaning.specs.Values.{Event}
use Rattle.meaning.specs.Lookup.{Access, access, is_write, is_register, with_word, register_place}
use Rattle.design.specs.Plan.{Plans}
use Rattle.design.specs.Lookups.{Ports}
use Rattle.rule.specs.Log.{event_of, events}
use Rattle.meaning.specs.Conflict.{Fate, any}
use Rattle.conflict.proofs.Looking.{far_instance, register_by}
use Rattle.meaning.specs.Clock.{perform, displayed, is_fired}
use Rattle.clock.specs.Post.{Writes, Performs, Shows, Displays}
use Rattle.clock.proofs.Over.{over_none, longer, over_one}

-- ---- one write

write_parity : (m : ℕ) → is_write (access m) ≡ not (eqb (m % 2) 0)
unfolding is_write access
write_parity m = go (eqb (m % 2) 0)
  where
    go : (b : Bool) → is_write (cond b (Access.read (m / 2)) (Access.write (m / 2))) ≡ not b
    go true = refl
    go false = refl

and_false : (b : Bool) → b && false ≡ false
and_false true = refl
and_false false = refl

-- whether an event is a register's write, which no display is
module _ (D : Design) (e : ℕ) (s : List ℤ) where
  one_write : (b : Bool) → is_register D (e % 256) && is_write (access (e / 256 % 256)) ≡ b → (e % 256 ≡ 255 → b ≡ false) →
      perform D (event_of e ∷ []) s ≡ cond b (set s (e % 256) (number (e / 65536 % 4294967296))) s
  unfolding event_of perform with_word register_place
  one_write b h d = go (eqb (e % 256) 255) refl
    where
      go : (t : Bool) → eqb (e % 256) 255 ≡ t → perform D (event_of e ∷ []) s ≡ cond b (set s (e % 256) (number (e / 65536 % 4294967296))) s
      go true t = rw (t, d (eqb-true (e % 256) 255 t))
      go false t = rw (t, h)

  no_write : is_register D (e % 256) && is_write (access (e / 256 % 256)) ≡ false → perform D (event_of e ∷ []) s ≡ s
  no_write h = one_write false h (λ _. refl)

module _ {plan : List ℕ} {e : ℕ} {s : List ℤ} where
  pub write_even : {m : ℕ} → m ≡ e / 256 % 256 → m % 2 ≡ 0 → Writes plan e s s
  write_even q h = record {
    writes = λ D p.
        let z : e / 256 % 256 % 2 ≡ 0 = ap (λ n. n % 2) (sym q) ∙ h in
        sym (no_write D e s (rw (write_parity (e / 256 % 256), eq-eqb (e / 256 % 256 % 2) 0 z) (and_false (is_register D (e % 256)))));
  }

  module _ {i : ℕ} (at : i ≡ e % 256) where
    pub write_none : {r : ℕ} → Ports plan i r → r ≡ 0 → Writes plan e s s
    write_none h z = record { writes = λ D p. sym (no_write D e s (rw (ap (is_register D) (sym at) ∙ register_by p h ∙ ap (ltb 0) z))) }

    pub write_past : length s ≤ i → Writes plan e s s
    write_past h = record { writes = λ D p. go D (is_register D (e % 256) && is_write (access (e / 256 % 256))) refl p }
      where
        nothing : (D : Design) (b : Bool) → s ≡ cond b (set s (e % 256) (number (e / 65536 % 4294967296))) s
        nothing D true = sym (set_out s (e % 256) _ (omega arith))
        nothing D false = refl

        go : (D : Design) (b : Bool) → is_register D (e % 256) && is_write (access (e / 256 % 256)) ≡ b → Plans plan D → s ≡ perform D (event_of e ∷ []) s
        go D b t p = nothing D b ∙ sym (one_write D e s b t (λ z. sym t ∙ rw (far_instance p (e % 256) (omega arith))))

    pub write_done : {m r w : ℕ} {s₁ : List ℤ} → m ≡ e / 256 % 256 → (m % 2 ≡ 0 → ⊥) → Ports plan i r → (r ≡ 0 → ⊥) → w ≡ e / 65536 % 4294967296 →
        s₁ ≡ set s i (number w) → Writes plan e s s₁
    write_done {m} {r} {w} mt odd h ne v q = record {
      writes = λ D p.
          let reg : is_register D (e % 256) ≡ true = ap (is_register D) (sym at) ∙ register_by p h ∙ lt-ltb 0 r (omega (arith, ne)) in
          let o : eqb (e / 256 % 256 % 2) 0 ≡ false = ne_eqb (e / 256 % 256 % 2) 0 (λ z. odd (ap (λ n. n % 2) mt ∙ z)) in
          q ∙ ap (λ k. set s k (number w)) at ∙ ap (λ n. set s (e % 256) (number n)) v
          ∙ sym (one_write D e s true (rw (reg, write_parity (e / 256 % 256), o)) (λ z. sym reg ∙ far_instance p (e % 256) (omega arith)));
    }

-- ---- the writes of a rule

perform_one : (D : Design) (x : Event) (es : List Event) (s : List ℤ) → perform D (x ∷ es) s ≡ perform D es (perform D (x ∷ []) s)
unfolding perform
perform_one D (Event.call i m z) es s = refl
perform_one D (Event.display z) es s = refl

-- what is left to write from event k on
pub record Writing (plan mine : List ℕ) (s : List ℤ) (k : ℕ) (s₁ : List ℤ) : Type 0 where
  pub left : (D : Design) → Plans plan D → perform D (events mine) s ≡ perform D (events (drop k mine)) s₁

module _ {plan mine : List ℕ} {s : List ℤ} where
  module _ {k : ℕ} {s₁ : List ℤ} where
    pub writing_on : {s₂ : List ℤ} → Writing plan mine s k s₁ → k < length mine → Writes plan (get_or mine k 0) s₁ s₂ → Writing plan mine s (k + 1) s₂
    writing_on h l w = record {
      left = λ D v. h.left D v ∙ rw (add-one k, drop-cons mine k 0 l, w.writes D v) (perform_one D (event_of (get_or mine k 0)) (events (drop (suc k) mine)) s₁);
    }

    pub writing_done : Writing plan mine s k s₁ → length mine ≤ k → Performs plan mine s s₁
    unfolding perform
    writing_done h l = record { performs = λ D v. sym (h.left D v ∙ rw (drop_of_length-le mine {i = k} l)) }

-- ---- the displays

pub displayed_both : (es fs : List Event) → displayed (es ++ fs) ≡ displayed es ++ displayed fs
unfolding displayed
displayed_both [] fs = refl
displayed_both (Event.call i m z ∷ es) fs = displayed_both es fs
displayed_both (Event.display z ∷ es) fs = ap (λ l. z ∷ l) (displayed_both es fs)

module _ {e n : ℕ} {d : List ℤ} {t : Bool} (is : t ≡ eqb (e % 256) 255) where
  pub show_none : t ≡ false → Shows (e ∷ []) d n d n
  unfolding event_of displayed
  show_none f = record {
    shows = λ made old p q. p ∙ rw (sym is ∙ f, append-nil made);
    counts = rw (sym is ∙ f) (omega arith);
    most = omega arith;
  }

  pub show_one : {w : ℕ} {d₁ : List ℤ} → t ≡ true → n < length d → w ≡ e / 65536 % 4294967296 → d₁ ≡ set d n (number w) → Shows (e ∷ []) d n d₁ (n + 1)
  unfolding event_of displayed
  show_one h l v q = record {
    shows = λ made old p c. q ∙ rw (v, sym is ∙ h, p, c) (over_one made old _ (pos 0) (longer made old (omega (arith, ap length p))));
    counts = rw (sym is ∙ h);
    most = omega arith;
  }

-- those of the first k events
pub record Showing (mine : List ℕ) (d : List ℤ) (n k : ℕ) (d₁ : List ℤ) (m : ℕ) : Type 0 where
  pub so_far : Shows (take k mine) d n d₁ m

-- those of some events, and then those of some more
displayed_more : (mine more : List ℕ) → displayed (events (mine ++ more)) ≡ displayed (events mine) ++ displayed (events more)
displayed_more mine more = rw (map-append event_of mine more) (displayed_both (events mine) (events more))

shows_both : {mine more : List ℕ} {d d₁ d₂ : List ℤ} {n m r : ℕ} → Shows mine d n d₁ m → Shows more d₁ m d₂ r → Shows (mine ++ more) d n d₂ r
shows_both {mine} {more} h w =
    let e = displayed_more mine more in
    record {
      shows = λ made old p q.
          w.shows (made ++ displayed (events mine)) old (h.shows made old p q) (h.counts ∙ rw (length-append made (displayed (events mine)), q))
          ∙ rw (e, append_assoc made (displayed (events mine)) (displayed (events more)));
      counts = w.counts ∙ rw (e, length-append (displayed (events mine)) (displayed (events more)), h.counts) (omega arith);
      most = omega (arith, w.most, h.most, length-append mine more);
    }

module _ {mine : List ℕ} {d : List ℤ} where
  pub shows_start : Showing mine d 0 0 d 0
  unfolding displayed
  shows_start = record { so_far = record { shows = λ made old p q. p ∙ rw (append-nil made); counts = omega arith; most = omega arith } }

  module _ {k m : ℕ} {d₁ : List ℤ} where
    pub shows_on : {d₂ : List ℤ} {r : ℕ} → Showing mine d 0 k d₁ m → k < length mine → Shows (get_or mine k 0 ∷ []) d₁ m d₂ r → Showing mine d 0 (k + 1) d₂ r
    shows_on h l w = record { so_far = rw (add-one k, take-suc mine k 0 l) (shows_both h.so_far w) }

    pub shows_done : Showing mine d 0 k d₁ m → length mine ≤ k → Displays mine d d₁ m
    shows_done h l =
        let w : Shows mine d 0 d₁ m = rw (take_all k mine l) at h.so_far in
        let z : 0 + length (displayed (events mine)) ≡ length (displayed (events mine)) = omega arith in
        record { displays_are = w.shows [] d (sym (over_none d)) refl; counts = w.counts ∙ z; most = omega (arith, w.most) }

pub fired_last : (fs : List Fate) → any is_fired (fs ++ (Fate.fired ∷ [])) ≡ true
unfolding any is_fired
fired_last [] = refl
fired_last (f ∷ fs) = rw (fired_last fs) (go (is_fired f))
  where
    go : (b : Bool) → b || true ≡ true
    go true = refl
    go false = refl
