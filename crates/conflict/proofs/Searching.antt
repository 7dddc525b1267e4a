-- The searches: what is left to try, from where a loop stands, decides the whole. One law for each step of a loop and each way out.
use Prim.Native.Nat.{ℕ, zero, suc, ◌+◌, ◌/◌, ◌%◌, ◌≤◌, ◌<◌}
use mathlib.Core.Path.{◌≡◌, refl, sym, ◌∙◌}
use mathlib.Core.Bool.{Bool, true, false, cond, ◌||◌}
use mathlib.Core.List.{List, [], ◌∷◌}
use mathlib.Core.Option.{some}
use native.Mathlib.Omega.{arith}
use native.Mathlib.Numerals.{add-one}
use lib.Dec.{eqb}
use lib.IntN.{ℤ}
use lib.ListN.{length, drop, get_or, get_elem?, drop_of_length-le}
use lib.Seq.{drop-cons}
use borrow.Author.Tests.{eqb-true}
use Rattle.design.specs.Syntax.{Design}
use Rattle.design.specs.Plan.{Plans}
use Rattle.meaning.specs.Values.{Event}
use Rattle.meaning.specs.Lookup.{is_register}
use Rattle.rule.specs.Log.{event_of, events, Ported}
use Rattle.conflict.specs.declared.Clash.{Clash}
use Rattle.conflict.specs.declared.Fate.{Fate}
use Rattle.meaning.specs.Conflict as C
use Rattle.meaning.specs.Conflict.{any, any_two, any_pair}
use Rattle.conflict.specs.Post.{clash_of, IsPort, Clashes, Within, Against}
use Rattle.conflict.specs.Promises.{fate_of, Judges}
use Rattle.conflict.proofs.Looking.{never, far_instance}

-- ---- an event of a list

event_at : (log : List ℕ) (a : ℕ) → a < length log → get_elem? (events log) a ≡ some (event_of (get_or log a 0))
event_at [] a h = absurd (omega arith)
event_at (x ∷ log) zero h = refl
event_at (x ∷ log) (suc a) h = event_at log a (omega arith)

is_port : {plan : List ℕ} {D : Design} → Plans plan D → (log : List ℕ) → Ported D (events log) → (a : ℕ) → a < length log → IsPort D (get_or log a 0)
unfolding event_of
is_port {D = D} w log h a l = record { port = λ r. go (eqb (get_or log a 0 % 256) 255) refl r }
  where
    call : (i m : ℕ) (b : Bool) (z : ℤ) → b ≡ false → get_elem? (events log) a ≡ some (cond b (Event.display z) (Event.call i m z)) →
        is_register D i ≡ true → m < 8
    call i m b z t e r = h.ported a _ _ z (rw t at e) r

    go : (b : Bool) → eqb (get_or log a 0 % 256) 255 ≡ b → is_register D (get_or log a 0 % 256) ≡ true → get_or log a 0 / 256 % 256 < 8
    go true t r = absurd (never r (far_instance w (get_or log a 0 % 256) (omega (arith, eqb-true (get_or log a 0 % 256) 255 t))))
    go false t r = call _ _ (eqb (get_or log a 0 % 256) 255) _ t (event_at log a l) r

-- ---- one event with those from a place on

module _ (f : Event → Event → Bool) (x : Event) (log : List ℕ) (b : ℕ) where
  here : b < length log → any (f x) (events (drop b log)) ≡ f x (event_of (get_or log b 0)) || any (f x) (events (drop (b + 1) log))
  unfolding any
  here h = rw (add-one b, drop-cons log b 0 h)

  none_left : length log ≤ b → any (f x) (events (drop b log)) ≡ false
  unfolding any
  none_left h = rw (drop_of_length-le log {i = b} h)

-- where a turn found a clash, went on, or ended without one
or_true : (u r : Bool) {w t : Bool} → t ≡ true → w ≡ (t || u) || r → w ≡ true
or_true u r h e = rw h at e

or_false : (u r : Bool) {w t : Bool} → t ≡ false → w ≡ (t || u) || r → w ≡ u || r
or_false u r h e = rw h at e

-- ---- two events of one rule

module _ (clash : Clash) (plan mine : List ℕ) where
  -- from event a on, any two
  pub record LeftTwo (a : ℕ) : Type 0 where
    pub left : (D : Design) → Plans plan D → Ported D (events mine) →
        any_two (clash_of clash D) (events mine) ≡ any_two (clash_of clash D) (events (drop a mine))

  -- event a with those from b on, and any two behind a
  pub record LeftOne (a b : ℕ) : Type 0 where
    pub left : (D : Design) → Plans plan D → Ported D (events mine) → any_two (clash_of clash D) (events mine) ≡
        any (clash_of clash D (event_of (get_or mine a 0))) (events (drop b mine)) || any_two (clash_of clash D) (events (drop (a + 1) mine))

module _ {clash : Clash} {plan mine : List ℕ} where
  pub two_start : LeftTwo clash plan mine 0
  two_start = record { left = λ D w p. refl }

  module _ {a : ℕ} where
    pub two_turn : LeftTwo clash plan mine a → a < length mine → LeftOne clash plan mine a (a + 1)
    unfolding any_two
    two_turn h l = record { left = λ D w p. h.left D w p ∙ rw (add-one a, drop-cons mine a 0 l) }

    pub two_done : {s : Bool} → LeftTwo clash plan mine a → length mine ≤ a → s ≡ false → Within clash plan mine s
    unfolding any_two
    two_done h l e = record { within = λ D w p. e ∙ sym (h.left D w p ∙ rw (drop_of_length-le mine {i = a} l)) }

    module _ {b : ℕ} where
      pub two_next : LeftOne clash plan mine a b → length mine ≤ b → LeftTwo clash plan mine (a + 1)
      two_next h l = record { left = λ D w p. h.left D w p ∙ rw (none_left (clash_of clash D) (event_of (get_or mine a 0)) mine b l) }

      module _ {r : Bool} (h : LeftOne clash plan mine a b) (k : a < length mine) (l : b < length mine) (c : Clashes clash plan (get_or mine a 0) (get_or mine b 0) r) where
        tried : (D : Design) → Plans plan D → Ported D (events mine) → any_two (clash_of clash D) (events mine) ≡
            (r || any (clash_of clash D (event_of (get_or mine a 0))) (events (drop (b + 1) mine))) || any_two (clash_of clash D) (events (drop (a + 1) mine))
        tried D w p =
            let t = c.clashes D w (is_port w mine p a k) (is_port w mine p b l) in
            h.left D w p ∙ rw (here (clash_of clash D) (event_of (get_or mine a 0)) mine b l, t)

        pub two_found : r ≡ true → Within clash plan mine true
        two_found t = record { within = λ D w p. sym (or_true _ _ t (tried D w p)) }

        pub two_on : r ≡ false → LeftOne clash plan mine a (b + 1)
        two_on t = record { left = λ D w p. or_false _ _ t (tried D w p) }

-- ---- an event of an earlier rule with one of this

module _ (clash : Clash) (plan before mine : List ℕ) where
  -- from event a on, each with any
  pub record LeftPair (a : ℕ) : Type 0 where
    pub left : (D : Design) → Plans plan D → Ported D (events before) → Ported D (events mine) →
        any_pair (clash_of clash D) (events before) (events mine) ≡ any_pair (clash_of clash D) (events (drop a before)) (events mine)

  -- event a with those from b on, and each behind a with any
  pub record LeftWith (a b : ℕ) : Type 0 where
    pub left : (D : Design) → Plans plan D → Ported D (events before) → Ported D (events mine) →
        any_pair (clash_of clash D) (events before) (events mine) ≡
        any (clash_of clash D (event_of (get_or before a 0))) (events (drop b mine)) || any_pair (clash_of clash D) (events (drop (a + 1) before)) (events mine)

module _ {clash : Clash} {plan before mine : List ℕ} where
  pub pair_start : LeftPair clash plan before mine 0
  pair_start = record { left = λ D w p q. refl }

  module _ {a : ℕ} where
    pub pair_turn : LeftPair clash plan before mine a → a < length before → LeftWith clash plan before mine a 0
    unfolding any_pair
    pair_turn h l = record { left = λ D w p q. h.left D w p q ∙ rw (add-one a, drop-cons before a 0 l) }

    pub pair_done : {s : Bool} → LeftPair clash plan before mine a → length before ≤ a → s ≡ false → Against clash plan before mine s
    unfolding any_pair
    pair_done h l e = record { against = λ D w p q. e ∙ sym (h.left D w p q ∙ rw (drop_of_length-le before {i = a} l)) }

    module _ {b : ℕ} where
      pub pair_next : LeftWith clash plan before mine a b → length mine ≤ b → LeftPair clash plan before mine (a + 1)
      pair_next h l = record { left = λ D w p q. h.left D w p q ∙ rw (none_left (clash_of clash D) (event_of (get_or before a 0)) mine b l) }

      module _ {r : Bool} (h : LeftWith clash plan before mine a b) (k : a < length before) (l : b < length mine) (c : Clashes clash plan (get_or before a 0) (get_or mine b 0) r) where
        paired : (D : Design) → Plans plan D → Ported D (events before) → Ported D (events mine) → any_pair (clash_of clash D) (events before) (events mine) ≡
            (r || any (clash_of clash D (event_of (get_or before a 0))) (events (drop (b + 1) mine))) ||
            any_pair (clash_of clash D) (events (drop (a + 1) before)) (events mine)
        paired D w p q =
            let t = c.clashes D w (is_port w before p a k) (is_port w mine q b l) in
            h.left D w p q ∙ rw (here (clash_of clash D) (event_of (get_or before a 0)) mine b l, t)

        pub pair_found : r ≡ true → Against clash plan before mine true
        pair_found t = record { against = λ D w p q. sym (or_true _ _ t (paired D w p q)) }

        pub pair_on : r ≡ false → LeftWith clash plan before mine a (b + 1)
        pair_on t = record { left = λ D w p q. or_false _ _ t (paired D w p q) }

-- ---- the fate: the first that applies

module _ {plan before mine : List ℕ} {i : Bool} (a : Within Clash.Inside plan mine i) where
  pub judged_inside : i ≡ true → Judges plan before mine Fate.Inside
  unfolding fate_of clash_of C.judge
  judged_inside p = record { judges = λ D w x y. rw (← a.within D w y, p) }

  module _ {e : Bool} (p : i ≡ false) (b : Against Clash.Earlier plan before mine e) where
    pub judged_earlier : e ≡ true → Judges plan before mine Fate.Earlier
    unfolding fate_of clash_of C.judge
    judged_earlier q = record { judges = λ D w x y. rw (← a.within D w y, p, ← b.against D w x y, q) }

    module _ {h : Bool} (q : e ≡ false) (c : Within Clash.Hardware plan mine h) where
      pub judged_within : h ≡ true → Judges plan before mine Fate.Hardware
      unfolding fate_of clash_of C.judge
      judged_within r = record { judges = λ D w x y. rw (← a.within D w y, p, ← b.against D w x y, q, ← c.within D w y, r) }

      module _ {g : Bool} (r : h ≡ false) (d : Against Clash.Hardware plan before mine g) where
        pub judged_against : g ≡ true → Judges plan before mine Fate.Hardware
        unfolding fate_of clash_of C.judge
        judged_against s = record {
          judges = λ D w x y. rw (← a.within D w y, p, ← b.against D w x y, q, ← c.within D w y, r, ← d.against D w x y, s);
        }

        pub judged_fired : g ≡ false → Judges plan before mine Fate.Fired
        unfolding fate_of clash_of C.judge
        judged_fired s = record {
          judges = λ D w x y. rw (← a.within D w y, p, ← b.against D w x y, q, ← c.within D w y, r, ← d.against D w x y, s);
        }
