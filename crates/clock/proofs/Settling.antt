-- One turn: the fate of a rule, what it does by it, and the turn behind it. One law for each way in which a function returns.
use Prim.Native.Nat.{ℕ, ◌+◌, ◌-◌, ◌≤◌, ◌<◌}
use mathlib.Core.Path.{◌≡◌, refl, sym, ap, ◌∙◌}
use mathlib.Core.Bool.{Bool, true, false, ◌||◌}
use mathlib.Core.List.{List, [], ◌∷◌, ◌++◌, map, map-append, append-nil, append_assoc}
use mathlib.Core.Option.{some}
use native.Mathlib.Omega.{arith}
use lib.IntN.{ℤ}
use lib.LanesLaws.{map-replicate}
use lib.ListN.{length, take, drop, set, replicate, length-append, length-drop, length-take, length-set, length-map, length-replicate, drop_of_length-le}
use lib.Seq.{length-take-le, take-add, take_all, take-append_seam, drop-append_seam}
use borrow.Rule.Slice.PartMut.{put_mid}
use Rattle.std.specs.Prelude.{Ok, Err}
use Rattle.design.specs.Syntax.{Rule, Design}
use Rattle.design.specs.Records.{rules}
use Rattle.design.proofs.Table.{there}
use Rattle.design.specs.Plan.{Plans, World}
use Rattle.rule.specs.declared.Reason.{Reason}
use Rattle.rule.specs.declared.Taken.{Taken}
use Rattle.meaning.specs.Values.{Value, Event, Out}
use Rattle.meaning.specs.Lookup.{rule_of}
use Rattle.meaning.specs.Evaluate.{rule}
use Rattle.rule.specs.Log.{event_of, events, Ported}
use Rattle.rule.specs.Promises.{Took, Few, Turns}
use denote.Enum.Bare.{sameb}
use Rattle.conflict.specs.declared.Fate.{Fate}
use Rattle.conflict.specs.contracts.Fate.{the_type}
use Rattle.meaning.specs.Conflict as C
use Rattle.meaning.specs.Conflict.{fate_number, judge, any}
use Rattle.conflict.specs.Promises.{fate_of, Judges}
use Rattle.clock.specs.declared.turns.Progress.{Progress}
use Rattle.clock.specs.declared.turns.Settled.{Settled}
use Rattle.clock.specs.declared.Outcome.{Outcome}
use Rattle.clock.specs.Answers.{outcome_of}
use Rattle.meaning.specs.Clock.{Turn, fire, hold, is_fired, settle, broken, turn_of, turns}
use Rattle.meaning.specs.Buffers.{over}
use Rattle.clock.specs.Post.{Performs, Ends, Meets, mine, Settles, Goes, More, Takes, Passes, Stops}
use Rattle.clock.proofs.Over.{longer, over_one, over_more}
use Rattle.clock.proofs.Porting.{both_ported, rule_ported}
use Rattle.clock.proofs.Firing.{fired_last}

-- ---- fates

pub fires_are : (f : Fate) → sameb the_type f Fate.Fired ≡ is_fired (fate_of f)
unfolding fate_of is_fired
fires_are Fate.Fired = refl
fires_are Fate.Unavailable = refl
fires_are Fate.Inside = refl
fires_are Fate.Earlier = refl
fires_are Fate.Hardware = refl
fires_are Fate.Stuck = refl
fires_are Fate.NotReached = refl

module _ {p : Progress} where
  pub ends_fired : p.fired ≡ true → Ends p (record { outcome = Outcome.Fired; calls = p.calls })
  unfolding outcome_of
  ends_fired e = record { outcome_is = rw e; calls_are = refl }

  pub ends_quiet : p.fired ≡ false → Ends p (record { outcome = Outcome.Quiet; calls = p.calls })
  unfolding outcome_of
  ends_quiet e = record { outcome_is = rw e; calls_are = refl }

-- a fate behind those that are there
pub marked : (ts : List C.Fate) (x : C.Fate) (old : List ℕ) {f f₁ : List ℕ} {n : ℕ} → f ≡ over (map fate_number ts) old → n ≡ length ts → n < length f →
    f₁ ≡ set f n (fate_number x) → f₁ ≡ over (map fate_number (ts ++ (x ∷ []))) old
marked ts x old e n l q =
    let m = length-map ts fate_number in
    let k = n ∙ sym m in
    q ∙ rw (e, k, map-append fate_number ts (x ∷ [])) (over_one (map fate_number ts) old (fate_number x) 0 (longer (map fate_number ts) old (omega (arith, ap length e))))

-- ---- the fates of a stuck clock

alike : {a b m k : ℕ} {f g p q : List ℕ} → a ≡ b → m ≡ k → f ≡ g → p ≡ q → put_mid a m f p ≡ put_mid b k g q
alike a m f p = rw (a, m, f, p)

-- the entries that are not reached are filled with their fate
pub passed : {f part : List ℕ} {from n : ℕ} → from ≤ length f → n ≡ fate_number (fate_of Fate.NotReached) →
    part ≡ replicate (length (take (length f - from) (drop from f))) n → Passes f from (put_mid from (length f - from) f part)
unfolding fate_of
passed {f} {part} {from} {n} l v q =
    let m = length f - from in
    let nr = fate_number C.Fate.not_reached in
    let k : length (take m (drop from f)) ≡ m = omega (arith, length-take m (drop from f), length-drop from f) in
    let p : part ≡ replicate m nr = q ∙ rw (k, v) in
    record {
      passes = λ ts old e i.
          let new = map fate_number ts in
          let r = map-append fate_number ts (replicate m C.Fate.not_reached) ∙ ap (λ x. new ++ x) (map-replicate fate_number m C.Fate.not_reached) in
          alike (i ∙ sym (length-map ts fate_number)) (sym (length-replicate m nr)) e p ∙ over_more new (replicate m nr) old ∙ ap (λ x. over x old) (sym r);
    }

pub stopped : {f f₁ f₂ : List ℕ} {from n : ℕ} → from < length f → n ≡ fate_number (fate_of Fate.Stuck) → f₁ ≡ set f from n → Passes f₁ (from + 1) f₂ → Stops f from f₂
unfolding fate_of
stopped {f} {f₁} {from = from} l v q h = record {
  stops = λ ts old e n.
      let c = length-append ts (C.Fate.stuck ∷ []) in
      let k : length f₁ ≡ length f = ap length q ∙ length-set f from _ in
      h.passes (ts ++ (C.Fate.stuck ∷ [])) old (marked ts C.Fate.stuck old e n l (q ∙ ap (set f from) v)) (omega arith)
      ∙ rw (append_assoc ts (C.Fate.stuck ∷ []) (replicate (length f₁ - (from + 1)) C.Fate.not_reached), k);
}

-- ---- a rule that came to a value

settle_fates : (D : Design) (es : List Event) (t : Turn) (f : C.Fate) → (settle D es t f).fates ≡ t.fates ++ (f ∷ [])
unfolding settle fire hold is_fired
settle_fates D es t C.Fate.fired = refl
settle_fates D es t C.Fate.unavailable = refl
settle_fates D es t C.Fate.inside = refl
settle_fates D es t C.Fate.earlier = refl
settle_fates D es t C.Fate.hardware = refl
settle_fates D es t C.Fate.stuck = refl
settle_fates D es t C.Fate.not_reached = refl

held_last : (fs : List C.Fate) (f : C.Fate) → is_fired f ≡ false → any is_fired fs ≡ any is_fired (fs ++ (f ∷ []))
unfolding any
held_last [] f e = rw e
held_last (x ∷ fs) f e = ap (λ b. is_fired x || b) (held_last fs f e)

-- a rule that did not fire changes nothing
holding : {D : Design} {p : Progress} {s : List ℤ} {l : List ℕ} {t : Turn} (f : C.Fate) → is_fired f ≡ false → Meets D p s l t → Meets D p s l (hold f t)
unfolding hold
holding {t = t} f e h = record { state_is = h.state_is; before_is = h.before_is; fired = h.fired ∙ held_last t.fates f e; ported = h.ported }

-- the events of a rule, behind those before it
kept_events : (log : List ℕ) (calls n : ℕ) → events (take (calls + n) log) ≡ events (take calls log) ++ events (take n (drop calls log))
kept_events log calls n = ap events (take-add calls n log) ∙ map-append event_of (take calls log) (take n (drop calls log))

-- a part that a range names
pub own_part : (l : List ℕ) (calls n : ℕ) → take (calls + n - calls) (drop calls l) ≡ take n (drop calls l)
own_part l calls n = let z : calls + n - calls ≡ n = omega arith in rw z

module _ {plan : List ℕ} (n : ℕ) (p : Progress) {s : List ℤ} (l : List ℕ) {before own : List ℕ} {f : Fate} where
  judges : Judges plan before own f → before ≡ take p.calls l → own ≡ mine l p n → (D : Design) → Plans plan D → (t : Turn) → Meets D p s l t →
      Ported D (events (mine l p n)) → fate_of f ≡ judge D t.before (events (mine l p n))
  judges j a b D w t h q = rw h.before_is ((rw (a, b) at (j.judges D w)) (rw h.before_is at h.ported) q)

  pub settled_held : {r : Bool} → Judges plan before own f → before ≡ take p.calls l → own ≡ mine l p n → r ≡ is_fired (fate_of f) → r ≡ false →
      Settles plan l n p s s (record { fate = f; after = p })
  unfolding settle
  settled_held j a b e z = record {
    settles = λ D w t h q. rw (sym e ∙ z) (holding (fate_of f) (sym e ∙ z) h);
    judged = judges j a b;
    more_calls = omega arith;
  }

  pub settled_fired : {r : Bool} {s₁ : List ℤ} → Judges plan before own f → before ≡ take p.calls l → own ≡ mine l p n → r ≡ is_fired (fate_of f) → r ≡ true →
      Performs plan own s s₁ → Settles plan l n p s s₁ (record { fate = f; after = record { calls = p.calls + n; fired = true } })
  unfolding settle fire
  settled_fired j a b e z w = record {
    settles = λ D v t h q. rw (sym e ∙ z) (record {
      state_is = rw h.state_is (sym ((rw b at (w.performs D)) v));
      before_is = rw h.before_is (sym (kept_events l p.calls n));
      fired = sym (fired_last t.fates);
      ported = both_ported h.ported q;
    });
    judged = judges j a b;
    more_calls = omega arith;
  }

-- ---- a turn

-- the rule of a number below the count
with_rule : {X : Type 0} (D : Design) (n : ℕ) → n < length (rules D.bodies) → ((x : Rule) → rule_of D n ≡ some x → X) → X
unfolding rule_of
with_rule D n l next = let g = there (rules D.bodies) n l in next g.0 g.1

turned : (D : Design) (t : Turn) (n : ℕ) (s : List ℤ) (x : Rule) {o : Out Value} → t.state ≡ s → rule_of D n ≡ some x → rule D s x ≡ o → turn_of D t.state n ≡ o
unfolding turn_of
turned D t n s x e r q = rw (r, turn_of, e) q

module _ (D : Design) (t : Turn) (n : ℕ) (start : List ℤ) (ns : List ℕ) where
  after_value : {v : Value} {es : List Event} → turn_of D t.state n ≡ Out.got v es → turns D start (n ∷ ns) t ≡ turns D start ns (settle D es t (judge D t.before es))
  unfolding turns
  after_value e = rw (e, turns)

  after_unavailable : turn_of D t.state n ≡ Out.unavailable → turns D start (n ∷ ns) t ≡ turns D start ns (hold C.Fate.unavailable t)
  unfolding turns
  after_unavailable e = rw (e, turns)

  after_stuck : {k : ℕ} → turn_of D t.state n ≡ Out.stuck k → turns D start (n ∷ ns) t ≡ broken start t n k ns
  unfolding turns
  after_stuck e = rw (e, turns)

told : {file plan : List ℕ} {n : ℕ} {s : List ℤ} {part part₁ : List ℕ} {r q : Taken} → Turns file plan s part n part₁ r → 64 ≤ length part → r ≡ q →
    (D : Design) → World file plan D → length s ≡ length D.instances → (x : Rule) → rule_of D n ≡ some x → Took part₁ q (rule D s x)
told h l e D w m x k = rw e at (h.took D w m l x k)

-- ---- the log, whose part from the rules that fired on a rule has written

-- the part that a rule is lent, and the log behind its turn
pub record Lent (log : List ℕ) (calls : ℕ) (part part₁ log₁ : List ℕ) : Type 0 where
  pub part_is : part ≡ drop calls log
  pub log_is : log₁ ≡ take calls log ++ part₁
  pub room : calls + 64 ≤ length log

module _ {log part part₁ log₁ : List ℕ} {calls : ℕ} (h : Lent log calls part part₁ log₁) where
  lent_before : take calls log₁ ≡ take calls log
  lent_before =
      let c : length (take calls log) ≡ calls = length-take-le calls log (omega (arith, h.room)) in
      ap (take calls) h.log_is ∙ ap (λ k. take k (take calls log ++ part₁)) (sym c) ∙ take-append_seam (take calls log) part₁

  lent_behind : drop calls log₁ ≡ part₁
  lent_behind =
      let c : length (take calls log) ≡ calls = length-take-le calls log (omega (arith, h.room)) in
      ap (drop calls) h.log_is ∙ ap (λ k. drop k (take calls log ++ part₁)) (sym c) ∙ drop-append_seam (take calls log) part₁

  lent_room : 64 ≤ length part
  lent_room = omega (arith, ap length h.part_is, length-drop calls log, h.room)

  lent_length : length part₁ ≡ length part → length log₁ ≡ length log
  lent_length e =
      ap length h.log_is ∙ length-append (take calls log) part₁
      ∙ omega (arith, length-take-le calls log (omega (arith, h.room)), e, ap length h.part_is, length-drop calls log, h.room)

-- what a part is lent as, and what comes back of it
pub lent : (log : List ℕ) (calls : ℕ) (part₁ : List ℕ) → calls + 64 ≤ length log →
    Lent log calls (take (length log - calls) (drop calls log)) part₁ (take calls log ++ (part₁ ++ drop (length log - calls) (drop calls log)))
lent log calls part₁ h =
    let k : length (drop calls log) ≤ length log - calls = omega (arith, length-drop calls log) in
    record {
      part_is = take_all (length log - calls) (drop calls log) k;
      log_is = ap (λ (l : List ℕ). take calls log ++ (part₁ ++ l)) (drop_of_length-le (drop calls log) {i = length log - calls} k) ∙ ap (λ (l : List ℕ). take calls log ++ l) (append-nil part₁);
      room = h;
    }

-- a turn that left the log's beginning alone
same_turn : {D : Design} {p : Progress} {s : List ℤ} {log part part₁ log₁ : List ℕ} {t : Turn} → Lent log p.calls part part₁ log₁ → Meets D p s log t → Meets D p s log₁ t
same_turn h m = record { state_is = m.state_is; before_is = m.before_is ∙ ap events (sym (lent_before h)); fired = m.fired; ported = m.ported }

pub recorded_within : {file plan : List ℕ} {n calls k : ℕ} {s : List ℤ} {log part part₁ log₁ : List ℕ} {r : Taken} → Turns file plan s part n part₁ r →
    Lent log calls part part₁ log₁ → r ≡ Taken.Recorded k → calls + k ≤ length log₁
unfolding Few
recorded_within {k = k} h o e = let f : k ≤ 64 = rw e at h.few in omega (arith, lent_length o h.kept, o.room)

module _ {file plan : List ℕ} (p : Progress) {n : ℕ} {s : List ℤ} {log part part₁ log₁ : List ℕ} {r : Taken} (h : Turns file plan s part n part₁ r) (o : Lent log p.calls part part₁ log₁) where
  pub take_recorded : {k : ℕ} {s₁ : List ℤ} {x : Settled} → r ≡ Taken.Recorded k → Settles plan log₁ k p s s₁ x → Takes file plan p n s log s₁ log₁ (Ok x)
  unfolding Took Few Goes More
  take_recorded {k} {x = x} e w =
      let f : k ≤ 64 = rw e at h.few in
      record {
        takes = λ D world m lt t meets. with_rule D n lt (λ y rule-is.
            let es = events (mine log₁ p k) in
            let same : events (take k part₁) ≡ es = ap (λ l. events (take k l)) (sym (lent_behind o)) in
            let g = told h (lent_room o) e D world m y rule-is ∙ ap (Out.got Value.void) same in
            let ported = rule_ported s y world.plans g in
            let meets₁ = same_turn o meets in
            let judged = w.judged D world.plans t meets₁ ported in (
              settle D es t (fate_of x.fate),
              w.settles D world.plans t meets₁ ported,
              settle_fates D es t (fate_of x.fate),
              λ start ns. rw judged (after_value D t n start ns (turned D t n s y meets.state_is rule-is g)),
            ));
        more = omega (arith, w.more_calls);
      }

  pub take_unavailable : r ≡ Taken.Unavailable → Takes file plan p n s log s log₁ (Ok (record { fate = Fate.Unavailable; after = p }))
  unfolding Took Goes More fate_of hold is_fired
  take_unavailable e = record {
    takes = λ D world m lt t meets. with_rule D n lt (λ y rule-is. (
      hold C.Fate.unavailable t,
      holding C.Fate.unavailable refl (same_turn o meets),
      refl,
      λ start ns. after_unavailable D t n start ns (turned D t n s y meets.state_is rule-is (told h (lent_room o) e D world m y rule-is)),
    ));
    more = omega arith;
  }

  pub take_stuck : {k : Reason} → r ≡ Taken.Stuck k → Takes file plan p n s log s log₁ (Err k)
  unfolding Took Goes More
  take_stuck e = record {
    takes = λ D world m lt t meets. with_rule D n lt (λ y rule-is. (
      meets.before_is ∙ ap events (sym (lent_before o)),
      λ start ns. after_stuck D t n start ns (turned D t n s y meets.state_is rule-is (told h (lent_room o) e D world m y rule-is)),
    ));
    more = tt;
  }
