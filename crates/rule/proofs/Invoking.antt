-- Calls and displays: one law for each way in which their functions return. What a call names is settled before its arguments; what is left
-- when they have values (`finish`) is settled by its callee, a port or a body, and the evaluator only puts the two together.
use Prim.Native.Nat.{ℕ, zero, suc, ◌+◌, ◌*◌, ◌/◌, ◌%◌, ◌≤◌, ◌<◌}
use mathlib.Core.Path.{◌≡◌, refl, sym, ap, ◌∙◌}
use mathlib.Core.Bool.{Bool, true, false, not, ◌||◌}
use mathlib.Core.List.{List, [], ◌∷◌, ◌++◌, map}
use mathlib.Core.Option.{some}
use native.Mathlib.Decide.{ℕ_discrete}
use native.Mathlib.Omega.{arith}
use lib.Dec.{eqb, ltb}
use lib.IntN.{ℤ, pos}
use lib.ListN.{length, take, drop, set, get_or, get_elem?, length-map}
use borrow.Author.Tests.{lt-ltb, le-ltb, lt-leb, le-leb, eq-eqb, ne_eqb, eqb-true}
use mir.Syntax.{w32}
use mir.Val.{SFits, to_z, of_z}
use mir.ValLaws.{to_z-of_z}
use denote.Enum.Bare.{sameb}
use Rattle.words.specs.Words.{word, number}
use Rattle.words.proofs.Laws as L
use Rattle.std.specs.List.{slice_get}
use Rattle.std.proofs.lemmas.Option.{get_or_from_slice_get, slice_get-get_or}
use Rattle.std.proofs.lemmas.List.{map-append, take_more_set, length-take-le}
use Rattle.std.specs.Prelude.{Option as Maybe, Some, None, Result, Ok, Err}
use Rattle.design.specs.Syntax.{Expr, Exprs, Kind, Method, Design}
use Rattle.design.specs.Take.{Refusal, Read, got, bind, pick}
use Rattle.design.specs.Take as T
use Rattle.design.specs.Grammar as G
use Rattle.design.specs.Grammar.{Tag}
use Rattle.design.specs.Text.{Sees}
use Rattle.design.proofs.Taking.{found, ended, follows}
use Rattle.rule.specs.declared.Value as DV
use Rattle.rule.specs.declared.Reason.{Reason}
use Rattle.rule.specs.declared.Mark.{Mark}
use Rattle.rule.specs.declared.Answer.{Answer}
use Rattle.rule.specs.declared.body.Call.{Call}
use Rattle.design.specs.declared.kinds.Role as DR
use Rattle.design.specs.Kinds as K
use Rattle.design.specs.contracts.kinds.Role.{the_type}
use Rattle.rule.specs.declared.naming.Callee as DC
use Rattle.meaning.specs.Values.{Value, kind_of, same_kind, same_kinds, Event, Out, and_then}
use Rattle.meaning.specs.Values as W
use Rattle.meaning.specs.Lookup.{Access, word_of, register_place}
use Rattle.meaning.specs.Naming.{Test, passed, failed, if_passed, test, Callee, params_of, role_of, is_value, callee_of, how_many, named}
use Rattle.meaning.specs.Evaluate as E
use Rattle.design.specs.Plan.{Plans, World}
use Rattle.design.specs.Lookups.{Describes, Kinds, MethodText}
use Rattle.design.specs.declared.plan.Signature.{Signature}
use Rattle.rule.specs.Log.{event_of, events}
use Rattle.rule.specs.Answers.{value, number_of, env_of}
use Rattle.rule.specs.Named.{Fitting, Names, Naming}
use Rattle.rule.specs.Post.{Place, whole, after, Agrees, Onward, Does, Lists, Along, Headed, Heads, Is, finish, Rests, Finishes, Port, Noted, Notes}
use Rattle.design.specs.Records as R
use Rattle.design.specs.Records.{methods}
use Rattle.rule.proofs.Meaning as M
use Rattle.rule.proofs.Constructs.{onward}
use Rattle.rule.proofs.Leaves.{unread}
use Rattle.rule.proofs.Operating.{NotNum}
use Rattle.rule.proofs.Operating as O
use Rattle.design.proofs.Inverting.{bound, got_value}

-- ---- the head

module _ {text : List ℕ} {at : ℕ} where
  pub head_cut : {x : Maybe (ℕ × ℕ)} → Sees text at x → x ≡ None → Heads text at None
  unfolding Headed G.after bind
  head_cut h e = record { headed = λ end bad E. rw (ended h e bad) }

  module _ {x y : Maybe (ℕ × ℕ)} {a n : ℕ} (h : Sees text at x) (e : x ≡ Some (a, n)) (h₂ : Sees text n y) where
    pub head_cut_2 : y ≡ None → Heads text at None
    unfolding Headed G.after bind
    head_cut_2 e₂ = record { headed = λ end bad E. rw (found h e bad, ended h₂ e₂ bad) }

    module _ {z : Maybe (ℕ × ℕ)} {b o : ℕ} (e₂ : y ≡ Some (b, o)) (h₃ : Sees text o z) where
      pub head_cut_3 : z ≡ None → Heads text at None
      unfolding Headed G.after bind
      head_cut_3 e₃ = record { headed = λ end bad E. rw (found h e bad, found h₂ e₂ bad, ended h₃ e₃ bad) }

      module _ {c p k : ℕ} (e₃ : z ≡ Some (c, p)) (q : k ≡ c) where
        pub head_many : 4 < k → Heads text at None
        unfolding Headed G.after bind T.needs
        head_many l = record { headed = λ end bad E. rw (found h e bad, found h₂ e₂ bad, found h₃ e₃ bad, lt-leb c 4 (omega arith)) }

        pub head_done : (d : Call) → d.count ≡ k → d.at ≡ p → d.instance ≡ a → d.method ≡ b → Heads text at (Some d)
        unfolding Headed G.after bind T.needs
        head_done d i j s t =
            let f₁ = follows h e in
            let f₂ = follows h₂ e₂ in
            let f₃ = follows h₃ e₃ in
            record {
              headed = (
                omega (arith, j, f₁.0, f₂.0, f₃.0),
                rw j f₃.1,
                λ end bad E. rw (found h e bad, found h₂ e₂ bad, found h₃ e₃ bad, i, j, q, s, t, le-leb c 4 (omega (arith, d.few, i, q))) refl,
              );
            }

-- ---- the log: one more at the end

pub events_end : (log : List ℕ) (n e : ℕ) → n < length log → events (take (n + 1) (set log n e)) ≡ events (take n log) ++ (event_of e ∷ [])
events_end log n e h = rw (take_more_set log n e h) (map-append event_of (take n log) (e ∷ []))

events_length : (log : List ℕ) (n : ℕ) → n ≤ length log → length (events (take n log)) ≡ n
events_length log zero h = refl
events_length [] (suc n) h = absurd (omega arith)
events_length (x ∷ log) (suc n) h = ap suc (events_length log n (omega arith))

events_many : (m n : ℕ) (log : List ℕ) → m ≤ n → m ≤ length log → m ≤ length (events (take n log))
events_many zero n log a b = omega arith
events_many (suc m) zero log a b = absurd (omega arith)
events_many (suc m) (suc n) [] a b = absurd (omega arith)
events_many (suc m) (suc n) (x ∷ log) a b = omega (arith, events_many m n log (omega arith) (omega arith))

-- ---- what is recorded

-- the event of a number that was made from a call's parts
call_event : (i k w : ℕ) → i < 64 → k < 256 → w < 4294967296 → event_of (i + 256 * k + 65536 * w) ≡ Event.call i k (number w)
unfolding event_of
call_event i k w a b c =
    let p : (i + 256 * k + 65536 * w) % 256 ≡ i = omega arith in
    let d : (i + 256 * k + 65536 * w) / 256 ≡ k + 256 * w = omega arith in
    let m : (k + 256 * w) % 256 ≡ k = omega arith in
    let q : (i + 256 * k + 65536 * w) / 256 % 256 ≡ k = ap (λ n. n % 256) d ∙ m in
    let h : (i + 256 * k + 65536 * w) / 65536 ≡ w = omega arith in
    let n : w % 4294967296 ≡ w = omega arith in
    let r : (i + 256 * k + 65536 * w) / 65536 % 4294967296 ≡ w = ap (λ x. x % 4294967296) h ∙ n in
    rw (p, q, r, ne_eqb i 255 (λ z. omega arith)) refl

display_event : (w : ℕ) → w < 4294967296 → event_of (255 + 256 * 0 + 65536 * w) ≡ Event.display (number w)
unfolding event_of
display_event w c =
    let p : (255 + 256 * 0 + 65536 * w) % 256 ≡ 255 = omega arith in
    let r : (255 + 256 * 0 + 65536 * w) / 65536 % 4294967296 ≡ w = omega arith in
    rw (p, r) refl

-- room for one more, and none
module _ {A : Type 0} (log : List ℕ) (n : ℕ) (e : Event) (f : List Event → Out A) where
  no_room : 64 ≤ length log → 64 ≤ n → E.recorded e (events (take n log)) f ≡ Out.stuck 27
  unfolding E.recorded
  no_room l q = rw (le-ltb (length (events (take n log))) 64 (events_many 64 n log q l), E.recorded) refl

  room : (x : ℕ) → 64 ≤ length log → n < 64 → event_of x ≡ e → E.recorded e (events (take n log)) f ≡ f (events (take (n + 1) (set log n x)))
  unfolding E.recorded
  room x l q h = rw (lt-ltb (length (events (take n log))) 64 (omega (arith, events_length log n (omega arith))), events_end log n x (omega arith), h, E.recorded) refl

module _ {log : List ℕ} {m : Mark} {e : ℕ} {log₁ : List ℕ} {x : Maybe Mark} (h : Notes log m e log₁ x) where
  pub full : x ≡ None → (64 ≤ m.calls) × (log₁ ≡ log)
  unfolding Noted
  full z = rw z at h.noted

  pub noted : {n : Mark} → x ≡ Some n → (m.calls < 64) × (log₁ ≡ set log m.calls e) × (n ≡ record { at = m.at; calls = m.calls + 1 })
  unfolding Noted
  noted z = rw z at h.noted

-- ---- ports of registers

-- a register's number, through its word
pub word_back : {x z : ℤ} {r : ℕ} → SFits w32 x → r ≡ word (to_z w32 (of_z w32 x)) → x ≡ z → number r ≡ z
word_back {x} f e q = rw (e, to_z-of_z w32 x f, L.number_word x f) q

no_some : {A : Type 0} {a : A} → Some a ≡ None → ⊥
no_some e = let z : ◌≡◌ {A = ℕ} 0 1 = cc in omega arith

-- the locals that a port takes: none, and one
no_locals : (locals : List DV.Value) → length locals ≡ 0 → locals ≡ []
no_locals [] n = refl
no_locals (x ∷ locals) n = absurd (omega arith)

one_local : (locals : List DV.Value) {v : DV.Value} → length locals ≡ 1 → slice_get locals 0 ≡ Some v → env_of locals ≡ value v ∷ []
unfolding env_of
one_local [] n e = absurd (omega arith)
one_local (x ∷ []) {v} n e = ap (λ v. value v ∷ []) (get_or_from_slice_get (x ∷ []) 0 v v e)
one_local (x ∷ y ∷ locals) n e = absurd (omega arith)

none_live : {c : Callee} {n : ℕ} → (p : ℕ) × (c ≡ Callee.port (Access.read p)) → length (params_of c) ≡ n → n ≡ 0
unfolding params_of
none_live h n = sym n ∙ ap (λ d. length (params_of d)) h.1

one_live : {c : Callee} {n : ℕ} → (p : ℕ) × (c ≡ Callee.port (Access.write p)) → length (params_of c) ≡ n → n ≡ 1
unfolding params_of
one_live h n = sym n ∙ ap (λ d. length (params_of d)) h.1

kind_false : {v : DV.Value} → NotNum v → same_kind Kind.num (kind_of (value v)) ≡ false
unfolding same_kind value kind_of
kind_false NotNum.truth = refl
kind_false NotNum.void = refl

module _ {state : List ℤ} {log : List ℕ} {m : Mark} {i k : ℕ} where
  pub read_full : {log₁ : List ℕ} {e : ℕ} {note : Maybe Mark} → 64 ≤ length log → Notes log m e log₁ note → note ≡ None → Port DC.Callee.Read state [] log m i k log₁ (Answer.Stuck Reason.Calls)
  unfolding Is finish Agrees Rests params_of W.needs same_kinds number_of env_of
  read_full l t z =
      let u = full t z in
      rw u.1 (record {
        port = λ file plan f. record {
          finishes = λ D w c h n text. rw h.1 (no_room log m.calls _ _ l u.0);
          rests = tt;
          kept = refl;
        };
      })

  pub read_done : {log₁ : List ℕ} {w e : ℕ} {note : Maybe Mark} {o : Mark} → 64 ≤ length log → Notes log m e log₁ note → note ≡ Some o → i < 64 → k < 256 → e ≡ i + 256 * k + 65536 * 0 →
      number w ≡ get_or state i (pos 0) → Port DC.Callee.Read state [] log m i k log₁ (Answer.Value (DV.Value.Num w) o)
  unfolding Is finish Agrees Rests params_of W.needs same_kinds number_of E.given E.done word_of register_place number value env_of
  read_done {w = w} {e} l t y a b x z =
      let v = noted t y in
      rw (v.2, v.1) (record {
        port = λ file plan f. record {
          finishes = λ D u c h n text. (
            rw h.1
                (room log m.calls (Event.call i k (pos 0)) _ e l v.0 (ap event_of x ∙ call_event i k 0 a b (omega arith)) ∙ ap (λ v. Out.got (Value.num v) (events (take (m.calls + 1) (set log m.calls e)))) (sym z)),
            refl,
          );
          rests = (refl, omega (arith, v.0));
          kept = lib.ListN.length-set log m.calls e;
        };
      })

module _ {state : List ℤ} {locals : List DV.Value} {log : List ℕ} {m : Mark} {i k : ℕ} {s : Maybe DV.Value} (is : s ≡ slice_get locals 0) where
  pub write_none : s ≡ None → Port DC.Callee.Write state locals log m i k log (Answer.Stuck Reason.Kind)
  unfolding Is Rests
  write_none e = record {
    port = λ file plan f. record {
      finishes = λ D w c h n text. absurd (no_some (sym (slice_get-get_or locals 0 (DV.Value.Num 0) (omega (arith, one_live h n))) ∙ sym is ∙ e));
      rests = tt;
      kept = refl;
    };
  }

  module _ {u : DV.Value} (there : s ≡ Some u) where
    pub write_kind : NotNum u → Port DC.Callee.Write state locals log m i k log (Answer.Stuck Reason.Kind)
    unfolding Is finish Agrees Rests params_of W.needs same_kinds number_of
    write_kind v = record {
      port = λ file plan f. record {
        finishes = λ D w c h n text. rw (h.1, one_local locals (one_live h n) (sym is ∙ there), kind_false v);
        rests = tt;
        kept = refl;
      };
    }

    module _ {w : ℕ} (v : u ≡ DV.Value.Num w) (l : 64 ≤ length log) where
      pub write_full : {log₁ : List ℕ} {e : ℕ} {note : Maybe Mark} → Notes log m e log₁ note → note ≡ None → Port DC.Callee.Write state locals log m i k log₁ (Answer.Stuck Reason.Calls)
      unfolding Is finish Agrees Rests params_of W.needs same_kinds same_kind number_of value kind_of
      write_full t z =
          let q = full t z in
          rw q.1 (record {
            port = λ file plan f. record {
              finishes = λ D u c h n text. rw (h.1, one_local locals (one_live h n) (sym is ∙ there), v) (no_room log m.calls _ _ l q.0);
              rests = tt;
              kept = refl;
            };
          })

      pub write_done : {log₁ : List ℕ} {e : ℕ} {note : Maybe Mark} {o : Mark} → Notes log m e log₁ note → note ≡ Some o → i < 64 → k < 256 → w < 4294967296 → e ≡ i + 256 * k + 65536 * w →
          Port DC.Callee.Write state locals log m i k log₁ (Answer.Value DV.Value.Void o)
      unfolding Is finish Agrees Rests params_of W.needs same_kinds same_kind number_of E.given E.number_of E.done value kind_of
      write_done {e = e} t y a b d x =
          let q = noted t y in
          rw (q.2, q.1) (record {
            port = λ file plan f. record {
              finishes = λ D u c h n text. (
                rw (h.1, one_local locals (one_live h n) (sym is ∙ there), v)
                    (room log m.calls (Event.call i k (number w)) _ e l q.0 (ap event_of x ∙ call_event i k w a b d)),
                refl,
              );
              rests = (refl, omega (arith, q.0));
              kept = lib.ListN.length-set log m.calls e;
            };
          })

none_rests : (m : Mark) {r : Answer} → M.Halts r → Rests m r
unfolding Rests
none_rests m M.shut = tt
none_rests m M.fast = tt

-- ---- a method's body

-- a method of an instance below is entered with its arguments as its locals
entered : (D : Design) (state : List ℤ) {i : ℕ} (me : ℕ) (x : Method) (vs : List Value) (l : List Event) → i < me →
    E.enter_below D state me i x vs l ≡ E.evaluate D state i x.body (is_value x.role) vs l
unfolding E.enter_below E.evaluate
entered D state zero x vs l h = absurd (omega arith)
entered D state {i} (suc n) x vs l h = go (ℕ_discrete i n) (λ q. entered D state n x vs l q)
  where
    go : Dec (i ≡ n) → (i < n → E.enter_below D state n i x vs l ≡ E.evaluate D state i x.body (is_value x.role) vs l) → E.enter_below D state (suc n) i x vs l ≡ E.evaluate D state i x.body (is_value x.role) vs l
    go (yes e) next = rw (eq-eqb i n e, E.enter_below) (ap (λ j. E.eval D state j (E.enter_below D state j) x.body (is_value x.role) vs l) (sym e))
    go (no ne) next = rw (ne_eqb i n ne, E.enter_below) (next (omega arith))

-- the kinds of the arguments, as the code looks at them
kinds_are : {ks : List ℕ} (locals : List DV.Value) (x : Method) {t : Bool} → x.params ≡ map R.kind_of ks → length x.params ≡ length locals → Fitting ks locals t →
    same_kinds x.params (map kind_of (env_of locals)) ≡ t
kinds_are {ks} locals x e n g =
    let l : length ks ≡ length locals = sym (length-map ks R.kind_of) ∙ ap length (sym e) ∙ n in
    rw e (sym (g.fits l))

-- whether a role of the code is a value's
abbrev pub values : DR.Role → Bool
values r = sameb the_type r DR.Role.Value

pub role_is_value : (r : DR.Role) → values r ≡ is_value (K.role r)
unfolding K.role is_value
role_is_value DR.Role.Value = refl
role_is_value DR.Role.Action = refl
role_is_value DR.Role.ActionValue = refl

-- what a call of a method comes to: its body's value, tested for the declared kind
inside : (state : List ℤ) (locals : List DV.Value) (log : List ℕ) (f : Place) (calls i k : ℕ) (v : ℕ) {ks : List ℕ} {t : Bool} → Fitting ks locals t → t ≡ true →
    64 ≤ length log → calls < 64 → i < f.me → f.me ≤ 64 → k < 256 → v ≡ i + 256 * k + 65536 * 0 →
    (D : Design) (c : Callee) (x : Method) → c ≡ Callee.user x → x.params ≡ map R.kind_of ks → length (params_of c) ≡ length locals →
    finish D state f.me i k c (env_of locals) (events (take calls log))
    ≡ and_then (E.evaluate D state i x.body (is_value x.role) (env_of locals) (events (take (calls + 1) (set log calls v)))) (λ u l1. W.needs (same_kind x.result (kind_of u)) 21 (Out.got u l1))
unfolding Is finish params_of W.needs E.given E.done number
inside state locals log f calls i k v g e l h a small o ev D c x y d n =
    rw (y, kinds_are locals x d (sym (ap (λ d. length (params_of d)) y) ∙ n) g, e)
    (room log calls (Event.call i k (pos 0)) _ v l h (ap event_of ev ∙ call_event i k 0 (omega arith) o (omega arith))
    ∙ rw (entered D state f.me x (env_of locals) (events (take (calls + 1) (set log calls v))) a) refl)

-- the declared kind, as the code looks at it
result_is : {plan : List ℕ} {b : ℕ} {s : Signature} (u : DV.Value) {t : Bool} (D : Design) (x : Method) → Plans plan D → get_elem? (methods D.bodies) b ≡ some x → Describes plan b s →
    t ≡ same_kind (K.kind s.result) (kind_of (value u)) → same_kind x.result (kind_of (value u)) ≡ t
result_is u D x p q sg z = sym (z ∙ ap (λ c. same_kind c (kind_of (value u))) (sg.result D x p q))

record Bodied (text file plan : List ℕ) (state : List ℤ) (locals : List DV.Value) (log : List ℕ) (f : Place) (m : Mark) (i k b : ℕ) (log₁ log₂ : List ℕ) (r : Answer) : Type 0 where
  bodied : (D : Design) → World file plan D → (c : Callee) → Is D (DC.Callee.User b) c → length (params_of c) ≡ length locals →
      (x : Method) × (get_elem? (methods D.bodies) b ≡ some x)
      × (finish D state f.me i k c (env_of locals) (events (take m.calls log))
      ≡ and_then (E.evaluate D state i x.body (is_value x.role) (env_of locals) (events (take (m.calls + 1) log₁))) (λ u l1. W.needs (same_kind x.result (kind_of u)) 21 (Out.got u l1)))
      × Agrees value text log₂ [] r (E.evaluate D state i x.body (is_value x.role) (env_of locals) (events (take (m.calls + 1) log₁)))

module _ {file plan : List ℕ} {state : List ℤ} {locals : List DV.Value} {log : List ℕ} {f : Place} {m : Mark} {i k b : ℕ} {ks : List ℕ} (kd : Kinds file plan b ks) {t : Bool} (g : Fitting ks locals t) where
  pub enter_kinds : t ≡ false → Finishes (DC.Callee.User b) file plan state locals log f m i k log (Answer.Stuck Reason.Kind)
  unfolding Is finish Agrees Rests params_of W.needs number_of
  enter_kinds e = record {
    finishes = λ D w c q n text. rw (q.1, kinds_are locals q.0 (kd.kinds D q.0 w q.2) (sym (ap (λ d. length (params_of d)) q.1) ∙ n) g, e);
    rests = tt;
    kept = refl;
  }

  module _ (e : t ≡ true) (l : 64 ≤ length log) where
    pub enter_full : {log₁ : List ℕ} {v : ℕ} {x : Maybe Mark} → Notes log m v log₁ x → x ≡ None → Finishes (DC.Callee.User b) file plan state locals log f m i k log₁ (Answer.Stuck Reason.Calls)
    unfolding Is finish Agrees Rests params_of W.needs number_of
    enter_full t z =
        let h = full t z in
        rw h.1 (record {
          finishes = λ D w c q n text. rw (q.1, kinds_are locals q.0 (kd.kinds D q.0 w q.2) (sym (ap (λ d. length (params_of d)) q.1) ∙ n) g, e) (no_room log m.calls _ _ l h.0);
          rests = tt;
          kept = refl;
        })

    module _ {log₁ log₂ text : List ℕ} {r : Answer} {v : ℕ} {s : Signature} {p : Bool} {note : Maybe Mark} {o₁ : Mark} (nt : Notes log m v log₁ note) (was : note ≡ Some o₁) (a : i < f.me) (small : f.me ≤ 64) (o : k < 256)
        (ev : v ≡ i + 256 * k + 65536 * 0) (sg : Describes plan b s) (pu : p ≡ values s.role) (tx : MethodText file plan b text)
        (w : Does whole text file plan state locals log₁ (record { me = i; pure = p }) (record { at = 0; calls = o₁.calls }) log₂ r) where
      -- what the code has evaluated is the method's body
      body : Bodied text file plan state locals log f m i k b log₁ log₂ r
      unfolding Is
      body = record {
        bodied = λ D u c q n.
            let x = q.0 in
            let on = noted nt was in
            let began : o₁.calls ≡ m.calls + 1 = ap (λ (q : Mark). q.calls) on.2 in
            let st = u.stands.methods_stand b x q.2 in
            let pure : p ≡ is_value x.role = pu ∙ role_is_value s.role ∙ ap is_value (sg.role D x u.plans q.2) in (
              x,
              q.2,
              rw on.1 (inside state locals log f m.calls i k v g e l on.0 a small o ev D c x q.1 (kd.kinds D x u q.2) n),
              rw (pure, began) at ((w.does D u (x.start + x.size) (R.at (length file) x.place 7) 16 (omega arith)).says x.body [] (rw (tx.text D x u q.2) st.body)),
            );
      }

      pub enter_halts : M.Halts r → Finishes (DC.Callee.User b) file plan state locals log f m i k log₂ r
      enter_halts s = record {
        finishes = λ D u c q n rest. let d = body.bodied D u c q n in M.halts_as value s rest log₂ (drop m.at rest) (d.2 ∙ rw (M.halts_by value s text log₂ [] d.3) (M.stays s _));
        rests = none_rests m s;
        kept = w.kept ∙ ap length (noted nt was).1 ∙ lib.ListN.length-set log m.calls v;
      }

      module _ {u : DV.Value} {m₁ : Mark} {t₂ : Bool} (y : r ≡ Answer.Value u m₁) (z : t₂ ≡ same_kind (K.kind s.result) (kind_of (value u))) where
        pub enter_result : t₂ ≡ false → Finishes (DC.Callee.User b) file plan state locals log f m i k log₂ (Answer.Stuck Reason.Kind)
        unfolding Agrees Rests number_of and_then W.needs
        enter_result s = record {
          finishes = λ D w c q n rest. let d = body.bodied D w c q n in d.2 ∙ rw (M.valued value text log₂ [] _ y d.3, result_is u D d.0 w.plans d.1 sg z, s) refl;
          rests = tt;
          kept = w.kept ∙ ap length (noted nt was).1 ∙ lib.ListN.length-set log m.calls v;
        }

        pub enter_done : t₂ ≡ true → Finishes (DC.Callee.User b) file plan state locals log f m i k log₂ (Answer.Value u (record { at = m.at; calls = m₁.calls }))
        unfolding Agrees Rests and_then W.needs
        enter_done s = record {
          finishes = λ D w c q n rest. let d = body.bodied D w c q n in (d.2 ∙ rw (M.valued value text log₂ [] _ y d.3, result_is u D d.0 w.plans d.1 sg z, s) refl, refl);
          rests = (refl, (onward w y).2);
          kept = w.kept ∙ ap length (noted nt was).1 ∙ lib.ListN.length-set log m.calls v;
        }

-- ---- what is left of a call

module _ {file plan : List ℕ} {state : List ℤ} {locals : List DV.Value} {log log₁ : List ℕ} {f : Place} {m : Mark} {i k : ℕ} {d : DC.Callee} where
  pub finish_read : {r : Answer} → d ≡ DC.Callee.Read → Port DC.Callee.Read state [] log m i k log₁ r → Finishes d file plan state locals log f m i k log₁ r
  unfolding Is
  finish_read q p =
      let w = p.port file plan f in
      rw q (record {
        finishes = λ D u c h n. rw (no_locals locals (none_live h n)) (w.finishes D u c h (none_live h refl));
        rests = w.rests;
        kept = w.kept;
      })

  pub finish_write : {r : Answer} → d ≡ DC.Callee.Write → Port DC.Callee.Write state locals log m i k log₁ r → Finishes d file plan state locals log f m i k log₁ r
  finish_write q p = rw q (p.port file plan f)

  pub finish_body : {r : Answer} {b : ℕ} → d ≡ DC.Callee.User b → Finishes (DC.Callee.User b) file plan state locals log f m i k log₁ r → Finishes d file plan state locals log f m i k log₁ r
  finish_body q p = rw q p

-- ---- a call

-- what the code found is what the call names; n is its argument count
names_is : (t : Test Callee) (D : Design) (i m : ℕ) (d : DC.Callee) → Names t D i m (Ok d) → (c : Callee) × (t ≡ passed c) × Is D d c
unfolding Names Is
names_is t D i m DC.Callee.Read (p, e) = (Callee.port (Access.read p), e, (p, refl))
names_is t D i m DC.Callee.Write (p, e) = (Callee.port (Access.write p), e, (p, refl))
names_is t D i m (DC.Callee.User k) (x, e, d, n) = (Callee.user x, e, (x, refl, d))

how_many_are : (end : ℕ) (bad : Refusal) (E : List ℕ → Read Expr) (n : ℕ) (s : List ℕ) {es : Exprs} {rest : List ℕ} → G.exprs end bad E n s ≡ got es rest → how_many es ≡ n
unfolding G.exprs how_many
how_many_are end bad E zero s q = ap how_many (sym (got_value q))
how_many_are end bad E (suc n) s q = bound (E s) _ q (λ e r p q₂. bound (G.exprs end bad E n r) _ q₂ (λ es r₂ p₂ q₃.
    sym (ap how_many (got_value q₃)) ∙ ap suc (how_many_are end bad E n r p₂)))

passed_is : {A : Type 0} {a b : A} → passed a ≡ passed b → a ≡ b
passed_is e = cc

failed_is : {A : Type 0} {a : A} {n : ℕ} → failed n ≡ passed a → ⊥
failed_is e = let z : ◌≡◌ {A = ℕ} 0 1 = cc in omega arith

-- so many arguments as the callee has parameters
counted : (D : Design) (me i k n : ℕ) (pure : Bool) {c : Callee} → named D me i k n pure ≡ passed c → length (params_of c) ≡ n
unfolding named test if_passed
counted D me i k n pure {c} e = go (ltb i me) (callee_of D i k) e
  where
    last : (d : Callee) (s t : Bool) → eqb n (length (params_of d)) ≡ s → test s 25 (test t 26 (passed d)) ≡ passed c → length (params_of c) ≡ n
    last d true true q e = ap (λ d. length (params_of d)) (sym (passed_is e)) ∙ sym (eqb-true n (length (params_of d)) q)
    last d true false q e = absurd (failed_is e)
    last d false t q e = absurd (failed_is e)

    go : (b : Bool) (t : Test Callee) → test b 23 (if_passed t (λ d. test (eqb n (length (params_of d))) 25 (test (not pure || is_value (role_of d)) 26 (passed d)))) ≡ passed c → length (params_of c) ≡ n
    go true (passed d) e = last d (eqb n (length (params_of d))) (not pure || is_value (role_of d)) refl e
    go true (failed x) e = absurd (failed_is e)
    go false t e = absurd (failed_is e)

rested : (end : ℕ) (m n : Mark) (r : Answer) → m.at < n.at → n.at ≤ end → Rests n r → Onward end m r
unfolding Rests Onward
rested end m n (Answer.Value v o) h l w = (omega (arith, w.0), omega (arith, w.0), w.1)
rested end m n Answer.Unavailable h l w = tt
rested end m n (Answer.Stuck k) h l w = tt

module _ {text file plan : List ℕ} {state : List ℤ} {locals : List DV.Value} {log : List ℕ} {f : Place} {m : Mark} where
  pub call_cut : {h : Maybe Call} → Heads text m.at h → h ≡ None → Does (after Tag.call) text file plan state locals log f m log (Answer.Stuck Reason.Kind)
  unfolding Headed
  call_cut h e = unread M.fast (λ n bad lv. (rw e at h.headed) n bad _)

  module _ {h : Maybe Call} {call : Call} (w : Heads text m.at h) (e : h ≡ Some call) where
    pub call_below : f.me ≤ call.instance → Does (after Tag.call) text file plan state locals log f m log (Answer.Stuck Reason.Instance)
    unfolding Headed E.evaluate E.eval E.tested named test Agrees number_of Onward
    call_below q =
        let u = rw e at w.headed in
        record {
          does = λ D o end bad lv le. rw (u.2 end bad (G.expr end bad lv)) (M.any _ _ (λ es s. M.stop (rw (le-ltb call.instance f.me q))));
          onward = tt;
          kept = refl;
        }

    module _ {c₁ : Result DC.Callee Reason} (g : Naming plan f.me call.instance call.method call.count f.pure c₁) where
      pub call_no : {r : Reason} → c₁ ≡ Err r → Does (after Tag.call) text file plan state locals log f m log (Answer.Stuck r)
      unfolding Headed E.evaluate E.eval E.tested Agrees Names Onward
      call_no y =
          let u = rw e at w.headed in
          record {
            does = λ D o end bad lv le. rw (u.2 end bad (G.expr end bad lv)) (M.any_read _ _ (λ es s p.
                M.stop (rw (how_many_are end bad (G.expr end bad lv) call.count (drop call.at text) p, rw y at (g.names D o.plans)))));
            onward = tt;
            kept = refl;
          }

      -- a read has no arguments
      pub call_read : {log₁ : List ℕ} {r : Answer} → c₁ ≡ Ok DC.Callee.Read → Port DC.Callee.Read state [] log (record { at = call.at; calls = m.calls }) call.instance call.method log₁ r →
          Does (after Tag.call) text file plan state locals log f m log₁ r
      unfolding Headed E.evaluate E.eval E.tested E.evals G.exprs bind and_then how_many finish Names Is params_of env_of
      call_read {r = r} y p =
          let u = rw e at w.headed in
          let q = p.port file plan f in
          record {
            does = λ D o end bad lv le.
                let j = rw y at (g.names D o.plans) in
                let z : call.count ≡ 0 = sym (counted D f.me call.instance call.method call.count f.pure j.1) in
                rw (u.2 end bad (G.expr end bad lv), z)
                (M.stop (rw (sym (ap (λ x. named D f.me call.instance call.method x f.pure) z) ∙ j.1) (q.finishes D o (Callee.port (Access.read j.0)) (j.0, refl) refl text)));
            onward = rested (length text) m (record { at = call.at; calls = m.calls }) r u.0 (u.1) q.rests;
            kept = q.kept;
          }

      module _ {d : DC.Callee} (ok : c₁ ≡ Ok d) {args : List DV.Value} {log₁ : List ℕ} {s : Answer} (l : Lists call.count text file plan state locals log f (record { at = call.at; calls = m.calls }) args log₁ s) where
        pub call_halts : M.Halts s → Does (after Tag.call) text file plan state locals log f m log₁ s
        unfolding Headed E.evaluate E.eval E.tested
        call_halts a =
            let u = rw e at w.headed in
            record {
              does = λ D o end bad lv le. rw (u.2 end bad (G.expr end bad lv)) (M.fails_read _ (l.does D o end bad lv le) a (λ es t p z.
                  M.halt a (rw (how_many_are end bad (G.expr end bad lv) call.count (drop call.at text) p, (names_is _ D call.instance call.method d (rw ok at (g.names D o.plans))).1, z) (M.stays a _))));
              onward = M.no_mark (length text) m a;
              kept = l.kept;
            }

        pub call_done : {log₂ : List ℕ} {r : Answer} {v : DV.Value} {m₁ : Mark} → s ≡ Answer.Value v m₁ →
            call.count ≤ length args → Finishes d file plan state (take call.count args) log₁ f m₁ call.instance call.method log₂ r → Does (after Tag.call) text file plan state locals log f m log₂ r
        unfolding Headed E.evaluate E.eval E.tested and_then finish Along
        call_done {log₂} {r} {m₁ = m₁} y size z =
            let u = rw e at w.headed in
            let a = rw y at l.along in
            record {
              does = λ D o end bad lv le. rw (u.2 end bad (G.expr end bad lv)) (M.then_read _ (l.does D o end bad lv le) y (λ es t p x.
                  let j = names_is _ D call.instance call.method d (rw ok at (g.names D o.plans)) in
                  M.stop (rw (how_many_are end bad (G.expr end bad lv) call.count (drop call.at text) p, j.1, x)
                  (z.finishes D o j.0 j.2 (counted D f.me call.instance call.method call.count f.pure j.1 ∙ sym (length-take-le call.count args size)) text))));
              onward = rested (length text) m m₁ r (omega (arith, u.0, a.0)) a.1 z.rests;
              kept = z.kept ∙ l.kept;
            }

-- ---- a display

module _ {text file plan : List ℕ} {state : List ℤ} {locals : List DV.Value} {log : List ℕ} {f : Place} {m : Mark} where
  pub display_pure : f.pure ≡ true → Does (after Tag.display) text file plan state locals log f m log (Answer.Stuck Reason.Pure)
  unfolding G.after E.evaluate E.eval W.needs Agrees number_of Onward
  display_pure e = record { does = λ D u end bad lv le. M.any _ _ (λ a s. M.stop (rw e)); onward = tt; kept = refl }

  module _ (e : f.pure ≡ false) {log₁ : List ℕ} {r : Answer} (w : Does whole text file plan state locals log f m log₁ r) where
    pub display_halts : M.Halts r → Does (after Tag.display) text file plan state locals log f m log₁ r
    unfolding G.after E.evaluate E.eval W.needs
    display_halts s = record {
      does = λ D u end bad lv le. M.fails _ (w.does D u end bad lv le) s (λ a t q. M.halt s (rw (e, rw e at q) (M.stays s _)));
      onward = M.no_mark (length text) m s;
      kept = w.kept;
    }

    module _ {v : DV.Value} {m₁ : Mark} (y : r ≡ Answer.Value v m₁) where
      pub display_kind : NotNum v → Does (after Tag.display) text file plan state locals log f m log₁ (Answer.Stuck Reason.Kind)
      unfolding G.after E.evaluate E.eval W.needs and_then Agrees number_of Onward
      display_kind s = record {
        does = λ D u end bad lv le. M.then _ (w.does D u end bad lv le) y (λ a q. M.stop (rw (e, rw e at q) (O.num_stuck _ s)));
        onward = tt;
        kept = w.kept;
      }

      module _ {x : ℕ} (z : v ≡ DV.Value.Num x) (l : 64 ≤ length log) where
        pub display_full : {log₂ : List ℕ} {n : ℕ} {note : Maybe Mark} → Notes log₁ m₁ n log₂ note → note ≡ None → Does (after Tag.display) text file plan state locals log f m log₂ (Answer.Stuck Reason.Calls)
        unfolding G.after E.evaluate E.eval W.needs and_then W.as_num value Agrees number_of Onward
        display_full t none =
            let h = full t none in
            rw h.1 (record {
              does = λ D u end bad lv le. M.then _ (w.does D u end bad lv le) y (λ a q. M.stop (rw (e, rw e at q, z) (no_room log₁ m₁.calls _ _ (rw w.kept l) h.0)));
              onward = tt;
              kept = w.kept;
            })

        pub display_done : {log₂ : List ℕ} {n : ℕ} {note : Maybe Mark} {o : Mark} → Notes log₁ m₁ n log₂ note → note ≡ Some o → x < 4294967296 → n ≡ 255 + 256 * 0 + 65536 * x →
            Does (after Tag.display) text file plan state locals log f m log₂ (Answer.Value DV.Value.Void o)
        unfolding G.after E.evaluate E.eval W.needs and_then W.as_num value Agrees Onward
        display_done {n = n} t was b c =
            let h = noted t was in
            let o = onward w y in
            rw (h.2, h.1) (record {
              does = λ D u end bad lv le. M.then _ (w.does D u end bad lv le) y (λ a q. M.stop (
                rw (e, rw e at q, z)
                    (room log₁ m₁.calls (Event.display (number x)) _ n (rw w.kept l) h.0 (ap event_of c ∙ display_event x b)),
                refl,
              ));
              onward = (o.0, o.1, omega (arith, h.0));
              kept = lib.ListN.length-set log₁ m₁.calls n ∙ w.kept;
            })
