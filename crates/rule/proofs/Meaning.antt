-- What is evaluated: the answer of a whole follows from the answers of its parts, whatever the parts are. A part that was read and has a
-- value goes on with what follows it; one with none ends the whole; a part that does not read says nothing.
use Prim.Native.Nat.{ℕ}
use mathlib.Core.Path.{◌≡◌, refl, sym, subst, ◌∙◌}
use mathlib.Core.Bool.{Bool, true, false}
use mathlib.Core.List.{List}
use lib.ListN.{take, drop}
use Rattle.design.specs.Take.{Refusal, Read, got, refused, bind, needs}
use Rattle.std.specs.Prelude.{Option as Maybe, Some, None}
use Rattle.design.specs.Text.{Reaches, Passes}
use Rattle.design.proofs.Inverting.{never, bound, got_value, got_rest}
use Rattle.rule.specs.declared.Value as DV
use Rattle.rule.specs.declared.Reason.{Reason}
use Rattle.rule.specs.declared.Mark.{Mark}
use Rattle.rule.specs.declared.Answer.{Answer}
use Rattle.meaning.specs.Values.{Event, Out, and_then}
use Rattle.rule.specs.Log.{events}
use Rattle.rule.specs.Answers.{number_of}
use Rattle.rule.specs.Post.{Agrees, Means, Onward}

-- ---- an answer with no value

pub data Halts : Answer → Type 0 where
  shut : Halts Answer.Unavailable
  fast : {n : Reason} → Halts (Answer.Stuck n)

-- what the `else` of a `let Answer::Value(..) = .. else` knows
pub halts : (r : Answer) → ((v : DV.Value) (m : Mark) → r ≡ Answer.Value v m → ⊥) → Halts r
halts (Answer.Value v m) h = absurd (h v m refl)
halts Answer.Unavailable h = shut
halts (Answer.Stuck n) h = fast

-- its outcome, which is also that of whatever begins with it
unfoldable pub halted : {A : Type 0} {r : Answer} → Halts r → Out A
halted shut = Out.unavailable
halted (fast {n}) = Out.stuck (number_of n)

pub stays : {A B : Type 0} {r : Answer} (h : Halts r) (f : A → List Event → Out B) → and_then (halted h) f ≡ halted h
unfolding halted and_then
stays shut f = refl
stays fast f = refl

pub halts_by : {B : Type 0} (made : DV.Value → B) {r : Answer} (h : Halts r) (text log rest : List ℕ) {o : Out B} → Agrees made text log rest r o → o ≡ halted h
unfolding halted Agrees
halts_by made shut text log rest e = e
halts_by made fast text log rest e = e

pub halts_as : {B : Type 0} (made : DV.Value → B) {r : Answer} (h : Halts r) (text log rest : List ℕ) {o : Out B} → o ≡ halted h → Agrees made text log rest r o
unfolding halted Agrees
halts_as made shut text log rest e = e
halts_as made fast text log rest e = e

pub valued : {B : Type 0} (made : DV.Value → B) (text log rest : List ℕ) {r : Answer} {v : DV.Value} {m : Mark} (o : Out B) → r ≡ Answer.Value v m →
    Agrees made text log rest r o → o ≡ Out.got (made v) (events (take m.calls log))
unfolding Agrees
valued made text log rest o e h = (rw e at h).0

pub no_mark : (end : ℕ) (m : Mark) {r : Answer} → Halts r → Onward end m r
unfolding Onward
no_mark end m shut = tt
no_mark end m fast = tt

-- ---- any parts

-- a part that does not read
pub none_any : {A B : Type 0} {made : DV.Value → B} {p : Read A} {why : Refusal} {f : A → Out B} {text log : List ℕ} {r : Answer} → p ≡ refused why → Means made p f text log r
none_any e = record { says = λ a rest q. absurd (never (sym e ∙ q)) }

module _ {B : Type 0} {made : DV.Value → B} where
  -- a part that has been read: with an outcome, and with none
  pub stop : {A : Type 0} {a : A} {rest text log : List ℕ} {f : A → Out B} {r : Answer} → Agrees made text log rest r (f a) → Means made (got a rest) f text log r
  stop {A} {a} {rest} {text} {log} {f} {r} h = record {
    says = λ b s e. subst (λ (t : List ℕ). Agrees made text log t r (f b)) (got_rest e) (subst (λ (c : A). Agrees made text log rest r (f c)) (got_value e) h);
  }

  pub halt : {A : Type 0} {a : A} {rest text log : List ℕ} {f : A → Out B} {r : Answer} (h : Halts r) → f a ≡ halted h → Means made (got a rest) f text log r
  halt {rest = rest} {text} {log} {f} h e = stop {f = f} (halts_as made h text log rest e)

  -- the first part has a value; the continuation may use what it was read as
  pub then_read : {A A₁ B₁ : Type 0} {made₁ : DV.Value → B₁} {p : Read A₁} (k : A₁ → List ℕ → Read A) {g : A₁ → Out B₁} {f : A → Out B} {text log₁ log : List ℕ}
      {r₁ r : Answer} {v : DV.Value} {m : Mark} → Means made₁ p g text log₁ r₁ → r₁ ≡ Answer.Value v m →
      ((a : A₁) (s : List ℕ) → p ≡ got a s → g a ≡ Out.got (made₁ v) (events (take m.calls log₁)) → Means made (k a (drop m.at text)) f text log r) →
      Means made (bind p k) f text log r
  unfolding Agrees
  then_read {p = p} k h e next = record {
    says = λ b t q. bound p k q (λ a s pa kb. let w = rw e at (h.says a s pa) in (next a s pa w.0).says b t (rw w.1 kb));
  }

  pub then : {A A₁ B₁ : Type 0} {made₁ : DV.Value → B₁} {p : Read A₁} (k : A₁ → List ℕ → Read A) {g : A₁ → Out B₁} {f : A → Out B} {text log₁ log : List ℕ}
      {r₁ r : Answer} {v : DV.Value} {m : Mark} → Means made₁ p g text log₁ r₁ → r₁ ≡ Answer.Value v m →
      ((a : A₁) → g a ≡ Out.got (made₁ v) (events (take m.calls log₁)) → Means made (k a (drop m.at text)) f text log r) → Means made (bind p k) f text log r
  then k h e next = then_read k h e (λ a s q. next a)

  -- the first part has none, and so has the whole
  pub fails_read : {A A₁ B₁ : Type 0} {made₁ : DV.Value → B₁} {p : Read A₁} (k : A₁ → List ℕ → Read A) {g : A₁ → Out B₁} {f : A → Out B} {text log : List ℕ}
      {r : Answer} → Means made₁ p g text log r → (h : Halts r) →
      ((a : A₁) (s : List ℕ) → p ≡ got a s → g a ≡ halted h → Means made (k a s) f text log r) → Means made (bind p k) f text log r
  fails_read {made₁ = made₁} {p = p} k {text = text} {log} m h next =
      record { says = λ b t q. bound p k q (λ a s pa kb. (next a s pa (halts_by made₁ h text log s (m.says a s pa))).says b t kb) }

  pub fails : {A A₁ B₁ : Type 0} {made₁ : DV.Value → B₁} {p : Read A₁} (k : A₁ → List ℕ → Read A) {g : A₁ → Out B₁} {f : A → Out B} {text log : List ℕ}
      {r : Answer} → Means made₁ p g text log r → (h : Halts r) →
      ((a : A₁) (s : List ℕ) → g a ≡ halted h → Means made (k a s) f text log r) → Means made (bind p k) f text log r
  fails k m h next = fails_read k m h (λ a s q. next a s)

  -- a part that is not evaluated and is not passed over either, since what came before it has no value
  pub any_read : {A A₁ : Type 0} (p : Read A₁) (k : A₁ → List ℕ → Read A) {f : A → Out B} {text log : List ℕ} {r : Answer} →
      ((a : A₁) (s : List ℕ) → p ≡ got a s → Means made (k a s) f text log r) → Means made (bind p k) f text log r
  any_read p k next = record { says = λ b t q. bound p k q (λ a s pa kb. (next a s pa).says b t kb) }

  pub any : {A A₁ : Type 0} (p : Read A₁) (k : A₁ → List ℕ → Read A) {f : A → Out B} {text log : List ℕ} {r : Answer} →
      ((a : A₁) (s : List ℕ) → Means made (k a s) f text log r) → Means made (bind p k) f text log r
  any p k next = any_read p k (λ a s q. next a s)

  -- a test of reading: where it fails, nothing is read
  pub tried : {A : Type 0} {p : Read A} (t : Bool) (why : Refusal) {f : A → Out B} {text log : List ℕ} {r : Answer} → Means made p f text log r →
      Means made (needs t why p) f text log r
  unfolding needs
  tried true why h = h
  tried false why h = none_any {why = why} refl

  -- the last part: its answer is that of the whole
  pub wraps : {A A₁ : Type 0} {p : Read A₁} (c : A₁ → A) {g : A₁ → Out B} {f : A → Out B} {text log : List ℕ} {r : Answer} →
      Means made p g text log r → ((a : A₁) → f (c a) ≡ g a) → Means made (bind p (λ a s. got (c a) s)) f text log r
  wraps {p = p} c {f = f} {r = r} h same = record {
    says = λ b t q. bound p (λ a s. got (c a) s) q (λ a s pa kb. (stop {f = f} {r = r} (rw (same a) (h.says a s pa))).says b t kb);
  }

  -- the same outcome, said in other words
  pub same : {A : Type 0} {p : Read A} {g f : A → Out B} {text log : List ℕ} {r : Answer} → ((a : A) → f a ≡ g a) → Means made p g text log r → Means made p f text log r
  same e h = record { says = λ a s q. rw (e a) (h.says a s q) }

  -- the same, where the whole takes from the part's outcome what t takes
  turned : {B₁ : Type 0} (made₁ : DV.Value → B₁) (t : B₁ → B) (text log rest : List ℕ) (r : Answer) (o : Out B₁) → ((v : DV.Value) → t (made₁ v) ≡ made v) →
      Agrees made₁ text log rest r o → Agrees made text log rest r (and_then o (λ b l. Out.got (t b) l))
  unfolding Agrees and_then
  turned made₁ t text log rest (Answer.Value v m) o e (a, b) = (rw (a, e v), b)
  turned made₁ t text log rest Answer.Unavailable o e a = rw a
  turned made₁ t text log rest (Answer.Stuck n) o e a = rw a

  pub turns : {A A₁ B₁ : Type 0} {made₁ : DV.Value → B₁} {p : Read A₁} (c : A₁ → A) (t : B₁ → B) {g : A₁ → Out B₁} {f : A → Out B} {text log : List ℕ} {r : Answer} →
      Means made₁ p g text log r → ((v : DV.Value) → t (made₁ v) ≡ made v) → ((a : A₁) → f (c a) ≡ and_then (g a) (λ b l. Out.got (t b) l)) →
      Means made (bind p (λ a s. got (c a) s)) f text log r
  turns {made₁ = made₁} {p = p} c t {g} {f} {text} {log} {r} h e same = record {
    says = λ b u q. bound p (λ a s. got (c a) s) q (λ a s pa kb.
        (stop {f = f} {r = r} (rw (same a) (turned made₁ t text log s r (g a) e (h.says a s pa)))).says b u kb);
  }

  -- a part that is passed over by a reader that reads at least as much, and one that cannot be
  pub passed : {A A₁ : Type 0} {p q : Read A₁} (k : A₁ → List ℕ → Read A) {bad : Refusal} {f : A → Out B} {text log : List ℕ} {r : Answer} {x : Maybe ℕ} {n : ℕ} →
      Passes q bad text x → x ≡ Some n → ((a : A₁) (s : List ℕ) → p ≡ got a s → q ≡ got a s) → ((a : A₁) → Means made (k a (drop n text)) f text log r) →
      Means made (bind p k) f text log r
  unfolding Reaches
  passed {p = p} k {f = f} {text} {log} {r} h e more next =
      let w = rw e at h.reaches in
      any_read p k (λ a s u. subst (λ (t : List ℕ). Means made (k a t) f text log r) (got_rest (sym w.1 ∙ more a s u)) (next a))

  pub broken : {A A₁ : Type 0} {p q : Read A₁} (k : A₁ → List ℕ → Read A) {bad : Refusal} {f : A → Out B} {text log : List ℕ} {r : Answer} {x : Maybe ℕ} →
      Passes q bad text x → x ≡ None → ((a : A₁) (s : List ℕ) → p ≡ got a s → q ≡ got a s) → Means made (bind p k) f text log r
  unfolding Reaches
  broken {p = p} k h e more = any_read p k (λ a s u. absurd (never (sym (rw e at h.reaches) ∙ more a s u)))
