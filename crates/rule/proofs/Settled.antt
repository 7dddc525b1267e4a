-- The promise of `turn` settles its answer and the events in the log: the outcome leads back to both. So does a number to its reason, and what
-- a call names to the code's callee, by the method's number through the file.
use Prim.Native.Nat.{ℕ, ◌+◌, ◌-◌, ◌≤◌}
use mathlib.Core.Path.{◌≡◌, refl, ap, sym, ◌∙◌}
use mathlib.Core.Bool.{Bool}
use mathlib.Core.List.{List, [], ◌∷◌}
use mathlib.Core.Option.{some}
use native.Mathlib.Omega.{arith}
use lib.IntN.{ℤ}
use lib.ListN.{length, take, get_or, length-map, length-take}
use Rattle.design.specs.Syntax.{Rule, Design}
use Rattle.design.specs.Records.{methods}
use Rattle.design.specs.Plan.{before, Plans, World}
use Rattle.rule.specs.declared.Reason.{Reason}
use Rattle.rule.specs.declared.Taken.{Taken}
use Rattle.rule.specs.declared.naming.Callee as DC
use Rattle.std.specs.Prelude.{Result, Ok, Err}
use Rattle.meaning.specs.Values.{Value, Event, Out}
use Rattle.meaning.specs.Lookup.{Access, rule_of}
use Rattle.meaning.specs.Naming.{Test, passed, failed, Callee, named}
use Rattle.rule.specs.Named.{Names, Naming}
use Rattle.rule.specs.Log.{events}
use Rattle.meaning.specs.Evaluate as E
use Rattle.rule.specs.Answers.{number_of}
use Rattle.rule.specs.Promises.{Took, Few, Turns}

pub reason_of : ℕ → Reason
reason_of n =
    get_or (Reason.Kind ∷ Reason.Local ∷ Reason.Instance ∷ Reason.Method ∷ Reason.Count ∷ Reason.Pure ∷ Reason.Calls ∷ Reason.Locals ∷ []) (n - 21)
    Reason.Kind

pub reason_back : (k : Reason) → reason_of (number_of k) ≡ k
unfolding reason_of number_of
reason_back Reason.Kind = refl
reason_back Reason.Local = refl
reason_back Reason.Instance = refl
reason_back Reason.Method = refl
reason_back Reason.Count = refl
reason_back Reason.Pure = refl
reason_back Reason.Calls = refl
reason_back Reason.Locals = refl

-- the events that an answer says the log holds
unfoldable pub held : Taken → List ℕ → List Event
held (Taken.Recorded n) log = events (take n log)
held Taken.Unavailable log = []
held (Taken.Stuck k) log = []

answer_of : Out Value → Taken
answer_of (Out.got v es) = Taken.Recorded (length es)
answer_of Out.unavailable = Taken.Unavailable
answer_of (Out.stuck n) = Taken.Stuck (reason_of n)

events_of : Out Value → List Event
events_of (Out.got v es) = es
events_of Out.unavailable = []
events_of (Out.stuck n) = []

counted : (n : ℕ) (log : List ℕ) → n ≤ 64 → 64 ≤ length log → length (events (take n log)) ≡ n
counted n log few room = simp (length-map, length-take) (omega arith)

back : (r : Taken) (log : List ℕ) (o : Out Value) → Took log r o → Few r → 64 ≤ length log → answer_of o ≡ r
unfolding Took Few answer_of
back (Taken.Recorded n) log o e few room = ap answer_of e ∙ ap Taken.Recorded (counted n log few room)
back Taken.Unavailable log o e few room = ap answer_of e
back (Taken.Stuck k) log o e few room = ap answer_of e ∙ ap Taken.Stuck (reason_back k)

events_back : (r : Taken) (log : List ℕ) (o : Out Value) → Took log r o → events_of o ≡ held r log
unfolding Took held events_of
events_back (Taken.Recorded n) log o e = ap events_of e
events_back Taken.Unavailable log o e = ap events_of e
events_back (Taken.Stuck k) log o e = ap events_of e

-- what `turn` ensures of a rule of a design, of two answers and the logs that they leave
module _ (file plan : List ℕ) (state : List ℤ) (log : List ℕ) (n : ℕ) (D : Design) (w : World file plan D) (state_fits : length state ≡ length D.instances)
    (room : 64 ≤ length log) (x : Rule) (found : rule_of D n ≡ some x) where
  pub turn_settled : (log₁ log₂ : List ℕ) (a b : Taken) → Turns file plan state log n log₁ a → Turns file plan state log n log₂ b →
      (a ≡ b) × (held a log₁ ≡ held b log₂)
  turn_settled log₁ log₂ a b p q =
      let o : Out Value = E.rule D state x in
      let p₁ : Took log₁ a o = p.took D w state_fits room x found in
      let q₁ : Took log₂ b o = q.took D w state_fits room x found in (
        sym (back a log₁ o p₁ p.few (omega (arith, p.kept))) ∙ back b log₂ o q₁ q.few (omega (arith, q.kept)),
        sym (events_back a log₁ o p₁) ∙ events_back b log₂ o q₁,
      )

-- ---- what a call names

-- the callee that a name on method m of instance i leaves
callee_of : Test Callee → Design → (i m : ℕ) → Result DC.Callee Reason
callee_of (passed (Callee.port (Access.read p))) D i m = Ok DC.Callee.Read
callee_of (passed (Callee.port (Access.write p))) D i m = Ok DC.Callee.Write
callee_of (passed (Callee.user x)) D i m = Ok (DC.Callee.User (before i (methods D.bodies) + m))
callee_of (failed n) D i m = Err (reason_of n)

callee_back : (t : Test Callee) (D : Design) (i m : ℕ) (r : Result DC.Callee Reason) → Names t D i m r → callee_of t D i m ≡ r
unfolding Names callee_of
callee_back t D i m (Ok DC.Callee.Read) h = ap (λ u. callee_of u D i m) h.1
callee_back t D i m (Ok DC.Callee.Write) h = ap (λ u. callee_of u D i m) h.1
callee_back t D i m (Ok (DC.Callee.User k)) h = ap (λ u. callee_of u D i m) h.1 ∙ ap (λ j. Ok (DC.Callee.User j)) (sym h.3)
callee_back t D i m (Err k) h = ap (λ u. callee_of u D i m) h ∙ ap Err (reason_back k)

-- what `named` ensures of a design
pub named_settled : (plan : List ℕ) (me i m n : ℕ) (pure : Bool) (D : Design) → Plans plan D → (a b : Result DC.Callee Reason) →
    Naming plan me i m n pure a → Naming plan me i m n pure b → a ≡ b
named_settled plan me i m n pure D w a b p q =
    let t = named D me i m n pure in
    sym (callee_back t D i m a (p.names D w)) ∙ callee_back t D i m b (q.names D w)
