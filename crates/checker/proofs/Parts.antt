-- What is walked: how a whole went follows from how its parts went, whatever the parts are. A part that was read and went on leads to what
-- follows it; one that did not ends the whole; a part that does not read says nothing.
use Prim.Native.Nat.{ℕ, ◌+◌, ◌≤◌, ◌<◌}
use mathlib.Core.Path.{◌≡◌, refl, ap, sym, subst, ◌∙◌}
use mathlib.Core.Bool.{Bool, true, false}
use mathlib.Core.List.{List}
use native.Mathlib.Omega.{arith}
use lib.ListN.{length, drop, get_or}
use Rattle.std.specs.Prelude.{Option as Maybe, Some, None, Result, Ok, Err}
use Rattle.std.specs.Option.{ok_or}
use Rattle.design.specs.Text.{Sees}
use Rattle.std.specs.Result.{IsErrAnd}
use Rattle.std.proofs.lemmas.Result.{err_from_is_err_and}
use Rattle.design.specs.Take.{Refusal, Read, got, refused, bind, needs, byte}
use Rattle.design.proofs.Taking as T
use Rattle.rule.specs.declared.Reason.{Reason}
use Rattle.design.proofs.Inverting.{bound, got_value, got_rest}
use Rattle.meaning.specs.Naming.{Test, passed, failed}
use Rattle.checker.specs.Walks.{Place, Went, Agrees, Means, Onward, Stands, Reads, Part, Walks, went}
use Rattle.design.specs.declared.kinds.Kind as DK

-- a part that does not read
pub none : {A B : Type 0} {p : Read A} {why : Refusal} {f : A → Test B} {text : List ℕ} {w : Went B} → p ≡ refused why → Means p f text w
none {A} {why = why} e = record { says = λ a rest q. absurd (never (sym e ∙ q)) }
  where
    never : {a : A} {s : List ℕ} → refused why ≡ got a s → ⊥
    never q = let z : ◌≡◌ {A = ℕ} 0 1 = cc in omega arith

-- a part that has been read
pub stop : {A B : Type 0} {a : A} {rest text : List ℕ} {f : A → Test B} {w : Went B} → Agrees text rest w (f a) → Means (got a rest) f text w
stop {A} {B} {a} {rest} {text} {f} {w} h = record {
  says = λ b s e. subst (λ (t : List ℕ). Agrees text t w (f b)) (got_rest e) (subst (λ (c : A). Agrees text rest w (f c)) (got_value e) h);
}

-- it ends the whole with a number, or goes on with what it found
pub ends : {A B : Type 0} {a : A} {rest text : List ℕ} {f : A → Test B} {w : Went B} {m : ℕ} → w ≡ Went.no m → f a ≡ failed m → Means (got a rest) f text w
unfolding Agrees
ends {f = f} e h = stop {f = f} (rw e h)

pub comes : {A B : Type 0} {a : A} {text : List ℕ} {f : A → Test B} {b : B} {n : ℕ} → f a ≡ passed b → Means (got a (drop n text)) f text (Went.on b n)
unfolding Agrees
comes {f = f} h = stop {f = f} (h, refl)

-- the first part went on
pub then : {A B C E : Type 0} {p : Read A} (k : A → List ℕ → Read B) {g : A → Test C} {f : B → Test E} {text : List ℕ} {v : Went C} {w : Went E} {c : C} {n : ℕ} →
    Means p g text v → v ≡ Went.on c n → ((a : A) → p ≡ got a (drop n text) → g a ≡ passed c → Means (k a (drop n text)) f text w) → Means (bind p k) f text w
unfolding Agrees
then {p = p} k h e next = record {
  says = λ b t q. bound p k q (λ a s pa kb.
      let z = rw e at (h.says a s pa) in
      (next a (rw z.1 pa) z.0).says b t (rw z.1 kb));
}

-- the first part did not
pub fails : {A B C E : Type 0} {p : Read A} (k : A → List ℕ → Read B) {g : A → Test C} {f : B → Test E} {text : List ℕ} {v : Went C} {w : Went E} {m : ℕ} →
    Means p g text v → v ≡ Went.no m → ((a : A) (s : List ℕ) → p ≡ got a s → g a ≡ failed m → Means (k a s) f text w) → Means (bind p k) f text w
unfolding Agrees
fails {p = p} k h e next = record { says = λ b t q. bound p k q (λ a s pa kb. (next a s pa (rw e at (h.says a s pa))).says b t kb) }

-- a part that is not walked, since what came before it ends the whole
pub any : {A B E : Type 0} (p : Read A) (k : A → List ℕ → Read B) {f : B → Test E} {text : List ℕ} {w : Went E} →
    ((a : A) (s : List ℕ) → p ≡ got a s → Means (k a s) f text w) → Means (bind p k) f text w
any p k next = record { says = λ b t q. bound p k q (λ a s pa kb. (next a s pa).says b t kb) }

-- a test of reading: where it fails, nothing is read
pub tried : {A B : Type 0} {p : Read A} (t : Bool) (why : Refusal) {f : A → Test B} {text : List ℕ} {w : Went B} → Means p f text w → Means (needs t why p) f text w
unfolding needs
tried true why h = h
tried false why h = none {why = why} refl

-- the last part: it went as the whole
pub wraps : {A B C : Type 0} {p : Read A} (c : A → B) {g : A → Test C} {f : B → Test C} {text : List ℕ} {w : Went C} →
    Means p g text w → ((a : A) → f (c a) ≡ g a) → Means (bind p (λ a s. got (c a) s)) f text w
wraps {p = p} c {f = f} {w = w} h same = record {
  says = λ b t q. bound p (λ a s. got (c a) s) q (λ a s pa kb. (stop {f = f} {w = w} (rw (same a) (h.says a s pa))).says b t kb);
}

pub farther : {B : Type 0} {at n : ℕ} (w : Went B) → at ≤ n → Onward n w → Onward at w
unfolding Onward
farther (Went.on b m) h w = omega arith
farther (Went.no m) h w = tt

-- a walk that went on has not gone back
pub goes : {p : Part} {text file plan : List ℕ} {f : Place} {at n : ℕ} {k : DK.Kind} → Walks p text file plan f at (Ok (k, n)) → at ≤ n
unfolding went Onward
goes w = w.onward

-- a byte that was read, or that none was left
module _ {text : List ℕ} {at : ℕ} where
  module _ {b n : ℕ} (h : Reads text at (Ok (b, n))) where
    pub found : (why : Refusal) → byte why (drop at text) ≡ got b (drop n text)
    unfolding Stands
    found why = T.found h.reads refl why

    pub follows : (n ≡ at + 1) × (n ≤ length text) × (b < 256) × (b ≡ get_or text at 0)
    unfolding Stands
    follows = T.follows h.reads refl

  pub ended : {e : Reason} → Reads text at (Err e) → (why : Refusal) → byte why (drop at text) ≡ refused why
  unfolding Stands
  ended h why = T.ended h.reads.0 refl why

-- what a `?` hands on
pub handed : {A E : Type 0} {r : Result A E} {e : E} → IsErrAnd r (λ x. x ≡ e) → r ≡ Err e
handed {r = r} h = let p = err_from_is_err_and r h in p.1 ∙ ap Err p.2

-- the same byte, as a test
pub stands : {text : List ℕ} {at : ℕ} {x : Maybe (ℕ × ℕ)} {r : Result (ℕ × ℕ) Reason} → Sees text at x → r ≡ ok_or x Reason.Kind → Reads text at r
unfolding Stands
stands {text} {at} {x} {r} h e = go x h e
  where
    go : (x : Maybe (ℕ × ℕ)) → Sees text at x → r ≡ ok_or x Reason.Kind → Reads text at r
    go None h e = rw e (record { reads = (h, refl) })
    go (Some p) h e = rw e (record { reads = h })
