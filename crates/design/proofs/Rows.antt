-- The fields of a record: one law for each way in which a function on fields returns. A field that was read goes on with the next one; a
-- refusal ends the record. A loop over fields keeps `Goes`: what is left to read, from where the loop stands, decides.
use Prim.Native.Nat.{ℕ, zero, suc, ◌+◌, ◌*◌, ◌-◌, ◌≤◌, ◌<◌, ◌^◌}
use mathlib.Core.Path.{◌≡◌, refl, ap, sym, ◌∙◌}
use mathlib.Core.Bool.{Bool, true, false, not, ◌&&◌}
use mathlib.Core.List.{List, [], ◌∷◌, ◌++◌}
use mathlib.Core.Logic.{◌⊎◌, inl, inr}
use Rattle.std.specs.Prelude.{Option, Some, None, Result, Ok, Err, IsErrAnd}
use Rattle.std.specs.Option.{ok_or}
use Rattle.std.specs.List.{list_any, slice_range}
use Rattle.std.specs.Int.{w32, from_le_bytes}
use Rattle.std.proofs.lemmas.Result.{err_from_is_err_and}
use native.Mathlib.Decide.{ℕ_discrete}
use native.Mathlib.Omega.{arith}
use lib.Dec.{leb, ltb, eqb}
use lib.ListN.{length, take, drop, get_or, length-drop, drop_of_length-le}
use Rattle.words.specs.Words.{number as signed}
use Rattle.words.proofs.Laws.{word_number}
use lib.Seq.{take-suc, get_or-take, get_or-drop, drop-drop, take-nil, length-take-le}
use borrow.Author.Tests.{le-leb, lt-leb, lt-ltb, le-ltb, ne_eqb}
use Rattle.design.specs.declared.Fault.{Fault}
use Rattle.design.specs.Syntax.{Kind, Instance, Method}
use Rattle.design.specs.Take.{Refusal, Read, got, refused, bind, needs, pick, byte, four_bytes}
use Rattle.design.specs.Grammar as G
use Rattle.design.specs.Records as R
use Rattle.design.specs.Records.{is_user}
use Rattle.design.specs.Answers.{fault_number}
use Rattle.design.specs.Text.{Sees, several, Reaches, Passes, Skips}
use Rattle.design.specs.Fields.{Row, Value, parse, Shown, refusal, ranged, two, four, params, bodies, method, rule, entries, schedule, Told, Within, ByteOrCut, looked_for, CutAlone, Tells, ToldInstance, WithinInstance, Small, TellsInstance}
use Rattle.design.specs.Plan.{ports_of, start_word, start_value, role_number, kind_number, shape, InstanceFits}
use Rattle.design.proofs.Taking as T
use Rattle.design.proofs.Taking.{found, ended, follows}
use Rattle.design.proofs.Inverting as I
use Rattle.design.proofs.Inverting.{bound, got_value, got_rest, part_read}
use Rattle.design.proofs.Laid.{params_read}
use Rattle.design.proofs.Alike as A
use Rattle.design.proofs.Alike.{Alike, done, same}

-- ---- a byte that was looked for

-- an error that `?` hands up is the one that it was given
pub is_err : {T E : Type 0} {f : E} (r : Result T E) → IsErrAnd r (λ g. g ≡ f) → r ≡ Err f
is_err r h = let p = err_from_is_err_and r h in p.1 ∙ ap Err p.2

-- what was there where `ok_or` gives its value, and where it gives its error
pub some_of : {T E : Type 0} {v : T} (e : E) (x : Option T) → Ok v ≡ ok_or x e → x ≡ Some v
some_of e (Some u) q = cc
some_of e None q = absurd (let z : ◌≡◌ {A = ℕ} 0 1 = cc in omega arith)

pub none_of : {T E : Type 0} {f : E} (e : E) (x : Option T) → Err f ≡ ok_or x e → (x ≡ None) × (f ≡ e)
none_of e (Some u) q = absurd (let z : ◌≡◌ {A = ℕ} 0 1 = cc in omega arith)
none_of e None q = (refl, cc)

module _ {file : List ℕ} {at : ℕ} where
  pub byte_there : {b n : ℕ} → ByteOrCut file at (Ok (b, n)) → (why : Refusal) → byte why (drop at file) ≡ got b (drop n file)
  unfolding looked_for
  byte_there h = found h.sees refl

  pub byte_follows : {b n : ℕ} → ByteOrCut file at (Ok (b, n)) → (n ≡ at + 1) × (n ≤ length file) × (b < 256) × (b ≡ get_or file at 0)
  unfolding looked_for
  byte_follows h = follows h.sees refl

  pub byte_cut : {f : Fault} → ByteOrCut file at (Err f) → (place : ℕ) → byte (refusal Fault.Cut place) (drop at file) ≡ refused (refusal f place)
  unfolding looked_for CutAlone
  byte_cut {f} h place = rw h.cut (ended h.sees refl (refusal Fault.Cut place))

  pub byte_or_cut : (x : Option (ℕ × ℕ)) (y : Result (ℕ × ℕ) Fault) → Sees file at x → y ≡ ok_or x Fault.Cut → ByteOrCut file at y
  unfolding looked_for CutAlone
  byte_or_cut (Some x) y h e = rw e (record { sees = h; cut = tt })
  byte_or_cut None y h e = rw e (record { sees = h; cut = refl })

  pub next_within : {b n : ℕ} → ByteOrCut file at (Ok (b, n)) → n ≤ length file
  next_within h = (byte_follows h).1

-- ---- any rows

-- what a field that was read tells, and one that was refused
pub is : {r : Row} {file : List ℕ} {at v n : ℕ} → Tells r file at (Ok (v, n)) → (place owner : ℕ) →
    (a : Value r) × (parse r (length file) place owner (drop at file) ≡ got a (drop n file)) × Shown r a v
unfolding Told
is h place owner = h.told place owner

pub is_within : {r : Row} {file : List ℕ} {at v n : ℕ} → Tells r file at (Ok (v, n)) → (at ≤ n) × (n ≤ length file)
unfolding Within
is_within h = h.within

pub reaches_within : {r : Row} {file : List ℕ} {at v n : ℕ} → Tells r file at (Ok (v, n)) → n ≤ length file
reaches_within h = (is_within h).1

pub ranged_most : {low high v n : ℕ} {file : List ℕ} {at : ℕ} → Tells (ranged low high) file at (Ok (v, n)) → v ≤ high
ranged_most h = (is h 0 0).2.most

pub refuses : {r : Row} {file : List ℕ} {at : ℕ} {f : Fault} → Tells r file at (Err f) → (place owner : ℕ) →
    parse r (length file) place owner (drop at file) ≡ refused (refusal f place)
unfolding Told
refuses h place owner = h.told place owner

-- a refusal, as an answer
refusing : {r : Row} {file : List ℕ} {at : ℕ} (f : Fault) →
    ((place owner : ℕ) → parse r (length file) place owner (drop at file) ≡ refused (refusal f place)) → Tells r file at (Err f)
unfolding Told Within
refusing f h = record { told = h; within = tt }

farther : (file : List ℕ) {at n : ℕ} (y : Result (ℕ × ℕ) Fault) → at ≤ n → Within file n y → Within file at y
unfolding Within
farther file (Ok (v, m)) h w = omega arith
farther file (Err f) h w = tt

-- what a read tells that ends alike
pub told_alike : (r q : Row) {p : Read (Value r)} {p2 : Read (Value q)} (place : ℕ) (file : List ℕ) (y : Result (ℕ × ℕ) Fault) → Alike p p2 →
    ((a : Value r) (b : Value q) (v : ℕ) → Shown r a v → Shown q b v) → Told r p place file y → Told q p2 place file y
unfolding Told
told_alike r q place file (Ok (v, n)) (done a b s) h w = (b, ap (got b) (rest w.1), h w.0 b v w.2)
  where
    rest : {c d : Value r} {s t : List ℕ} → got c s ≡ got d t → s ≡ t
    rest e = cc
told_alike r q place file (Ok (v, n)) (same why) h w = absurd (never w.1)
  where
    never : {c : Value r} {s : List ℕ} → refused why ≡ got c s → ⊥
    never e = let z : ◌≡◌ {A = ℕ} 0 1 = cc in omega arith
told_alike r q place file (Err f) (done a b s) h w = absurd (never w)
  where
    never : {why : Refusal} → got a s ≡ refused why → ⊥
    never e = let z : ◌≡◌ {A = ℕ} 0 1 = cc in omega arith
told_alike r q place file (Err f) (same why) h w = ap refused (why_of w)
  where
    why_of : {u : Refusal} → ◌≡◌ {A = Read (Value r)} (refused why) (refused u) → why ≡ u
    why_of e = cc

-- ---- single fields

-- a byte of the file from a place on
pub there : (file : List ℕ) (at : ℕ) {s : List ℕ} → s ≡ slice_range file at (length file) → length s + at ≡ length file → (i j : ℕ) → at + i ≡ j → i < length s →
    get_or s i 0 ≡ get_or file j 0
there file at e l i j q h = rw (e, get_or-take (length file - at) (drop at file) i 0 (omega arith), get_or-drop at file i 0, q)

outside : (k low high : ℕ) → (k < low) ⊎ (high < k) → leb low k && leb k high ≡ false
outside k low high (inl h) = rw (lt-leb low k h)
outside k low high (inr h) = rw (lt-leb k high h, and_false (leb low k))
  where
    and_false : (b : Bool) → b && false ≡ false
    and_false true = refl
    and_false false = refl

module _ {file : List ℕ} {at : ℕ} where
  pub ranged_cut : {low high : ℕ} {f : Fault} → ByteOrCut file at (Err f) → Tells (ranged low high) file at (Err f)
  unfolding R.field bind fault_number
  ranged_cut {f = f} h = refusing f (λ place owner. rw (byte_cut h place))

  pub ranged_out : {low high b n k : ℕ} → ByteOrCut file at (Ok (b, n)) → k ≡ b → (k < low) ⊎ (high < k) → Tells (ranged low high) file at (Err Fault.Field)
  unfolding R.field bind needs fault_number
  ranged_out {low} {high} {b} {k = k} h w out =
      refusing Fault.Field (λ place owner. rw (byte_there h (refusal Fault.Cut place), ← w, outside k low high out))

  pub ranged_done : {low high b n k : ℕ} → ByteOrCut file at (Ok (b, n)) → k ≡ b → low ≤ k → k ≤ high → Tells (ranged low high) file at (Ok (k, n))
  unfolding R.field bind needs Told Within fault_number
  ranged_done {low} {high} {b} {k = k} h w p q =
      let f = byte_follows h in
      record {
        told = λ place owner. (k, rw (byte_there h (refusal Fault.Cut place), ← w, le-leb low _ p, le-leb _ high q), record { is = refl; least = p; most = q });
        within = omega (arith, f.0, f.1);
      }

  pub two_cut : length file < at + 2 → Tells two file at (Err Fault.Cut)
  unfolding fault_number
  two_cut h = refusing Fault.Cut (λ place owner. T.two_cut (refusal Fault.Cut place) file at h)

  -- the bytes of the file from a place on
  module _ {s : List ℕ} (e : s ≡ slice_range file at (length file)) (l : length s + at ≡ length file) where
    pub two_done : {k : ℕ} → 2 ≤ length s → k ≡ get_or s 0 0 + get_or s 1 0 * 256 → Tells two file at (Ok (k, at + 2))
    unfolding Told Within fault_number
    two_done {k} h q =
        let is : T.two file at ≡ k = omega (arith, there file at e l 0 at (omega arith) (omega arith), there file at e l 1 (at + 1) refl (omega arith)) in
        record { told = λ place owner. (T.two file at, T.two_at (refusal Fault.Cut place) file at (omega arith), is); within = omega arith }

    pub four_done : {k : ℕ} → 4 ≤ length s → k ≡ from_le_bytes w32 (get_or s 0 0 ∷ get_or s 1 0 ∷ get_or s 2 0 ∷ get_or s 3 0 ∷ []) → k < 2 ^ 32 → Tells four file at (Ok (k, at + 4))
    unfolding Told Within fault_number
    four_done {k} h q small =
        let is : T.four file at ≡ k = omega (arith, there file at e l 0 at (omega arith) (omega arith), there file at e l 1 (at + 1) refl (omega arith), there file at e l 2 (at + 2) refl (omega arith), there file at e l 3 (at + 3) refl (omega arith)) in
        record { told = λ place owner. (T.four file at, T.four_at (refusal Fault.Cut place) file at (omega arith), record { is = is; small = small }); within = omega arith }

  pub four_cut : length file < at + 4 → Tells four file at (Err Fault.Cut)
  unfolding fault_number
  four_cut h = refusing Fault.Cut (λ place owner. T.four_cut (refusal Fault.Cut place) file at h)

-- ---- instances

no_instance : {m : R.Mark} {file : List ℕ} {at : ℕ} (f : Fault) → ((place : ℕ) → R.instance_fields (length file) place m (drop at file) ≡ refused (refusal f place)) →
    TellsInstance m file at (Err f)
unfolding ToldInstance WithinInstance Small
no_instance f h = record { told = h; within = tt; small = tt }

-- a start value, behind what was read before it: the instance that `make` makes of its place and its word
with_start : {m : R.Mark} {file : List ℕ} {at : ℕ} (n c : ℕ) (make : (place w : ℕ) → Instance) {v k : ℕ} → Tells four file n (Ok (v, k)) →
    ((place : ℕ) → R.instance_fields (length file) place m (drop at file) ≡ bind (four_bytes (R.at (length file) place 2) (drop n file)) (λ w r. got (make place w) r)) →
    ((place w : ℕ) → ports_of (make place w) ≡ c) → ((place w : ℕ) → w < 2 ^ 32 → start_word (make place w) ≡ w) → ((place w : ℕ) → w < 2 ^ 32 → InstanceFits (make place w)) → c ≤ 4 → at ≤ n →
    TellsInstance m file at (Ok (record { ports = c; word = v; next = k }))
unfolding ToldInstance WithinInstance Small bind
with_start {m} {file} {at} n c make {v} {k} h e ports word ported few l =
    let b = is_within h in
    let s = (is h 0 0).2.small in
    record {
      told = λ place.
          let g = is h place 0 in
          let same : _ = g.2.is in
          (make place v, rw (e place, g.1, same), ports place v, word place v s, ported place v s);
      within = omega (arith, b.0, b.1);
      small = few;
    }

module _ {file : List ℕ} {at : ℕ} where
  pub register_no : {f : Fault} → Tells four file at (Err f) → TellsInstance R.RG file at (Err f)
  unfolding R.instance_fields R.register_fields bind
  register_no {f} h = no_instance f (λ place. rw (refuses h place 0))

  pub register_done : {w n : ℕ} → Tells four file at (Ok (w, n)) → TellsInstance R.RG file at (Ok (record { ports = 1; word = w; next = n }))
  unfolding R.instance_fields R.register_fields ports_of start_word start_value is_user
  register_done h =
      with_start at 1 (λ place w. Instance.register place (signed w)) h (λ place. refl) (λ place w. refl) (λ place w l. word_number w l)
      (λ place w l. record { user = refl; few = omega arith; starts = ap signed (word_number w l) }) (omega arith) (omega arith)

  pub concurrent_no : {f : Fault} → Tells (ranged 1 4) file at (Err f) → TellsInstance R.CR file at (Err f)
  unfolding R.instance_fields R.concurrent_fields bind
  concurrent_no {f} h = no_instance f (λ place. rw (refuses h place 0))

  module _ {c n : ℕ} (h : Tells (ranged 1 4) file at (Ok (c, n))) where
    pub concurrent_no_2 : {f : Fault} → Tells four file n (Err f) → TellsInstance R.CR file at (Err f)
    unfolding R.instance_fields R.concurrent_fields bind
    concurrent_no_2 {f} w = no_instance f (λ place. rw ((is h place 0).1, refuses w place 0))

    pub concurrent_done : {w k : ℕ} → Tells four file n (Ok (w, k)) → TellsInstance R.CR file at (Ok (record { ports = c; word = w; next = k }))
    unfolding R.instance_fields R.concurrent_fields bind ports_of start_word start_value is_user
    concurrent_done w =
        let g = is h 0 0 in
        with_start n c (λ place v. Instance.concurrent place c (signed v)) w (λ place. rw ((is h place 0).1, (is h place 0).2.is)) (λ place v. refl) (λ place v l. word_number v l)
        (λ place v l. record { user = sym (ne_eqb c 0 (λ z. omega (arith, g.2.least))); few = g.2.most; starts = ap signed (word_number v l) }) g.2.most (is_within h).0

  pub user_done : at ≤ length file → TellsInstance R.UM file at (Ok (record { ports = 0; word = 0; next = at }))
  unfolding R.instance_fields ToldInstance WithinInstance Small ports_of start_word start_value is_user signed
  user_done h = record {
    told = λ place. (Instance.user place, refl, refl, refl, record { user = refl; few = omega arith; starts = refl });
    within = omega arith;
    small = omega arith;
  }

-- ---- a body: its length, and exactly so many expressions

-- the end of a text, cut off behind a body, from the body's start on, is the body
pub drop_take : (s b : ℕ) (l : List ℕ) → drop s (take (s + b) l) ≡ take b (drop s l)
drop_take zero b l = let e : zero + b ≡ b = omega arith in ap (λ n. take n l) e
drop_take (suc s) b [] = let e : suc s + b ≡ suc (s + b) = omega arith in ap (λ n. drop (suc s) (take n [])) e ∙ sym (take-nil b)
drop_take (suc s) b (x ∷ l) = let e : suc s + b ≡ suc (s + b) = omega arith in ap (λ n. drop (suc s) (take n (x ∷ l))) e ∙ drop_take s b l

pub text_length : (file : List ℕ) (s b : ℕ) → s ≤ length file → b ≤ length file - s → s + b ≡ length (take (s + b) file)
text_length file s b h q = sym (length-take-le (s + b) file (omega arith))

pub text_start : (file : List ℕ) (s b : ℕ) → s ≤ length file → b ≤ length file - s → s ≤ length (take (s + b) file)
text_start file s b h q = rw (length-take-le (s + b) file (omega arith)) (omega arith)

not_empty : (s : List ℕ) → 0 < length s → R.is_empty s ≡ false
unfolding R.is_empty
not_empty [] h = absurd (omega arith)
not_empty (b ∷ s) h = refl

-- (handed on, so that what is shown from it can be rewritten)
reached : {X A : Type 0} {p : Read A} {bad : Refusal} {text : List ℕ} {n : ℕ} → Passes p bad text (Some n) → ((a : A) → p ≡ got a (drop n text) → X) → X
unfolding Reaches
reached h next = next h.reaches.0 h.reaches.1

module _ {file : List ℕ} {at : ℕ} (count : ℕ) {b s : ℕ} (h : Tells two file at (Ok (b, s))) (fits : b ≤ length file - s) (place owner : ℕ) where
  inside : parse (bodies count) (length file) place owner (drop at file) ≡
      bind (G.exprs (s + b) (refusal Fault.Body place) (G.expr (s + b) (refusal Fault.Body place) 16) count (drop s (take (s + b) file))) (λ a q.
      needs (R.is_empty q) (refusal Fault.Body place) (got a (drop (s + b) file)))
  unfolding R.part R.outermost bind needs fault_number
  inside =
      let w = is h place owner in
      let r = is_within h in
      rw (w.1, w.2, length-drop s file, le-leb b (length file - s) fits, drop-drop b s file, drop_take s b file)
      (ap (λ n. bind (G.exprs (n + b) (refusal Fault.Body place) (G.expr (n + b) (refusal Fault.Body place) 16) count (take b (drop s file))) (λ a q.
      needs (R.is_empty q) (refusal Fault.Body place) (got a (drop (s + b) file)))) (omega (arith, r.1)))

module _ {file : List ℕ} {at count : ℕ} where
  pub bodies_no : {f : Fault} → Tells two file at (Err f) → Tells (bodies count) file at (Err f)
  unfolding R.part bind
  bodies_no {f} h = refusing f (λ place owner. rw (refuses h place owner))

  module _ {b s : ℕ} (h : Tells two file at (Ok (b, s))) where
    pub bodies_cut : length file - s < b → Tells (bodies count) file at (Err Fault.Cut)
    unfolding R.part bind needs fault_number
    bodies_cut q = refusing Fault.Cut (λ place owner.
        let w = is h place owner in
        rw (w.1, w.2, length-drop s file, lt-leb b (length file - s) q))

    module _ (fits : b ≤ length file - s) {y : Option ℕ} (k : Skips (several count) (take (s + b) file) s 16 y) where
      pub bodies_bad : {f : Fault} → Err f ≡ ok_or y Fault.Body → Tells (bodies count) file at (Err f)
      unfolding bind Reaches fault_number
      bodies_bad {f} e =
          let z = none_of Fault.Body y e in
          let w = rw z.0 at k in
          refusing f (λ place owner. rw (inside count h fits place owner, (w.passes (s + b) (refusal Fault.Body place)).reaches, z.1))

      module _ {last : ℕ} (e : Ok last ≡ ok_or y Fault.Body) where
        to_last : Skips (several count) (take (s + b) file) s 16 (Some last)
        to_last = rw (some_of Fault.Body y e) at k

        pub bodies_left : last < s + b → Tells (bodies count) file at (Err Fault.Body)
        unfolding bind needs Reaches fault_number
        bodies_left q = refusing Fault.Body (λ place owner.
            let r = is_within h in
            let w = (to_last.passes (s + b) (refusal Fault.Body place)).reaches in
            rw (inside count h fits place owner, w.1, not_empty (drop last (take (s + b) file)) (rw (length-drop last (take (s + b) file), length-take-le (s + b) file (omega (arith, r.1))) (omega arith))))

        pub bodies_done : s + b ≤ last → Tells (bodies count) file at (Ok (0, s + b))
        unfolding bind needs Reaches R.is_empty fault_number Told Within
        bodies_done q =
            let r = is_within h in
            record {
              told = λ place owner. reached (to_last.passes (s + b) (refusal Fault.Body place)) (λ a w.
                  (a, rw (inside count h fits place owner, w, drop_of_length-le (take (s + b) file) {i = last} (rw (length-take-le (s + b) file (omega (arith, r.1))) q)), tt));
              within = omega (arith, r.0, r.1);
            }

-- ---- a rule, and a method

alike_got : {A B : Type 0} {p : Read A} {q : Read B} {a : A} {s : List ℕ} → Alike p q → p ≡ got a s → (b : B) × (q ≡ got b s)
alike_got (done a b s) e = (b, ap (got b) (got_rest e))
alike_got (same why) e = absurd (I.never e)

same_refusal : {A B : Type 0} {p : Read A} {q : Read B} {why : Refusal} → Alike p q → p ≡ refused why → q ≡ refused why
same_refusal (done a b s) e = absurd (I.never (sym e))
same_refusal {A} {B} {why = u} (same why) e = ap refused (why_of e)
  where
    why_of : ◌≡◌ {A = Read A} (refused why) (refused u) → why ≡ u
    why_of e = cc

-- how the body of a method is read whose other fields are known
unfoldable made : (size place owner k z : ℕ) → List Kind → (start count : ℕ) → List ℕ → Read Method
made size place owner k z ks start count t = bind (R.outermost size place start count t) (λ e q. got (record {
  owner = owner;
  place = place;
  role = R.role_of k;
  result = R.kind_of z;
  params = ks;
  start = start;
  size = count;
  body = e;
}) q)

role_back : (k : ℕ) → k ≤ 2 → role_number (R.role_of k) ≡ k
unfolding R.role_of pick role_number
role_back zero h = refl
role_back (suc zero) h = refl
role_back (suc (suc zero)) h = refl
role_back (suc (suc (suc k))) h = absurd (omega arith)

kind_back : (k : ℕ) → k ≤ 2 → kind_number (R.kind_of k) ≡ k
unfolding R.kind_of pick kind_number
kind_back zero h = refl
kind_back (suc zero) h = refl
kind_back (suc (suc zero)) h = refl
kind_back (suc (suc (suc k))) h = absurd (omega arith)

made_shape : (size place owner k z : ℕ) (ks : List Kind) (s : List ℕ) {x : Method} {t : List ℕ} → k ≤ 2 → z ≤ 2 → R.part size place (made size place owner k z ks) s ≡ got x t →
    k + 4 * z + 16 * length ks ≡ shape x
unfolding made shape
made_shape size place owner k z ks s p q e = part_read size place _ s e (λ n r p2 l u w. bound _ _ u (λ b t v y.
    sym (ap shape (sym (got_value y)) ∙ rw (role_back k p, kind_back z q) refl)))

module _ {file : List ℕ} {at : ℕ} where
  pub rule_to : (y : Result (ℕ × ℕ) Fault) → Tells (bodies 2) file at y → Tells rule file at y
  unfolding R.rule_fields fault_number
  rule_to y w = record {
    told = λ place owner. told_alike (bodies 2) rule place file y
        (A.parts (length file) place _ _ (drop at file) (λ start n t. A.row_two (start + n) (refusal Fault.Body place) (R.outermost (length file) place start n) t _))
        (λ a b v u. tt) (w.told place owner);
    within = w.within;
  }

  pub method_no : {f : Fault} → Tells (ranged 0 2) file at (Err f) → Tells method file at (Err f)
  unfolding R.method_fields bind
  method_no {f} h = refusing f (λ place owner. rw (refuses h place owner))

  module _ {k s1 : ℕ} (h : Tells (ranged 0 2) file at (Ok (k, s1))) where
    pub method_no_2 : {f : Fault} → Tells (ranged 0 2) file s1 (Err f) → Tells method file at (Err f)
    unfolding R.method_fields bind
    method_no_2 {f} h2 = refusing f (λ place owner. rw ((is h place owner).1, refuses h2 place owner))

    module _ {z s2 : ℕ} (h2 : Tells (ranged 0 2) file s1 (Ok (z, s2))) {b : Bool} (a : b ≡ R.agree k z) where
      pub method_disagrees : b ≡ false → Tells method file at (Err Fault.Field)
      unfolding R.method_fields bind needs fault_number
      method_disagrees q = refusing Fault.Field (λ place owner.
          let w = is h place owner in
          let w2 = is h2 place owner in
          rw (w.1, w2.1, w.2.is, w2.2.is, ← a, q))

      module _ (q : b ≡ true) where
        agreed : (place owner : ℕ) →
            parse method (length file) place owner (drop at file) ≡
            bind (R.field (length file) place 0 4 (drop s2 file)) (λ n s3. bind (R.params (length file) place n s3) (λ ks s4.
            R.part (length file) place (λ start count t. bind (R.outermost (length file) place start count t) (λ e q. got (record {
              owner = owner;
              place = place;
              role = R.role_of k;
              result = R.kind_of z;
              params = ks;
              start = start;
              size = count;
              body = e;
            }) q)) s4))
        unfolding R.method_fields bind needs
        agreed place owner =
            let w = is h place owner in
            let w2 = is h2 place owner in
            rw (w.1, w2.1, w.2.is, w2.2.is, ← a, q)

        pub method_no_3 : {f : Fault} → Tells (ranged 0 4) file s2 (Err f) → Tells method file at (Err f)
        unfolding bind
        method_no_3 {f} h3 = refusing f (λ place owner. rw (agreed place owner, refuses h3 place owner))

        module _ {n s3 : ℕ} (h3 : Tells (ranged 0 4) file s2 (Ok (n, s3))) where
          pub method_no_4 : {f : Fault} → Tells (params n) file s3 (Err f) → Tells method file at (Err f)
          unfolding bind
          method_no_4 {f} h4 = refusing f (λ place owner.
              let w3 = is h3 place owner in
              rw (agreed place owner, w3.1, w3.2.is, refuses h4 place owner))

          module _ {i s4 : ℕ} (h4 : Tells (params n) file s3 (Ok (i, s4))) where
            -- what is left is the body
            to_body : (place owner : ℕ) → parse method (length file) place owner (drop at file) ≡
                R.part (length file) place (made (length file) place owner k z (is h4 place owner).0) (drop s4 file)
            unfolding bind made
            to_body place owner =
                let w3 = is h3 place owner in
                rw (agreed place owner, w3.1, w3.2.is, (is h4 place owner).1)

            alike : (place owner : ℕ) → A.Alike (parse (bodies 1) (length file) place owner (drop s4 file)) (R.part (length file) place (made (length file) place owner k z (is h4 place owner).0) (drop s4 file))
            unfolding made fault_number
            alike place owner =
                A.parts (length file) place _ _ (drop s4 file) (λ start c t. A.row_one (start + c) (refusal Fault.Body place) (R.outermost (length file) place start c) t _)

            pub method_no_5 : {f : Fault} → Tells (bodies 1) file s4 (Err f) → Tells method file at (Err f)
            method_no_5 {f} w = refusing f (λ place owner. to_body place owner ∙ same_refusal (alike place owner) (refuses w place owner))

            pub method_done : {j s5 d : ℕ} → Tells (bodies 1) file s4 (Ok (j, s5)) → d ≡ k + 4 * z + 16 * n → Tells method file at (Ok (d, s5))
            unfolding Told Within
            method_done {j} {s5} {d} w sh =
                let b1 = is_within h in
                let b2 = is_within h2 in
                let b3 = is_within h3 in
                let b4 = is_within h4 in
                let b5 = is_within w in
                let r1 : k ≤ 2 = (is h 0 0).2.most in
                let r2 : z ≤ 2 = (is h2 0 0).2.most in
                let r3 : n ≤ 4 = (is h3 0 0).2.most in
                record {
                  told = λ place owner.
                      let g = alike_got (alike place owner) (is w place owner).1 in
                      let c : length (is h4 place owner).0 ≡ n = (params_read (length file) place n (drop s3 file) (is h4 place owner).1).0 in (
                        g.0,
                        to_body place owner ∙ g.1,
                        record {
                          is = sh ∙ ap (λ l. k + 4 * z + 16 * l) (sym c) ∙ made_shape (length file) place owner k z _ (drop s4 file) r1 r2 g.1;
                          small = omega arith;
                        },
                      );
                  within = omega (arith, b1.0, b2.0, b3.0, b4.0, b5.0, b5.1);
                }

-- ---- loops

-- what is left to read, from where the loop stands, decides; `all` fields were to be read, and so many are read
pub record Goes (all : ℕ) (file : List ℕ) (at here read : ℕ) : Type 0 where
  pub goes : (y : Result (ℕ × ℕ) Fault) → Tells (params (all - read)) file here y → Tells (params all) file at y
  pub since : at ≤ here

before : (n : ℕ) → 0 < n → n ≡ suc (n - 1)
before n h = omega arith

params_more : (size place k : ℕ) (s : List ℕ) → 0 < k →
    R.params size place k s ≡ bind (R.field size place 1 2 s) (λ v r. bind (R.params size place (k - 1) r) (λ ks q. got (R.kind_of v ∷ ks) q))
unfolding R.params
params_more size place k s h = ap (λ n. R.params size place n s) (before k h)

module _ {all : ℕ} {file : List ℕ} {at : ℕ} where
  pub params_start : Goes all file at at 0
  params_start = record { goes = λ y h. let e : all - 0 ≡ all = omega arith in rw e at h; since = omega arith }

  module _ {here read : ℕ} (g : Goes all file at here read) where
    pub params_no : read < all → {f : Fault} → Tells (ranged 1 2) file here (Err f) → Tells (params all) file at (Err f)
    unfolding bind
    params_no q {f} h = g.goes (Err f) (refusing f (λ place owner.
        rw (params_more (length file) place (all - read) (drop here file) (omega arith), refuses h place owner)))

    pub params_go : read < all → {v n : ℕ} → Tells (ranged 1 2) file here (Ok (v, n)) → Goes all file at n (read + 1)
    unfolding bind
    params_go q {v} {n} h =
        let b = is_within h in
        let less : all - (read + 1) ≡ all - read - 1 = omega arith in
        record {
          goes = λ y w. g.goes y (record {
            told = λ place owner.
                rw (params_more (length file) place (all - read) (drop here file) (omega arith), (is h place owner).1, ← less)
                (told_alike (params (all - (read + 1))) (params (all - read)) place file y (A.around _ _) (λ a b v u. tt) (w.told place owner));
            within = farther file y b.0 w.within;
          });
          since = omega (arith, g.since, b.0);
        }

    pub params_done : here ≤ length file → all ≤ read → Tells (params all) file at (Ok (0, here))
    unfolding R.params Told Within
    params_done b q =
        let z : all - read ≡ 0 = omega arith in
        g.goes (Ok (0, here)) (record { told = λ place owner. ([], rw z, tt); within = omega arith })

-- ---- the schedule

either_way : (a b : ℕ) → eqb a b ≡ eqb b a
either_way a b = go (ℕ_discrete a b)
  where
    go : Dec (a ≡ b) → eqb a b ≡ eqb b a
    go (yes e) = rw e
    go (no ne) = ne_eqb a b ne ∙ sym (ne_eqb b a (λ e. ne (sym e)))

pub among_any : (n : ℕ) (s : List ℕ) → list_any (λ a. eqb a n) s ≡ R.among n s
unfolding R.among
among_any n [] = refl
among_any n (a ∷ s) = rw (either_way a n, among_any n s)

-- the entries of a list between two places
abbrev pub span : List ℕ → ℕ → ℕ → List ℕ
span file at here = take (here - at) (drop at file)

pub span_more : (file : List ℕ) (at here : ℕ) → at ≤ here → here < length file → span file at (here + 1) ≡ span file at here ++ (get_or file here 0 ∷ [])
span_more file at here h q =
    let e : here + 1 - at ≡ suc (here - at) = omega arith in
    let p : at + (here - at) ≡ here = omega arith in
    rw (e, take-suc (drop at file) (here - at) 0 (rw (length-drop at file) (omega arith)), get_or-drop at file (here - at) 0, p)

pub span_length : (file : List ℕ) (at here : ℕ) → at ≤ here → here ≤ length file → length (span file at here) ≡ here - at
span_length file at here h q = length-take-le (here - at) (drop at file) (rw (length-drop at file) (omega arith))

entries_more : (size place rules : ℕ) (seen : List ℕ) (k : ℕ) (s : List ℕ) → 0 < k →
    R.entries size place rules seen k s ≡
    bind (byte (R.at size place 2) s) (λ r q. needs (ltb r rules && not (R.among r seen)) (R.at size place 8) (R.entries size place rules (seen ++ (r ∷ [])) (k - 1) q))
unfolding R.entries
entries_more size place rules seen k s h = ap (λ n. R.entries size place rules seen n s) (before k h)

-- what is left of the entries, from `here` on, decides
pub record GoesOn (rules count : ℕ) (file : List ℕ) (at here read : ℕ) : Type 0 where
  pub goes : (place : ℕ) (y : Result (ℕ × ℕ) Fault) → Told (entries rules count) (R.entries (length file) place rules (span file at here) (count - read) (drop here file)) place file y →
      Told (entries rules count) (R.entries (length file) place rules [] count (drop at file)) place file y
  pub since : here ≡ at + read

module _ {file : List ℕ} {at rules count : ℕ} where
  pub entries_start : GoesOn rules count file at at 0
  entries_start = record {
    goes = λ place y h. let e : at - at ≡ 0 = omega arith in let e0 : count - 0 ≡ count = omega arith in rw (e, e0) at h;
    since = omega arith;
  }

  module _ {here read : ℕ} (g : GoesOn rules count file at here read) where
    entries_no : (f : Fault) → ((place : ℕ) → R.entries (length file) place rules (span file at here) (count - read) (drop here file) ≡ refused (refusal f place)) →
        Tells (entries rules count) file at (Err f)
    unfolding Told Within
    entries_no f h = record { told = λ place owner. g.goes place (Err f) (h place); within = tt }

    module _ (q : read < count) where
      more : (place : ℕ) → R.entries (length file) place rules (span file at here) (count - read) (drop here file) ≡
          bind (byte (R.at (length file) place 2) (drop here file)) (λ r s. needs (ltb r rules && not (R.among r (span file at here))) (R.at (length file) place 8)
          (R.entries (length file) place rules (span file at here ++ (r ∷ [])) (count - (read + 1)) s))
      more place =
          let less : count - (read + 1) ≡ count - read - 1 = omega arith in
          rw less (entries_more (length file) place rules (span file at here) (count - read) (drop here file) (omega arith))

      pub entries_cut : {f : Fault} → ByteOrCut file here (Err f) → Tells (entries rules count) file at (Err f)
      unfolding bind fault_number
      entries_cut {f} h = entries_no f (λ place. rw (more place, byte_cut h place))

      module _ {b n k : ℕ} (h : ByteOrCut file here (Ok (b, n))) (w : k ≡ b) where
        pub entries_missing : rules ≤ k → Tells (entries rules count) file at (Err Fault.Schedule)
        unfolding bind needs fault_number
        entries_missing m = entries_no Fault.Schedule (λ place. rw (more place, byte_there h (refusal Fault.Cut place), le-ltb b rules (omega arith)))

        module _ (m : k < rules) {t : Bool} (a : t ≡ list_any (λ c. eqb c b) (span file at here)) where
          pub entries_twice : t ≡ true → Tells (entries rules count) file at (Err Fault.Schedule)
          unfolding bind needs fault_number
          entries_twice z = entries_no Fault.Schedule (λ place.
              rw (more place, byte_there h (refusal Fault.Cut place), lt-ltb b rules (omega arith), ← among_any b (span file at here), ← a, z))

          pub entries_go : t ≡ false → GoesOn rules count file at n (read + 1)
          unfolding bind needs fault_number
          entries_go z =
              let f = byte_follows h in
              let s = g.since in
              record {
                goes = λ place y u. g.goes place y
                    (rw (more place, byte_there h (refusal Fault.Cut place), lt-ltb b rules (omega arith), ← among_any b (span file at here), ← a, z, f.3, ← span_more file at here (omega arith) (omega (arith, f.0, f.1)), ← f.0) u);
                since = omega (arith, f.0);
              }

    pub entries_done : here ≤ length file → read ≡ count → Tells (entries rules count) file at (Ok (0, here))
    unfolding R.entries Told Within
    entries_done b q =
        let z : count - read ≡ 0 = omega arith in
        let s = g.since in
        record {
          told = λ place owner. g.goes place (Ok (0, here)) (span file at here, rw z, span_length file at here (omega arith) b ∙ omega arith);
          within = omega arith;
        }

module _ {file : List ℕ} {at rules : ℕ} where
  pub schedule_no : {f : Fault} → Tells (ranged 0 64) file at (Err f) → Tells (schedule rules) file at (Err f)
  unfolding R.schedule_fields bind
  schedule_no {f} h = refusing f (λ place owner. rw (refuses h place owner))

  pub schedule_no_2 : {v n : ℕ} {f : Fault} → Tells (ranged 0 64) file at (Ok (v, n)) → Tells (entries rules v) file n (Err f) → Tells (schedule rules) file at (Err f)
  unfolding R.schedule_fields bind
  schedule_no_2 {f = f} h w = refusing f (λ place owner. let u = is h place owner in rw (u.1, u.2.is, refuses w place owner))

  pub schedule_done : {v n m z : ℕ} → Tells (ranged 0 64) file at (Ok (v, n)) → Tells (entries rules v) file n (Ok (z, m)) → Tells (schedule rules) file at (Ok (v, m))
  unfolding R.schedule_fields bind Told Within
  schedule_done h w =
      let b = is_within h in
      let d = is_within w in
      record {
        told = λ place owner.
            let u = is h place owner in
            let x = is w place owner in
            (x.0, rw (u.1, u.2.is, x.1), x.2);
        within = omega (arith, b.0, d.0, d.1);
      }
