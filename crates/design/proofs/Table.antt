-- The plan's rows: a row put behind those of a list is a row of the longer list, and leaves every other number as it was. With it what a list
-- that grew by one has at each index, and what the methods before an instance are.
use Prim.Native.Nat.{ℕ, zero, suc, ◌+◌, ◌*◌, ◌-◌, ◌≤◌, ◌<◌}
use mathlib.Core.Path.{◌≡◌, refl, ap, sym, subst, ◌∙◌}
use mathlib.Core.Bool.{Bool, true, false}
use mathlib.Core.List.{List, [], ◌∷◌, ◌++◌}
use mathlib.Core.Option.{some, none, none-ne-some, some-injective}
use native.Mathlib.Decide.{ℕ_discrete}
use native.Mathlib.Omega.{arith}
use lib.Dec.{ltb}
use lib.ListN.{length, get_or, get_elem?, set, length-append, length-set}
use lib.Seq.{sets, get_or-set_same, get_or-set_other}
use borrow.Author.Tests.{lt-ltb, le-ltb, ltb-true, ltb-false}
use borrow.Rule.Slice.PartMut.{put_mid}
use Rattle.std.proofs.Common.{append_assoc, take, drop}
use Rattle.std.proofs.lemmas.List.{drop-drop}
use Rattle.std.proofs.lemmas.List.Edits.{sets-eq}
use Rattle.design.specs.Syntax.{Instance, Method, Rule, Body}
use Rattle.design.specs.Take.{pick}
use Rattle.design.specs.Records.{methods, rules, is_user, latest_is_user}
use Rattle.design.specs.Plan.{entry, Rows, before, first_of, Sorted, empty, behind}

-- ---- a list with one more at its end

module _ {A : Type 0} where
  pub longer : (xs : List A) (x : A) → length (xs ++ (x ∷ [])) ≡ length xs + 1
  longer xs x = length-append xs (x ∷ [])

  pub entry_new : (f : A → ℕ) (xs : List A) (x : A) → entry f (xs ++ (x ∷ [])) (length xs) ≡ f x
  unfolding entry
  entry_new f [] x = refl
  entry_new f (a ∷ xs) x = entry_new f xs x

  pub entry_other : (f : A → ℕ) (xs : List A) (x : A) (i : ℕ) → (i ≡ length xs → ⊥) → entry f (xs ++ (x ∷ [])) i ≡ entry f xs i
  unfolding entry
  entry_other f [] x zero h = absurd (h refl)
  entry_other f [] x (suc i) h = refl
  entry_other f (a ∷ xs) x zero h = refl
  entry_other f (a ∷ xs) x (suc i) h = entry_other f xs x i (λ e. h (ap suc e))

  pub entry_past : (f : A → ℕ) (xs : List A) (i : ℕ) → length xs ≤ i → entry f xs i ≡ 65535
  unfolding entry
  entry_past f [] i h = refl
  entry_past f (x ∷ xs) zero h = absurd (omega arith)
  entry_past f (x ∷ xs) (suc i) h = entry_past f xs i (omega arith)

  pub entry_is : (f : A → ℕ) (xs : List A) (i : ℕ) (x : A) → get_elem? xs i ≡ some x → entry f xs i ≡ f x
  unfolding entry
  entry_is f [] i x e = absurd (none-ne-some _ e)
  entry_is f (y ∷ xs) zero x e = ap f (some-injective _ _ e)
  entry_is f (y ∷ xs) (suc i) x e = entry_is f xs i x e

  pub past_end : (xs : List A) (i : ℕ) → length xs ≤ i → get_elem? xs i ≡ none
  past_end [] i h = refl
  past_end (x ∷ xs) zero h = absurd (omega arith)
  past_end (x ∷ xs) (suc i) h = past_end xs i (omega arith)

  pub there : (xs : List A) (i : ℕ) → i < length xs → (x : A) × (get_elem? xs i ≡ some x)
  there [] i h = absurd (omega arith)
  there (x ∷ xs) zero h = (x, refl)
  there (x ∷ xs) (suc i) h = there xs i (omega arith)

  pub index_below : (xs : List A) (i : ℕ) (x : A) → get_elem? xs i ≡ some x → i < length xs
  index_below [] i x e = absurd (none-ne-some _ e)
  index_below (y ∷ xs) zero x e = omega arith
  index_below (y ∷ xs) (suc i) x e = let h = index_below xs i x e in omega arith

  -- what holds of each, and of the new one, holds of each of the longer list
  pub each_more : (P : A → Type 0) (xs : List A) (x : A) → ((i : ℕ) (y : A) → get_elem? xs i ≡ some y → P y) → P x →
      (i : ℕ) (y : A) → get_elem? (xs ++ (x ∷ [])) i ≡ some y → P y
  each_more P [] x h p zero y e = subst P (some-injective _ _ e) p
  each_more P [] x h p (suc i) y e = absurd (none-ne-some _ e)
  each_more P (a ∷ xs) x h p zero y e = h zero y e
  each_more P (a ∷ xs) x h p (suc i) y e = each_more P xs x (λ j z q. h (suc j) z q) p i y e

pub entry_at : (ns : List ℕ) (j : ℕ) → j < length ns → entry (λ n. n) ns j ≡ get_or ns j 0
unfolding entry
entry_at [] j h = absurd (omega arith)
entry_at (n ∷ ns) zero h = refl
entry_at (n ∷ ns) (suc j) h = entry_at ns j (omega arith)

-- ---- a run of numbers that is put in a list

pub sets_before : (vs l : List ℕ) (at i : ℕ) → i < at → get_or (sets l at vs) i 0 ≡ get_or l i 0
sets_before [] l at i h = refl
sets_before (v ∷ vs) l at i h = sets_before vs (set l at v) (suc at) i (omega arith) ∙ get_or-set_other l at i v 0 (λ e. omega arith)

pub sets_behind : (vs l : List ℕ) (at i : ℕ) → at + length vs ≤ i → get_or (sets l at vs) i 0 ≡ get_or l i 0
sets_behind [] l at i h = refl
sets_behind (v ∷ vs) l at i h = sets_behind vs (set l at v) (suc at) i (omega arith) ∙ get_or-set_other l at i v 0 (λ e. omega arith)

pub sets_in : (vs l : List ℕ) (at j : ℕ) → j < length vs → at + length vs ≤ length l → get_or (sets l at vs) (at + j) 0 ≡ get_or vs j 0
sets_in [] l at j h q = absurd (omega arith)
sets_in (v ∷ vs) l at zero h q =
    let z : at + 0 ≡ at = omega arith in
    ap (λ n. get_or (sets (set l at v) (suc at) vs) n 0) z ∙ sets_before vs (set l at v) (suc at) at (omega arith) ∙ get_or-set_same l at v 0 (omega arith)
sets_in (v ∷ vs) l at (suc j) h q =
    let z : at + suc j ≡ suc at + j = omega arith in
    ap (λ n. get_or (sets (set l at v) (suc at) vs) n 0) z ∙ sets_in vs (set l at v) (suc at) j (omega arith) (omega (arith, length-set l at v))

-- what lies before a run, the run and what lies behind it
pub run_laid : (vs l : List ℕ) (at n : ℕ) {now : List ℕ} → now ≡ vs → at + length vs ≤ length l → n ≡ length vs → put_mid at n l now ≡ sets l at vs
run_laid vs l at n e h z = rw (e, z, drop-drop (length vs) at l) (sym (append_assoc (take at l) vs (drop (at + length vs) l)) ∙ sym (sets-eq vs l at h))

-- ---- rows

module _ {A : Type 0} {plan : List ℕ} {base room width : ℕ} {row : A → List ℕ} {xs : List A} where
  -- a row behind the others, whose first numbers are those of the new one
  pub rows_add : (x : A) (at : ℕ) (vs : List ℕ) → Rows plan base room width row xs → at ≡ base + 4 * length xs → length vs ≡ 4 → width ≤ 4 → at + 4 ≤ length plan →
      ((j : ℕ) → j < width → get_or vs j 0 ≡ get_or (row x) j 0) → Rows (sets plan at vs) base room width row (xs ++ (x ∷ []))
  rows_add x at vs r q four few fits new = record { holds = λ i j l m. go i j l m (ℕ_discrete i (length xs)) }
    where
      go : (i j : ℕ) → i < room → j < width → Dec (i ≡ length xs) → get_or (sets plan at vs) (base + 4 * i + j) 0 ≡ entry (λ y. get_or (row y) j 0) (xs ++ (x ∷ [])) i
      go i j l m (yes p) =
          let w : base + 4 * i + j ≡ at + j = omega arith in
          ap (λ n. get_or (sets plan at vs) n 0) w ∙ sets_in vs plan at j (omega arith) (omega arith) ∙ new j m
          ∙ sym (entry_new (λ y. get_or (row y) j 0) xs x) ∙ ap (entry (λ y. get_or (row y) j 0) (xs ++ (x ∷ []))) (sym p)
      go i j l m (no p) = apart i j m p ∙ r.holds i j l m ∙ sym (entry_other (λ y. get_or (row y) j 0) xs x i p)
        where
          side : (i j : ℕ) → j < width → (b : Bool) → ltb i (length xs) ≡ b → (i ≡ length xs → ⊥) → get_or (sets plan at vs) (base + 4 * i + j) 0 ≡ get_or plan (base + 4 * i + j) 0
          side i j m true t p = sets_before vs plan at (base + 4 * i + j) (omega (arith, ltb-true i (length xs) t))
          side i j m false t p = sets_behind vs plan at (base + 4 * i + j) (omega (arith, ltb-false i (length xs) t, p))

          apart : (i j : ℕ) → j < width → (i ≡ length xs → ⊥) → get_or (sets plan at vs) (base + 4 * i + j) 0 ≡ get_or plan (base + 4 * i + j) 0
          apart i j m p = side i j m (ltb i (length xs)) refl p

  -- rows whose numbers stay
  pub rows_same : (plan₁ : List ℕ) → Rows plan base room width row xs → ((i j : ℕ) → i < room → j < width → get_or plan₁ (base + 4 * i + j) 0 ≡ get_or plan (base + 4 * i + j) 0) →
      Rows plan₁ base room width row xs
  rows_same plan₁ r h = record { holds = λ i j l m. h i j l m ∙ r.holds i j l m }

  -- a row that stands elsewhere
  pub rows_above : (at : ℕ) (vs : List ℕ) → Rows plan base room width row xs → length vs ≡ 4 → width ≤ 4 → base + 4 * room ≤ at → Rows (sets plan at vs) base room width row xs
  rows_above at vs r four few h = rows_same (sets plan at vs) r (λ i j l m. sets_before vs plan at (base + 4 * i + j) (omega arith))

  pub rows_below : (at : ℕ) (vs : List ℕ) → Rows plan base room width row xs → length vs ≡ 4 → at + 4 ≤ base → Rows (sets plan at vs) base room width row xs
  rows_below at vs r four h = rows_same (sets plan at vs) r (λ i j l m. sets_behind vs plan at (base + 4 * i + j) (omega arith))

-- ---- methods and rules of one body more

pub methods_method : (bs : List Body) (x : Method) → methods (bs ++ (Body.method x ∷ [])) ≡ methods bs ++ (x ∷ [])
unfolding methods
methods_method [] x = refl
methods_method (Body.method y ∷ bs) x = ap (λ l. y ∷ l) (methods_method bs x)
methods_method (Body.rule r ∷ bs) x = methods_method bs x

pub methods_rule : (bs : List Body) (r : Rule) → methods (bs ++ (Body.rule r ∷ [])) ≡ methods bs
unfolding methods
methods_rule [] r = refl
methods_rule (Body.method y ∷ bs) r = ap (λ l. y ∷ l) (methods_rule bs r)
methods_rule (Body.rule q ∷ bs) r = methods_rule bs r

pub rules_method : (bs : List Body) (x : Method) → rules (bs ++ (Body.method x ∷ [])) ≡ rules bs
unfolding rules
rules_method [] x = refl
rules_method (Body.method y ∷ bs) x = rules_method bs x
rules_method (Body.rule r ∷ bs) x = ap (λ l. r ∷ l) (rules_method bs x)

pub rules_rule : (bs : List Body) (r : Rule) → rules (bs ++ (Body.rule r ∷ [])) ≡ rules bs ++ (r ∷ [])
unfolding rules
rules_rule [] r = refl
rules_rule (Body.method y ∷ bs) r = rules_rule bs r
rules_rule (Body.rule q ∷ bs) r = ap (λ l. q ∷ l) (rules_rule bs r)

-- the latest instance is the new one
pub latest : (xs : List Instance) (x : Instance) → latest_is_user (xs ++ (x ∷ [])) ≡ is_user x
unfolding latest_is_user
latest [] x = refl
latest (a ∷ []) x = refl
latest (a ∷ b ∷ xs) x = latest (b ∷ xs) x

-- ---- owners

pub sorted_more : {ms : List Method} (x : Method) → Sorted ms → ((k : ℕ) (y : Method) → get_elem? ms k ≡ some y → y.owner ≤ x.owner) →
    Sorted (ms ++ (x ∷ []))
sorted_more x empty h = behind (λ k y e. absurd (none-ne-some _ e)) empty
sorted_more x (behind {x = a} {xs = xs} below s) h =
    behind (each_more (λ y. a.owner ≤ y.owner) xs x below (h zero a refl)) (sorted_more x s (λ k y e. h (suc k) y e))

-- a method of an instance from i on does not stand before i
pub before_more : (i : ℕ) (ms : List Method) (x : Method) → i ≤ x.owner → before i (ms ++ (x ∷ [])) ≡ before i ms
unfolding before pick
before_more i [] x h = rw (le-ltb x.owner i h)
before_more i (a ∷ ms) x h = ap (λ n. pick (ltb a.owner i) (suc n) n) (before_more i ms x h)

-- all methods stand before an instance that comes after their owners
pub before_all : (i : ℕ) (ms : List Method) → ((k : ℕ) (y : Method) → get_elem? ms k ≡ some y → y.owner < i) → before i ms ≡ length ms
unfolding before pick
before_all i [] h = refl
before_all i (a ∷ ms) h = rw (lt-ltb a.owner i (h zero a refl)) (ap suc (before_all i ms (λ k y e. h (suc k) y e)))

-- one instance more: what it has at the other instances stays
pub first_other : (n : ℕ) (ms : List Method) (i : ℕ) → (i ≡ n → ⊥) → first_of (n + 1) ms i ≡ first_of n ms i
unfolding first_of pick
first_other n ms i h = go (ltb i n) refl
  where
    go : (b : Bool) → ltb i n ≡ b → first_of (n + 1) ms i ≡ first_of n ms i
    go true e = rw (e, lt-ltb i (n + 1) (omega (arith, ltb-true i n e)))
    go false e = rw (e, le-ltb i (n + 1) (omega (arith, ltb-false i n e, h)))

pub first_new : (n : ℕ) (ms : List Method) → first_of (n + 1) ms n ≡ before n ms
unfolding first_of pick
first_new n ms = rw (lt-ltb n (n + 1) (omega arith))

-- one method more, of the latest of n instances
pub first_more : (n : ℕ) (ms : List Method) (x : Method) (i : ℕ) → x.owner ≡ n - 1 → first_of n (ms ++ (x ∷ [])) i ≡ first_of n ms i
unfolding first_of pick
first_more n ms x i h = go (ltb i n) refl
  where
    go : (b : Bool) → ltb i n ≡ b → first_of n (ms ++ (x ∷ [])) i ≡ first_of n ms i
    go true e = rw e (before_more i ms x (omega (arith, ltb-true i n e)))
    go false e = rw e
