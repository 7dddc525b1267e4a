-- What is found in a plan: from its numbers to what the design holds, one law for each way in which a lookup returns, but for those that the
-- check finds by itself. A method is found by how many stand before its instance, since owners never fall (`nth_of`).
use Prim.Native.Nat.{ℕ, zero, suc, ◌+◌, ◌*◌, ◌-◌, ◌/◌, ◌%◌, ◌≤◌, ◌<◌}
use mathlib.Core.Path.{◌≡◌, refl, ap, ap₂, sym, subst, ◌∙◌}
use mathlib.Core.Bool.{Bool, true, false}
use mathlib.Core.List.{List, [], ◌∷◌, map}
use mathlib.Core.Option.{Option, some, none, some-injective}
use native.Mathlib.Omega.{arith}
use native.Mathlib.Decide.{ℕ_discrete}
use Rattle.std.specs.Prelude.{Some, None}
use Rattle.std.proofs.lemmas.List.{get_or_past}
use lib.Dec.{ltb, eqb}
use lib.ListN.{length, take, drop, get_or, get_elem?, length-drop}
use lib.Seq.{get_or-drop}
use borrow.Author.Tests.{lt-ltb, le-ltb, ltb-false, eq-eqb, ne_eqb}
use Rattle.design.specs.declared.Span.{Span}
use Rattle.design.specs.declared.plan.Signature.{Signature}
use Rattle.design.specs.Syntax.{Kind, Role, Instance, Method, Rule, Design}
use Rattle.design.specs.Take.{pick}
use Rattle.design.specs.Records as R
use Rattle.design.specs.Records.{methods, rules}
use Rattle.design.specs.Parts.{of_owner, method_of}
use Rattle.design.specs.Kinds.{IsKind, IsRole}
use Rattle.design.specs.declared.kinds.Kind as DK
use Rattle.design.specs.declared.kinds.Role as DR
use Rattle.design.specs.Plan.{start_word, role_number, kind_number, shape, instance_row, method_row, rule_row, before, first_of, Sorted, behind, Plans}
use Rattle.design.specs.Lookups.{Entry, Cell, Instances, Methods, Named, ports_at, Ports, Starts, Finding, Finds, Describes, Owner, Place, Between, Kinds, Spanned, MethodSpan, MethodText, RuleOwner, RulePlace, RuleSpan, RuleText}
use Rattle.design.proofs.Table.{entry_is, entry_at, past_end, there, index_below}

-- ---- numbers

pub get_d_past : {A : Type 0} (s : List A) (at : ℕ) (d : A) → length s ≤ at → d ≡ get_or s at d
get_d_past s at d h = sym (get_or_past s at d h)

module _ {plan : List ℕ} {at : ℕ} where
  pub number_at : get_or plan at 0 < 65536 → Entry plan at (get_or plan at 0)
  number_at h = record { is = refl; small = h }

-- ---- how many

module _ {plan : List ℕ} {r : ℕ} where
  pub instances_are : Entry plan 1024 r → Instances plan r
  instances_are e = record { counts = λ D p. e.is ∙ p.instances; small = e.small }

module _ {plan : List ℕ} {j : ℕ} where
  named_by : {r : ℕ} → j < 64 → Entry plan (1028 + j) r → (D : Design) → Plans plan D → j < length D.schedule → r ≡ get_or D.schedule j 0
  named_by h e D p l = e.is ∙ p.entries j h ∙ entry_at D.schedule j l

  pub named_none : {r : ℕ} → j < 64 → Entry plan (1028 + j) r → 64 ≤ r → Named plan j 0
  named_none h e k = record { names = λ D p l. absurd (omega (arith, named_by h e D p l, p.schedule.named j l, p.sound.few_rules)); small = omega arith }

  pub named_at : {r : ℕ} → j < 64 → Entry plan (1028 + j) r → r < 64 → Named plan j r
  named_at h e k = record { names = named_by h e; small = k }

-- ---- an instance

module _ {plan : List ℕ} (i : ℕ) {D : Design} (p : Plans plan D) {x : Instance} (e : get_elem? D.instances i ≡ some x) where
  few_instance : i < 64
  few_instance = let l = index_below D.instances i x e in omega (arith, p.sound.few_instances)

  instance_number : (j : ℕ) → j < 3 → get_or plan (0 + 4 * i + j) 0 ≡ get_or (instance_row x) j 0
  instance_number j l = p.outlines.instance_rows.holds i j few_instance l ∙ entry_is (λ y. get_or (instance_row y) j 0) D.instances i x e

module _ {plan : List ℕ} {i n : ℕ} where
  pub ports_missing : Instances plan n → n ≤ i → Ports plan i 0
  unfolding ports_at
  ports_missing c h = record { ports = λ D p. rw (past_end D.instances i (omega (arith, c.counts D p))) refl; small = omega arith }

  pub ports_there : {r : ℕ} → Instances plan n → i < n → Cell plan 0 i 0 r → Ports plan i r
  unfolding ports_at instance_row
  ports_there c h e = record {
    ports = λ D p.
        let g = there D.instances i (omega (arith, c.counts D p)) in
        let few = few_instance i p g.1 in
        e.is (omega arith) ∙ instance_number i p g.1 0 (omega arith) ∙ sym (ap ports_at g.1);
    small = e.small;
  }

pub start_is : {plan : List ℕ} {i low high r : ℕ} → Cell plan 0 i 1 low → Cell plan 0 i 2 high → r ≡ low + 65536 * high → Starts plan i r
unfolding instance_row
start_is {i = i} {low} {high} a b e = record {
  starts = λ D x p q.
      let few = few_instance i p q in
      let l : low ≡ start_word x % 65536 = a.is (omega arith) ∙ instance_number i p q 1 (omega arith) in
      let h : high ≡ start_word x / 65536 = b.is (omega arith) ∙ instance_number i p q 2 (omega arith) in
      omega arith;
}

-- ---- the methods of an instance

-- the method if the instance owns it
unfoldable owned : ℕ → Option Method → Option Method
owned i none = none
owned i (some x) = pick (eqb x.owner i) (some x) none

-- all later methods belong to later instances: none is i's, and none stands before i
none_of : (i : ℕ) (ms : List Method) → ((k : ℕ) (y : Method) → get_elem? ms k ≡ some y → i < y.owner) → of_owner i ms ≡ []
unfolding of_owner pick
none_of i [] h = refl
none_of i (a ∷ ms) h =
    let w = h zero a refl in
    rw (ne_eqb a.owner i (omega arith)) (none_of i ms (λ k y e. h (suc k) y e))

none_before : (i : ℕ) (ms : List Method) → ((k : ℕ) (y : Method) → get_elem? ms k ≡ some y → i ≤ y.owner) → before i ms ≡ 0
unfolding before pick
none_before i [] h = refl
none_before i (a ∷ ms) h = rw (le-ltb a.owner i (h zero a refl)) (none_before i ms (λ k y e. h (suc k) y e))

later_none : (i : ℕ) (ms : List Method) (m : ℕ) → ((k : ℕ) (y : Method) → get_elem? ms k ≡ some y → i < y.owner) → owned i (get_elem? ms m) ≡ none
unfolding owned pick
later_none i [] m h = refl
later_none i (a ∷ ms) zero h = let w = h zero a refl in rw (ne_eqb a.owner i (omega arith))
later_none i (a ∷ ms) (suc m) h = later_none i ms m (λ k y e. h (suc k) y e)

-- method m of instance i is the m-th behind those that stand before i, if i owns that one
nth_of : (i : ℕ) (ms : List Method) (m : ℕ) → Sorted ms → get_elem? (of_owner i ms) m ≡ owned i (get_elem? ms (before i ms + m))
unfolding of_owner before owned pick
nth_of i [] m s = refl
nth_of i (a ∷ ms) m (behind below s) = go (ℕ_discrete a.owner i) m (λ n. nth_of i ms n s)
  where
    later : (n : ℕ) → i < a.owner → get_elem? (of_owner i (a ∷ ms)) n ≡ owned i (get_elem? (a ∷ ms) (before i (a ∷ ms) + n))
    later n h =
        let each : (k : ℕ) (y : Method) → get_elem? ms k ≡ some y → i < y.owner = λ k y e. omega (arith, below k y e) in
        let z : 0 + n ≡ n = omega arith in
        rw (ne_eqb a.owner i (omega arith), le-ltb a.owner i (omega arith), none_of i ms each, none_before i ms (λ k y e. omega (arith, each k y e)), z)
        (sym (later_none i (a ∷ ms) n (head each h)))
      where
        head : ((k : ℕ) (y : Method) → get_elem? ms k ≡ some y → i < y.owner) → i < a.owner → (k : ℕ) (y : Method) → get_elem? (a ∷ ms) k ≡ some y → i < y.owner
        head each q zero y e = subst (λ (z : Method). i < z.owner) (some-injective _ _ e) q
        head each q (suc k) y e = each k y e

    side : (b : Bool) → ltb a.owner i ≡ b → (a.owner ≡ i → ⊥) → (n : ℕ) → get_elem? (of_owner i ms) n ≡ owned i (get_elem? ms (before i ms + n)) →
        get_elem? (of_owner i (a ∷ ms)) n ≡ owned i (get_elem? (a ∷ ms) (before i (a ∷ ms) + n))
    side true t ne n ih = let z : suc (before i ms) + n ≡ suc (before i ms + n) = omega arith in rw (ne_eqb a.owner i ne, t, z) ih
    side false t ne n ih = later n (omega (arith, ltb-false a.owner i t))

    own : (n : ℕ) → a.owner ≡ i → ((n : ℕ) → get_elem? (of_owner i ms) n ≡ owned i (get_elem? ms (before i ms + n))) → before i ms ≡ 0 →
        get_elem? (of_owner i (a ∷ ms)) n ≡ owned i (get_elem? (a ∷ ms) (before i (a ∷ ms) + n))
    own zero e ih z = rw (eq-eqb a.owner i e, le-ltb a.owner i (omega arith), z) (rw (eq-eqb a.owner i e))
    own (suc n) e ih z =
        let w : 0 + suc n ≡ suc n = omega arith in
        let v : 0 + n ≡ n = omega arith in
        rw (eq-eqb a.owner i e, le-ltb a.owner i (omega arith), z, w) (rw (z, v) at (ih n))

    go : Dec (a.owner ≡ i) → (n : ℕ) → ((n : ℕ) → get_elem? (of_owner i ms) n ≡ owned i (get_elem? ms (before i ms + n))) →
        get_elem? (of_owner i (a ∷ ms)) n ≡ owned i (get_elem? (a ∷ ms) (before i (a ∷ ms) + n))
    go (yes e) n ih = own n e ih (none_before i ms (λ k y q. omega (arith, below k y q)))
    go (no ne) n ih = side (ltb a.owner i) refl ne n (ih n)

few_of : (i : ℕ) (ms : List Method) → length (of_owner i ms) ≤ length ms
unfolding of_owner pick
few_of i [] = omega arith
few_of i (a ∷ ms) = go (eqb a.owner i) (few_of i ms)
  where
    go : (b : Bool) → length (of_owner i ms) ≤ length ms → length (pick b (a ∷ of_owner i ms) (of_owner i ms)) ≤ suc (length ms)
    go true h = omega arith
    go false h = omega arith

not_of : (i : ℕ) (ms : List Method) → ((k : ℕ) (y : Method) → get_elem? ms k ≡ some y → y.owner < i) → of_owner i ms ≡ []
unfolding of_owner pick
not_of i [] h = refl
not_of i (a ∷ ms) h =
    let w = h zero a refl in
    rw (ne_eqb a.owner i (omega arith)) (not_of i ms (λ k y e. h (suc k) y e))

-- ---- the numbers of a row

module _ {plan : List ℕ} (k : ℕ) {D : Design} (p : Plans plan D) {x : Method} (e : get_elem? (methods D.bodies) k ≡ some x) where
  few_method : k < 128
  few_method = let l = index_below (methods D.bodies) k x e in omega (arith, p.sound.few_methods)

  method_number : (j : ℕ) → j < 4 → get_or plan (256 + 4 * k + j) 0 ≡ get_or (method_row x) j 0
  method_number j l = p.outlines.method_rows.holds k j few_method l ∙ entry_is (λ y. get_or (method_row y) j 0) (methods D.bodies) k x e

module _ {plan : List ℕ} (n : ℕ) {D : Design} (p : Plans plan D) {x : Rule} (e : get_elem? (rules D.bodies) n ≡ some x) where
  few_rule : n < 128
  few_rule = let l = index_below (rules D.bodies) n x e in omega (arith, p.sound.few_rules)

  rule_number : (j : ℕ) → j < 4 → get_or plan (768 + 4 * n + j) 0 ≡ get_or (rule_row x) j 0
  rule_number j l =
      let few : n < 64 = (let l = index_below (rules D.bodies) n x e in omega (arith, p.sound.few_rules)) in
      p.outlines.rule_rows.holds n j few l ∙ entry_is (λ y. get_or (rule_row y) j 0) (rules D.bodies) n x e

pub find_missing : {plan : List ℕ} {i : ℕ} (m : ℕ) {n : ℕ} → Instances plan n → n ≤ i → Finds plan i m None
unfolding Finding method_of
find_missing {i = i} m c h =
    record { finds = λ D p. ap (λ t. get_elem? t m) (not_of i (methods D.bodies) (λ k y w. omega (arith, c.counts D p, p.sound.method_owners k y w))) }

pub find_far : {plan : List ℕ} (i : ℕ) {m : ℕ} → 128 ≤ m → Finds plan i m None
unfolding Finding method_of
find_far i {m} h = record { finds = λ D p. past_end (of_owner i (methods D.bodies)) m (omega (arith, few_of i (methods D.bodies), p.sound.few_methods)) }

-- what a lookup goes by, where the instance is one
module _ {plan : List ℕ} {i n f : ℕ} (m : ℕ) (c : Instances plan n) (h : i < n) (first : Cell plan 0 i 3 f) where
  first_is : (D : Design) → Plans plan D → f ≡ before i (methods D.bodies)
  unfolding first_of pick
  first_is D p =
      let l : i < length D.instances = omega (arith, c.counts D p) in
      let few : i < 64 = omega (arith, p.sound.few_instances) in
      let z : 0 + 4 * i + 3 ≡ 4 * i + 3 = omega arith in
      first.is (omega arith) ∙ ap (λ k. get_or plan k 0) z ∙ p.outlines.firsts i few ∙ ap (λ t. pick t (before i (methods D.bodies)) 65535) (lt-ltb i (length D.instances) l)

  nth : (D : Design) → Plans plan D → method_of D.bodies i m ≡ owned i (get_elem? (methods D.bodies) (f + m))
  unfolding method_of
  nth D p = nth_of i (methods D.bodies) m p.sound.sorted ∙ ap (λ k. owned i (get_elem? (methods D.bodies) (k + m))) (sym (first_is D p))

  module _ {k : ℕ} (d : Methods plan k) where
    pub find_past : k ≤ f + m → Finds plan i m None
    unfolding Finding owned
    find_past q = record { finds = λ D p. nth D p ∙ ap (owned i) (past_end (methods D.bodies) (f + m) (omega (arith, d.counts D p))) }

    module _ {o : ℕ} (q : f + m < k) (e : Cell plan 256 (f + m) 3 o) where
      found_owner : (D : Design) (p : Plans plan D) → (x : Method) → get_elem? (methods D.bodies) (f + m) ≡ some x → o ≡ x.owner
      unfolding method_row
      found_owner D p x w = e.is (few_method (f + m) p w) ∙ method_number (f + m) p w 3 (omega arith)

      pub find_other : (o ≡ i → ⊥) → Finds plan i m None
      unfolding Finding owned pick
      find_other ne = record {
        finds = λ D p.
            let g = there (methods D.bodies) (f + m) (omega (arith, d.counts D p)) in
            nth D p ∙ ap (owned i) g.1 ∙ rw (ne_eqb g.0.owner i (λ z. ne (found_owner D p g.0 g.1 ∙ z))) refl;
      }

      pub find_at : o ≡ i → Finds plan i m (Some (f + m))
      unfolding Finding owned pick
      find_at own = record {
        finds = λ D p.
            let g = there (methods D.bodies) (f + m) (omega (arith, d.counts D p)) in
            (g.0, nth D p ∙ ap (owned i) g.1 ∙ rw (eq-eqb g.0.owner i (sym (found_owner D p g.0 g.1) ∙ own)) refl, g.1, ap (λ k. k + m) (first_is D p));
      }

-- ---- a method

role_small : (r : Role) → role_number r < 4
unfolding role_number
role_small Role.value = omega arith
role_small Role.action = omega arith
role_small Role.action_value = omega arith

kind_small : (k : Kind) → kind_number k < 4
unfolding kind_number
kind_small Kind.void = omega arith
kind_small Kind.num = omega arith
kind_small Kind.bool = omega arith

role_back : (r : Role) → R.role_of (role_number r) ≡ r
unfolding role_number R.role_of pick
role_back Role.value = refl
role_back Role.action = refl
role_back Role.action_value = refl

kind_back : (k : Kind) → R.kind_of (kind_number k) ≡ k
unfolding kind_number R.kind_of pick
kind_back Kind.void = refl
kind_back Kind.num = refl
kind_back Kind.bool = refl

pub signature_is : {plan : List ℕ} {k s : ℕ} {r : DR.Role} {q : DK.Kind} → Cell plan 256 k 0 s → IsRole (s % 4) r → IsKind (s / 4 % 4) q →
    Describes plan k (record { role = r; result = q; count = s / 16 })
unfolding method_row shape
signature_is {plan} {k} {s} e is_role is_kind = record {
  role = λ D x p w.
      let n : s % 4 ≡ role_number x.role = (let i = is D x p w in omega (arith, role_small x.role, kind_small x.result)) in
      is_role ∙ ap R.role_of n ∙ role_back x.role;
  result = λ D x p w.
      let n : s / 4 % 4 ≡ kind_number x.result = (let i = is D x p w in omega (arith, role_small x.role, kind_small x.result)) in
      is_kind ∙ ap R.kind_of n ∙ kind_back x.result;
  count = λ D x p w. let i = is D x p w in omega (arith, role_small x.role, kind_small x.result);
  small = omega (arith, e.small);
}
  where
    is : (D : Design) (x : Method) (p : Plans plan D) → get_elem? (methods D.bodies) k ≡ some x → s ≡ role_number x.role + 4 * kind_number x.result + 16 * length x.params
    is D x p w = e.is (few_method k p w) ∙ method_number k p w 0 (omega arith)

pub owner_is : {plan : List ℕ} {k r : ℕ} → Cell plan 256 k 3 r → Owner plan k r
unfolding method_row
owner_is {k = k} e = record { owner = λ D x p w. e.is (few_method k p w) ∙ method_number k p w 3 (omega arith); small = e.small }

module _ {plan : List ℕ} {k start : ℕ} {s : Signature} (d : Describes plan k s) (e : Cell plan 256 k 1 start) where
  start_of : (D : Design) (x : Method) (p : Plans plan D) → get_elem? (methods D.bodies) k ≡ some x → start ≡ x.start
  unfolding method_row
  start_of D x p w = e.is (few_method k p w) ∙ method_number k p w 1 (omega arith)

  pub place_is : {r : ℕ} → r ≡ start - (7 + s.count) → Place plan k r
  place_is h = record {
    place = λ file D x w q. let l = (w.stands.methods_stand k x q).laid in omega (arith, start_of D x w.plans q, d.count D x w.plans q);
    small = omega (arith, e.small);
  }

-- ---- parts of the file

kinds_of : (ks : List Kind) (s : List ℕ) → length ks ≤ length s → ((j : ℕ) → j < length ks → get_or ks j Kind.void ≡ R.kind_of (get_or s j 0)) → ks ≡ map R.kind_of (take (length ks) s)
kinds_of [] s l h = refl
kinds_of (k ∷ ks) [] l h = absurd (omega arith)
kinds_of (k ∷ ks) (b ∷ s) l h = ap₂ (λ a r. a ∷ r) (h 0 (omega arith)) (kinds_of ks s (omega arith) (λ j q. h (suc j) (omega arith)))

module _ {file plan : List ℕ} {k start : ℕ} {s : Signature} (d : Describes plan k s) (e : Cell plan 256 k 1 start) where
  pub kinds_cut : start < 2 + s.count → Kinds file plan k []
  kinds_cut h = record {
    kinds = λ D x w q. let l = (w.stands.methods_stand k x q).laid in absurd (omega (arith, start_of d e D x w.plans q, d.count D x w.plans q));
    few = omega arith;
  }

  pub kinds_are : {r : List ℕ} → s.count ≤ 4 → 2 + s.count ≤ start → Between file (start - 2 - s.count) (start - 2) r → Kinds file plan k r
  kinds_are {r} few h b = record {
    kinds = λ D x w q.
        let st = w.stands.methods_stand k x q in
        let a : start ≡ x.start = start_of d e D x w.plans q in
        let c : s.count ≡ length x.params = d.count D x w.plans q in
        let from : start - 2 - s.count ≡ x.place + 5 = omega (arith, st.laid) in
        let many : start - 2 - (start - 2 - s.count) ≡ length x.params = omega arith in
        let is : r ≡ take (length x.params) (drop (x.place + 5) file) =
        b.part (omega arith) (omega (arith, st.within)) ∙ ap (λ n. take n (drop (start - 2 - s.count) file)) many ∙ ap (λ n. take (length x.params) (drop n file)) from in
        kinds_of x.params (drop (x.place + 5) file) (omega (arith, length-drop (x.place + 5) file, st.laid, st.within))
        (λ j l. st.kinds j l ∙ ap R.kind_of (sym (get_or-drop (x.place + 5) file j 0))) ∙ ap (map R.kind_of) (sym is);
    few = omega (arith, b.short);
  }

-- ---- spans

-- the bytes of a span that lies in the file
spanned_text : {file : List ℕ} (start size : ℕ) {from many : ℕ} {r : List ℕ} → Between file start (start + size) r → start ≡ from → size ≡ many → from + many ≤ length file →
    r ≡ take many (drop from file)
spanned_text {file} start size {from} {many} b e f l =
    let n : start + size - start ≡ size = omega arith in
    b.part (omega arith) (omega arith) ∙ ap (λ k. take k (drop start file)) (n ∙ f) ∙ ap (λ k. take many (drop k file)) e

module _ {plan : List ℕ} {k : ℕ} where
  pub method_span_is : {a b : ℕ} {r : Span} → Cell plan 256 k 1 a → Cell plan 256 k 2 b → Spanned a b r → MethodSpan plan k r
  unfolding method_row
  method_span_is {a} {b} {r} c d s = record {
    start = λ D x p w. let t = both D x p w in s.starts (omega (arith, t.0, t.1)) ∙ t.0;
    size = λ D x p w. let t = both D x p w in omega (arith, t.0, t.1, s.starts (omega (arith, t.0, t.1)), s.ends (omega (arith, t.0, t.1)));
    small = s.small;
  }
    where
      both : (D : Design) (x : Method) (p : Plans plan D) → get_elem? (methods D.bodies) k ≡ some x → (a ≡ x.start) × (b ≡ x.start + x.size)
      both D x p w = (c.is (few_method k p w) ∙ method_number k p w 1 (omega arith), d.is (few_method k p w) ∙ method_number k p w 2 (omega arith))

  pub method_text_is : {file r : List ℕ} {s : Span} → MethodSpan plan k s → Between file s.start (s.start + s.size) r → MethodText file plan k r
  method_text_is m b = record {
    text = λ D x w q. spanned_text _ _ b (m.start D x w.plans q) (m.size D x w.plans q) (w.stands.methods_stand k x q).within;
    short = omega (arith, b.short, m.small);
  }

-- ---- a rule

module _ {plan : List ℕ} {n : ℕ} where
  pub rule_owner_is : {r : ℕ} → Cell plan 768 n 0 r → RuleOwner plan n r
  unfolding rule_row
  rule_owner_is e = record { owner = λ D x p w. e.is (few_rule n p w) ∙ rule_number n p w 0 (omega arith); small = e.small }

  pub rule_place_is : {r : ℕ} → Cell plan 768 n 1 r → RulePlace plan n r
  unfolding rule_row
  rule_place_is e = record { place = λ D x p w. e.is (few_rule n p w) ∙ rule_number n p w 1 (omega arith); small = e.small }

  pub rule_span_is : {a b : ℕ} {r : Span} → Cell plan 768 n 2 a → Cell plan 768 n 3 b → Spanned a b r → RuleSpan plan n r
  unfolding rule_row
  rule_span_is {a} {b} {r} c d s = record {
    start = λ D x p w. let t = both D x p w in s.starts (omega (arith, t.0, t.1)) ∙ t.0;
    size = λ D x p w. let t = both D x p w in omega (arith, t.0, t.1, s.starts (omega (arith, t.0, t.1)), s.ends (omega (arith, t.0, t.1)));
    small = s.small;
  }
    where
      both : (D : Design) (x : Rule) (p : Plans plan D) → get_elem? (rules D.bodies) n ≡ some x → (a ≡ x.start) × (b ≡ x.start + x.size)
      both D x p w = (c.is (few_rule n p w) ∙ rule_number n p w 2 (omega arith), d.is (few_rule n p w) ∙ rule_number n p w 3 (omega arith))

  pub rule_text_is : {file r : List ℕ} {s : Span} → RuleSpan plan n s → Between file s.start (s.start + s.size) r → RuleText file plan n r
  rule_text_is m b = record {
    text = λ D x w q. spanned_text _ _ b (m.start D x w.plans q) (m.size D x w.plans q) (w.stands.rules_stand n x q).within;
    short = omega (arith, b.short, m.small);
  }
