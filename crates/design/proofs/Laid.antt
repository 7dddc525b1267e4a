-- How the records of a design lie in the file: a record that was read has its kinds, its counts and its body at fixed offsets behind its place,
-- and its body's bytes read as its tree. This is the reading of a record, taken apart once.
use Prim.Native.Nat.{ℕ, zero, suc, ◌+◌, ◌-◌, ◌≤◌, ◌<◌}
use mathlib.Core.Path.{◌≡◌, refl, ap, sym, subst, ◌∙◌}
use mathlib.Core.Bool.{Bool, true, false, ◌&&◌}
use mathlib.Core.List.{List, [], ◌∷◌}
use native.Mathlib.Omega.{arith}
use lib.Dec.{leb}
use lib.ListN.{length, take, drop, get_or, length-drop}
use lib.Seq.{drop-drop, get_or-drop}
use borrow.Author.Tests.{leb-true, leb-false}
use Rattle.design.specs.Syntax.{Expr, Kind, Method, Rule}
use Rattle.design.specs.Take.{Refusal, got, refused, bind, byte, two_bytes}
use Rattle.design.specs.Records as R
use Rattle.design.specs.Plan.{MethodStands, RuleStands}
use Rattle.design.proofs.Taking.{two, two_at, two_cut}
use Rattle.design.proofs.Inverting.{bound, needed, got_value, got_rest, part_read}

-- ---- fields that were read

pub byte_read : (why : Refusal) {b : ℕ} {r : List ℕ} (s : List ℕ) → byte why s ≡ got b r → s ≡ b ∷ r
unfolding byte
byte_read why [] e = absurd (let z : ◌≡◌ {A = ℕ} 0 1 = cc in omega arith)
byte_read why (a ∷ s) e = cc

and_second : (a b : Bool) → a && b ≡ true → b ≡ true
and_second true b e = e
and_second false b e = absurd (let z : ◌≡◌ {A = ℕ} 0 1 = cc in omega arith)

-- a list of bytes that begins with one, as the file from a place on
pub one_on : (file : List ℕ) (at : ℕ) {b : ℕ} {r : List ℕ} → drop at file ≡ b ∷ r → (b ≡ get_or file at 0) × (r ≡ drop (at + 1) file) × (at < length file)
one_on file at {b} {r} e =
    let z : at + 0 ≡ at = omega arith in
    let l : length file - at ≡ suc (length r) = sym (length-drop at file) ∙ ap length e in
    (sym (ap (λ s. get_or s 0 0) e) ∙ get_or-drop at file 0 0 ∙ ap (λ n. get_or file n 0) z, sym (ap (drop 1) e) ∙ drop-drop 1 at file, omega arith)

pub field_read : {X : Type 0} (size place low high : ℕ) (s : List ℕ) {b : ℕ} {r : List ℕ} → R.field size place low high s ≡ got b r →
    (s ≡ b ∷ r → b ≤ high → X) → X
unfolding R.field
field_read size place low high s e next = bound _ _ e (λ c q p u. needed _ _ _ u (λ t w.
    next (byte_read _ s p ∙ same (got_value w) (got_rest w)) (leb-true _ high (subst (λ n. leb n high ≡ true) (got_value w) (and_second (leb low c) (leb c high) t)))))
  where
    same : {a b : ℕ} {r s : List ℕ} → a ≡ b → r ≡ s → a ∷ r ≡ b ∷ s
    same p q = cc

pub params_read : (size place n : ℕ) (s : List ℕ) {ks : List Kind} {r : List ℕ} → R.params size place n s ≡ got ks r →
    (length ks ≡ n) × (n ≤ length s) × (r ≡ drop n s) × ((j : ℕ) → j < n → get_or ks j Kind.void ≡ R.kind_of (get_or s j 0))
unfolding R.params
params_read size place zero s e = (sym (ap length (got_value e)), omega arith, sym (got_rest e), λ j l. absurd (omega arith))
params_read size place (suc n) s {ks} {r} e = bound _ _ e (λ k q p u. field_read size place 1 2 s p (λ w l. bound _ _ u (λ ls t v y.
    let h = params_read size place n q v in
    more k q ls t w (got_value y) (got_rest y) h)))
  where
    more : (k : ℕ) (q : List ℕ) (ls : List Kind) (t : List ℕ) → s ≡ k ∷ q → R.kind_of k ∷ ls ≡ ks → t ≡ r →
        (length ls ≡ n) × (n ≤ length q) × (t ≡ drop n q) × ((j : ℕ) → j < n → get_or ls j Kind.void ≡ R.kind_of (get_or q j 0)) →
        (length ks ≡ suc n) × (suc n ≤ length s) × (r ≡ drop (suc n) s) × ((j : ℕ) → j < suc n → get_or ks j Kind.void ≡ R.kind_of (get_or s j 0))
    more k q ls t w a b h = rw (w, ← a, ← b) (ap suc h.0, omega (arith, h.1), h.2, each)
      where
        each : (j : ℕ) → j < suc n → get_or (R.kind_of k ∷ ls) j Kind.void ≡ R.kind_of (get_or (k ∷ q) j 0)
        each zero l = refl
        each (suc j) l = h.3 j (omega arith)

-- two bytes that were read, by where they stand
two_read : {X : Type 0} (why : Refusal) (file : List ℕ) (at : ℕ) {n : ℕ} {r : List ℕ} → two_bytes why (drop at file) ≡ got n r →
    (n ≡ two file at → r ≡ drop (at + 2) file → at + 2 ≤ length file → X) → X
two_read {X} why file at {n} {r} e next = go (leb (at + 2) (length file)) refl
  where
    go : (b : Bool) → leb (at + 2) (length file) ≡ b → X
    go true t =
        let h = leb-true (at + 2) (length file) t in
        let w = sym e ∙ two_at why file at h in
        next (got_value w) (got_rest w) h
    go false t = absurd (let w : refused why ≡ got n r = sym (two_cut why file at (leb-false (at + 2) (length file) t)) ∙ e in let z : ◌≡◌ {A = ℕ} 0 1 = cc in omega arith)

-- what is left of a file, by how much that is
pub same_rest : (file : List ℕ) (n m : ℕ) → n ≤ length file → m ≤ length file → drop n file ≡ drop m file → n ≡ m
same_rest file n m p q e = omega (arith, ap length e, length-drop n file, length-drop m file)

module _ (file : List ℕ) (n : ℕ) (l : n ≤ length file) where
  pub rule_laid : {x : Rule} → R.rule_fields (length file) x.place x.owner (drop (x.place + 2) file) ≡ got x (drop n file) → RuleStands file x × (n ≡ x.start + x.size)
  unfolding R.rule_fields R.outermost
  rule_laid {x} h =
      part_read (length file) x.place _ _ h (λ c r p l u w.
      two_read _ file (x.place + 2) p (λ c s m.
      bound _ _ u (λ g q v y. bound _ _ y (λ b t i z.
      finish _ r w s m l g q v b t i (got_value z) (got_rest z)))))
    where
      finish : (c : ℕ) (r : List ℕ) → drop n file ≡ drop c r → r ≡ drop (x.place + 2 + 2) file → x.place + 2 + 2 ≤ length file → c ≤ length r →
          (g : Expr) (q : List ℕ) → R.outermost (length file) x.place (length file - length r) c (take c r) ≡ got g q →
          (b : Expr) (t : List ℕ) → R.outermost (length file) x.place (length file - length r) c q ≡ got b t →
          record { owner = x.owner; place = x.place; start = length file - length r; size = c; guard = g; body = b } ≡ x → t ≡ [] →
          RuleStands file x × (n ≡ x.start + x.size)
      finish c r w s m f g q v b t i e z =
          let st : x.start ≡ length file - length r = ap (λ y. y.start) (sym e) in
          let sz : x.size ≡ c = ap (λ y. y.size) (sym e) in
          let gu : x.guard ≡ g = ap (λ y. y.guard) (sym e) in
          let bo : x.body ≡ b = ap (λ y. y.body) (sym e) in
          let lr : length r ≡ length file - (x.place + 2 + 2) = ap length s ∙ length-drop (x.place + 2 + 2) file in
          let on : length file - length r ≡ x.place + 2 + 2 = omega arith in
          let dr : drop (length file - length r) file ≡ r = ap (λ k. drop k file) on ∙ sym s in
          let en : drop n file ≡ drop (x.place + 2 + 2 + c) file = w ∙ ap (drop c) s ∙ drop-drop c (x.place + 2 + 2) file in (
            record {
              laid = omega arith;
              within = omega arith;
              rest = q;
              guard = rw (st, sz, gu, dr) v;
              body = rw (st, sz, bo, ← z) i;
            },
            same_rest file n (x.place + 2 + 2 + c) l (omega arith) en ∙ omega arith,
          )

  -- the steps of a method's fields, each by where it stands
  method_steps : {X : Type 0} {x : Method} → R.method_fields (length file) x.place x.owner (drop (x.place + 2) file) ≡ got x (drop n file) →
      ((k z c : ℕ) (ks : List Kind) → c ≤ 4 → length ks ≡ c →
      ((j : ℕ) → j < c → get_or ks j Kind.void ≡ R.kind_of (get_or file (x.place + 5 + j) 0)) →
      R.part (length file) x.place (λ start count t. bind (R.outermost (length file) x.place start count t) (λ e q. got (record {
        owner = x.owner;
        place = x.place;
        role = R.role_of k;
        result = R.kind_of z;
        params = ks;
        start = start;
        size = count;
        body = e;
      }) q))
      (drop (x.place + 5 + c) file) ≡ got x (drop n file) → X) → X
  unfolding R.method_fields
  method_steps {X} {x} h next =
      bound _ _ h (λ k s1 p1 e1. field_read (length file) x.place 0 2 _ p1 (λ w1 l1.
      bound _ _ e1 (λ z s2 p2 e2. field_read (length file) x.place 0 2 _ p2 (λ w2 l2. needed _ _ _ e2 (λ g e3.
      bound _ _ e3 (λ c s3 p3 e4. field_read (length file) x.place 0 4 _ p3 (λ w3 l3.
      bound _ _ e4 (λ ks s4 p4 e5.
      let a1 = one_on file (x.place + 2) w1 in
      let a2 = one_on file (x.place + 2 + 1) (sym a1.1 ∙ w2) in
      let a3 = one_on file (x.place + 2 + 1 + 1) (sym a2.1 ∙ w3) in
      let h4 = params_read (length file) x.place c s3 p4 in
      let i4 : x.place + 2 + 1 + 1 + 1 ≡ x.place + 5 = omega arith in
      let s5 : s3 ≡ drop (x.place + 5) file = a3.1 ∙ ap (λ m. drop m file) i4 in
      let s6 : s4 ≡ drop (x.place + 5 + c) file = h4.2 ∙ ap (drop c) s5 ∙ drop-drop c (x.place + 5) file in
      next k z c ks l3 h4.0
      (λ j l. h4.3 j l ∙ ap R.kind_of (ap (λ t. get_or t j 0) s5 ∙ get_or-drop (x.place + 5) file j 0))
      (rw (← s6) e5)))))))))

  pub method_laid : {x : Method} → R.method_fields (length file) x.place x.owner (drop (x.place + 2) file) ≡ got x (drop n file) →
      MethodStands file x × (n ≡ x.start + x.size)
  unfolding R.outermost
  method_laid {x} h =
      method_steps h (λ k z c ks few len each e.
      part_read (length file) x.place _ _ e (λ d r p l u w.
      two_read _ file (x.place + 5 + c) p (λ o s m.
      bound _ _ u (λ b q i y.
      finish k z c ks few len each d r w s m l b q i (got_value y) (got_rest y)))))
    where
      finish : (k z c : ℕ) (ks : List Kind) → c ≤ 4 → length ks ≡ c →
          ((j : ℕ) → j < c → get_or ks j Kind.void ≡ R.kind_of (get_or file (x.place + 5 + j) 0)) →
          (d : ℕ) (r : List ℕ) → drop n file ≡ drop d r → r ≡ drop (x.place + 5 + c + 2) file → x.place + 5 + c + 2 ≤ length file → d ≤ length r →
          (b : Expr) (q : List ℕ) → R.outermost (length file) x.place (length file - length r) d (take d r) ≡ got b q →
          record { owner = x.owner; place = x.place; role = R.role_of k; result = R.kind_of z; params = ks; start = length file - length r; size = d; body = b } ≡ x →
          q ≡ [] → MethodStands file x × (n ≡ x.start + x.size)
      finish k z c ks few len each d r w s m f b q i e nil =
          let pa : x.params ≡ ks = ap (λ y. y.params) (sym e) in
          let st : x.start ≡ length file - length r = ap (λ y. y.start) (sym e) in
          let sz : x.size ≡ d = ap (λ y. y.size) (sym e) in
          let bo : x.body ≡ b = ap (λ y. y.body) (sym e) in
          let ln : length x.params ≡ c = ap length pa ∙ len in
          let lr : length r ≡ length file - (x.place + 5 + c + 2) = ap length s ∙ length-drop (x.place + 5 + c + 2) file in
          let on : length file - length r ≡ x.place + 5 + c + 2 = omega arith in
          let dr : drop (length file - length r) file ≡ r = ap (λ k. drop k file) on ∙ sym s in
          let en : drop n file ≡ drop (x.place + 5 + c + 2 + d) file = w ∙ ap (drop d) s ∙ drop-drop d (x.place + 5 + c + 2) file in (
            record {
              laid = omega arith;
              few = omega arith;
              kinds = λ j l. ap (λ t. get_or t j Kind.void) pa ∙ each j (omega arith);
              within = omega arith;
              body = rw (st, sz, bo, dr, ← nil) i;
            },
            same_rest file n (x.place + 5 + c + 2 + d) l (omega arith) en ∙ omega arith,
          )
