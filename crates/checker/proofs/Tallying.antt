-- The calls of a body, counted over its bytes: the count of a whole follows from the counts of its parts. First the laws of counts and of
-- any parts, then one law for each way in which a function returns. A loop over parts keeps `Goes`: what is left to count, from where the
-- loop stands, decides.
use Prim.Native.Nat.{ℕ, zero, suc, ◌+◌, ◌-◌, ◌≤◌, ◌<◌, min, max}
use mathlib.Core.Path.{◌≡◌, refl, ap, sym, subst, ◌∙◌}
use mathlib.Core.Bool.{Bool, true, false, ◌&&◌}
use mathlib.Core.List.{List}
use native.Mathlib.Omega.{arith}
use native.Mathlib.Numerals.{add-one}
use native.Mathlib.Decide.{dec_lt}
use lib.Dec.{leb, eqb}
use lib.ListN.{length, drop, get_or, drop_of_length-le}
use lib.Seq.{drop-cons}
use borrow.Author.Tests.{leb-true, leb-false}
use Rattle.design.specs.Syntax.{Expr, Exprs, Stmts, Design}
use Rattle.design.specs.Take.{Refusal, Read, got, refused, bind, needs, pick, byte, four_bytes}
use Rattle.std.specs.Prelude.{Ok}
use Rattle.design.specs.declared.kinds.Operator as DO
use Rattle.design.specs.Kinds.{operation, IsOperator}
use Rattle.design.specs.Grammar as G
use Rattle.design.specs.Grammar.{Tag, tag_of, Operation, operation_of}
use Rattle.design.proofs.Inverting.{bound, needed, got_value, got_rest}
use Rattle.design.proofs.Taking.{four, four_at, four_cut}
use Rattle.design.proofs.Skipping.{exprs_more}
use Rattle.checker.specs.declared.calls.Counted.{Counted}
use Rattle.checker.specs.declared.calls.Head.{Head}
use Rattle.checker.specs.declared.calls.Row.{Row}
use Rattle.meaning.specs.Calls.{Table, calls_of, calls, calls_among, calls_in, table_below}
use Rattle.checker.specs.Counted.{Alike, exact, crowded, Byte, Beyond, Known, CalleeCounts, behind, Part, whole, after, several, Operands, Tells, Counts, Leads, Heads}

-- ---- counts

pub alike_on : {c m n : ℕ} → Alike c m → Alike m n → Alike c n
alike_on (exact e) (exact f) = exact (e ∙ f)
alike_on (exact e) (crowded p q) = crowded (omega arith) q
alike_on (crowded p q) (exact f) = crowded p (omega arith)
alike_on (crowded p q) (crowded s t) = crowded p t

pub capped : {r n : ℕ} → r ≡ min n 65 → Alike r n
capped {r} {n} e = go (dec_lt 64 n)
  where
    go : Dec (64 < n) → Alike r n
    go (yes h) = crowded (omega arith) h
    go (no h) = exact (omega arith)

pub plus : {a b x y : ℕ} → Alike a x → Alike b y → Alike (a + b) (x + y)
plus (exact e) (exact f) = exact (omega arith)
plus (exact e) (crowded p q) = crowded (omega arith) (omega arith)
plus (crowded p q) k = crowded (omega arith) (omega arith)

larger : {a b x y : ℕ} → Alike a x → Alike b y → Alike (max a b) (max x y)
larger (exact e) (exact f) = exact (omega arith)
larger (exact e) (crowded p q) = crowded (omega arith) (omega arith)
larger (crowded p q) k = crowded (omega arith) (omega arith)

never : {A X : Type 0} {w : Refusal} {a : A} {s : List ℕ} → refused w ≡ got a s → X
never e = absurd (let z : ◌≡◌ {A = ℕ} 0 1 = cc in omega arith)

-- ---- any parts

-- a byte that was read
byte_on : {X : Type 0} (bad : Refusal) (text : List ℕ) (at : ℕ) {b : ℕ} {r : List ℕ} → byte bad (drop at text) ≡ got b r →
    (b ≡ get_or text at 0 → r ≡ drop (at + 1) text → at < length text → X) → X
unfolding byte
byte_on {X} bad text at {b} {r} e next = go (dec_lt at (length text))
  where
    go : Dec (at < length text) → X
    go (yes l) =
        let f : got (get_or text at 0) (drop (suc at) text) ≡ got b r = rw (drop-cons text at 0 l) at e in
        next (sym (got_value f)) (sym (got_rest f) ∙ ap (λ i. drop i text) (sym (add-one at))) l
    go (no l) = never (rw (drop_of_length-le text {i = at} (omega arith)) at e)

module _ {text : List ℕ} {r : Counted} where
  none_any : {A : Type 0} {p : Read A} {n : A → ℕ} {why : Refusal} → p ≡ refused why → Tells p n text r
  none_any e = record { tells = λ a rest q. never (sym e ∙ q) }

  -- a part that has been read
  stop : {A : Type 0} {n : A → ℕ} (a : A) (s : List ℕ) → Alike r.calls (n a) → drop r.at text ≡ s → Tells (got a s) n text r
  stop {A} {n} a s h e = record {
    tells = λ b t q. (subst (λ (c : A). Alike r.calls (n c)) (got_value q) h, e ∙ got_rest q);
  }

  -- the first part has its count, and what follows it decides
  then : {A B : Type 0} {p : Read A} (k : A → List ℕ → Read B) {m : A → ℕ} {n : B → ℕ} {c : Counted} → Tells p m text c →
      ((a : A) → Alike c.calls (m a) → Tells (k a (drop c.at text)) n text r) → Tells (bind p k) n text r
  then {p = p} k h next = record {
    tells = λ b t q. bound p k q (λ a s pa kb.
        let w = h.tells a s pa in
        (next a w.0).tells b t (ap (k a) w.1 ∙ kb));
  }

  tried : {A : Type 0} {p : Read A} {n : A → ℕ} (t : Bool) (why : Refusal) → (t ≡ true → Tells p n text r) → Tells (needs t why p) n text r
  unfolding needs
  tried true why h = h refl
  tried false why h = none_any {why = why} refl

  -- one read for another, of the same number
  from : {A B : Type 0} {p : Read A} {q : Read B} {m : A → ℕ} {n : B → ℕ} → Tells q n text r →
      ((a : A) (rest : List ℕ) → p ≡ got a rest → (b : B) × (q ≡ got b rest) × Alike (n b) (m a)) → Tells p m text r
  from h f = record {
    tells = λ a rest e.
        let w = f a rest e in
        let g = h.tells w.0 rest w.1 in
        (alike_on g.0 w.2, g.1);
  }

  module _ {at : ℕ} {B : Type 0} {n : B → ℕ} where
    -- one byte, and four
    byte_any : {next : ℕ} (bad : Refusal) (k : ℕ → List ℕ → Read B) → Beyond text at 1 next → ((b : ℕ) → b ≡ get_or text at 0 →
        Tells (k b (drop next text)) n text r) →
        Tells (bind (byte bad (drop at text)) k) n text r
    byte_any {next} bad k v h = record {
      tells = λ a rest q. bound (byte bad (drop at text)) k q (λ b s p w. byte_on bad text at p (λ is on in-text.
          let l : next ≡ at + 1 = v.beyond (omega arith) in
          (h b is).tells a rest (ap (λ i. k b (drop i text)) l ∙ ap (k b) (sym on) ∙ w)));
    }

    byte_then : {b next : ℕ} (bad : Refusal) (k : ℕ → List ℕ → Read B) → Byte text at b → Beyond text at 1 next → Tells (k b (drop next text)) n text r →
        Tells (bind (byte bad (drop at text)) k) n text r
    byte_then {next = next} bad k u v h = byte_any bad k v (λ c e. subst (λ (x : ℕ). Tells (k x (drop next text)) n text r) (u.is ∙ sym e) h)

    four_then : {next : ℕ} (bad : Refusal) (k : ℕ → List ℕ → Read B) → Beyond text at 4 next → ((w : ℕ) → Tells (k w (drop next text)) n text r) →
        Tells (bind (four_bytes bad (drop at text)) k) n text r
    unfolding bind
    four_then {next} bad k v h = record { tells = λ a rest q. go a rest q (leb (at + 4) (length text)) refl }
      where
        go : (a : B) (rest : List ℕ) → bind (four_bytes bad (drop at text)) k ≡ got a rest → (b : Bool) → leb (at + 4) (length text) ≡ b →
            Alike r.calls (n a) × (drop r.at text ≡ rest)
        go a rest q true t =
            let l = leb-true (at + 4) (length text) t in
            let e : next ≡ at + 4 = v.beyond l in
            (h (four text at)).tells a rest (ap (λ i. k (four text at) (drop i text)) e ∙ sym (ap (λ x. bind x k) (four_at bad text at l)) ∙ q)
        go a rest q false t = never (sym (ap (λ x. bind x k) (four_cut bad text at (leb-false (at + 4) (length text) t))) ∙ q)

-- an expression that stands behind so many bytes
behind_read : {X : Type 0} (bad : Refusal) (E : List ℕ → Read Expr) (lead : ℕ) (text : List ℕ) (at : ℕ) {a : Expr} {rest : List ℕ} →
    behind bad lead E (drop at text) ≡ got a rest → (at + lead ≤ max (length text) at → E (drop (at + lead) text) ≡ got a rest → X) → X
unfolding behind
behind_read bad E zero text at e next = next (omega arith) (let z : at + 0 ≡ at = omega arith in rw z e)
behind_read bad E (suc n) text at e next = bound (byte bad (drop at text)) _ e (λ b s p q. byte_on bad text at p (λ is on in-text.
    let z : at + 1 + n ≡ at + suc n = omega arith in
    behind_read bad E n text (at + 1) (ap (behind bad n E) (sym on) ∙ q) (λ l w. next (omega arith) (ap (λ i. E (drop i text)) (sym z) ∙ w))))

module _ {text : List ℕ} {r : Counted} {at : ℕ} where
  behind_then : {next : ℕ} {f : Expr → ℕ} (bad : Refusal) (E : List ℕ → Read Expr) (lead : ℕ) → Beyond text at lead next → Tells (E (drop next text)) f text r →
      Tells (behind bad lead E (drop at text)) f text r
  behind_then {next} bad E lead v h = record {
    tells = λ a rest e. behind_read bad E lead text at e (λ l w.
        let z : next ≡ at + lead = go l (dec_lt (length text) (at + lead)) in
        h.tells a rest (ap (λ i. E (drop i text)) z ∙ w));
  }
    where
      go : at + lead ≤ max (length text) at → Dec (length text < at + lead) → next ≡ at + lead
      go l (yes q) = omega (arith, v.short q)
      go l (no q) = v.beyond (omega arith)

-- operands

module _ {b : ℕ} where
  pub no_operands : operation_of b ≡ Operation.unknown → Operands b 2
  no_operands e = record { one = λ h. cc; two = λ o h. refl }

  pub one_operand : (op : DO.Operator) → IsOperator b (Ok op) → op ≡ DO.Operator.Not → Operands b 1
  unfolding operation
  one_operand op l e = let z : Operation.not ≡ operation_of b = rw e at l in record { one = λ h. refl; two = λ o h. cc }

  pub two_operands : (op : DO.Operator) → IsOperator b (Ok op) → (op ≡ DO.Operator.Not → ⊥) → Operands b 2
  unfolding operation
  two_operands op l ne = record { one = λ h. go op (l ∙ h) ne; two = λ o h. refl }
    where
      go : (op : DO.Operator) → operation (Ok op) ≡ Operation.not → (op ≡ DO.Operator.Not → ⊥) → ◌≡◌ {A = ℕ} 2 1
      go DO.Operator.Plus h ne = cc
      go DO.Operator.Minus h ne = cc
      go DO.Operator.Equal h ne = cc
      go DO.Operator.Less h ne = cc
      go DO.Operator.And h ne = cc
      go DO.Operator.Or h ne = cc
      go DO.Operator.Not h ne = absurd (ne refl)

-- ---- rows of expressions

-- a let or a do
unfoldable expr_in : G.Statement → Expr
expr_in (G.let_of e) = e
expr_in (G.do_of e) = e

either_in : (b : Bool) (e : Expr) → e ≡ expr_in (pick b (G.let_of e) (G.do_of e))
unfolding pick expr_in
either_in true e = refl
either_in false e = refl

module _ (t : Table) where
  last_calls : (x : G.Statement) → calls t (expr_in x) + 0 ≡ calls_in t (G.last x)
  unfolding expr_in G.last calls_in
  last_calls (G.let_of e) = omega arith
  last_calls (G.do_of e) = omega arith

  then_calls : (x : G.Statement) (ss : Stmts) → calls t (expr_in x) + calls_in t ss ≡ calls_in t (G.then x ss)
  unfolding expr_in G.then calls_in
  then_calls (G.let_of e) ss = refl
  then_calls (G.do_of e) ss = refl

module _ (end : ℕ) (bad : Refusal) (E : List ℕ → Read Expr) where
  one_read : (s : List ℕ) (f : Expr → Expr) {a : Expr} {rest : List ℕ} → bind (E s) (λ x r. got (f x) r) ≡ got a rest →
      (x : Expr) × (G.exprs end bad E 1 s ≡ got (Exprs.more x Exprs.none) rest) × (f x ≡ a)
  unfolding G.exprs bind
  one_read s f e = bound (E s) _ e (λ x r p q. (x, rw (p, got_rest q), got_value q))

  two_read : (s : List ℕ) (f : Expr → Expr → Expr) {a : Expr} {rest : List ℕ} → bind (E s) (λ x r. bind (E r) (λ y q. got (f x y) q)) ≡ got a rest →
      (x y : Expr) × (G.exprs end bad E 2 s ≡ got (Exprs.more x (Exprs.more y Exprs.none)) rest) × (f x y ≡ a)
  unfolding G.exprs bind
  two_read s f e = bound (E s) _ e (λ x r p u. bound (E r) _ u (λ y q v w. (x, y, rw (p, v, got_rest w), got_value w)))

  statement_read : (s : List ℕ) {x : G.Statement} {r : List ℕ} → G.statement end bad E s ≡ got x r → behind bad 1 E s ≡ got (expr_in x) r
  unfolding G.statement behind bind
  statement_read s e = bound (byte bad s) _ e (λ b q p u. needed _ _ _ u (λ t w. bound (E q) _ w (λ y z v g.
      rw p (v ∙ both (either_in (eqb b 8) y ∙ ap expr_in (got_value g)) (got_rest g)))))
    where
      both : {a b : Expr} {r s : List ℕ} → a ≡ b → r ≡ s → got a r ≡ got b s
      both p q = cc

  module _ (t : Table) where
    statements_read : (k : ℕ) (s : List ℕ) {ss : Stmts} {rest : List ℕ} → G.statements end bad E k s ≡ got ss rest →
        (es : Exprs) × (G.exprs end bad (behind bad 1 E) (suc k) s ≡ got es rest) × (calls_among t es ≡ calls_in t ss)
    unfolding G.statements G.exprs bind calls_among
    statements_read zero s e = bound (G.statement end bad E s) _ e (λ x r p q.
        (Exprs.more (expr_in x) Exprs.none, rw (statement_read s p, got_rest q), last_calls t x ∙ ap (calls_in t) (got_value q)))
    statements_read (suc k) s e = bound (G.statement end bad E s) _ e (λ x r p u. bound (G.statements end bad E k r) _ u (λ ss q v w.
        let h = statements_read k r v in
        let es = Exprs.more (expr_in x) h.0 in
        (es, rw (statement_read s p, h.1) (ap (got es) (got_rest w)), ap (λ n. calls t (expr_in x) + n) h.2 ∙ then_calls t x ss ∙ ap (calls_in t) (got_value w))))

-- ---- what follows a tag

both_calls : (x y : ℕ) → 0 + (x + (y + 0)) ≡ x + y
both_calls x y = omega arith

-- a call and what its callee could make, added to the arguments' calls
added : (x n : ℕ) {s : ℕ} → Alike s (1 + n) → Alike (s + x) (x + 1 + n)
added x n (exact e) = exact (omega arith)
added x n (crowded p q) = crowded (omega arith) (omega arith)

module _ {text plan counts : List ℕ} {me at : ℕ} where
  plain_at : {g : Tag} {n : ℕ} → ((levels end : ℕ) (bad : Refusal) (t : Table) →
      Tells (G.after end bad (G.expr end bad levels) g (drop at text)) (calls t) text (record { calls = 0; at = n })) →
      Heads (after g) text plan counts me at (Head.Plain n)
  unfolding Leads
  plain_at h = record { heads = λ levels. record { says = λ D k end bad. h levels end bad (table_below D me) } }

  pub number_head : {n : ℕ} → Beyond text at 4 n → Heads (after Tag.number) text plan counts me at (Head.Plain n)
  unfolding G.after calls
  number_head v = plain_at (λ levels end bad t. four_then bad _ v (λ w. stop _ _ (exact refl) refl))

  pub truth_head : {n : ℕ} → Beyond text at 1 n → Heads (after Tag.truth) text plan counts me at (Head.Plain n)
  unfolding G.after calls
  truth_head v = plain_at (λ levels end bad t. byte_any bad _ v (λ b e. tried _ bad (λ h. stop _ _ (exact refl) refl)))

  pub local_head : {n : ℕ} → Beyond text at 1 n → Heads (after Tag.local) text plan counts me at (Head.Plain n)
  unfolding G.after calls
  local_head v = plain_at (λ levels end bad t. byte_any bad _ v (λ b e. stop _ _ (exact refl) refl))

  pub unknown_head : {n : ℕ} → Heads (after Tag.unknown) text plan counts me at (Head.Plain n)
  unfolding G.after
  unknown_head = plain_at (λ levels end bad t. none_any {why = bad} refl)

  pub choice_head : Heads (after Tag.choice) text plan counts me at (Head.If at)
  unfolding Leads
  choice_head = record { heads = λ levels y c. c }

  -- a row: its count is that of the whole
  rows_at : {g : Tag} {lead count c next : ℕ} {h : Head} → h ≡ Head.Exprs (record { lead = lead; count = count; calls = c }) next →
      ((y : Counted) (levels end : ℕ) (bad : Refusal) (D : Design) → Known plan counts me D →
      Tells (G.exprs end bad (behind bad lead (G.expr end bad levels)) count (drop next text)) (λ es. c + calls_among (table_below D me) es) text y →
      Tells (G.after end bad (G.expr end bad levels) g (drop at text)) (calls (table_below D me)) text y) → Heads (after g) text plan counts me at h
  unfolding Leads
  rows_at e f = record { heads = λ levels. rw e (λ y w. record { says = λ D k end bad. f y levels end bad D k (w.says D k end bad) }) }

  pub guarded_head : {h : Head} → h ≡ Head.Exprs (record { lead = 0; count = 2; calls = 0 }) at → Heads (after Tag.guarded) text plan counts me at h
  unfolding G.after behind calls calls_among
  guarded_head e = rows_at e (λ y levels end bad D k w. from w (λ a rest q.
      let z = two_read end bad (G.expr end bad levels) (drop at text) (Expr.guarded (end - length (drop at text))) q in
      (_, z.2, exact (both_calls (calls (table_below D me) z.0) (calls (table_below D me) z.1) ∙ ap (calls (table_below D me)) z.3))))

  pub display_head : {h : Head} → h ≡ Head.Exprs (record { lead = 0; count = 1; calls = 1 }) at → Heads (after Tag.display) text plan counts me at h
  unfolding G.after behind calls calls_among
  display_head e = rows_at e (λ y levels end bad D k w. from w (λ a rest q.
      let z = one_read end bad (G.expr end bad levels) (drop at text) Expr.display q in
      let l : 1 + (calls (table_below D me) z.0 + 0) ≡ calls (table_below D me) z.0 + 1 = omega arith in
      (_, z.1, exact (l ∙ ap (calls (table_below D me)) z.2))))

  pub operator_head : {b count next : ℕ} {h : Head} → Byte text at b → Beyond text at 1 next → Operands b count →
      h ≡ Head.Exprs (record { lead = 0; count = count; calls = 0 }) next → Heads (after Tag.operator) text plan counts me at h
  unfolding G.after G.operands behind calls calls_among
  operator_head {b} {count} {next} u v n e =
      rows_at e (λ y levels end bad D k w. byte_then bad _ u v (by y levels end bad (table_below D me) w (operation_of b) refl))
    where
      by : (y : Counted) (levels end : ℕ) (bad : Refusal) (t : Table) →
          Tells (G.exprs end bad (G.expr end bad levels) count (drop next text)) (λ es. 0 + calls_among t es) text y →
          (x : Operation) → operation_of b ≡ x → Tells (G.operands end bad (G.expr end bad levels) x (drop next text)) (calls t) text y
      by y levels end bad t w Operation.not p = from w (λ a rest q.
          let z = one_read end bad (G.expr end bad levels) (drop next text) Expr.negate q in
          let i : 0 + (calls t z.0 + 0) ≡ calls t z.0 = omega arith in
          (_, ap (λ m. G.exprs end bad (G.expr end bad levels) m (drop next text)) (n.one p) ∙ z.1, exact (i ∙ ap (calls t) z.2)))
      by y levels end bad t w (Operation.binary o) p = from w (λ a rest q.
          let z = two_read end bad (G.expr end bad levels) (drop next text) (Expr.binary o) q in
          (_, ap (λ m. G.exprs end bad (G.expr end bad levels) m (drop next text)) (n.two o p) ∙ z.2, exact (both_calls (calls t z.0) (calls t z.1) ∙ ap (calls t) z.3)))
      by y levels end bad t w Operation.unknown p = none_any {why = bad} refl

  pub block_head : {b n next : ℕ} → Byte text at b → n ≡ b → Beyond text at 1 next →
      Heads (after Tag.block) text plan counts me at (Head.Exprs (record { lead = 1; count = n; calls = 0 }) next)
  unfolding G.after calls
  block_head {n = n} {next} byte same v = let u : Byte text at n = rw same byte in rows_at refl (λ y levels end bad D k w. byte_then bad _ u v (tried _ bad (λ t. from w (λ a rest q.
      bound (G.statements end bad (G.expr end bad levels) (n - 1) (drop next text)) _ q (λ ss r i j.
      let z = statements_read end bad (G.expr end bad levels) (table_below D me) (n - 1) (drop next text) i in
      let l = leb-true 1 n (first_of (leb 1 n) (leb n 32) t) in
      let c : n ≡ suc (n - 1) = omega arith in (
        z.0,
        ap (λ m. G.exprs end bad (behind bad 1 (G.expr end bad levels)) m (drop next text)) c ∙ z.1 ∙ ap (got z.0) (got_rest j),
        exact (omega (arith, z.2) ∙ ap (calls (table_below D me)) (got_value j)),
      ))))))
    where
      first_of : (a b : Bool) → a && b ≡ true → a ≡ true
      first_of true b e = refl
      first_of false b e = absurd (let z : ◌≡◌ {A = ℕ} 0 1 = cc in omega arith)

  call_at : {i m n r s method arguments next : ℕ} {h : Head} → Byte text at i → Beyond text at 1 method → Byte text method m →
      Beyond text method 1 arguments →
      Byte text arguments n → Beyond text arguments 1 next → CalleeCounts plan counts me i m r → s ≡ min (1 + r) 65 →
      h ≡ Head.Exprs (record { lead = 0; count = n; calls = s }) next → Heads (after Tag.call) text plan counts me at h
  unfolding G.after behind calls
  call_at {i} {m} {n} {s = s} {next = next} u v u2 v2 u3 v3 c q e = rows_at e (λ y levels end bad D k w.
      byte_then bad _ u v (byte_then bad _ u2 v2 (byte_then bad _ u3 v3 (tried _ bad (λ t. from w (λ a rest p.
      bound (G.exprs end bad (G.expr end bad levels) n (drop next text)) _ p (λ es z f g. (
        es,
        f ∙ ap (got es) (got_rest g),
        subst (λ (x : Expr). Alike (s + calls_among (table_below D me) es) (calls (table_below D me) x)) (got_value g)
            (added (calls_among (table_below D me) es) (calls_of (table_below D me) i m) (alike_on (capped q) (plus (exact refl) (c.callee D k)))),
      ))))))))

  pub call_head : {a b c i m n r s method arguments next : ℕ} {h : Head} → Byte text at a → Beyond text at 1 method → Byte text method b →
      Beyond text method 1 arguments → Byte text arguments c → Beyond text arguments 1 next → i ≡ a → m ≡ b → n ≡ c → CalleeCounts plan counts me i m r →
      s ≡ min (1 + r) 65 → h ≡ Head.Exprs (record { lead = 0; count = n; calls = s }) next → Heads (after Tag.call) text plan counts me at h
  call_head u v u2 v2 u3 v3 x y z c q e = call_at (rw x u) v (rw y u2) v2 (rw z u3) v3 c q e

  -- an expression, by its tag
  pub tagged : {g : Tag} {b next : ℕ} {h : Head} → Byte text at b → Beyond text at 1 next → tag_of b ≡ g → Heads (after g) text plan counts me next h →
      Heads whole text plan counts me at h
  unfolding Leads G.expr
  tagged {g} {b} {next} {h} u v q w = record { heads = λ levels. go levels h (w.heads levels) }
    where
      opened : (levels : ℕ) (r : Counted) → Counts (after g) text plan counts me next levels r → Counts whole text plan counts me at (suc levels) r
      opened levels r c = record { says = λ D k end bad. byte_then bad _ u v (rw q (c.says D k end bad)) }

      go : (levels : ℕ) (h : Head) → Leads (after g) text plan counts me next levels h → Leads whole text plan counts me at levels h
      go levels (Head.Plain n) c = opened levels _ c
      go levels (Head.If n) f = λ y c. opened levels y (f y c)
      go levels (Head.Exprs row n) f = λ y c. opened levels y (f y c)

  -- ---- an expression

  module _ {levels : ℕ} where
    pub deep : {r : Counted} → levels ≡ 0 → Counts whole text plan counts me at levels r
    unfolding G.expr
    deep e = record { says = λ D k end bad. none_any {why = bad} (rw e) }

    module _ {h : Head} (nz : levels ≡ 0 → ⊥) (b : Heads whole text plan counts me at h) where
      outer : suc (levels - 1) ≡ levels
      outer = omega arith

      pub plain_to : {n : ℕ} → h ≡ Head.Plain n → Counts whole text plan counts me at levels (record { calls = 0; at = n })
      unfolding Leads
      plain_to {n} e = subst (λ l. Counts whole text plan counts me at l (record { calls = 0; at = n })) outer (rw e at (b.heads (levels - 1)))

      pub if_to : {n : ℕ} {y : Counted} → h ≡ Head.If n → Counts (after Tag.choice) text plan counts me n (levels - 1) y →
          Counts whole text plan counts me at levels y
      unfolding Leads
      if_to {y = y} e c = subst (λ l. Counts whole text plan counts me at l y) outer ((rw e at (b.heads (levels - 1))) y c)

      pub row_to : {row : Row} {n : ℕ} {y : Counted} → h ≡ Head.Exprs row n →
          Counts (several row.lead row.count row.calls) text plan counts me n (levels - 1) y → Counts whole text plan counts me at levels y
      unfolding Leads
      row_to {y = y} e c = subst (λ l. Counts whole text plan counts me at l y) outer ((rw e at (b.heads (levels - 1))) y c)

    -- "an if counting its condition and the larger arm"
    pub if_done : {c a b : Counted} {l s : ℕ} → Counts whole text plan counts me at levels c → Counts whole text plan counts me c.at levels a →
        Counts whole text plan counts me a.at levels b → l ≡ max a.calls b.calls → s ≡ min (c.calls + l) 65 →
        Counts (after Tag.choice) text plan counts me at levels (record { calls = s; at = b.at })
    unfolding G.after calls
    if_done {c} hc ha hb m e = record {
      says = λ D k end bad. then _ (hc.says D k end bad) (λ x p. then _ (ha.says D k end bad) (λ y q. then _ (hb.says D k end bad) (λ z r.
          stop _ _ (alike_on (capped e) (plus p (rw m (larger q r)))) refl)));
    }

-- ---- loops

-- what is left, from `here` on, decides the whole
pub record Goes (all rest : Part) (text plan counts : List ℕ) (me at levels here : ℕ) : Type 0 where
  pub goes : (y : Counted) → Counts rest text plan counts me here levels y → Counts all text plan counts me at levels y

regroup : (a b c : ℕ) → a + b + c ≡ a + (b + c)
regroup a b c = omega arith

module _ {all : Part} {text plan counts : List ℕ} {me at levels : ℕ} where
  module _ {here lead left calls : ℕ} where
    turned : {n s : ℕ} {c : Counted} → Goes all (several lead left calls) text plan counts me at levels here → 0 < left → Beyond text here lead n →
        Counts whole text plan counts me n levels c → s ≡ min (calls + c.calls) 65 → Goes all (several lead (left - 1) s) text plan counts me at levels c.at
    unfolding calls_among
    turned {n} {s} {c} g l v h e = record {
      goes = λ y w. g.goes y (record {
        says = λ D k end bad.
            rw (exprs_more end bad (behind bad lead (G.expr end bad levels)) left (drop here text) l)
            (then _ (behind_then bad _ lead v (h.says D k end bad)) (λ x p. from (w.says D k end bad) (λ a rest q.
            bound (G.exprs end bad (behind bad lead (G.expr end bad levels)) (left - 1) (drop c.at text)) _ q (λ es r i j. (
              es,
              i ∙ ap (got es) (got_rest j),
              subst (λ (b : Exprs). Alike (s + calls_among (table_below D me) es) (calls + calls_among (table_below D me) b)) (got_value j)
                  (alike_on (plus (alike_on (capped e) (plus (exact refl) p)) (exact refl)) (exact (regroup calls _ _))),
            )))));
      });
    }

  module _ {here lead count i calls : ℕ} where
    pub turn : {n s : ℕ} {c : Counted} → Goes all (several lead (count - i) calls) text plan counts me at levels here → i < count → Beyond text here lead n →
        Counts whole text plan counts me n levels c → s ≡ min (calls + c.calls) 65 →
        Goes all (several lead (count - (i + 1)) s) text plan counts me at levels c.at
    turn {s = s} {c} g l v h e =
        let z : count - i - 1 ≡ count - (i + 1) = omega arith in
        subst (λ k. Goes all (several lead k s) text plan counts me at levels c.at) z (turned g (omega arith) v h e)

    pub done : Goes all (several lead (count - i) calls) text plan counts me at levels here → count ≤ i →
        Counts all text plan counts me at levels (record { calls = calls; at = here })
    unfolding G.exprs calls_among
    done g l =
        let z : count - i ≡ 0 = omega arith in
        g.goes _ (record { says = λ D k end bad. rw z (stop _ _ (exact (omega arith)) refl) })
