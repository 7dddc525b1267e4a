-- The bodies of a design stand in the file one behind the other: their places ascend, as records are read. So the next of them is the method or
-- the rule that stands first, and the loop over all of them keeps `Rest`: the bodies that are left decide the whole.
use Prim.Native.Nat.{ℕ, zero, suc, ◌+◌, ◌-◌, ◌≤◌, ◌<◌}
use mathlib.Core.Path.{◌≡◌, refl, ap, sym, subst, ◌∙◌}
use mathlib.Core.Bool.{Bool, true, false}
use mathlib.Core.List.{List, [], ◌∷◌, ◌++◌}
use mathlib.Core.Option.{Option, some, none}
use native.Mathlib.Omega.{arith}
use Rattle.std.specs.Prelude.{Result, Ok, Err}
use native.Mathlib.Decide.{dec_lt}
use lib.Dec.{leb}
use borrow.Author.Tests.{lt-ltb, le-ltb}
use lib.ListN.{length, drop, get_elem?, length-drop}
use Rattle.design.specs.Syntax.{Method, Rule, Body, Design}
use Rattle.design.specs.Take.{Read, got, refused}
use Rattle.design.specs.Records as R
use Rattle.design.specs.Records.{Draft, Reading, reading, records, empty, methods, rules}
use Rattle.design.specs.Plan.{World}
use Rattle.design.specs.Lookups.{Methods, Rules, Place, RulePlace}
use Rattle.design.proofs.Table.{there, index_below}
use Rattle.design.proofs.Inverting.{bound, needed, got_value, method_read, rule_read}
use Rattle.rule.specs.declared.Reason.{Reason}
use Rattle.checker.specs.declared.Failure.{Failure}
use Rattle.meaning.specs.Kinds.{walk_body}
use Rattle.meaning.specs.Check.{Verdict, body_place, walk_all}
use Rattle.checker.specs.Bodies.{tested, MethodWalks, RuleWalks, MethodNext, WalksAll}
use Rattle.checker.specs.Answers.{verdict}

-- ---- places ascend

-- the places of these bodies ascend, from `low` on and below `high`
pub data Between : (low : ℕ) → List Body → (high : ℕ) → Type 0 where
  done : {low high : ℕ} → low ≤ high → Between low [] high
  next : {low high : ℕ} {b : Body} {bs : List Body} → low ≤ body_place b → Between (suc (body_place b)) bs high → Between low (b ∷ bs) high

higher : {low high more : ℕ} {bs : List Body} → Between low bs high → high ≤ more → Between low bs more
higher {more = more} (done {low = low} l) h = let t : low ≤ more = omega arith in done t
higher (next l r) h = next l (higher r h)

behind : {low high : ℕ} {bs : List Body} (b : Body) → Between low bs high → body_place b ≡ high → Between low (bs ++ (b ∷ [])) (suc high)
behind {high = high} b (done {low = low} l) e =
    let t : low ≤ body_place b = omega arith in
    let f : suc (body_place b) ≤ suc high = omega arith in
    next t (done f)
behind b (next l r) e = next l (behind b r e)

-- what a record adds: a body at its place, or none
data Grew (place : ℕ) (bs : List Body) : List Body → Type 0 where
  same : Grew place bs bs
  more : (b : Body) → body_place b ≡ place → Grew place bs (bs ++ (b ∷ []))

module _ (size place : ℕ) (D : Draft) where
  by_mark : (m : R.Mark) (s : List ℕ) {E : Draft} {t : List ℕ} → R.after_mark size place D m s ≡ got E t → Grew place D.bodies E.bodies
  unfolding R.after_mark R.instance_record R.method_record R.rule_record R.schedule_record R.with_instance R.with_body R.with_schedule body_place
  by_mark R.RG s e = needed _ _ _ e (λ _ f. bound _ _ f (λ x r p q. subst (λ (F : Draft). Grew place D.bodies F.bodies) (got_value q) same))
  by_mark R.CR s e = needed _ _ _ e (λ _ f. bound _ _ f (λ x r p q. subst (λ (F : Draft). Grew place D.bodies F.bodies) (got_value q) same))
  by_mark R.UM s e = needed _ _ _ e (λ _ f. bound _ _ f (λ x r p q. subst (λ (F : Draft). Grew place D.bodies F.bodies) (got_value q) same))
  by_mark R.MD s e = needed _ _ _ e (λ _ f. needed _ _ _ f (λ _ g. bound _ _ g (λ x r p q.
      subst (λ (F : Draft). Grew place D.bodies F.bodies) (got_value q) (more (Body.method x) (method_read size place _ s p).0))))
  by_mark R.RL s e = needed _ _ _ e (λ _ f. needed _ _ _ f (λ _ g. bound _ _ g (λ x r p q.
      subst (λ (F : Draft). Grew place D.bodies F.bodies) (got_value q) (more (Body.rule x) (rule_read size place _ s p).0))))
  by_mark R.SC s e = bound _ _ e (λ ns r p q. subst (λ (F : Draft). Grew place D.bodies F.bodies) (got_value q) same)
  by_mark R.unknown s e = let z : ◌≡◌ {A = ℕ} 0 1 = cc in absurd (omega arith)

  grew : (s : List ℕ) {E : Draft} {t : List ℕ} → R.one_record size place D s ≡ got E t → Grew place D.bodies E.bodies
  unfolding R.one_record
  grew s e = needed _ _ _ e (λ _ f. bound _ _ f (λ a r p g. bound _ _ g (λ b q u v. by_mark _ q v)))

grown : {place : ℕ} {bs cs : List Body} → Between 0 bs place → Grew place bs cs → Between 0 cs (suc place)
grown h same = higher h (omega arith)
grown h (more b e) = behind b h e

-- by recursion on the bytes, as records are read
ended : (size : ℕ) (D : Draft) (o : Option (List ℕ)) {E : Design} → Between 0 D.bodies size →
    R.closed size D.instances D.bodies o ≡ Reading.design E → Between 0 E.bodies size
unfolding R.closed
ended size D none h e = let z : ◌≡◌ {A = ℕ} 0 1 = cc in absurd (omega arith)
ended size D (some ns) {E} h e =
    let p : record { instances = D.instances; bodies = D.bodies; schedule = ns } ≡ E = cc in
    subst (λ (F : Design). Between 0 F.bodies size) p h

one_read : {X : Type 0} (size : ℕ) (s : List ℕ) (o : Read Draft) {E : Design} → ◌≡◌ {A = Reading} (elim o [
  | got D1 rest ↦ records size D1 (length s - length rest) s
  | refused why ↦ Reading.refusal why
]) (Reading.design E) → ((D1 : Draft) (rest : List ℕ) → o ≡ got D1 rest → records size D1 (length s - length rest) s ≡ Reading.design E → X) → X
one_read size s (got D1 rest) e f = f D1 rest refl e
one_read size s (refused why) e f = let z : ◌≡◌ {A = ℕ} 0 1 = cc in absurd (omega arith)

ascend : (size : ℕ) (D : Draft) (inside : ℕ) (s : List ℕ) {E : Design} → length s ≤ size → Between 0 D.bodies (size - length s) →
    records size D inside s ≡ Reading.design E → Between 0 E.bodies size
unfolding records
ascend size D inside [] l h e = ended size D D.schedule (higher h (omega arith)) e
ascend size D (suc n) (b ∷ s) l h e = ascend size D n s (omega arith) (higher h (omega arith)) e
ascend size D zero (b ∷ s) l h e = one_read size s (R.one_record size (size - suc (length s)) D (b ∷ s)) e (λ D1 rest p f.
    let z : suc (size - suc (length s)) ≡ size - length s = omega arith in
    ascend size D1 (length s - length rest) s (omega arith) (subst (λ (k : ℕ). Between 0 D1.bodies k) z (grown h (grew size _ D (b ∷ s) p))) f)

pub placed : (file : List ℕ) {D : Design} → reading file ≡ Reading.design D → Between 0 D.bodies (length file)
unfolding reading empty
placed file {D} e = go (leb (length file) 32768) refl
  where
    go : (b : Bool) → leb (length file) 32768 ≡ b → Between 0 D.bodies (length file)
    go true t = ascend (length file) empty 0 file (omega arith) (done (omega arith)) (sym (rw (t, reading) refl) ∙ e)
    go false t =
        let v : Reading.refusal (record { number = 1; place = 0 }) ≡ Reading.design D = sym (rw (t, reading) refl) ∙ e in
        absurd (let z : ◌≡◌ {A = ℕ} 0 1 = cc in omega arith)

-- the first method among them, and the first rule, stand no earlier
first_method : {low high : ℕ} {bs : List Body} → Between low bs high → {x : Method} → get_elem? (methods bs) 0 ≡ some x → low ≤ x.place
unfolding methods body_place
first_method (done l) e = let z : ◌≡◌ {A = ℕ} 0 1 = cc in absurd (omega arith)
first_method (next {b = Body.method y} l r) {x} e = let p : y ≡ x = cc in rw p at l
first_method (next {b = Body.rule y} l r) e = let h = first_method r e in omega arith

first_rule : {low high : ℕ} {bs : List Body} → Between low bs high → {x : Rule} → get_elem? (rules bs) 0 ≡ some x → low ≤ x.place
unfolding rules body_place
first_rule (done l) e = let z : ◌≡◌ {A = ℕ} 0 1 = cc in absurd (omega arith)
first_rule (next {b = Body.rule y} l r) {x} e = let p : y ≡ x = cc in rw p at l
first_rule (next {b = Body.method y} l r) e = let h = first_rule r e in omega arith

-- ---- the bodies that are left

dropped : {A : Type 0} (xs : List A) (k : ℕ) {x : A} {ys : List A} → drop k xs ≡ x ∷ ys → (get_elem? xs k ≡ some x) × (ys ≡ drop (k + 1) xs)
dropped [] zero e = let z : ◌≡◌ {A = ℕ} 0 1 = cc in absurd (omega arith)
dropped [] (suc k) e = let z : ◌≡◌ {A = ℕ} 0 1 = cc in absurd (omega arith)
dropped (a ∷ xs) zero {x} {ys} e = let p : a ≡ x = cc in let q : ys ≡ xs = cc in (rw p, q)
dropped (a ∷ xs) (suc k) e = let h = dropped xs k e in let z : suc k + 1 ≡ suc (k + 1) = omega arith in (h.0, rw z h.1)

first_of : {A : Type 0} (xs : List A) (n : ℕ) → get_elem? (drop n xs) 0 ≡ get_elem? xs n
first_of [] zero = refl
first_of [] (suc n) = refl
first_of (a ∷ xs) zero = refl
first_of (a ∷ xs) (suc n) = first_of xs n

pub record Rest (D : Design) (k n : ℕ) : Type 0 where
  pub bodies : List Body
  pub low : ℕ
  pub high : ℕ
  pub whole : walk_all D D.bodies ≡ walk_all D bodies
  pub methods_left : methods bodies ≡ drop k (methods D.bodies)
  pub rules_left : rules bodies ≡ drop n (rules D.bodies)
  pub few_methods : k ≤ length (methods D.bodies)
  pub few_rules : n ≤ length (rules D.bodies)
  pub order : Between low bodies high

pub record Over (file plan : List ℕ) (k n : ℕ) : Type 0 where
  pub rest : (D : Design) → reading file ≡ Reading.design D → World file plan D → Rest D k n

pub over_starts : {file plan : List ℕ} → Over file plan 0 0
over_starts {file} = record {
  rest = λ D p w. record {
    bodies = D.bodies;
    low = 0;
    high = length file;
    whole = refl;
    methods_left = refl;
    rules_left = refl;
    few_methods = omega arith;
    few_rules = omega arith;
    order = placed file p;
  };
}

module _ {file plan : List ℕ} {k n : ℕ} {t : Bool} (p : MethodNext plan k n t) {D : Design} (w : World file plan D) where
  -- the next body is a method, which stands before the next rule, or a rule, which stands before the next method
  next_method : {x : Method} {bs : List Body} {low high : ℕ} → x ∷ methods bs ≡ drop k (methods D.bodies) → rules bs ≡ drop n (rules D.bodies) →
      Between low (Body.method x ∷ bs) high → t ≡ true
  unfolding body_place
  next_method {x} {bs} a b (next _ o) = let g = dropped (methods D.bodies) k (sym a) in go (dec_lt n (length (rules D.bodies))) g.0
    where
      go : Dec (n < length (rules D.bodies)) → get_elem? (methods D.bodies) k ≡ some x → t ≡ true
      go (yes l) g =
          let f = there (rules D.bodies) n l in
          let h = first_rule o (ap (λ (t : List Rule). get_elem? t 0) b ∙ first_of (rules D.bodies) n ∙ f.1) in
          p.both file D x f.0 w g f.1 ∙ lt-ltb x.place f.0.place (omega arith)
      go (no l) g = p.no_rule D x w.plans g (omega arith)

  next_rule : {x : Rule} {bs : List Body} {low high : ℕ} → methods bs ≡ drop k (methods D.bodies) → x ∷ rules bs ≡ drop n (rules D.bodies) →
      Between low (Body.rule x ∷ bs) high → t ≡ false
  unfolding body_place
  next_rule {x} {bs} a b (next _ o) = let g = dropped (rules D.bodies) n (sym b) in go (dec_lt k (length (methods D.bodies))) g.0
    where
      go : Dec (k < length (methods D.bodies)) → get_elem? (rules D.bodies) n ≡ some x → t ≡ false
      go (yes l) g =
          let f = there (methods D.bodies) k l in
          let h = first_method o (ap (λ (t : List Method). get_elem? t 0) a ∙ first_of (methods D.bodies) k ∙ f.1) in
          p.both file D f.0 x w f.1 g ∙ le-ltb f.0.place x.place (omega arith)
      go (no l) g = p.no_method D w.plans (omega arith)

apart : {X : Type 0} {t : Bool} → t ≡ true → t ≡ false → X
apart p q = absurd (let z : ◌≡◌ {A = ℕ} 0 1 = cc in omega arith)

module _ {file plan : List ℕ} {ms rs k n i : ℕ} {t : Bool} (o : Over file plan k n) (both : k + n ≡ i) (is-ms : Methods plan ms) (is-rs : Rules plan rs)
    (l : i < ms + rs) (p : MethodNext plan k n t) where
  module _ {X : Type 0} (D : Design) (read : reading file ≡ Reading.design D) (w : World file plan D) where
    none_left : [] ≡ drop k (methods D.bodies) → [] ≡ drop n (rules D.bodies) → X
    none_left a b =
        let i : 0 ≡ length (methods D.bodies) - k = ap length a ∙ length-drop k (methods D.bodies) in
        let j : 0 ≡ length (rules D.bodies) - n = ap length b ∙ length-drop n (rules D.bodies) in
        absurd (omega (arith, is-ms.counts D w.plans, is-rs.counts D w.plans))

    -- the next body is the method, where that stands first
    a_method : t ≡ true → ((x : Method) (bs : List Body) → walk_all D D.bodies ≡ walk_all D (Body.method x ∷ bs) →
        get_elem? (methods D.bodies) k ≡ some x →
        (walk_all D D.bodies ≡ walk_all D bs → Rest D (k + 1) n) → X) → X
    unfolding methods rules
    a_method f then = let z = o.rest D read w in go z.bodies z.whole z.methods_left z.rules_left z.order z.few_rules
      where
        go : (bs : List Body) {low high : ℕ} → walk_all D D.bodies ≡ walk_all D bs → methods bs ≡ drop k (methods D.bodies) →
            rules bs ≡ drop n (rules D.bodies) →
            Between low bs high → n ≤ length (rules D.bodies) → X
        go [] e a b h v = none_left a b
        go (Body.method x ∷ bs) e a b (next i j) v =
            let g = dropped (methods D.bodies) k (sym a) in
            let u = index_below (methods D.bodies) k x g.0 in
            then x bs e g.0 (λ y. record {
              bodies = bs;
              low = _;
              high = _;
              whole = y;
              methods_left = g.1;
              rules_left = b;
              few_methods = omega arith;
              few_rules = v;
              order = j;
            })
        go (Body.rule x ∷ bs) e a b h v = apart f (next_rule p w a b h)

    a_rule : t ≡ false → ((x : Rule) (bs : List Body) → walk_all D D.bodies ≡ walk_all D (Body.rule x ∷ bs) → get_elem? (rules D.bodies) n ≡ some x →
        (walk_all D D.bodies ≡ walk_all D bs → Rest D k (n + 1)) → X) → X
    unfolding methods rules
    a_rule f then = let z = o.rest D read w in go z.bodies z.whole z.methods_left z.rules_left z.order z.few_methods
      where
        go : (bs : List Body) {low high : ℕ} → walk_all D D.bodies ≡ walk_all D bs → methods bs ≡ drop k (methods D.bodies) →
            rules bs ≡ drop n (rules D.bodies) →
            Between low bs high → k ≤ length (methods D.bodies) → X
        go [] e a b h v = none_left a b
        go (Body.method x ∷ bs) e a b h v = apart (next_method p w a b h) f
        go (Body.rule x ∷ bs) e a b (next i j) v =
            let g = dropped (rules D.bodies) n (sym b) in
            let u = index_below (rules D.bodies) n x g.0 in
            then x bs e g.0 (λ y. record {
              bodies = bs;
              low = _;
              high = _;
              whole = y;
              methods_left = a;
              rules_left = g.1;
              few_methods = v;
              few_rules = omega arith;
              order = j;
            })

  module _ (f : t ≡ true) where
    pub method_goes : {v : Result (Unit {0}) Reason} → MethodWalks file plan k v → ((e : Reason) → v ≡ Err e → ⊥) → Over file plan (k + 1) n
    unfolding walk_all walk_body tested
    method_goes {v = Ok u} c h = record {
      rest = λ D read w. a_method D read w f (λ x bs e g y. y (e ∙ (let h = c.walks D w x g in rw (h, walk_all))));
    }
    method_goes {v = Err e} c h = absurd (h e refl)

    pub method_fails : {why : Reason} {m : ℕ} → MethodWalks file plan k (Err why) → Place plan k m → WalksAll file plan (Err (Failure.Fails why m))
    unfolding walk_all walk_body tested verdict body_place
    method_fails c q = record {
      all = λ D read w. a_method D read w f (λ x bs e g y. e ∙ (let h = c.walks D w x g in rw (h, q.place file D x w g, walk_all)));
    }

  module _ (f : t ≡ false) where
    pub rule_goes : {v : Result (Unit {0}) Reason} → RuleWalks file plan n v → ((e : Reason) → v ≡ Err e → ⊥) → Over file plan k (n + 1)
    unfolding walk_all walk_body tested
    rule_goes {v = Ok u} c h = record {
      rest = λ D read w. a_rule D read w f (λ x bs e g y. y (e ∙ (let h = c.walks D w x g in rw (h, walk_all))));
    }
    rule_goes {v = Err e} c h = absurd (h e refl)

    pub rule_fails : {why : Reason} {r : ℕ} → RuleWalks file plan n (Err why) → RulePlace plan n r → WalksAll file plan (Err (Failure.Fails why r))
    unfolding walk_all walk_body tested verdict body_place
    rule_fails c q = record {
      all = λ D read w. a_rule D read w f (λ x bs e g y. e ∙ (let h = c.walks D w x g in rw (h, q.place D x w.plans g, walk_all)));
    }

-- none is left
pub over_done : {file plan : List ℕ} {ms rs k n i : ℕ} {u : Unit {0}} → Over file plan k n → k + n ≡ i → Methods plan ms → Rules plan rs → ms + rs ≤ i →
    WalksAll file plan (Ok u)
unfolding walk_all verdict methods rules
over_done {file} {plan} {ms} {rs} {k} {n} o both is-ms is-rs l = record {
  all = λ D p w.
      let t = o.rest D p w in
      t.whole ∙ go D (is-ms.counts D w.plans) (is-rs.counts D w.plans) t.bodies t.methods_left t.rules_left t.few_methods t.few_rules;
}
  where
    go : (D : Design) → ms ≡ length (methods D.bodies) → rs ≡ length (rules D.bodies) → (bs : List Body) → methods bs ≡ drop k (methods D.bodies) →
        rules bs ≡ drop n (rules D.bodies) → k ≤ length (methods D.bodies) → n ≤ length (rules D.bodies) → walk_all D bs ≡ Verdict.passes
    go D a b [] c d f g = refl
    go D a b (Body.method x ∷ bs) c d f g = absurd (omega (arith, ap length c, length-drop k (methods D.bodies)))
    go D a b (Body.rule x ∷ bs) c d f g = absurd (omega (arith, ap length d, length-drop n (rules D.bodies)))

-- ---- which is next

module _ {plan : List ℕ} {k n c : ℕ} (h : Methods plan c) where
  pub no_method : c ≤ k → MethodNext plan k n false
  no_method l = record {
    no_method = λ D p m. refl;
    no_rule = λ D x p e m. absurd (omega (arith, h.counts D p, index_below (methods D.bodies) k x e));
    both = λ file D x y w e f. absurd (omega (arith, h.counts D w.plans, index_below (methods D.bodies) k x e));
  }

  module _ {d : ℕ} (l : k < c) (g : Rules plan d) where
    pub no_rule : d ≤ n → MethodNext plan k n true
    no_rule m = record {
      no_method = λ D p q. absurd (omega (arith, h.counts D p));
      no_rule = λ D x p e q. refl;
      both = λ file D x y w e f. absurd (omega (arith, g.counts D w.plans, index_below (rules D.bodies) n y f));
    }
