-- The walk of one method and of one rule: from what the plan says to the method or the rule of the design, one law for each way in which a
-- function returns.
use Prim.Native.Nat.{ℕ, ◌+◌}
use mathlib.Core.Path.{◌≡◌, ap, sym, subst, ◌∙◌}
use mathlib.Core.Bool.{Bool, true, false}
use mathlib.Core.List.{List, [], map}
use mathlib.Core.Option.{some}
use denote.Enum.Bare.{sameb}
use Rattle.std.specs.Prelude.{Result, Ok, Err}
use Rattle.design.specs.contracts.kinds.Role.{the_type}
use Rattle.design.specs.declared.kinds.Kind as DK
use Rattle.design.specs.declared.kinds.Role as DR
use Rattle.design.specs.Kinds.{kind}
use lib.ListN.{length, take, get_elem?}
use Rattle.design.specs.Syntax.{Method, Rule, Design}
use Rattle.design.specs.Records as R
use Rattle.design.specs.Records.{methods, rules}
use Rattle.design.specs.Plan.{World}
use Rattle.design.specs.declared.plan.Signature.{Signature}
use Rattle.design.specs.Lookups.{Describes, Owner, Kinds, MethodText, RuleOwner, RuleText}
use Rattle.rule.specs.declared.Reason.{Reason}
use Rattle.meaning.specs.Naming.{if_passed, is_value}
use Rattle.meaning.specs.Kinds as K
use Rattle.meaning.specs.Kinds.{walk_method, walk_rule}
use Rattle.checker.specs.Walks.{Place, went, live_of, whole, Agrees, Walks, Wants}
use Rattle.checker.specs.Bodies.{tested, Params, MethodWalks, RuleWalks}
use Rattle.checker.proofs.Wanting as W
use Rattle.rule.proofs.Invoking.{role_is_value}

-- ---- a method's parameters

-- so many of them are locals
pub record Copied (kinds : List ℕ) (j : ℕ) (locals : List DK.Kind) : Type 0 where
  pub full : length locals ≡ 4
  pub first : map kind (take j locals) ≡ map R.kind_of (take j kinds)

-- the place that a body's walk begins with
abbrev pub starting : ℕ → Bool → List DK.Kind → Place
starting me pure locals = record { me = me; pure = pure; locals = locals }

-- ---- a method

module _ {file plan : List ℕ} {k o : ℕ} {s : Signature} {ks text : List ℕ} {own locals : List DK.Kind} {v : Result (DK.Kind × ℕ) Reason} {p : Bool}
    (i : Owner plan k o) (d : Describes plan k s) (h : Kinds file plan k ks) (ps : Params ks own) (lent : locals ≡ take (length ks) own)
    (m : MethodText file plan k text) (by-role : p ≡ sameb the_type s.role DR.Role.Value)
    (a : Walks whole text file plan (starting o p locals) 0 v) where
  kind_is : {D : Design} → World file plan D → (x : Method) → get_elem? (methods D.bodies) k ≡ some x →
      Agrees text [] (went v) (K.kind D x.owner x.body (is_value x.role) x.params)
  unfolding live_of
  kind_is {D} w x g =
      let st = w.stands.methods_stand k x g in
      let pure : is_value x.role ≡ p = ap is_value (sym (d.role D x w.plans g)) ∙ sym (role_is_value s.role) ∙ sym by-role in
      let live : x.params ≡ map kind locals = h.kinds D x w g ∙ sym ps.params ∙ ap (map kind) (sym lent) in
      let me : x.owner ≡ o = sym (i.owner D x w.plans g) in
      rw (live, pure, me) ((a.does D w (x.start + x.size) (R.at (length file) x.place 7) 16).says x.body [] (rw (m.text D x w g) st.body))

  pub method_no : {why : Reason} → v ≡ Err why → MethodWalks file plan k (Err why)
  unfolding walk_method if_passed tested went Agrees
  method_no e = record { walks = λ D w x g. let t = rw e at (kind_is w x g) in rw t }

  pub method_done : {q : DK.Kind} {n : ℕ} {r : Result (Unit {0}) Reason} → v ≡ Ok (q, n) → Wants s.result q r → MethodWalks file plan k r
  unfolding walk_method if_passed went Agrees
  method_done {r = r} e c = record { walks = λ D w x g. let y = rw e at (kind_is w x g) in rw (y.0, ← d.result D x w.plans g) (W.decided r c) }

-- ---- a rule

module _ {file plan : List ℕ} {n o : ℕ} {text : List ℕ} {v : Result (DK.Kind × ℕ) Reason} (m : RuleText file plan n text) (i : RuleOwner plan n o)
    (a : Walks whole text file plan (starting o true []) 0 v) where
  guard_is : {D : Design} (w : World file plan D) (x : Rule) (g : get_elem? (rules D.bodies) n ≡ some x) →
      Agrees text (w.stands.rules_stand n x g).rest (went v) (K.kind D x.owner x.guard true [])
  unfolding live_of
  guard_is {D} w x g =
      let st = w.stands.rules_stand n x g in
      subst (λ (me : ℕ). Agrees text st.rest (went v) (K.kind D me x.guard true [])) (i.owner D x w.plans g)
      ((a.does D w (x.start + x.size) (R.at (length file) x.place 7) 16).says x.guard st.rest (rw (m.text D x w g) st.guard))

  pub guard_no : {why : Reason} → v ≡ Err why → RuleWalks file plan n (Err why)
  unfolding walk_rule if_passed tested went Agrees
  guard_no q = record { walks = λ D w x g. let t = rw q at (guard_is w x g) in rw t }

  module _ {j : DK.Kind} {l : ℕ} (y : v ≡ Ok (j, l)) where
    pub guard_kind : {why : Reason} → Wants DK.Kind.Bool j (Err why) → RuleWalks file plan n (Err why)
    unfolding walk_rule if_passed tested went Agrees kind
    guard_kind c = record { walks = λ D w x g. let h = rw y at (guard_is w x g) in rw h.0 (W.unwanted _ c) }

    module _ {u : Unit {0}} {r : Result (DK.Kind × ℕ) Reason} (c : Wants DK.Kind.Bool j (Ok u)) (d : Walks whole text file plan (starting o false []) l r) where
      body_is : {D : Design} → World file plan D → (x : Rule) → get_elem? (rules D.bodies) n ≡ some x →
          Agrees text [] (went r) (K.kind D x.owner x.body false [])
      unfolding live_of Agrees went
      body_is {D} w x g =
          let h = rw y at (guard_is w x g) in
          subst (λ (me : ℕ). Agrees text [] (went r) (K.kind D me x.body false [])) (i.owner D x w.plans g)
          ((d.does D w (x.start + x.size) (R.at (length file) x.place 7) 16).says x.body [] (rw h.1 (w.stands.rules_stand n x g).body))

      pub body_no : {why : Reason} → r ≡ Err why → RuleWalks file plan n (Err why)
      unfolding walk_rule if_passed tested went Agrees kind
      body_no q = record { walks = λ D w x g. let h = rw y at (guard_is w x g) in let k = rw q at (body_is w x g) in rw (h.0, k) (W.wanted _ c) }

      pub body_done : {f : DK.Kind} {k : ℕ} {t : Result (Unit {0}) Reason} → r ≡ Ok (f, k) → Wants DK.Kind.Void f t → RuleWalks file plan n t
      unfolding walk_rule if_passed went Agrees kind
      body_done {t = t} q b = record {
        walks = λ D w x g. let h = rw y at (guard_is w x g) in let k = rw q at (body_is w x g) in rw (h.0, k.0) (W.wanted _ c ∙ W.decided t b);
      }
