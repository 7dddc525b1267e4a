-- From what the plan says to the definitions' own lookups. The ports decide: an instance that has some is a register, and what a call of it
-- names is a port; one that has none is a user's, or missing, and what a call names is the method that the plan finds, if any.
use Prim.Native.Nat.{ℕ, zero, suc, ◌*◌, ◌/◌, ◌%◌, ◌≤◌, ◌<◌}
use mathlib.Core.Path.{◌≡◌, refl, ap, sym, ◌∙◌}
use mathlib.Core.Bool.{Bool, true, false, cond, not, ◌&&◌}
use mathlib.Core.List.{List}
use mathlib.Core.Option.{Option, some, none}
use native.Mathlib.Omega.{arith}
use denote.Enum.Bare.{sameb}
use lib.Dec.{ltb, eqb}
use lib.ListN.{length, get_elem?}
use borrow.Author.Tests.{lt-ltb, le-ltb, ltb-true, ltb-false, ne_eqb}
use Rattle.std.specs.Prelude.{Option as Maybe, Some, None}
use Rattle.design.specs.declared.kinds.Role as DR
use Rattle.design.specs.declared.plan.Signature.{Signature}
use Rattle.design.specs.contracts.kinds.Role.{the_type}
use Rattle.design.specs.Syntax.{Instance, Method, Design}
use Rattle.design.specs.Records.{is_user}
use Rattle.design.specs.Parts as Parts
use Rattle.design.specs.Kinds.{role}
use Rattle.design.specs.Plan.{ports_of, Plans}
use Rattle.design.specs.Lookups.{ports_at, Ports, Finding, Finds, Describes}
use Rattle.design.proofs.Table.{past_end, there}
use Rattle.design.proofs.Lookups.{number_at, instances_are, find_missing}
use Rattle.meaning.specs.Lookup.{Access, access, instance_of, is_register, methods_of, method_of}
use Rattle.meaning.specs.Naming.{passed, port, user, found, if_passed, test, role_of, params_of, is_value, method_in, callee_of}
use Rattle.meaning.specs.Conflict.{is_plain}
use Rattle.rule.proofs.Callees.{same_ports}
use Rattle.conflict.specs.Post.{Plain, PlainMethod}
use Rattle.rule.proofs.Invoking.{role_is_value}

pub never : {b : Bool} → b ≡ true → b ≡ false → ⊥
never e f = let z : ◌≡◌ {A = ℕ} 0 1 = cc in omega arith

-- ---- an instance

has_ports : (n : ℕ) → not (eqb n 0) ≡ ltb 0 n
has_ports zero = refl
has_ports (suc n) = rw (ne_eqb (suc n) 0 (λ z. omega arith), lt-ltb 0 (suc n) (omega arith))

module _ {plan : List ℕ} {D : Design} (p : Plans plan D) where
  pub far_instance : (i : ℕ) → 64 ≤ i → is_register D i ≡ false
  unfolding is_register instance_of
  far_instance i h = rw (past_end D.instances i (omega (arith, p.sound.few_instances)), is_register)

  module _ {i r : ℕ} (h : Ports plan i r) where
    pub register_by : is_register D i ≡ ltb 0 r
    unfolding is_register instance_of ports_at
    register_by = go (get_elem? D.instances i) refl
      where
        go : (o : Option Instance) → get_elem? D.instances i ≡ o → is_register D i ≡ ltb 0 r
        go none e = rw (h.ports D p, e, is_register)
        go (some x) e = rw (h.ports D p, e, is_register, (p.sound.ported i x e).user) (has_ports (ports_of x))

    -- a register's method is one of its ports
    port_by : (m : ℕ) → (r ≡ 0 → ⊥) → callee_of D i m ≡ test (ltb m (2 * r)) 24 (passed (port (access m)))
    unfolding callee_of found if_passed method_in instance_of ports_at
    port_by m ne = go (get_elem? D.instances i) refl
      where
        go : (o : Option Instance) → get_elem? D.instances i ≡ o → callee_of D i m ≡ test (ltb m (2 * r)) 24 (passed (port (access m)))
        go none e = absurd (ne (h.ports D p ∙ rw e))
        go (some x) e =
            let n : r ≡ ports_of x = h.ports D p ∙ rw e in
            rw (e, callee_of, method_in, (p.sound.ported i x e).user, ne_eqb (ports_of x) 0 (λ z. ne (n ∙ z)), n, same_ports x)

-- ---- a method with a body

unfoldable plain_of : Option Method → Bool
plain_of none = false
plain_of (some x) = is_value x.role && eqb (length x.params) 0

named_plain : (o : Option Method) → is_plain (if_passed (found 24 o) (λ y. passed (user y))) ≡ plain_of o
unfolding plain_of is_plain if_passed found role_of params_of
named_plain none = refl
named_plain (some y) = refl

-- what is no register has the methods that are found, and a missing instance none
method_by : {plan : List ℕ} {D : Design} (p : Plans plan D) (i m : ℕ) → is_register D i ≡ false →
    is_plain (callee_of D i m) ≡ plain_of (Parts.method_of D.bodies i m)
unfolding callee_of found if_passed method_in method_of methods_of Parts.method_of is_register instance_of is_plain plain_of Finding
method_by {plan} {D} p i m n = go (ltb i (length D.instances)) refl
  where
    one : (x : Instance) → get_elem? D.instances i ≡ some x → (b : Bool) → is_user x ≡ b →
        is_plain (callee_of D i m) ≡ plain_of (Parts.method_of D.bodies i m)
    one x e true u = rw (e, callee_of, method_in, u) (named_plain (Parts.method_of D.bodies i m))
    one x e false u = absurd (never (rw (e, is_register, u) refl) n)

    go : (b : Bool) → ltb i (length D.instances) ≡ b → is_plain (callee_of D i m) ≡ plain_of (Parts.method_of D.bodies i m)
    go true t = let g = there D.instances i (ltb-true i _ t) in one g.0 g.1 (is_user g.0) refl
    go false t =
        let l = ltb-false i (length D.instances) t in
        let n = instances_are {plan = plan} (number_at (omega (arith, p.instances, p.sound.few_instances))) in
        rw (past_end D.instances i l, callee_of, (find_missing {i = i} m n (omega (arith, p.instances))).finds D p)

module _ {plan : List ℕ} {i m : ℕ} {f : Maybe ℕ} (h : Finds plan i m f) where
  pub plain_nowhere : f ≡ None → PlainMethod plan i m false
  unfolding Finding plain_of
  plain_nowhere e = record { plain = λ D p n. sym (method_by p i m n ∙ ap plain_of ((rw e at h).finds D p)) }

  module _ {k : ℕ} {s : Signature} (e : f ≡ Some k) (d : Describes plan k s) where
    plain_at : (D : Design) → Plans plan D → is_register D i ≡ false → is_plain (callee_of D i m) ≡ is_value (role s.role) && eqb s.count 0
    unfolding Finding plain_of
    plain_at D p n =
        let g = (rw e at h).finds D p in
        method_by p i m n ∙ ap plain_of g.1 ∙ rw (← d.role D g.0 p g.2, ← d.count D g.0 p g.2)

    -- `&&` asks the second only where the first holds
    module _ {b : Bool} (v : b ≡ sameb the_type s.role DR.Role.Value) where
      pub plain_role : b ≡ false → PlainMethod plan i m b
      plain_role z = record { plain = λ D p n. sym (plain_at D p n ∙ rw (← role_is_value s.role, ← v, z)) }

      pub plain_count : b ≡ true → PlainMethod plan i m (eqb s.count 0)
      plain_count z = record { plain = λ D p n. sym (plain_at D p n ∙ rw (← role_is_value s.role, ← v, z)) }

-- ---- a method of any instance

module _ {plan : List ℕ} {i m r : ℕ} (h : Ports plan i r) where
  pub plain_user : {s : Bool} → r ≡ 0 → PlainMethod plan i m s → Plain plan i m s
  plain_user z q = record { plain = λ D p. q.plain D p (register_by p h ∙ ap (ltb 0) z) }

  pub plain_no_port : (r ≡ 0 → ⊥) → r ≤ m / 2 → Plain plan i m false
  unfolding test is_plain
  plain_no_port ne l = record { plain = λ D p. sym (ap is_plain (port_by p h m ne) ∙ rw (le-ltb m (2 * r) (omega arith))) }

  pub plain_port : (r ≡ 0 → ⊥) → m / 2 < r → Plain plan i m (eqb (m % 2) 0)
  unfolding test is_plain access role_of params_of is_value
  plain_port ne l = record { plain = λ D p. sym (ap is_plain (port_by p h m ne) ∙ rw (lt-ltb m (2 * r) (omega arith)) (go (eqb (m % 2) 0))) }
    where
      go : (b : Bool) → is_plain (passed (port (cond b (Access.read (m / 2)) (Access.write (m / 2))))) ≡ b
      go true = refl
      go false = refl
