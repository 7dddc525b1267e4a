-- What a call names: from what the plan says to the instance, the port and the method of the design, one law for each way in which a lookup
-- returns.
use Prim.Native.Nat.{ℕ, ◌+◌, ◌*◌, ◌/◌, ◌%◌, ◌≤◌, ◌<◌}
use mathlib.Core.Path.{◌≡◌, refl, ap, sym, ◌∙◌}
use mathlib.Core.Bool.{Bool, true, false, not, ◌||◌}
use mathlib.Core.List.{List}
use mathlib.Core.Option.{some}
use native.Mathlib.Omega.{arith}
use lib.Dec.{ltb, eqb}
use lib.ListN.{length, get_elem?}
use borrow.Author.Tests.{lt-ltb, le-ltb, eq-eqb, ne_eqb, not-true}
use Rattle.design.specs.Syntax.{Instance, Method, Design}
use Rattle.design.specs.Records as R
use Rattle.design.specs.Records.{methods}
use Rattle.design.specs.Parts as P
use Rattle.design.specs.Plan.{ports_of, before, Plans}
use Rattle.std.specs.Prelude.{Option as Maybe, Some, None, Result, Ok, Err}
use Rattle.design.specs.declared.plan.Signature.{Signature}
use Rattle.design.specs.Lookups.{Instances, ports_at, Ports, Finding, Finds, Describes}
use Rattle.design.proofs.Table.{past_end, there}
use Rattle.rule.specs.declared.naming.Callee as DC
use Rattle.rule.specs.declared.Reason.{Reason}
use Rattle.meaning.specs.Lookup.{Access, instance_of, ports, access, methods_of, method_of}
use Rattle.meaning.specs.Naming.{passed, if_passed, test, found, Callee, role_of, params_of, is_value, method_in, callee_of, named}
use Rattle.rule.specs.Answers.{number_of}
use Rattle.rule.specs.Named.{Names, Naming, called, PortNamed, MethodNamed}
use Rattle.rule.proofs.Invoking.{values, role_is_value}

-- the plan's ports are the definition's
pub same_ports : (x : Instance) → ports_of x ≡ ports x
unfolding ports_of ports
same_ports (Instance.register p z) = refl
same_ports (Instance.concurrent p n z) = refl
same_ports (Instance.user p) = refl

-- ---- ports

pub no_port : {count m n : ℕ} {pure : Bool} → 2 * count ≤ m → PortNamed count m n pure (Err Reason.Method)
unfolding Names if_passed test number_of
no_port {count} {m} l = record { names = λ D i. rw (le-ltb m (2 * count) l) }

module _ {count m n : ℕ} {pure : Bool} (l : m < 2 * count) where
  is_port : (a : Access) {r : Result DC.Callee Reason} → access m ≡ a → ((D : Design) (i : ℕ) → Names (called n pure (Callee.port a)) D i m r) → PortNamed count m n pure r
  unfolding if_passed test
  is_port a e h = record { names = λ D i. rw (lt-ltb m (2 * count) l, e) (h D i) }

  is_read : {r : Result DC.Callee Reason} → m % 2 ≡ 0 → ((D : Design) (i : ℕ) → Names (called n pure (Callee.port (Access.read (m / 2)))) D i m r) → PortNamed count m n pure r
  unfolding access
  is_read e h = is_port (Access.read (m / 2)) (rw (eq-eqb (m % 2) 0 e)) h

  is_write : {r : Result DC.Callee Reason} → (m % 2 ≡ 0 → ⊥) → ((D : Design) (i : ℕ) → Names (called n pure (Callee.port (Access.write (m / 2)))) D i m r) → PortNamed count m n pure r
  unfolding access
  is_write e h = is_port (Access.write (m / 2)) (rw (ne_eqb (m % 2) 0 e)) h

  pub read_count : m % 2 ≡ 0 → (n ≡ 0 → ⊥) → PortNamed count m n pure (Err Reason.Count)
  unfolding Names called test params_of number_of
  read_count e q = is_read e (λ D i. rw (ne_eqb n 0 q))

  pub reads : m % 2 ≡ 0 → n ≡ 0 → PortNamed count m n pure (Ok DC.Callee.Read)
  unfolding Names called test params_of role_of is_value
  reads e q = is_read e (λ D i. (m / 2, rw (eq-eqb n 0 q) (any pure)))
    where
      any : (b : Bool) → test (not b || true) 26 (passed (Callee.port (Access.read (m / 2)))) ≡ passed (Callee.port (Access.read (m / 2)))
      any true = refl
      any false = refl

  pub write_count : (m % 2 ≡ 0 → ⊥) → (n ≡ 1 → ⊥) → PortNamed count m n pure (Err Reason.Count)
  unfolding Names called test params_of number_of
  write_count e q = is_write e (λ D i. rw (ne_eqb n 1 q))

  pub write_pure : (m % 2 ≡ 0 → ⊥) → n ≡ 1 → pure ≡ true → PortNamed count m n pure (Err Reason.Pure)
  unfolding Names called test params_of role_of is_value number_of
  write_pure e q p = is_write e (λ D i. rw (eq-eqb n 1 q, p))

  pub writes : (m % 2 ≡ 0 → ⊥) → n ≡ 1 → pure ≡ false → PortNamed count m n pure (Ok DC.Callee.Write)
  unfolding Names called test params_of role_of is_value
  writes e q p = is_write e (λ D i. (m / 2, rw (eq-eqb n 1 q, p)))

-- ---- methods

module _ {plan : List ℕ} {i m : ℕ} (n : ℕ) (pure : Bool) {f : Maybe ℕ} (s : Finds plan i m f) where
  pub no_method : f ≡ None → MethodNamed plan i m n pure (Err Reason.Method)
  unfolding Names if_passed found number_of Finding method_of methods_of P.method_of
  no_method e = record { names = λ D p. rw ((rw e at s.finds) D p) }

  module _ {k : ℕ} (e : f ≡ Some k) {g : Signature} (d : Describes plan k g) where
    is_method : {r : Result DC.Callee Reason} →
        ((D : Design) → Plans plan D → (x : Method) → get_elem? (methods D.bodies) k ≡ some x → (k ≡ before i (methods D.bodies) + m) → Names (called n pure (Callee.user x)) D i m r) → MethodNamed plan i m n pure r
    unfolding if_passed found Finding method_of methods_of P.method_of
    is_method next = record {
      names = λ D p.
          let w = (rw e at s.finds) D p in
          rw w.1 (next D p w.0 w.2 w.3);
    }

    pub method_count : (n ≡ g.count → ⊥) → MethodNamed plan i m n pure (Err Reason.Count)
    unfolding Names called test params_of number_of
    method_count ne = is_method (λ D p x q num. rw (ne_eqb n (length x.params) (λ z. ne (z ∙ sym (d.count D x p q)))))

    value_is : (D : Design) → Plans plan D → (x : Method) → get_elem? (methods D.bodies) k ≡ some x → is_value x.role ≡ values g.role
    value_is D p x q = sym (ap is_value (d.role D x p q)) ∙ sym (role_is_value g.role)

    pub method_pure : {t : Bool} → t ≡ values g.role → n ≡ g.count → pure ≡ true → not t ≡ true → MethodNamed plan i m n pure (Err Reason.Pure)
    unfolding Names called test params_of role_of number_of
    method_pure {t} e c f h = is_method (λ D p x q num. rw (eq-eqb n (length x.params) (c ∙ d.count D x p q), value_is D p x q ∙ sym e, f, not-true t h))

    pub method_user : {t : Bool} → t ≡ values g.role → n ≡ g.count → not pure || t ≡ true → MethodNamed plan i m n pure (Ok (DC.Callee.User k))
    unfolding Names called test params_of role_of
    method_user e c f = is_method (λ D p x q num. (x, rw (eq-eqb n (length x.params) (c ∙ d.count D x p q), value_is D p x q ∙ sym e, f), q, num))

-- what a pure place allows: a value method; and any other place allows all
pub allowed_value : (a : Bool) {b : Bool} → b ≡ true → not a || b ≡ true
allowed_value true e = e
allowed_value false e = refl

pub allowed_place : (a b : Bool) → a ≡ false → not a || b ≡ true
allowed_place a b e = rw e

-- ---- calls

module _ (D : Design) (i m : ℕ) (x : Instance) where
  in_user : R.is_user x ≡ true → method_in D i m x ≡ if_passed (found 24 (method_of D i m)) (λ y. passed (Callee.user y))
  unfolding method_in
  in_user e = rw (e, method_in) refl

  in_register : {count : ℕ} → R.is_user x ≡ false → ports x ≡ count → method_in D i m x ≡ test (ltb m (2 * count)) 24 (passed (Callee.port (access m)))
  unfolding method_in
  in_register e c = rw (e, c, method_in) refl

-- an instance that the plan has, its ports, and whether it is a user's
at_instance : {plan : List ℕ} {i c a : ℕ} → Instances plan c → i < c → Ports plan i a → (D : Design) → Plans plan D →
    (x : Instance) × (instance_of D i ≡ some x) × (ports x ≡ a) × (R.is_user x ≡ eqb a 0)
unfolding instance_of ports_at
at_instance {i = i} {a = a} h q o D p =
    let g = there D.instances i (omega (arith, h.counts D p)) in
    let e : a ≡ ports_of g.0 = o.ports D p ∙ ap ports_at g.1 in
    (g.0, g.1, sym (e ∙ same_ports g.0), (p.sound.ported i g.0 g.1).user ∙ ap (λ z. eqb z 0) (sym e))

module _ {plan : List ℕ} {me i m n : ℕ} {pure : Bool} where
  pub not_below : me ≤ i → Naming plan me i m n pure (Err Reason.Instance)
  unfolding Names named test number_of
  not_below l = record { names = λ D p. rw (le-ltb i me l) }

  module _ {c : ℕ} (l : i < me) (h : Instances plan c) where
    pub no_instance : c ≤ i → Naming plan me i m n pure (Err Reason.Instance)
    unfolding Names named test number_of callee_of found if_passed instance_of
    no_instance q = record { names = λ D p. rw (lt-ltb i me l, past_end D.instances i (omega (arith, h.counts D p))) }

    module _ {a : ℕ} {r : Result DC.Callee Reason} (q : i < c) (o : Ports plan i a) where
      pub of_user : a ≡ 0 → MethodNamed plan i m n pure r → Naming plan me i m n pure r
      unfolding named test callee_of found if_passed called
      of_user z s = record {
        names = λ D p.
            let g = at_instance h q o D p in
            rw (lt-ltb i me l, g.1, in_user D i m g.0 (g.3 ∙ eq-eqb a 0 z)) (s.names D p);
      }

      pub of_register : (a ≡ 0 → ⊥) → PortNamed a m n pure r → Naming plan me i m n pure r
      unfolding named test callee_of found if_passed called
      of_register z s = record {
        names = λ D p.
            let g = at_instance h q o D p in
            rw (lt-ltb i me l, g.1, in_register D i m g.0 (g.3 ∙ ne_eqb a 0 z) g.2) (s.names D i);
      }
