-- "The same walk with kinds for values": the tests of Evaluate, in their order, but 27, which "waits for the end".
use Rattle.std.specs.Prelude.{ℕ, Bool, true, false, not, List, [], ◌∷◌}
use Rattle.design.specs.Syntax.{Operator, Expr, Exprs, Stmts, Kind, Method, Rule, Body, Design}
use Rattle.meaning.specs.Values.{same_kind, same_kinds}
use Rattle.meaning.specs.Naming.{Test, passed, if_passed, test, local_of, bound, params_of, result_of, is_value, how_many, named}

-- "plus, minus (Num, Num to Num); equal, less (Num, Num to Bool); and, or (Bool, Bool to Bool)"
unfoldable pub takes : Operator → Kind
takes Operator.plus = Kind.num
takes Operator.minus = Kind.num
takes Operator.equal = Kind.num
takes Operator.less = Kind.num
takes Operator.and = Kind.bool
takes Operator.or = Kind.bool

unfoldable pub gives : Operator → Kind
gives Operator.plus = Kind.num
gives Operator.minus = Kind.num
gives Operator.equal = Kind.bool
gives Operator.less = Kind.bool
gives Operator.and = Kind.bool
gives Operator.or = Kind.bool

-- the kind that has to be, or 21
unfoldable pub wants : {A : Type 0} → Kind → Kind → Test A → Test A
wants k found t = test (same_kind k found) 21 t

-- in a body of instance `me`
module _ (D : Design) (me : ℕ) where
  unfoldable mutual
    pub kind : Expr → (pure : Bool) → (live : List Kind) → Test Kind
    kind (Expr.number z) pure live = passed Kind.num
    kind (Expr.truth b) pure live = passed Kind.bool
    kind (Expr.local i) pure live = local_of live i
    kind (Expr.binary o a b) pure live =
        if_passed (kind a pure live) (λ x. if_passed (kind b pure live) (λ y.
        wants (takes o) x (wants (takes o) y (passed (gives o)))))
    kind (Expr.negate a) pure live =
        if_passed (kind a pure live) (λ x. wants Kind.bool x (passed Kind.bool))
    -- "both arms of an if are walked, and then must agree in kind (21)"
    kind (Expr.choose c a b) pure live =
        if_passed (kind c true live) (λ x. wants Kind.bool x (
        if_passed (kind a pure live) (λ y. if_passed (kind b pure live) (λ z. wants y z (passed y)))))
    kind (Expr.guarded at g a) pure live =
        if_passed (kind g true live) (λ x. wants Kind.bool x (kind a pure live))
    kind (Expr.block ss) pure live = last_kind ss pure live
    -- "a call takes its callee's declared kinds"
    kind (Expr.call i m es) pure live =
        if_passed (named D me i m (how_many es) pure) (λ c.
        if_passed (kinds es pure live) (λ ks.
        test (same_kinds (params_of c) ks) 21 (passed (result_of c))))
    kind (Expr.display e) pure live =
        test (not pure) 26 (if_passed (kind e pure live) (λ x. wants Kind.num x (passed Kind.void)))

    pub kinds : Exprs → (pure : Bool) → (live : List Kind) → Test (List Kind)
    kinds Exprs.none pure live = passed []
    kinds (Exprs.more e es) pure live =
        if_passed (kind e pure live) (λ k. if_passed (kinds es pure live) (λ ks. passed (k ∷ ks)))

    pub last_kind : Stmts → (pure : Bool) → (live : List Kind) → Test Kind
    last_kind (Stmts.last_do e) pure live = kind e pure live
    last_kind (Stmts.last_let e) pure live =
        if_passed (kind e pure live) (λ k. if_passed (bound live k) (λ more. passed Kind.void))
    last_kind (Stmts.then_do e ss) pure live = if_passed (kind e pure live) (λ k. last_kind ss pure live)
    last_kind (Stmts.then_let e ss) pure live =
        if_passed (kind e pure live) (λ k. if_passed (bound live k) (λ more. last_kind ss pure more))

-- A method starts with its parameters, a V body is a pure place, and "a body's value must have the declared result kind (21)": it is its own
-- walk that ends with this test, since a call of it takes the declared kind.
unfoldable pub walk_method : Design → Method → Test (Unit {0})
walk_method D x =
    if_passed (kind D x.owner x.body (is_value x.role) x.params) (λ k.
    wants x.result k (passed tt))

unfoldable pub walk_rule : Design → Rule → Test (Unit {0})
walk_rule D r =
    if_passed (kind D r.owner r.guard true []) (λ g. wants Kind.bool g (
    if_passed (kind D r.owner r.body false []) (λ k. wants Kind.void k (
    passed tt))))

unfoldable pub walk_body : Design → Body → Test (Unit {0})
walk_body D (Body.method x) = walk_method D x
walk_body D (Body.rule r) = walk_rule D r
