-- `fits` meets its contract. The invariant: the values from j on decide. Assumes nothing.
use Rattle.std.proofs.Common.{rules, arith, length-append}
use Rattle.std.proofs.lemmas.Slice.Zip.{zip_turn, zip_end}
use Rattle.rule.proofs.Kinded as K
use Rattle.rule.proofs.naming.fits.Goals as goal

pub returns-then-not-has_kind : goal.returns-then-not-has_kind
returns-then-not-has_kind c =
    let z = zip_turn c.args.kinds.now c.args.locals.now c.loop-kind.yielded c.into_iter-kind-iterator.result c.loop-kind.kind-iterator c.next.new.self c.next.result (search rules) (search rules) c.loop-kind.yielded_by (c.in-Some.kind, c.in-Some.v) c.in-Some.is c.next.ensures.steps in
    K.other_kind _ c.loop-kind.invariant z.0 c.from.ensures c.has_kind.ensures (z.3 _) (z.2 _) c.if-not-has_kind.true

pub loop-kind-preserved : goal.loop-kind-preserved
loop-kind-preserved c =
    let z = zip_turn c.args.kinds.now c.args.locals.now c.loop-kind.yielded c.into_iter-kind-iterator.result c.loop-kind.kind-iterator c.next.new.self c.next.result (search rules) (search rules) c.loop-kind.yielded_by (c.in-Some.kind, c.in-Some.v) c.in-Some.is c.next.ensures.steps in
    rw (length-append c.loop-kind.yielded _) (K.goes _ c.loop-kind.invariant z.0 c.from.ensures c.has_kind.ensures (z.3 _) (z.2 _) c.if-not-has_kind.false)

pub returns : goal.returns
returns c =
    let z = zip_end c.args.kinds.now c.args.locals.now c.loop-kind.yielded c.into_iter-kind-iterator.result c.loop-kind.kind-iterator c.next.new.self c.next.result (search rules) (search rules) c.loop-kind.yielded_by c.in-None.is c.next.ensures.steps in
    K.all c.loop-kind.invariant (λ n. omega (arith, n, z))
