-- `fields::number_within` meets its contract. The loop reads from the highest byte down; `Read` is its invariant. Assumes nothing.
use native.Mathlib.Omega.{arith}
use Rattle.fields.proofs.Bytes.{read_none, read_more, read_room}
use Rattle.fields.proofs.number_within.Goals as goal

pub loop-k-init : goal.loop-k-init
loop-k-init c = read_none _ _ _

pub overflow_mul-v : goal.overflow_mul-v
overflow_mul-v c =
    let loop = c.loop-k in
    let args = c.args in
    omega (arith, read_room args.s.now args.i args.n loop.k loop.v c.requires.0 c.loop-k-test.true loop.invariant)

pub overflow_add-v : goal.overflow_add-v
overflow_add-v c =
    let loop = c.loop-k in
    let args = c.args in
    omega (arith, read_room args.s.now args.i args.n loop.k loop.v c.requires.0 c.loop-k-test.true loop.invariant)

pub loop-k-preserved : goal.loop-k-preserved
loop-k-preserved c =
    read_more _ _ _ _ _ _ c.loop-k-test.true c.loop-k.invariant c.byte_at.ensures.0 c.byte_at.ensures.1
