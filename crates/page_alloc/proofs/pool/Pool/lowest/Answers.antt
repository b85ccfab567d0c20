use Rattle.std.proofs.Common.{◌+◌, ◌*◌, ◌≤◌, ap, arith}
use Rattle.page_alloc.specs.Pool.{PoolView}
use Rattle.page_alloc.proofs.LowestLemmas.{lowest_within, lowest_is_least, no_page_free}
use Rattle.page_alloc.proofs.pool.Pool.lowest.Goals as goal

fits : (c : goal.In-Some-lowest_bit) → 64 * c.in-Some.group + c.in-Some-lowest_bit.bit + 1 ≤ c.self.inside.shape.pages
fits c =
    let pool = c.self.inside in
    lowest_within pool.shape pool.groups.items pool.free pool.written c.self.invariant c.in-Some.group c.in-Some.ensures.least c.free.result c.index.result.now c.index.ensures c.free.ensures.word c.free.ensures.bits
    c.in-Some-lowest_bit.bit c.in-Some-lowest_bit.ensures.lowest

pub overflow_cast-result : goal.overflow_cast-result
overflow_cast-result c = let f = fits c in omega (arith, f, c.self.invariant.few)

pub overflow_mul-result : goal.overflow_mul-result
overflow_mul-result c = let f = fits c in omega (arith, f, c.self.invariant.few)

pub overflow_add-result : goal.overflow_add-result
overflow_add-result c = let f = fits c in omega (arith, f, c.self.invariant.few)

pub overflow_add-result-in-Some-lowest_bit : goal.overflow_add-result-in-Some-lowest_bit
overflow_add-result-in-Some-lowest_bit c = let f = fits c in omega (arith, f, c.self.invariant.few)

pub returns-in-Some-lowest_bit-clause-lowest : goal.returns-in-Some-lowest_bit-clause-lowest
returns-in-Some-lowest_bit-clause-lowest c lay laid =
    let pool = c.self.inside in
    lowest_is_least pool.shape pool.groups.items pool.free pool.written c.self.invariant c.in-Some.group c.in-Some.ensures.least c.free.result c.index.result.now c.index.ensures c.free.ensures.word c.free.ensures.bits
    c.in-Some-lowest_bit.bit c.in-Some-lowest_bit.ensures.lowest c.args.self.now c.self.view_is lay laid

pub returns-in-Some-lowest_bit-clause-last : goal.returns-in-Some-lowest_bit-clause-last
returns-in-Some-lowest_bit-clause-last c = omega (arith, fits c, ap (λ (v : PoolView). v.shape.pages) c.self.view_is)

pub returns-in-None-clause-none : goal.returns-in-None-clause-none
returns-in-None-clause-none c =
    let pool = c.self.inside in
    no_page_free pool.shape pool.groups.items pool.free pool.written c.args.self.now c.self.invariant c.self.view_is c.in-None.ensures.none
