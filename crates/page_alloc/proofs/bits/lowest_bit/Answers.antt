use Rattle.page_alloc.proofs.BitLemmas.{lowest_is}
use Rattle.page_alloc.proofs.bits.lowest_bit.Goals as goal

pub returns-clause-lowest : goal.returns-clause-lowest
returns-clause-lowest c = lowest_is c.args.word c.ranges.word.fits c.if-word-eq0.false
