use Rattle.std.proofs.Common.{◌≡◌, ◌≤◌, ◌-◌, vec_capacity}
use Rattle.flush_engine.proofs.OfferLemmas.{OffersBelow}
use Rattle.flush_engine.proofs.writer.Writer.list.Given as goal

abbrev pub invariant-loop-page : goal.invariant-loop-page
invariant-loop-page l = record {
  offers : OffersBelow l.self l.from l.offers.items;
  room : vec_capacity l.offers ≡ vec_capacity l.fn.offers;
  few : l.from ≤ l.pages;
}

abbrev pub decreases-loop-page : goal.decreases-loop-page
decreases-loop-page l = l.pages - l.from
