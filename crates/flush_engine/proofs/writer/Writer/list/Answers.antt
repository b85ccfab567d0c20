use Rattle.std.proofs.Common.{◌+◌, ◌++◌, ◌∙◌, ◌∷◌, [], ap, subst, sym, arith}
use Rattle.merge_policy.specs.declared.policy.Offer.{Offer}
use Rattle.flush_engine.proofs.GraphAfter.{ready_dirty}
use Rattle.flush_engine.proofs.OfferLemmas.{OffersBelow, offers_fit, offers_more, offers_none}
use Rattle.flush_engine.proofs.writer.Writer.list.Goals as goal

pub loop-page-init : goal.loop-page-init
loop-page-init c = record { offers = subst (OffersBelow c.args.self.now 0) (sym c.clear.ensures.items) (offers_none c.args.self.now); room = c.clear.ensures.capacity; few = omega arith }

pub push-requires : goal.push-requires
push-requires c = record { room = let lt = offers_fit c.args.self.now c.loop-page.from c.in-Some.page c.loop-page.offers.items c.requires.whole c.loop-page.invariant.offers c.in-Some.ensures in let e = c.loop-page.invariant.room in let r = c.requires.room in omega (arith, lt, e, r) }

pub loop-page-preserved : goal.loop-page-preserved
loop-page-preserved c = record {
  offers = subst (OffersBelow c.args.self.now (c.in-Some.page + 1)) (ap (λ (o : Offer). c.loop-page.offers.items ++ o ∷ []) (sym c.offer.ensures) ∙ sym c.push.ensures.items) (offers_more c.args.self.now c.loop-page.from c.in-Some.page c.loop-page.offers.items c.loop-page.invariant.offers c.in-Some.ensures);
  room = c.push.ensures.room ∙ c.loop-page.invariant.room;
  few = omega (arith, c.requires.within c.in-Some.page (ready_dirty c.args.self.now.graph c.in-Some.page c.in-Some.ensures.0));
}
