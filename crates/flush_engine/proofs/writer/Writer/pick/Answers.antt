use Rattle.std.proofs.Common.{◌≡◌, ◌<◌, List, length, ap, subst, sym, true}
use Rattle.merge_policy.specs.declared.policy.Offer.{Offer}
use Rattle.dep_graph.specs.Lists.{is_ready}
use Rattle.flush_engine.specs.Idle.{AreOffers}
use Rattle.flush_engine.proofs.OfferLemmas.{offered_ready, offers_left}
use Rattle.flush_engine.proofs.writer.Writer.pick.Goals as goal

pub write-requires-clause-ready : goal.write-requires-clause-ready
write-requires-clause-ready g c =
    let lt = subst (λ (l : List Offer). c.in-Some.place < length l) c.deref.ensures.value c.in-Some.ensures.chosen.in_range in
    subst (λ (o : Offer). is_ready c.args.self.now.graph o.page ≡ true) (sym c.index-offer.ensures) (offered_ready c.args.self.now c.args.offers.now.items c.requires.offers c.in-Some.place _ lt)

pub returns-clause-offers : goal.returns-clause-offers
returns-clause-offers g c =
    let lt = subst (λ (l : List Offer). c.in-Some.place < length l) c.deref.ensures.value c.in-Some.ensures.chosen.in_range in
    subst (AreOffers c.write.new.self) (sym c.remove.ensures.items) (offers_left g.W.Watch.told c.index-offer.result.now.page _ _ c.in-Ok.ensures.step c.args.offers.now.items c.in-Some.place _ c.requires.offers lt (ap (λ (o : Offer). o.page) (sym c.index-offer.ensures)))
