use Rattle.std.proofs.Common.{◌≡◌, ◌+◌, ◌||◌, ◌∙◌, refl, sym, ap, subst, ℕ, false, cond, eqb}
use Rattle.page_cache.specs.Calls.{Same}
use Rattle.page_cache.specs.Lending.{with_content}
use Rattle.page_cache.specs.View.{CacheView, content_in, holds_in}
use Rattle.page_cache.specs.View.{dirty_in as cached_dirty}
use Rattle.dep_graph.specs.Lists.{entered, is_node, node_count}
use Rattle.flush_engine.specs.Tallies.{counted}
use Rattle.engine_model.specs.SmallSteps.{placed}
use Rattle.store_core.specs.Views.{world_of}
use Rattle.store_core.proofs.Marked.{entered_count, entered_dirty}
use Rattle.store_core.proofs.PlacedStands.{engine_lent, one_hold, place_stands, placed_came, placed_content, placed_held, placed_holds, placed_world, taken_lent, within_placed}
use Rattle.store_core.proofs.Quieted.{quiet_contents, rest_cache}
use Rattle.store_core.proofs.Core.place.Goals as goal

pub take_in-requires-clause-clean : goal.take_in-requires-clause-clean
take_in-requires-clause-clean c =
    let core = c.args.self.now in
    ap (λ (k : CacheView). cached_dirty k c.data_place-at.result) c.cache.ensures.now ∙ core.whole.engine_whole.dirty c.data_place-at.result ∙ ap (λ (n : ℕ). Rattle.dep_graph.specs.Lists.dirty_in core.engine.graph n) c.data_place-at.ensures.page ∙ c.requires.clean

pub take_in-requires-clause-free : goal.take_in-requires-clause-free
take_in-requires-clause-free c =
    ap (λ (k : CacheView). holds_in k c.data_place-at.result) c.cache.ensures.now ∙ ap (λ (n : ℕ). holds_in c.args.self.now.engine.cache n) c.data_place-at.ensures.page ∙ c.requires.free

pub touch-requires-clause-held : goal.touch-requires-clause-held
touch-requires-clause-held c = one_hold c.cache.result.now c.take_in.new.cache c.data_place-at.result c.args.from.now c.in-Ok.ensures.ok

pub touch-requires-clause-spare : goal.touch-requires-clause-spare
touch-requires-clause-spare c off = c.requires.spare (subst (λ (n : ℕ). is_node c.args.self.now.engine.graph n ≡ false) c.data_place-at.ensures.page off)

pub touch-requires-clause-room : goal.touch-requires-clause-room
touch-requires-clause-room c off = c.requires.room (subst (λ (n : ℕ). is_node c.args.self.now.engine.graph n ≡ false) c.data_place-at.ensures.page off)

pub touch-requires-clause-whole : goal.touch-requires-clause-whole
touch-requires-clause-whole c =
    let core = c.args.self.now in
    engine_lent core.engine c.take_in.new.cache (λ q. c.in-Ok.ensures.ok.dirty q ∙ ap (λ (k : CacheView). cached_dirty k q) c.cache.ensures.now) core.whole.engine_whole

pub invariant_of-self : goal.invariant_of-self
invariant_of-self c =
    let core = c.args.self.now in
    let same : Same core.engine.cache c.take_in.new.cache = subst (λ (k : CacheView). Same k c.take_in.new.cache) c.cache.ensures.now c.in-Err.ensures.err in
    record {
      whole = record {
        engine_whole = engine_lent core.engine c.take_in.new.cache same.marks.dirty core.whole.engine_whole;
        within = λ a h. core.whole.within a (ap Rattle.std.specs.Prelude.is_some (sym (same.content a)) ∙ h);
        placed = core.whole.placed;
        pool_shape = core.whole.pool_shape;
        slots = core.whole.slots;
      };
    }

pub invariant_of-self-2 : goal.invariant_of-self-2
invariant_of-self-2 c =
    let core = c.args.self.now in
    let at = c.data_place-at.result in
    let t = taken_lent core.engine.cache c.cache.result.now c.take_in.new.cache at at c.args.from.now c.cache.ensures.now refl c.in-Ok.ensures.ok in
    let e = c.edits_one_page.ensures c.take_in.new.cache at c.touch.result.now (one_hold core.engine.cache c.take_in.new.cache at c.args.from.now t) in
    record {
      whole = record {
        engine_whole = c.touched_is_whole.ensures.whole (record core.engine { cache = c.take_in.new.cache }) at c.touch.result.now (one_hold core.engine.cache c.take_in.new.cache at c.args.from.now t) (λ off. c.requires.room (subst (λ (n : ℕ). is_node core.engine.graph n ≡ false) c.data_place-at.ensures.page off)) (engine_lent core.engine c.take_in.new.cache t.dirty core.whole.engine_whole);
        within = within_placed core c.take_in.new.cache (with_content c.take_in.new.cache at c.touch.result.now) at c.args.from.now c.touch.result.now t c.touch.ensures.value e c.data_place-at.ensures.within;
        placed = core.whole.placed;
        pool_shape = core.whole.pool_shape;
        slots = core.whole.slots;
      };
    }

pub returns-in-Err-clause-rest : goal.returns-in-Err-clause-rest
returns-in-Err-clause-rest c = record { shape = refl; ledger = refl; room = refl }

pub returns-in-Err-clause-err : goal.returns-in-Err-clause-err
returns-in-Err-clause-err c = record { shape = refl; cache = subst (λ (k : CacheView). Same k c.take_in.new.cache) c.cache.ensures.now c.in-Err.ensures.err; engine = refl; ledger = refl }

pub returns-in-Err-clause-quiet : goal.returns-in-Err-clause-quiet
returns-in-Err-clause-quiet c d = quiet_contents d c.args.self.now _ (rest_cache c.args.self.now _ refl refl refl) (subst (λ (k : CacheView). Same k c.take_in.new.cache) c.cache.ensures.now c.in-Err.ensures.err)

pub returns-clause-rest : goal.returns-clause-rest
returns-clause-rest c = record { shape = refl; ledger = refl; room = refl }

pub returns-clause-ok : goal.returns-clause-ok
returns-clause-ok c d over =
    let core = c.args.self.now in
    let at = c.data_place-at.result in
    let t = taken_lent core.engine.cache c.cache.result.now c.take_in.new.cache at at c.args.from.now c.cache.ensures.now refl c.in-Ok.ensures.ok in
    let e = c.edits_one_page.ensures c.take_in.new.cache at c.touch.result.now (one_hold core.engine.cache c.take_in.new.cache at c.args.from.now t) in
    placed_world core c.take_in.new.cache (with_content c.take_in.new.cache at c.touch.result.now) at c.args.from.now c.touch.result.now t c.touch.ensures.value e d over
    ∙ ap (λ (x : ℕ). placed x c.args.from.now (world_of d core)) c.data_place-at.ensures.page

pub returns-clause-stands : goal.returns-clause-stands
returns-clause-stands c = place_stands c.args.self.now _ c.args.p c.args.from.now (returns-clause-rest c) c.requires.first c.requires.last (returns-clause-ok c)

pub returns-clause-holds : goal.returns-clause-holds
returns-clause-holds c q =
    let core = c.args.self.now in
    let at = c.data_place-at.result in
    let t = taken_lent core.engine.cache c.cache.result.now c.take_in.new.cache at at c.args.from.now c.cache.ensures.now refl c.in-Ok.ensures.ok in
    let e = c.edits_one_page.ensures c.take_in.new.cache at c.touch.result.now (one_hold core.engine.cache c.take_in.new.cache at c.args.from.now t) in
    placed_holds core c.take_in.new.cache (with_content c.take_in.new.cache at c.touch.result.now) at c.args.from.now c.touch.result.now t c.touch.ensures.value e q
    ∙ ap (λ (x : ℕ). holds_in core.engine.cache q + cond (eqb q x) 1 0) c.data_place-at.ensures.page

pub returns-clause-held : goal.returns-clause-held
returns-clause-held c =
    let core = c.args.self.now in
    let at = c.data_place-at.result in
    let t = taken_lent core.engine.cache c.cache.result.now c.take_in.new.cache at at c.args.from.now c.cache.ensures.now refl c.in-Ok.ensures.ok in
    let e = c.edits_one_page.ensures c.take_in.new.cache at c.touch.result.now (one_hold core.engine.cache c.take_in.new.cache at c.args.from.now t) in
    placed_held core c.take_in.new.cache (with_content c.take_in.new.cache at c.touch.result.now) at c.args.from.now c.touch.result.now t c.touch.ensures.value e
    (ap (holds_in core.engine.cache) c.data_place-at.ensures.page ∙ c.requires.free)

pub returns-clause-content : goal.returns-clause-content
returns-clause-content c =
    let core = c.args.self.now in
    let at = c.data_place-at.result in
    let t = taken_lent core.engine.cache c.cache.result.now c.take_in.new.cache at at c.args.from.now c.cache.ensures.now refl c.in-Ok.ensures.ok in
    let e = c.edits_one_page.ensures c.take_in.new.cache at c.touch.result.now (one_hold core.engine.cache c.take_in.new.cache at c.args.from.now t) in
    ap (content_in (with_content c.take_in.new.cache at c.touch.result.now)) (sym c.data_place-at.ensures.page) ∙ placed_content core c.take_in.new.cache (with_content c.take_in.new.cache at c.touch.result.now) at c.args.from.now c.touch.result.now t c.touch.ensures.value e

pub returns-clause-graph : goal.returns-clause-graph
returns-clause-graph c = ap (λ (x : ℕ). entered x c.args.self.now.engine.graph) c.data_place-at.ensures.page

pub returns-clause-dirty : goal.returns-clause-dirty
returns-clause-dirty c a = entered_dirty c.data_place-at.result c.args.self.now.engine.graph a ∙ ap (λ (x : ℕ). Rattle.dep_graph.specs.Lists.dirty_in c.args.self.now.engine.graph a || eqb a x) c.data_place-at.ensures.page

pub returns-clause-nodes : goal.returns-clause-nodes
returns-clause-nodes c =
    let core = c.args.self.now in
    let at = c.data_place-at.result in
    let t = taken_lent core.engine.cache c.cache.result.now c.take_in.new.cache at at c.args.from.now c.cache.ensures.now refl c.in-Ok.ensures.ok in
    let entered_whole = c.touched_is_whole.ensures.whole (record core.engine { cache = c.take_in.new.cache }) at c.touch.result.now (one_hold core.engine.cache c.take_in.new.cache at c.args.from.now t) (λ off. c.requires.room (subst (λ (n : ℕ). is_node core.engine.graph n ≡ false) c.data_place-at.ensures.page off)) (engine_lent core.engine c.take_in.new.cache t.dirty core.whole.engine_whole) in
    entered_count at core.engine.graph core.whole.engine_whole.graph entered_whole.graph

pub returns-clause-tallies : goal.returns-clause-tallies
returns-clause-tallies c = ap (λ (x : ℕ). counted x c.args.self.now.engine.tallies) c.data_place-at.ensures.page

pub returns-in-Err-clause-came : goal.returns-in-Err-clause-came
returns-in-Err-clause-came c q ne there = (subst (λ (k : CacheView). Same k c.take_in.new.cache) c.cache.ensures.now c.in-Err.ensures.err).content q

pub returns-clause-came : goal.returns-clause-came
returns-clause-came c q ne there =
    let core = c.args.self.now in
    let at = c.data_place-at.result in
    let t = taken_lent core.engine.cache c.cache.result.now c.take_in.new.cache at at c.args.from.now c.cache.ensures.now refl c.in-Ok.ensures.ok in
    let e = c.edits_one_page.ensures c.take_in.new.cache at c.touch.result.now (one_hold core.engine.cache c.take_in.new.cache at c.args.from.now t) in
    placed_came core c.take_in.new.cache (with_content c.take_in.new.cache at c.touch.result.now) at c.args.from.now c.touch.result.now t c.touch.ensures.value e q (λ is. ne (is ∙ c.data_place-at.ensures.page)) there
