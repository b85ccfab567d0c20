-- A release that leaves the queue: applied or let go, and then what was held for it is given back.
use Rattle.std.proofs.Common.{arith, ◌≡◌, ◌≢◌, inl, inr, ◌+◌, ◌-◌, ◌<◌, ◌≤◌, ℕ, suc, Bool, true, false, not, ◌&&◌, cond, refl, sym, ap, ◌∙◌, subst, List, length, drop, Option, None, Some, is_some, eqb, eq-eqb, ne_eqb, true≢false, eq-zero-or-pos}
use Rattle.std.proofs.lemmas.Bool.{cases_eq, false_from_ne_true}
use Rattle.std.proofs.Math.Bool.{and-false}
use Rattle.std.specs.Prelude.{slice_get}
use Rattle.std.specs.List.{remove}
use Rattle.std.proofs.lemmas.Option.{slice_get_within}
use Rattle.page_device.specs.Block.{Block, zero_block}
use Rattle.page_device.specs.Meaning.{Meaning}
use Rattle.page_layout.specs.Shape.{count_page, data_page}
use Rattle.page_cache.specs.View.{content_in, holds_in, is_there}
use Rattle.dep_graph.specs.Lists.{is_ready}
use Rattle.order_model.specs.World.{IsData, World}
use Rattle.ref_counts.specs.Counts.{count_in}
use Rattle.release_queue.specs.Queued.{QueueLists, is_marked}
use Rattle.release_queue.specs.declared.Release.{Release}
use Rattle.release_queue.proofs.LookLemmas.{marked_cut}
use Rattle.flush_engine.specs.View.{EngineView}
use Rattle.engine_model.specs.Entries.{cached_count}
use Rattle.engine_model.specs.Invariant.{Moment}
use Rattle.store_core.specs.declared.Core.{Core}
use Rattle.store_core.specs.declared.ledger.Ledger.{Ledger}
use Rattle.store_core.specs.Applied.{AppliesRelease, CanApply, Takes, count_of_release, is_loose, loses_at}
use Rattle.store_core.specs.Frames.{KeepsStands}
use Rattle.store_core.specs.Layout.{lay_of}
use Rattle.store_core.specs.Moments.{AppliesByLaws, IsMomentOf, LeavesByLaws, queued_after, queued_before}
use Rattle.store_core.specs.Orderly.{HasToWait, IsOrderly}
use Rattle.store_core.specs.Owed.{IsProvided, held_for}
use Rattle.store_core.specs.Passing.{PassFrame}
use Rattle.store_core.specs.PassParts.{IsPassing, LeavesQueue, TakesOut}
use Rattle.store_core.specs.Quiet.{GivesBack, once}
use Rattle.store_core.specs.Views.{held_or, page_in, plain_release}
use Rattle.store_core.specs.Whole.{IsPlaced}
use Rattle.store_core.proofs.Clean.{apart_pages}
use Rattle.store_core.proofs.Edited.{held_there}
use Rattle.store_core.proofs.Moved.{count_cached}
use Rattle.store_core.proofs.OrderlySteps.{back_orderly, formed_fewer, orderly_all, orderly_but}
use Rattle.store_core.proofs.Owing.{held_removed, owed_moves}
use Rattle.store_core.proofs.PartSteps.{count_held, frame_out, print_held}
use Rattle.store_core.proofs.Quieted.{back_then}
use Rattle.store_core.proofs.Queued.{placed_at}
use Rattle.store_core.proofs.Spending.{back_spends, spends_more, spends_none, spends_then}
use Rattle.store_core.proofs.TakenOut.{taken_count}

-- a core that is provided is so after any part of a pass
pub frame_provided : (k : ℕ) (a b : Core) → PassFrame k a b → IsProvided a → IsProvided b
frame_provided k a b f p =
    let left = f.left in
    let e = f.spends.engine in
    let n = e.spare_nodes in let m = e.spare_edges in let count = e.count in let room = e.room in let births = f.spends.births in
    let pn = p.spare_nodes in let pm = p.spare_edges in let pc = p.changes in let pr = p.nodes in
    record {
      holds_owed = owed_moves a b f.holds p.holds_owed;
      spare_nodes = omega (arith, left, n, pn);
      spare_edges = omega (arith, left, m, pm);
      changes = omega (arith, left, births, pc);
      nodes = omega (arith, left, count, room, pr);
    }

-- what is there with the same page has the same content
same_content : (p q : Option Block) → is_some p ≡ true → is_some q ≡ true → held_or p zero_block ≡ held_or q zero_block → p ≡ q
same_content None q h k e = cc
same_content (Some c) None h k e = cc
same_content (Some c) (Some x) h k e = ap (λ (b : Block). Some b) e

module _ (a b : Core) (i : ℕ) (r : Release) (at : slice_get a.ledger.queue.releases i ≡ Some r) (provided : IsProvided a) where
  placed : IsPlaced a.shape r
  placed = placed_at a.shape a.ledger.queue.releases i r at a.whole.placed

  is_data : IsData (lay_of a.shape) r.page
  is_data = (placed.first, placed.last)

  count_at_moment : (d : Meaning) (m : Moment) → IsMomentOf d a m → cached_count (lay_of a.shape) m.world r.page ≡ count_of_release a r
  count_at_moment d m is = ap (λ (w : World). cached_count (lay_of a.shape) w r.page) (sym is.world) ∙ count_cached d a r placed (count_held a i r provided at)

  freed_now : (was now : ℕ) → now + 1 ≡ was → eqb was 1 ≡ (not (eqb was 0) && eqb now 0)
  freed_now was now e = elim (eq-zero-or-pos now) [
    | inl z ↦ rw (eq-eqb was 1 (omega (arith, e, z)), ne_eqb was 0 (λ n. omega (arith, e, n)), eq-eqb now 0 z) refl
    | inr pos ↦ rw (ne_eqb was 1 (λ n. omega (arith, e, n, pos)), ne_eqb was 0 (λ n. omega (arith, e, n)), ne_eqb now 0 (λ n. omega (arith, n, pos))) refl
  ]

  module _ (x : AppliesRelease i r a b) where
    -- a page that is held is not the one that is given up
    not_lost : (q : ℕ) → 0 < holds_in a.engine.cache q → loses_at (count_of_release a r - 1) a r q ≡ false
    not_lost q some = elim (cases_eq q (data_page a.shape r.page)) [
      | inr ne ↦ ap (λ (t : Bool). (eqb (count_of_release a r - 1) 0 && is_loose a r) && t) (ne_eqb q (data_page a.shape r.page) ne) ∙ and-false (eqb (count_of_release a r - 1) 0 && is_loose a r)
      | inl is ↦
          let held : 0 < holds_in a.engine.cache (data_page a.shape r.page) = subst (λ (n : ℕ). 0 < holds_in a.engine.cache n) is some in
          ap (λ (t : Bool). (eqb (count_of_release a r - 1) 0 && (is_ready a.engine.graph (data_page a.shape r.page) && t)) && eqb q (data_page a.shape r.page)) (ne_eqb (holds_in a.engine.cache (data_page a.shape r.page)) 0 (λ z. omega (arith, z, held)))
          ∙ off (eqb (count_of_release a r - 1) 0) (is_ready a.engine.graph (data_page a.shape r.page)) (eqb q (data_page a.shape r.page))
    ]
      where
        off : (u v w : Bool) → ((u && (v && false)) && w) ≡ false
        off u v w = grind arith

    applied_content : (q : ℕ) → 0 < holds_in a.engine.cache q → held_for r q ≡ 0 → content_in b.engine.cache q ≡ content_in a.engine.cache q
    applied_content q some none =
        let there = held_there a.engine.cache q some in
        let not_count : q ≢ r.count_at = λ e. let one : cond {A = ℕ} (eqb q r.count_at) 1 0 ≡ 1 = ap (λ (t : Bool). cond t 1 0) (eq-eqb q r.count_at e) in omega (arith, none, one) in
        let not_print : q ≢ r.print_at = λ e. let one : cond {A = ℕ} (eqb q r.print_at) 1 0 ≡ 1 = ap (λ (t : Bool). cond t 1 0) (eq-eqb q r.print_at e) in omega (arith, none, one) in
        same_content (content_in b.engine.cache q) (content_in a.engine.cache q) (x.there q ∙ ap (λ (t : Bool). is_there a.engine.cache q && not t) (not_lost q some) ∙ and_true (is_there a.engine.cache q) there) there
        (x.others q not_count not_print (not_lost q some))
      where
        and_true : (t : Bool) → t ≡ true → (t && true) ≡ true
        and_true t h = rw h refl

    pub leaves_applied : AppliesByLaws i r a b → KeepsStands a b → (IsOrderly a → IsOrderly b) → LeavesQueue i r (eqb (count_of_release a r) 1) a b
    leaves_applied laws stands orderly = record {
      stands = stands;
      shape = x.shape;
      queue = x.queue;
      holds = x.holds;
      held = applied_content;
      spends = record { engine = x.takes; births = x.changes };
      orderly = orderly;
      laws = λ d m is. let step = laws d m is in record {
        n = step.0;
        is = step.1;
        array = step.2;
        leaves = inl step.3;
        frees = ap (λ (n : ℕ). eqb n 1) (sym (count_at_moment d m is))
            ∙ elim (taken_count (lay_of a.shape) m step.0 (plain_release r) (queued_before i a) (queued_after i a) (apart_pages a.shape) is_data (inl step.3)) [
              | inl less ↦ freed_now (cached_count (lay_of a.shape) m.world r.page) (cached_count (lay_of a.shape) step.0.world r.page) less
              | inr none ↦ absurd (let was = step.3.counted in let zero_now = none.0 in omega (arith, was, zero_now))
            ];
      };
    }

  -- it is let go
  pub leaves_let_go : count_of_release a r ≡ 0 → b.shape ≡ a.shape → b.engine ≡ a.engine → b.ledger ≡ record a.ledger { queue = record a.ledger.queue { releases = remove a.ledger.queue.releases i } }
      → LeavesByLaws i r a b → KeepsStands a b → (IsOrderly a → IsOrderly b) → LeavesQueue i r false a b
  leaves_let_go none shape engine ledger laws stands orderly = record {
    stands = stands;
    shape = shape;
    queue = ap (λ (l : Ledger). l.queue) ledger;
    holds = λ q. ap (λ (e : EngineView). holds_in e.cache q) engine;
    held = λ q some other. ap (λ (e : EngineView). content_in e.cache q) engine;
    spends = (let births : b.ledger.births.spare ≡ a.ledger.births.spare = ap (λ (l : Ledger). l.births.spare) ledger in record {
      engine = subst (λ (e : EngineView). Takes 2 2 a.engine e) (sym engine) (spends_more 0 0 0 2 2 1 a a (omega arith) (omega arith) (omega arith) (spends_none a)).engine;
      births = omega (arith, births);
    });
    orderly = orderly;
    laws = λ d m is. let step = laws d m is in record {
      n = step.0;
      is = step.1;
      array = step.2;
      leaves = inr step.3;
      frees = sym (ap (λ (n : ℕ). not (eqb n 0) && eqb (cached_count (lay_of a.shape) step.0.world r.page) 0) (count_at_moment d m is ∙ none));
    };
  }

-- its print page is held still, once its count page was given back
pub still_held : (a b c : Core) (i : ℕ) (r : Release) (freed : Bool) → slice_get a.ledger.queue.releases i ≡ Some r → IsProvided a → LeavesQueue i r freed a b → GivesBack (once r.count_at) b c → 0 < holds_in c.engine.cache r.print_at
still_held a b c i r freed at provided out first =
    let owed = provided.holds_owed r.print_at in
    let less = held_removed a.ledger.queue.releases i r r.print_at at in
    let same = out.holds r.print_at in
    let back = first.holds r.print_at in
    let one : once r.print_at r.print_at ≡ 1 = ap (λ (t : Bool). cond t 1 0) (eq-eqb r.print_at r.print_at refl) in
    omega (arith, owed, less, same, back, one)

-- what was held for it is given back
module _ (a b c n : Core) (i : ℕ) (r : Release) (freed : Bool) (at : slice_get a.ledger.queue.releases i ≡ Some r) (out : LeavesQueue i r freed a b) (first : GivesBack (once r.count_at) b c) (second : GivesBack (once r.print_at) c n) where
  both : GivesBack (λ q. once r.count_at q + once r.print_at q) b n
  both = back_then (once r.count_at) (once r.print_at) b c n first second

  pub takes_out : TakesOut i r freed a n
  takes_out = record {
    stands = λ sound d array s. (both.passes d).stands sound array (out.stands sound d array s);
    shape = both.rest.shape ∙ out.shape;
    queue = both.rest.queue ∙ out.queue;
    holds = λ q. let same = out.holds q in let back = both.holds q in omega (arith, same, back);
    held = λ q some none. let same = out.holds q in let back = both.holds q in both.held q some ∙ out.held q (omega (arith, same, back, some)) none;
    spends = spends_more 2 2 1 2 2 1 a n (omega arith) (omega arith) (omega arith) (spends_then 2 2 1 0 0 0 a b n out.spends (back_spends (λ q. once r.count_at q + once r.print_at q) b n both));
    laws = λ d m is. let step = out.laws d m is in record { n = step.n; is = both.moments d step.n step.is; array = step.array; leaves = step.leaves; frees = step.frees };
  }

  pub out_passing : IsPassing i a → IsPassing i n
  out_passing p =
      let provided = frame_provided 1 a n (frame_out a n i r freed at takes_out) p.provided in
      let mid = out.orderly p.orderly in
      record {
        provided = provided;
        orderly = orderly_all n (back_orderly 0 b n (λ q. once r.count_at q + once r.print_at q) provided both (formed_fewer b n both.rest.shape both.stay mid.formed) (orderly_but 0 b mid));
        behind = λ k lt. ap (λ (q : QueueLists). is_marked q.releases k) takes_out.queue
            ∙ false_from_ne_true _ (λ on. elim (marked_cut a.ledger.queue.releases (drop (suc i) a.ledger.queue.releases) i k (slice_get_within a.ledger.queue.releases i r at) on) [
              | inl was ↦ true≢false (sym was ∙ p.behind k lt)
              | inr past ↦ omega (arith, past, lt)
            ]);
      }

-- what a release asks that is applied
pub same_release : (rs : List Release) (i : ℕ) (r s : Release) → slice_get rs i ≡ Some r → slice_get rs i ≡ Some s → r ≡ s
same_release rs i r s a b = cc

pub counted_at : (core : Core) (i : ℕ) (r : Release) → slice_get core.ledger.queue.releases i ≡ Some r → count_of_release core r ≡ count_in (page_in core (count_page core.shape r.page)) r.page
counted_at core i r at = ap (λ (n : ℕ). count_in (page_in core n) r.page) (placed_at core.shape core.ledger.queue.releases i r at core.whole.placed).count_at

pub can_apply : (core : Core) (i : ℕ) (r : Release) → slice_get core.ledger.queue.releases i ≡ Some r → IsProvided core → (HasToWait core r → ⊥) → (count_of_release core r ≡ 0 → ⊥) → CanApply i r core
can_apply core i r at p free some =
    let one : 1 ≤ length core.ledger.queue.releases = let lt = slice_get_within core.ledger.queue.releases i r at in omega (arith, lt) in
    let n = p.spare_nodes in let e = p.spare_edges in let c = p.changes in let room = p.nodes in
    record {
      queued = at;
      count_held = count_held core i r p at;
      print_held = print_held core i r p at;
      counted = elim (eq-zero-or-pos (count_of_release core r)) [ inl z ↦ absurd (some z) | inr pos ↦ pos ];
      nodes = omega (arith, one, n);
      room = omega (arith, one, room);
      edges = omega (arith, one, e);
      changes = omega (arith, one, c);
      opens = free;
    }
