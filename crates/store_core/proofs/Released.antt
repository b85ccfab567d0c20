-- A release that is applied: what its last step leaves, and all of them.
use Rattle.std.proofs.Common.{arith, ◌≡◌, ◌≢◌, inl, inr, ◌≤◌, ◌+◌, ◌-◌, ℕ, Bool, true, false, cond, if◌then◌else◌, refl, sym, ap, ◌∙◌, subst, List, Option, None, is_some, not, ◌&&◌, ◌||◌, eqb, eqb-true, ne_eqb}
use Rattle.std.proofs.lemmas.Bool.{and_from, and_parts, cases_Bool, not-true, true≢false}
use Rattle.page_device.specs.Block.{Block, zero_block}
use Rattle.page_layout.specs.Shape.{ShapeView, data_page, print_place}
use Rattle.page_layout.specs.Tables.{print_entry_of}
use Rattle.page_cache.specs.View.{content_in, holds_in, is_there}
use Rattle.dep_graph.specs.Lists.{barred_in, dirty_in, hung_in, is_ready, live_in, node_count, waits_in}
use Rattle.dep_graph.specs.Pages.{holds}
use Rattle.dep_graph.proofs.ReadyLemmas.{none_waits, waited_for}
use Rattle.order_model.specs.Pool.{after_zeroed}
use Rattle.order_model.specs.declared.Slot.TheVariants.{Print}
use Rattle.birth_marks.specs.Births.{SameBut}
use Rattle.page_alloc.specs.Pool.{IsTold, told_of}
use Rattle.ref_counts.specs.Counts.{count_in}
use Rattle.release_queue.specs.declared.Release.{Release}
use Rattle.flush_engine.specs.declared.tallies.Tally.{Tally}
use Rattle.flush_engine.specs.Edits.{GivenUp}
use Rattle.flush_engine.specs.Tallies.{left_out}
use Rattle.store_core.specs.declared.Core.{Core}
use Rattle.store_core.specs.declared.ledger.Ledger.{Ledger}
use Rattle.store_core.specs.Applied.{AppliesRelease, CanApply, LosesContent, LowersRelease, count_of_release, is_loose, loses_at, loses_print}
use Rattle.store_core.specs.Frames.{OnlyEngine}
use Rattle.store_core.specs.Views.{held_or, page_in}
use Rattle.store_core.specs.Whole.{IsPlaced}
use Rattle.store_core.proofs.AppliedStands.{count_table, never_both, print_table}
use Rattle.store_core.proofs.Clean.{apart_pages}
use Rattle.store_core.proofs.Moved.{off_before}
use Rattle.store_core.proofs.Grown.{takes_then}

some_kept : (x : Bool) → x ≡ (x && true)
some_kept true = refl
some_kept false = refl

some_left : (b : Bool) (o : Option Block) → is_some (cond b None o) ≡ (is_some o && not b)
some_left true o = sym (never_both (is_some o) false refl)
some_left false o = some_kept (is_some o)

fewer_nodes : (b : Bool) (n m : ℕ) → m ≡ (if b then n - 1 else n) → m ≤ n + 0
fewer_nodes true n m e = omega (arith, e)
fewer_nodes false n m e = omega (arith, e)

pub content_lost : (old new : Core) (r : Release) → (eqb (count_of_release old r) 0 && is_loose old r) ≡ true → OnlyEngine old new → GivenUp (data_page old.shape r.page) old.engine new.engine → LosesContent r old new
content_lost old new r goes only given =
    let at = data_page old.shape r.page in
    let lost : (q : ℕ) → loses_at (count_of_release old r) old r q ≡ eqb q at = λ q. ap (λ (x : Bool). x && eqb q at) goes in
    let alone : waits_in old.engine.graph at ≡ false = not-true _ (and_parts _ _ (and_parts _ _ (and_parts _ _ goes).1).0).1 in
    let g = given.graph in
    let spare_nodes = g.spare_nodes in
    let spare_edges = g.spare_edges in
    record {
      shape = only.shape;
      ledger = only.ledger;
      others = λ q kept. ap (λ (o : Option Block). held_or o zero_block) (given.cache.content q ∙ ap (λ (b : Bool). cond b None (content_in old.engine.cache q)) (sym (lost q) ∙ kept));
      there = λ q. ap is_some (given.cache.content q) ∙ some_left (eqb q at) (content_in old.engine.cache q) ∙ ap (λ (b : Bool). is_there old.engine.cache q && not b) (sym (lost q));
      holds = given.cache.holds;
      dirty = λ a. g.dirty a ∙ ap (λ (b : Bool). dirty_in old.engine.graph a && not b) (sym (lost a));
      grows = record {
        hung = λ a. ap (λ (l : List ℕ). holds l a) g.hung;
        live = λ a b kept h. g.live a b ∙ and_from _ _ h (ap not (sym (lost a) ∙ kept));
        none_from = λ a b gone. g.live a b ∙ never_both (live_in old.engine.graph a b) (not (eqb a at)) (ap not (sym (lost a) ∙ gone));
        none_to = λ a b gone. subst (λ (k : ℕ). (live_in old.engine.graph a k ≡ false) × (barred_in old.engine.graph a k ≡ false)) (sym (eqb-true b at (sym (lost b) ∙ gone))) ((none_waits old.engine.graph at).0 alone a);
        barred = λ a b h. g.barred a b ∙ h;
        into = λ a b h. inl (and_parts _ _ (sym (g.live a b) ∙ h)).0;
        barred_into = λ a b h. inl (sym (g.barred a b) ∙ h);
      };
      takes = record {
        spare_nodes = omega (arith, spare_nodes);
        spare_edges = omega (arith, spare_edges);
        count = fewer_nodes (dirty_in old.engine.graph at && not (hung_in old.engine.graph at)) (node_count old.engine.graph) (node_count new.engine.graph) g.nodes;
        room = given.room;
      };
      tallies = given.tallies ∙ sym (ap (λ (x : Bool). cond x (left_out at old.engine.tallies) old.engine.tallies) goes);
    }

-- all steps
module _ (a b n : Core) (i : ℕ) (r : Release) (can : CanApply i r a) (placed : IsPlaced a.shape r) (low : LowersRelease i r a b) (last : LosesContent r b n) where
  abbrev data_at : ℕ
  data_at = data_page a.shape r.page

  off_count : data_at ≢ r.count_at
  off_count e = (apart_pages a.shape).table_data r.count_at r.page (count_table a.shape r placed) (placed.first, placed.last) (sym e)

  off_print : data_at ≢ r.print_at
  off_print e = (apart_pages a.shape).table_data r.print_at r.page (print_table a.shape r placed) (placed.first, placed.last) (sym e)

  off_map : data_at ≢ r.map_at
  off_map e = (apart_pages a.shape).table_data r.map_at r.page (inl (r.block, placed.block, placed.map_at)) (placed.first, placed.last) (sym e)

  off_both : (x y z u v : Bool) → x ≡ (y || (z || (u && v))) → z ≡ false → v ≡ false → x ≡ y
  off_both x true z u v e f g = e
  off_both x false z true v e f g = e ∙ ap (λ (k : Bool). k || v) f ∙ g
  off_both x false z false v e f g = e ∙ ap (λ (k : Bool). k || false) f

  dirty_same : dirty_in b.engine.graph data_at ≡ dirty_in a.engine.graph data_at
  dirty_same = off_both _ _ _ _ _ (low.dirty data_at) (ne_eqb data_at r.count_at off_count) (ne_eqb data_at r.print_at off_print)

  waits_same : waits_in b.engine.graph data_at ≡ waits_in a.engine.graph data_at
  waits_same = elim (cases_Bool (waits_in a.engine.graph data_at)) [
    | inl is ↦ let edge = (waited_for a.engine.graph data_at).0 is in
        (waited_for b.engine.graph data_at).1 (edge.0, elim edge.1 [ inl live ↦ inl (low.grows.live edge.0 data_at live) | inr barred ↦ inr (low.grows.barred edge.0 data_at barred) ]) ∙ sym is
    | inr off ↦ let none = (none_waits a.engine.graph data_at).0 off in elim (cases_Bool (waits_in b.engine.graph data_at)) [
      | inr still ↦ still ∙ sym off
      | inl is ↦ let edge = (waited_for b.engine.graph data_at).0 is in elim edge.1 [
        | inl live ↦ elim (low.grows.into edge.0 data_at live) [ inl was ↦ absurd (true≢false (sym was ∙ (none edge.0).0)) | inr at ↦ absurd (off_count at) ]
        | inr barred ↦ elim (low.grows.barred_into edge.0 data_at barred) [ inl was ↦ absurd (true≢false (sym was ∙ (none edge.0).1)) | inr at ↦ absurd (off_count at) ]
      ]
    ]
  ]

  loose_same : is_loose b r ≡ is_loose a r
  loose_same = ap (λ (x : ShapeView). is_ready b.engine.graph (data_page x r.page) && eqb (holds_in b.engine.cache (data_page x r.page)) 0) low.shape
      ∙ ap (λ (x : Bool). (x && not (waits_in b.engine.graph data_at)) && eqb (holds_in b.engine.cache data_at) 0) dirty_same
      ∙ ap (λ (x : Bool). (dirty_in a.engine.graph data_at && not x) && eqb (holds_in b.engine.cache data_at) 0) waits_same
      ∙ ap (λ (k : ℕ). is_ready a.engine.graph data_at && eqb k 0) (low.same.holds data_at)

  goes_same : (eqb (count_of_release b r) 0 && is_loose b r) ≡ (eqb (count_of_release a r - 1) 0 && is_loose a r)
  goes_same = ap (λ (x : Bool). eqb (count_of_release b r) 0 && x) loose_same ∙ ap (λ (k : ℕ). eqb k 0 && is_loose a r) low.count

  abbrev lost : ℕ → Bool
  lost = loses_at (count_of_release a r - 1) a r

  lost_same : (q : ℕ) → loses_at (count_of_release b r) b r q ≡ lost q
  lost_same q = ap (λ (x : Bool). x && eqb q (data_page b.shape r.page)) goes_same ∙ ap (λ (x : ShapeView). (eqb (count_of_release a r - 1) 0 && is_loose a r) && eqb q (data_page x r.page)) low.shape

  -- a table page is not lost
  kept_at : (q : ℕ) → data_at ≢ q → loses_at (count_of_release b r) b r q ≡ false
  kept_at q ne = lost_same q ∙ never_both (eqb (count_of_release a r - 1) 0 && is_loose a r) (eqb q data_at) (ne_eqb q data_at (λ e. ne (sym e)))

  count_kept : page_in n r.count_at ≡ page_in b r.count_at
  count_kept = last.others r.count_at (kept_at r.count_at off_count)

  print_kept : page_in n r.print_at ≡ page_in b r.print_at
  print_kept = last.others r.print_at (kept_at r.print_at off_print)

  pub applies_release : AppliesRelease i r a n
  applies_release =
      let changes_b = low.changes in
      let changes_n : n.ledger.births.spare ≡ b.ledger.births.spare = ap (λ (l : Ledger). l.births.spare) last.ledger in
      let two = takes_then 2 2 0 0 a.engine b.engine n.engine low.takes last.takes in
      record {
        shape = last.shape ∙ low.shape;
        queue = ap (λ (l : Ledger). l.queue) last.ledger ∙ low.queue;
        count = ap (λ (p : Block). count_in p r.page) count_kept ∙ low.count;
        none = λ one. ap (λ (p : Block). print_entry_of p (print_place r.page)) print_kept ∙ low.none one;
        kept = λ more. print_kept ∙ low.kept more;
        counts = λ p from ne on. ap (λ (x : Block). count_in x p) count_kept ∙ low.counts p from ne on;
        prints = λ p from ne on. ap (λ (x : Block). print_entry_of x (print_place p)) print_kept ∙ low.prints p from ne on;
        others = λ q ne ne_print kept. last.others q (lost_same q ∙ kept) ∙ low.others q ne ne_print;
        there = λ q. last.there q ∙ ap (λ (x : Bool). x && not (loses_at (count_of_release b r) b r q)) (low.same.there q) ∙ ap (λ (x : Bool). is_there a.engine.cache q && not x) (lost_same q);
        holds = λ q. last.holds q ∙ low.same.holds q;
        dirty = λ q. last.dirty q ∙ ap (λ (x : Bool). x && not (loses_at (count_of_release b r) b r q)) (low.dirty q)
            ∙ ap (λ (x : Bool). (dirty_in a.engine.graph q || (eqb q r.count_at || (loses_print a r && eqb q r.print_at))) && not x) (lost_same q);
        grows = record {
          hung = λ q. last.grows.hung q ∙ low.grows.hung q;
          live = λ x y kept h. last.grows.live x y (lost_same x ∙ kept) (low.grows.live x y h);
          none_from = λ x y gone. last.grows.none_from x y (lost_same x ∙ gone);
          none_to = λ x y gone. let none = last.grows.none_to x y (lost_same y ∙ gone) in (
            off_before (live_in a.engine.graph x y) (live_in b.engine.graph x y) (low.grows.live x y) none.0,
            off_before (barred_in a.engine.graph x y) (barred_in b.engine.graph x y) (low.grows.barred x y) none.1,
          );
          barred = λ x y h. last.grows.barred x y (low.grows.barred x y h);
          into = λ x y h. elim (last.grows.into x y h) [ inl was ↦ low.grows.into x y was | inr at ↦ inr at ];
          barred_into = λ x y h. elim (last.grows.barred_into x y h) [ inl was ↦ low.grows.barred_into x y was | inr at ↦ inr at ];
        };
        map_ordered = record {
          live = λ z is. last.grows.live r.map_at r.count_at (kept_at r.map_at off_map) (low.map_ordered.live z is);
          barred = λ z is. last.grows.barred r.map_at r.count_at (low.map_ordered.barred z is);
        };
        print_ordered = λ is. last.grows.live r.print_at r.count_at (kept_at r.print_at off_print) (low.print_ordered is);
        takes = two;
        changes = omega (arith, changes_b, changes_n);
        same_births = λ stays. ap (λ (l : Ledger). l.births) last.ledger ∙ low.same_births stays;
        births = subst (λ x. SameBut (Print r.page) a.ledger.births x) (sym (ap (λ (l : Ledger). l.births) last.ledger)) low.births;
        zeroed = λ one. subst (λ x. IsTold a.shape (after_zeroed r.page (told_of a.ledger.pool)) x) (sym (ap (λ (l : Ledger). l.pool) last.ledger)) (low.zeroed one);
        more = λ many. ap (λ (l : Ledger). l.pool) last.ledger ∙ low.more many;
        tallies = last.tallies
            ∙ ap (λ (x : Bool). cond x (left_out (data_page b.shape r.page) b.engine.tallies) b.engine.tallies) goes_same
            ∙ ap (λ (x : ShapeView). cond (eqb (count_of_release a r - 1) 0 && is_loose a r) (left_out (data_page x r.page) b.engine.tallies) b.engine.tallies) low.shape
            ∙ ap (λ (t : List Tally). cond (eqb (count_of_release a r - 1) 0 && is_loose a r) (left_out data_at t) t) low.tallies;
      }
