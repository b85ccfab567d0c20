-- A block takes the name of a page whose count has one to spare.
use Rattle.std.proofs.Common.{◌≡◌, ◌≢◌, ◌⊎◌, inl, inr, ◌<◌, ℕ, Bool, true, cond, arith, refl, sym, ap, ◌∙◌, subst, List, [], ◌∷◌, ◌++◌, eq-eqb, ne_eqb}
use Rattle.std.proofs.lemmas.Bool.{cases_eq, or_left, or_right}
use Rattle.order_model.specs.World.{IsData, Layout, Release, World, queued}
use Rattle.engine_model.specs.Commands.{Released}
use Rattle.engine_model.specs.Entries.{Apart, EdgeKind, cached_count, cached_name, cached_names}
use Rattle.engine_model.specs.Frames.{Frame, both, edge_reach, live_reach, mark_reach, name_reach}
use Rattle.engine_model.specs.Invariant.{EngineInvariant, Moment, known_at}
use Rattle.engine_model.specs.Known.{Known}
use Rattle.engine_model.specs.SmallCommands.{CanNamePage, NamesPage, page_name_reach, ready_to_name, with_page_named}
use Rattle.engine_model.specs.SmallRuns.{in_state}
use Rattle.engine_model.specs.SmallSteps.{CanName, GainsOrHolds, SetsName, held_by, ordered, ordered_by_barrier, pushed, touched}
use Rattle.engine_model.proofs.Frames.{after_marks, after_ordered, by_marks, edge_here, frame_after, frame_then, named_frame, ordered_frame, touched_frame}
use Rattle.engine_model.proofs.NewEdges.{data_open}
use Rattle.engine_model.proofs.Quiet.{either_keeps, map_table, ordered_keeps, put_here, touched_here, touched_keeps}
use Rattle.engine_model.proofs.SetNames.{named_keeps}

-- a queue with the release that is pushed, if any
pushed_is : (known : Known) (l o : ℕ) (queue : List Release) → ((o ≡ 0) × (pushed known l o queue ≡ queue))
    ⊎ ((0 < o) × (pushed known l o queue ≡ queue ++ (record { block = l; page = o; stage = cond (known.unborn_name l o) 3 0 }) ∷ []))
pushed_is known l o queue = elim (cases_eq o 0) [
  | inl z ↦ inl (z, rw (eq-eqb o 0 z))
  | inr pos ↦ inr (let q : 0 < o = omega arith in q, rw (ne_eqb o 0 pos))
]

-- a name that goes leaves its release
pub name_released : (lay : Layout) (m n : Moment) (l o : ℕ) → l < lay.blocks → cached_name lay m.world l ≡ o → (o ≡ 0) ⊎ IsData lay o
    → ((j : ℕ) → j < lay.blocks → j ≢ l → cached_name lay n.world j ≡ cached_name lay m.world j) → n.world.dirty (lay.map_page l) ≡ true
    → n.world.queue ≡ pushed (known_at lay m) l o m.world.queue → Released lay (known_at lay m) m.world n.world l o
name_released lay m n l o lt was page others dirty queue = record {
  in_range = lt;
  was = was;
  none_or_data = page;
  other_names = others;
  map_dirty = dirty;
  pushed = elim (pushed_is (known_at lay m) l o m.world.queue) [ inl z ↦ inl (z.0, queue ∙ z.1) | inr q ↦ inr (q.0, queue ∙ q.1) ];
}

module _ (lay : Layout) (apart : Apart lay) (m : Moment) (l o p : ℕ) (c : List ℕ) (x : CanNamePage lay m.world l o p c) where
  abbrev M : ℕ
  M = lay.map_page l

  abbrev K : ℕ
  K = lay.count_page p

  abbrev D : ℕ
  D = lay.data_page p

  abbrev marked : Moment
  marked = in_state (touched M m.world) m

  abbrev first : Moment
  first = in_state (ordered K M marked.world) m

  abbrev ready : Moment
  ready = ready_to_name lay l p m

  same : ready.world.cached ≡ m.world.cached
  same = by_marks first.world D M (ℕ → List ℕ) (λ w. w.cached) refl refl

  number : (f : World → ℕ) → f (ordered D M first.world) ≡ f m.world → f (ordered_by_barrier D M first.world) ≡ f first.world → f first.world ≡ f m.world → f ready.world ≡ f m.world
  number f a b e = by_marks first.world D M ℕ f (a ∙ sym e) b ∙ e

  can : CanName lay ready.world l o p c
  can = record {
    in_range = x.in_range;
    was = number (λ w. cached_name lay w l) refl refl refl ∙ x.was;
    none_or_data = x.none_or_data;
    other = x.other;
    sets = subst (λ y. SetsName lay (y M) c l p) (sym same) x.sets;
    dirty = (after_marks first.world D M (touched_here m.world M)).dirty_kept M (touched_here m.world M);
    backed = inr (record {
      spare =
          let names = number (λ w. cached_names lay w p) refl refl refl in
          let queue = number (λ w. queued w.queue p) refl refl refl in
          let count = number (λ w. cached_count lay w p) refl refl refl in
          let was = x.spare in
          omega arith;
      count_first = (after_marks first.world D M (touched_here m.world M)).live_kept K M (or_right _ _ (edge_here K M));
      data_first = after_ordered first.world D M;
    });
  }

  module _ (array : ℕ → List (List ℕ)) where
    abbrev done : Moment
    done = with_page_named lay l o p c array m

    pub page_name_frame : Frame lay (page_name_reach lay l p) m done
    page_name_frame = frame_then lay (mark_reach M) (both (live_reach K M) (both (edge_reach D M) (name_reach l))) m marked done (touched_frame lay apart m M)
        (frame_then lay (live_reach K M) (both (edge_reach D M) (name_reach l)) marked first done (ordered_frame lay apart marked K M (or_left _ _ x.dirty) (touched_here m.world M))
        (frame_then lay (edge_reach D M) (name_reach l) first ready done (frame_after lay apart first D M (touched_here m.world M)) (named_frame lay apart ready l o p c array can)))

    pub names_page : NamesPage lay m done l o p
    names_page = record {
      name = ap (λ y. lay.name_in y l) (put_here ready.world M c) ∙ x.sets.here;
      queue = ap (pushed (known_at lay m) l o) (by_marks first.world D M (List Release) (λ w. w.queue) refl refl);
      dirty = can.dirty;
      count_first = (after_marks first.world D M (touched_here m.world M)).live_kept K M (or_right _ _ (edge_here K M));
      data_first = let o = after_ordered first.world D M in record { dirty = o.dirty; hung = o.hung };
    }

  -- the invariant
  module _ (top : ℕ) (sound : Bool) (k : EngineInvariant lay top sound m) where
    count_kind : EdgeKind lay K M
    count_kind = inl (inr (p, x.is_data, refl), inl (l, x.in_range, refl))

    data_kind : EdgeKind lay D M
    data_kind = inl (inl (p, x.is_data, refl), inl (l, x.in_range, refl))

    first_keeps : EngineInvariant lay top sound first
    first_keeps = ordered_keeps lay top sound apart marked (touched_keeps lay top sound apart m k M (map_table lay l x.in_range)) K M count_kind (touched_here m.world M) (or_left _ _ x.dirty) x.opens

    ready_keeps : EngineInvariant lay top sound ready
    ready_keeps = either_keeps lay top sound apart first first_keeps D M data_kind (touched_here m.world M)
        (λ h. data_open lay first.world p M apart first_keeps.counts.edge_kinds x.is_data (map_table lay l x.in_range))

    pub named_page_keeps : (array : ℕ → List (List ℕ)) → GainsOrHolds m.array array l (m.world.cached D) → EngineInvariant lay top sound (with_page_named lay l o p c array m)
    named_page_keeps array gain = named_keeps lay top sound apart ready ready_keeps l o p c can array (subst (λ y. GainsOrHolds m.array array l y) (sym held) gain)
      where
        held : held_by lay ready.world p ≡ m.world.cached D
        held = ap (λ b. cond b lay.zero_block (ready.world.cached D)) (ne_eqb p 0 (λ z. omega (arith, z, x.is_data))) ∙ ap (λ y. y D) same
