-- Frames: nothing, one after another, and that of each small step.
use Rattle.std.proofs.Common.{◌≡◌, ◌≢◌, inl, inr, ℕ, Bool, true, false, ◌&&◌, cond, refl, sym, ap, ◌∙◌, subst, List, [], ◌∷◌, ◌++◌, true≢false, eqb, eq-eqb, Option, Some, None}
use Rattle.std.proofs.lemmas.Bool.{and_from, cases_Bool, false_from_ne_true, or_left, or_parts, or_right}
use Rattle.order_model.specs.World.{Agree, IsData, Layout, Release, World}
use Rattle.order_model.specs.Contents.{IsAmong}
use Rattle.order_model.specs.Pool.{Told, after_take, after_zeroed}
use Rattle.engine_model.specs.Births.{has_print, told}
use Rattle.engine_model.specs.Edits.{CacheOnly, Ordered}
use Rattle.engine_model.specs.Entries.{Apart, cached_print}
use Rattle.engine_model.specs.Frames.{EntriesKept, Frame, Grows, IsEdgeOf, MarksGrow, Off, Reach, barred_reach, both, content_reach, count_reach, edge_reach, live_reach, mark_reach, name_reach, no_reach, print_reach, reach_of}
use Rattle.engine_model.specs.Invariant.{Moment, ToldTake, ToldZero, known_at}
use Rattle.engine_model.specs.Pool.{PoolExact}
use Rattle.engine_model.specs.SmallRuns.{ClearPrint, GiveUp, Lower, Order, OrderByBarrier, Place, Raise, Recount, SetName, SetPrint, SmallStep, Touch, in_state, with_count, with_name, with_print, with_release_out}
use Rattle.engine_model.specs.SmallSteps.{CanName, SetsCount, SetsPrint, lowered, ordered, ordered_after, ordered_by_barrier, placed, pushed, put, touched}
use Rattle.engine_model.proofs.PoolExact.{edited_exact}
use Rattle.engine_model.proofs.Puts.{puts_content, puts_count, puts_name, puts_print}
use Rattle.engine_model.proofs.Quiet.{put_here, put_other, some_barred, some_edge, touched_here, touched_other}
use Rattle.engine_model.proofs.TellsBirths.{births_then, name_told, print_told}
use Rattle.engine_model.proofs.Whole.{nothing_told}

-- lists
pub off_parts : (a : ℕ) (xs ys : List ℕ) → Off a (xs ++ ys) → Off a xs × Off a ys
off_parts a [] ys o = (tt, o)
off_parts a (x ∷ xs) ys o = let more = off_parts a xs ys o.1 in ((o.0, more.0), more.1)

edge_left : (a b : ℕ) (xs ys : List (ℕ × ℕ)) → IsEdgeOf a b xs → IsEdgeOf a b (xs ++ ys)
edge_left a b [] ys e = absurd e
edge_left a b (x ∷ xs) ys (inl e) = inl e
edge_left a b (x ∷ xs) ys (inr e) = inr (edge_left a b xs ys e)

edge_right : (a b : ℕ) (xs ys : List (ℕ × ℕ)) → IsEdgeOf a b ys → IsEdgeOf a b (xs ++ ys)
edge_right a b [] ys e = e
edge_right a b (x ∷ xs) ys e = inr (edge_right a b xs ys e)

-- marks and edges
pub marks_same : (x : Reach) (w : World) → MarksGrow x w w
marks_same x w = record {
  newest = λ a. refl;
  older = λ a. refl;
  hung = λ a. refl;
  dirty_kept = λ a h. h;
  dirty_new = λ a off. refl;
  live_kept = λ a b h. h;
  live_new = λ a b h. inl h;
  barred_kept = λ a b h. h;
  barred_new = λ a b h. inl h;
  clean = λ a off. refl;
}

marks_then : (x y : Reach) (w u v : World) → MarksGrow x w u → MarksGrow y u v → MarksGrow (both x y) w v
marks_then x y w u v f g = record {
  newest = λ a. g.newest a ∙ f.newest a;
  older = λ a. g.older a ∙ f.older a;
  hung = λ a. g.hung a ∙ f.hung a;
  dirty_kept = λ a h. g.dirty_kept a (f.dirty_kept a h);
  dirty_new = λ a off. let o = off_parts a x.marks y.marks off in g.dirty_new a o.1 ∙ f.dirty_new a o.0;
  live_kept = λ a b h. g.live_kept a b (f.live_kept a b h);
  live_new = λ a b h. elim (g.live_new a b h) [
    | inr new ↦ inr (edge_right a b x.live y.live new.0, new.1, new.2)
    | inl was ↦ elim (f.live_new a b was) [ inl old ↦ inl old | inr new ↦ inr (edge_left a b x.live y.live new.0, g.dirty_kept a new.1, g.dirty_kept b new.2) ]
  ];
  barred_kept = λ a b h. g.barred_kept a b (f.barred_kept a b h);
  barred_new = λ a b h. elim (g.barred_new a b h) [
    | inr new ↦ inr (edge_right a b x.barred y.barred new.0, new.1, new.2)
    | inl was ↦ elim (f.barred_new a b was) [ inl old ↦ inl old | inr new ↦ inr (edge_left a b x.barred y.barred new.0, g.hung a ∙ new.1, g.dirty_kept b new.2) ]
  ];
  clean = λ a off. g.clean a off ∙ f.clean a (false_from_ne_true _ (λ h. true≢false (sym (g.dirty_kept a h) ∙ off)));
}

entries_then : (lay : Layout) (x y : Reach) (old mid new : ℕ → List ℕ) → EntriesKept lay x old mid → EntriesKept lay y mid new → EntriesKept lay (both x y) old new
entries_then lay x y old mid new f g = record {
  names = λ l lt off. let o = off_parts l x.names y.names off in g.names l lt o.1 ∙ f.names l lt o.0;
  counts = λ q d off. let o = off_parts q x.counts y.counts off in g.counts q d o.1 ∙ f.counts q d o.0;
  prints = λ q d off. let o = off_parts q x.prints y.prints off in g.prints q d o.1 ∙ f.prints q d o.0;
  contents = λ q d off. let o = off_parts q x.contents y.contents off in g.contents q d o.1 ∙ f.contents q d o.0;
}

pub entries_same : (lay : Layout) (x : Reach) (old : ℕ → List ℕ) → EntriesKept lay x old old
entries_same lay x old = record { names = λ l lt off. refl; counts = λ q d off. refl; prints = λ q d off. refl; contents = λ q d off. refl }

pub frame_same : (lay : Layout) (x : Reach) (m : Moment) → Frame lay x m m
frame_same lay x m = record {
  marks = marks_same x m.world;
  entries = entries_same lay x m.world.cached;
  births = nothing_told lay m m refl (λ l lt. refl) (λ q d. refl);
  queue = λ h. refl;
  pool = λ h q. refl;
  array = λ h l. refl;
  tried = λ q. refl;
  newest = λ q. refl;
}

pub frame_then : (lay : Layout) (x y : Reach) (m j n : Moment) → Frame lay x m j → Frame lay y j n → Frame lay (both x y) m n
frame_then lay x y m j n f g = record {
  marks = marks_then x y m.world j.world n.world f.marks g.marks;
  entries = entries_then lay x y m.world.cached j.world.cached n.world.cached f.entries g.entries;
  births = births_then lay m j n g.marks.dirty_kept f.births g.births;
  queue = λ h. let off = or_parts x.queue y.queue h in g.queue off.1 ∙ f.queue off.0;
  pool = λ h q. let off = or_parts x.pool y.pool h in g.pool off.1 q ∙ f.pool off.0 q;
  array = λ h l. let off = or_parts x.array y.array h in g.array off.1 l ∙ f.array off.0 l;
  tried = λ q. g.tried q ∙ f.tried q;
  newest = λ q. g.newest q ∙ f.newest q;
}

-- what edits leave is what an edit of the cache leaves
pub frame_rest : (lay : Layout) (x : Reach) (w v : World) → MarksGrow x w v → CacheOnly lay w v
frame_rest lay x w v f = record {
  newest = f.newest;
  possible = λ page c h. elim h [ inl e ↦ inl (e ∙ f.newest page) | inr has ↦ inr (subst (λ ys. IsAmong c ys) (f.older page) has) ];
  cached_clean = λ page t off. f.clean page off;
  hung = f.hung;
  dirty_kept = f.dirty_kept;
  live_kept = f.live_kept;
  barred_kept = f.barred_kept;
  live_ends = λ a b h. elim (f.live_new a b h) [ inl was ↦ inl was | inr new ↦ inr (new.1, new.2) ];
  barred_ends = λ a b h. elim (f.barred_new a b h) [ inl was ↦ inl was | inr new ↦ inr (new.1, new.2) ];
}

-- a page becomes dirty, and maybe gets another content
touched_marks : (x : Reach) (w : World) (page : ℕ) → ((a : ℕ) → Off a x.marks → a ≢ page) → MarksGrow x w (touched page w)
touched_marks x w page reach = record {
  newest = λ a. refl;
  older = λ a. refl;
  hung = λ a. refl;
  dirty_kept = λ a h. or_left _ _ h;
  dirty_new = λ a off. touched_other w page a (reach a off);
  live_kept = λ a b h. h;
  live_new = λ a b h. inl h;
  barred_kept = λ a b h. h;
  barred_new = λ a b h. inl h;
  clean = λ a off. refl;
}

lowered_marks : (x : Reach) (w : World) (page : ℕ) (c : List ℕ) (queue : List Release) → w.dirty page ≡ true → MarksGrow x w (lowered page c queue w)
lowered_marks x w page c queue dirty = record {
  newest = λ a. refl;
  older = λ a. refl;
  hung = λ a. refl;
  dirty_kept = λ a h. h;
  dirty_new = λ a off. refl;
  live_kept = λ a b h. h;
  live_new = λ a b h. inl h;
  barred_kept = λ a b h. h;
  barred_new = λ a b h. inl h;
  clean = λ a off. put_other w page c a (λ e. true≢false (sym (ap w.dirty e ∙ dirty) ∙ off));
}

-- the edges
module _ (w : World) (before after : ℕ) (dirty : w.dirty after ≡ true) where
  ordered_marks : (x : Reach) → ((a b : ℕ) → (a ≡ before) × (b ≡ after) → IsEdgeOf a b x.live) → w.dirty before ≡ true → MarksGrow x w (ordered before after w)
  ordered_marks x has first = record {
    newest = λ a. refl;
    older = λ a. refl;
    hung = λ a. refl;
    dirty_kept = λ a h. h;
    dirty_new = λ a off. refl;
    live_kept = λ a b h. or_left _ _ h;
    live_new = λ a b h. elim (some_edge w before after a b h) [ inl was ↦ inl was | inr new ↦ inr (has a b new, ap w.dirty new.0 ∙ first, ap w.dirty new.1 ∙ dirty) ];
    barred_kept = λ a b h. h;
    barred_new = λ a b h. inl h;
    clean = λ a off. refl;
  }

  barred_marks : (x : Reach) → ((a b : ℕ) → (a ≡ before) × (b ≡ after) → IsEdgeOf a b x.barred) → w.hung before ≡ true → MarksGrow x w (ordered_by_barrier before after w)
  barred_marks x has first = record {
    newest = λ a. refl;
    older = λ a. refl;
    hung = λ a. refl;
    dirty_kept = λ a h. h;
    dirty_new = λ a off. refl;
    live_kept = λ a b h. h;
    live_new = λ a b h. inl h;
    barred_kept = λ a b h. or_left _ _ h;
    barred_new = λ a b h. elim (some_barred w before after a b h) [ inl was ↦ inl was | inr new ↦ inr (has a b new, ap w.hung new.0 ∙ first, ap w.dirty new.1 ∙ dirty) ];
    clean = λ a off. refl;
  }

  pub after_marks : MarksGrow (edge_reach before after) w (ordered_after before after w)
  after_marks = elim (cases_Bool (w.dirty before)) [
    | inl is ↦ subst Grown (sym (ap (λ b. cond b (ordered before after w) (cond (w.hung before) (ordered_by_barrier before after w) w)) is)) (ordered_marks (edge_reach before after) (λ a b new. inl new) is)
    | inr off ↦ subst Grown (sym (ap (λ b. cond b (ordered before after w) (cond (w.hung before) (ordered_by_barrier before after w) w)) off)) (elim (cases_Bool (w.hung before)) [
      | inl is ↦ subst Grown (sym (ap (λ b. cond b (ordered_by_barrier before after w) w) is)) (barred_marks (edge_reach before after) (λ a b new. inl new) is)
      | inr none ↦ subst Grown (sym (ap (λ b. cond b (ordered_by_barrier before after w) w) none)) (marks_same (edge_reach before after) w)
    ])
  ]
    where
      Grown : World → Type 0
      Grown v = MarksGrow (edge_reach before after) w v

pub edge_here : (a b : ℕ) → (eqb a a && eqb b b) ≡ true
edge_here a b = and_from _ _ (eq-eqb a a refl) (eq-eqb b b refl)

-- and then the one page is ordered before the other
pub after_ordered : (w : World) (before after : ℕ) → Ordered (ordered_after before after w) before after
after_ordered w before after = elim (cases_Bool (w.dirty before)) [
  | inl is ↦ subst Goes (sym (ap (λ b. cond b (ordered before after w) (cond (w.hung before) (ordered_by_barrier before after w) w)) is)) (record {
    dirty = λ h. or_right _ _ (edge_here before after);
    hung = λ h. inl (or_right _ _ (edge_here before after));
  })
  | inr off ↦ subst Goes (sym (ap (λ b. cond b (ordered before after w) (cond (w.hung before) (ordered_by_barrier before after w) w)) off)) (elim (cases_Bool (w.hung before)) [
    | inl is ↦ subst Goes (sym (ap (λ b. cond b (ordered_by_barrier before after w) w) is)) (record {
      dirty = λ h. absurd (true≢false (sym h ∙ off));
      hung = λ h. inr (or_right _ _ (edge_here before after));
    })
    | inr none ↦ subst Goes (sym (ap (λ b. cond b (ordered_by_barrier before after w) w) none)) (record {
      dirty = λ h. absurd (true≢false (sym h ∙ off));
      hung = λ h. absurd (true≢false (sym h ∙ none));
    })
  ])
]
  where
    Goes : World → Type 0
    Goes v = Ordered v before after

-- what no edge changes
pub by_marks : (w : World) (before after : ℕ) (A : Type 0) (f : World → A) → f (ordered before after w) ≡ f w → f (ordered_by_barrier before after w) ≡ f w → f (ordered_after before after w) ≡ f w
by_marks w before after A f x y = elim (cases_Bool (w.dirty before)) [
  | inl is ↦ ap (λ b. f (cond b (ordered before after w) (cond (w.hung before) (ordered_by_barrier before after w) w))) is ∙ x
  | inr off ↦ ap (λ b. f (cond b (ordered before after w) (cond (w.hung before) (ordered_by_barrier before after w) w))) off ∙ elim (cases_Bool (w.hung before)) [
    | inl is ↦ ap (λ b. f (cond b (ordered_by_barrier before after w) w)) is ∙ y
    | inr none ↦ ap (λ b. f (cond b (ordered_by_barrier before after w) w)) none
  ]
]

-- a state in which no name, no print and no call is another
pub frame_state : (lay : Layout) (x : Reach) (m : Moment) (v : World) → MarksGrow x m.world v → EntriesKept lay x m.world.cached v.cached → x.names ≡ [] → x.prints ≡ [] → v.queue ≡ m.world.queue
    → Frame lay x m (in_state v m)
frame_state lay x m v marks entries names prints queue = record {
  marks = marks;
  entries = entries;
  births = nothing_told lay m (in_state v m) refl (λ l lt. entries.names l lt (subst (λ ls. Off l ls) (sym names) tt)) (λ q d. entries.prints q d (subst (λ qs. Off q qs) (sym prints) tt));
  queue = λ h. queue;
  pool = λ h q. refl;
  array = λ h l. refl;
  tried = λ q. refl;
  newest = λ q. refl;
}

-- what the pool is told of a count that changes is nothing of the device
pub record ToldNothing (old new : ℕ → Told) : Type 0 where
  pub tried : (q : ℕ) → (new q).tried ≡ (old q).tried
  pub newest : (q : ℕ) → (new q).newest ≡ (old q).newest

pub told_same : (pool : ℕ → Told) → ToldNothing pool pool
told_same pool = record { tried = λ q. refl; newest = λ q. refl }

pub take_told : (p : ℕ) (pool : ℕ → Told) → ToldNothing pool (after_take p pool)
take_told p pool = record { tried = λ q. refl; newest = λ q. refl }

agree_told : (old new now : ℕ → Told) → ToldNothing old new → Agree now new → ToldNothing old now
agree_told old new now t e = record { tried = λ q. ap (λ x. x.tried) (e q) ∙ t.tried q; newest = λ q. ap (λ x. x.newest) (e q) ∙ t.newest q }

raised_told : (lay : Layout) (p : ℕ) (m n : Moment) → ToldTake lay p m n → ToldNothing m.pool n.pool
raised_told lay p m n (inl t) = agree_told m.pool (after_take p m.pool) n.pool (take_told p m.pool) t.1
raised_told lay p m n (inr t) = agree_told m.pool m.pool n.pool (told_same m.pool) t.1

pub lowered_told : (lay : Layout) (p : ℕ) (m n : Moment) → ToldZero lay p m n → ToldNothing m.pool n.pool
lowered_told lay p m n (inl t) = agree_told m.pool (after_zeroed p m.pool) n.pool (record { tried = λ q. refl; newest = λ q. refl }) t.1
lowered_told lay p m n (inr t) = agree_told m.pool m.pool n.pool (told_same m.pool) t.1

-- so what the pool knows stays exact
pub frame_exact : (lay : Layout) (x : Reach) (m n : Moment) → Frame lay x m n → (p : ℕ) → PoolExact lay m.world (m.pool p) p → PoolExact lay n.world (n.pool p) p
frame_exact lay x m n f p old = edited_exact lay m.world n.world (m.pool p) (n.pool p) p old (f.marks.newest (lay.count_page p)) (λ page c h. elim h [
  | inl e ↦ inl (e ∙ sym (f.marks.newest page))
  | inr has ↦ inr (subst (λ ys. IsAmong c ys) (sym (f.marks.older page)) has)
]) (f.tried p) (f.newest p)

-- a count page gets a content, and maybe releases leave the queue
pub counted_frame : (lay : Layout) (apart : Apart lay) (m : Moment) (p count : ℕ) (c : List ℕ) (queue : List Release) (pool : ℕ → Told) (moves : Bool) → (moves ≡ false → queue ≡ m.world.queue)
    → IsData lay p → SetsCount lay (m.world.cached (lay.count_page p)) c p count → m.world.dirty (lay.count_page p) ≡ true
    → ToldNothing m.pool pool → Frame lay (count_reach p moves) m (with_release_out lay p c queue pool m)
counted_frame lay apart m p count c queue pool moves same is sets dirty told = record {
  marks = lowered_marks (count_reach p moves) m.world (lay.count_page p) c queue dirty;
  entries = record { names = kept.names; counts = kept.counts; prints = kept.prints; contents = kept.contents };
  births = nothing_told lay m (with_release_out lay p c queue pool m) refl (λ l lt. kept.names l lt tt) (λ q d. kept.prints q d tt);
  queue = same;
  pool = λ h. absurd (true≢false h);
  array = λ h l. refl;
  tried = told.tried;
  newest = told.newest;
}
  where
    kept : EntriesKept lay (record no_reach { counts = p ∷ [] }) m.world.cached (put (lay.count_page p) c m.world).cached
    kept = puts_count lay apart m.world c p count is sets

-- a print page gets a content
pub printed_frame : (lay : Layout) (apart : Apart lay) (m : Moment) (p from to : ℕ) (c : List ℕ) (print : Option (List ℕ)) → IsData lay p → SetsPrint lay (m.world.cached (lay.print_page p)) c p print
    → m.world.dirty (lay.print_page p) ≡ true → has_print (cached_print lay m.world p) ≡ from → has_print print ≡ to
    → Frame lay (print_reach p) m (with_print lay p c from to m)
printed_frame lay apart m p from to c print is sets dirty was now = record {
  marks = lowered_marks (print_reach p) m.world (lay.print_page p) c m.world.queue dirty;
  entries = kept;
  births = print_told lay m (with_print lay p c from to m) p from to was (ap has_print (ap (λ y. lay.print_in y p) (put_here m.world (lay.print_page p) c) ∙ sets.here) ∙ now) refl dirty
      (λ l lt. kept.names l lt tt) (λ q d ne. kept.prints q d (ne, tt));
  queue = λ h. refl;
  pool = λ h q. refl;
  array = λ h l. refl;
  tried = λ q. refl;
  newest = λ q. refl;
}
  where
    kept : EntriesKept lay (print_reach p) m.world.cached (put (lay.print_page p) c m.world).cached
    kept = puts_print lay apart m.world c p print is sets

-- a map page gets a content, and a release is pushed
pub named_frame : (lay : Layout) (apart : Apart lay) (m : Moment) (l o p : ℕ) (c : List ℕ) (array : ℕ → List (List ℕ)) → CanName lay m.world l o p c
    → Frame lay (name_reach l) m (with_name lay l o p c array m)
named_frame lay apart m l o p c array can = record {
  marks = lowered_marks (name_reach l) m.world (lay.map_page l) c (pushed (known_at lay m) l o m.world.queue) can.dirty;
  entries = record { names = kept.names; counts = kept.counts; prints = kept.prints; contents = kept.contents };
  births = name_told lay m (with_name lay l o p c array m) l o p can.was (ap (λ y. lay.name_in y l) (put_here m.world (lay.map_page l) c) ∙ can.sets.here) refl can.dirty
      (λ j lt ne. kept.names j lt (ne, tt)) (λ q d. kept.prints q d tt);
  queue = λ h. absurd (true≢false h);
  pool = λ h q. refl;
  array = λ h. absurd (true≢false h);
  tried = λ q. refl;
  newest = λ q. refl;
}
  where
    kept : EntriesKept lay (record no_reach { names = l ∷ [] }) m.world.cached (put (lay.map_page l) c m.world).cached
    kept = puts_name lay apart m.world c l p can.in_range can.sets

module _ (lay : Layout) (apart : Apart lay) (m : Moment) where
  pub touched_frame : (page : ℕ) → Frame lay (mark_reach page) m (in_state (touched page m.world) m)
  touched_frame page = frame_state lay (mark_reach page) m (touched page m.world)
      (touched_marks (mark_reach page) m.world page (λ a off. off.0)) (entries_same lay (mark_reach page) m.world.cached) refl refl refl

  pub placed_frame : (p : ℕ) (c : List ℕ) → IsData lay p → Frame lay (content_reach lay p) m (in_state (placed (lay.data_page p) c m.world) m)
  placed_frame p c d = frame_state lay (content_reach lay p) m (placed (lay.data_page p) c m.world) (record {
    newest = λ a. refl;
    older = λ a. refl;
    hung = λ a. refl;
    dirty_kept = λ a h. or_left _ _ h;
    dirty_new = λ a off. touched_other m.world (lay.data_page p) a off.0;
    live_kept = λ a b h. h;
    live_new = λ a b h. inl h;
    barred_kept = λ a b h. h;
    barred_new = λ a b h. inl h;
    clean = λ a off. put_other (touched (lay.data_page p) m.world) (lay.data_page p) c a
        (λ h. true≢false (sym (ap (touched (lay.data_page p) m.world).dirty h ∙ touched_here m.world (lay.data_page p)) ∙ off));
  }) (record { names = kept.names; counts = kept.counts; prints = kept.prints; contents = kept.contents }) refl refl refl
    where
      kept : EntriesKept lay (record no_reach { contents = p ∷ [] }) m.world.cached (placed (lay.data_page p) c m.world).cached
      kept = puts_content lay apart (touched (lay.data_page p) m.world) c p d

  edge_frame : (x : Reach) (v : World) → MarksGrow x m.world v → v.cached ≡ m.world.cached → x.names ≡ [] → x.prints ≡ [] → v.queue ≡ m.world.queue → Frame lay x m (in_state v m)
  edge_frame x v marks cached names prints queue = frame_state lay x m v marks (subst (λ c. EntriesKept lay x m.world.cached c) (sym cached) (entries_same lay x m.world.cached)) names prints queue

  pub ordered_frame : (before after : ℕ) → m.world.dirty before ≡ true → m.world.dirty after ≡ true → Frame lay (live_reach before after) m (in_state (ordered before after m.world) m)
  ordered_frame before after first dirty = edge_frame (live_reach before after) (ordered before after m.world)
      (ordered_marks m.world before after dirty (live_reach before after) (λ a b new. inl new) first) refl refl refl refl

  pub step_frame : (top : ℕ) (n : Moment) (s : SmallStep lay top m n) → Grows s → Frame lay (reach_of s) m n
  step_frame top n (Touch page t e) g = subst (λ z. Frame lay (mark_reach page) m z) (sym e) (touched_frame page)
  step_frame top n (Place p c d f e) g = subst (λ z. Frame lay (content_reach lay p) m z) (sym e) (placed_frame p c d)
  step_frame top n (Order before after i y z o e) g = subst (λ w. Frame lay (live_reach before after) m w) (sym e)
      (ordered_frame before after y z)
  step_frame top n (OrderByBarrier before after i y z e) g = subst (λ w. Frame lay (barred_reach before after) m w) (sym e)
      (edge_frame (barred_reach before after) (ordered_by_barrier before after m.world) (barred_marks m.world before after z (barred_reach before after) (λ a b new. inl new) y) refl refl refl refl)
  step_frame top n (Raise p c pool can e t) g = subst (λ w. Frame lay (count_reach p false) m w) (sym e)
      (counted_frame lay apart m p _ c m.world.queue pool false (λ h. refl) can.is_data can.sets can.dirty
      (raised_told lay p m (with_count lay p c pool m) (subst (λ w. ToldTake lay p m w) e t)))
  step_frame top n (SetPrint p c print can e) g = subst (λ w. Frame lay (print_reach p) m w) (sym e)
      (printed_frame lay apart m p 0 1 c (Some print) can.is_data can.sets can.dirty (ap has_print can.had_none) refl)
  step_frame top n (SetName l o p c array can gain e) g = subst (λ w. Frame lay (name_reach l) m w) (sym e) (named_frame lay apart m l o p c array can)
  step_frame top n (ClearPrint p c print can e) g = subst (λ w. Frame lay (print_reach p) m w) (sym e)
      (printed_frame lay apart m p 1 0 c None can.is_data can.sets can.dirty (ap has_print can.had) refl)
  step_frame top n (Lower r before after c count pool can e t) g = subst (λ w. Frame lay (count_reach r.page true) m w) (sym e)
      (counted_frame lay apart m r.page count c (before ++ after) pool true (λ h. absurd (true≢false h)) g can.sets can.dirty
      (lowered_told lay r.page m (with_release_out lay r.page c (before ++ after) pool m) (subst (λ w. ToldZero lay r.page m w) e t)))
  step_frame top n (Recount p c count pool can e t) g = subst (λ w. Frame lay (count_reach p false) m w) (sym e)
      (counted_frame lay apart m p count c m.world.queue pool false (λ h. refl) can.is_data can.sets can.dirty
      (lowered_told lay p m (with_count lay p c pool m) (subst (λ w. ToldZero lay p m w) e t)))
  step_frame top n (GiveUp p d z e) g = absurd g

  -- one page before another, as the marks ask
  pub frame_after : (before after : ℕ) → m.world.dirty after ≡ true → Frame lay (edge_reach before after) m (in_state (ordered_after before after m.world) m)
  frame_after before after dirty = edge_frame (edge_reach before after) (ordered_after before after m.world) (after_marks m.world before after dirty)
      (by_marks m.world before after (ℕ → List ℕ) (λ w. w.cached) refl refl) refl refl (by_marks m.world before after (List Release) (λ w. w.queue) refl refl)
