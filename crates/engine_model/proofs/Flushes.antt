-- What holds where no page is a node, as after a flush, and that a second flush leaves nothing.
use Rattle.std.proofs.Common.{◌≡◌, inl, inr, ◌<◌, ℕ, Bool, refl, sym, ap, ◌∙◌, subst, List, [], true≢false}
use Rattle.std.proofs.lemmas.Bool.{false_from_ne_true}
use Rattle.order_model.specs.World.{Layout}
use Rattle.engine_model.specs.Entries.{Apart, cached_name}
use Rattle.engine_model.specs.Contents.{Last}
use Rattle.engine_model.specs.Births.{NothingRecorded}
use Rattle.engine_model.specs.Images.{CrashImage, Format, block_in}
use Rattle.engine_model.specs.Invariant.{EngineInvariant, Moment}
use Rattle.engine_model.specs.Pass.{Pass}
use Rattle.engine_model.specs.Schedule.{DeviceRun, NoNode, last_of}
use Rattle.engine_model.proofs.Lasts.{last_once}
use Rattle.engine_model.proofs.Later.{block_named, block_zero}
use Rattle.engine_model.proofs.Passes.{drained_twice}

module _ (lay : Layout) (top : ℕ) (sound : Bool) (m : Moment) (k : EngineInvariant lay top sound m) (clean : NoNode m) where
  pub none_recorded : NothingRecorded lay m.calls
  none_recorded slot is = false_from_ne_true _ (λ h. elim ((k.births slot is).node h) [
    | inl dirty ↦ true≢false (sym dirty ∙ (clean _).0)
    | inr hung ↦ true≢false (sym hung.0 ∙ (clean _).1)
  ])

  -- each block of each image is the last of its list
  pub reads_last : Format lay top → (image : ℕ → List ℕ) → CrashImage m.world image → (l : ℕ) → l < lay.blocks → (c : List ℕ) → Last (m.array l) c → block_in lay image l ≡ c
  reads_last format image is l lt c last =
      let reads = k.contents.reads l lt in
      let table : image (lay.map_page l) ≡ m.world.cached (lay.map_page l) =
      k.counts.marks_and_edges.settled _ _ (inl (l, lt, refl)) (clean _).0 (clean _).1 (is (lay.map_page l)) in
      let name : lay.name_in (image (lay.map_page l)) l ≡ cached_name lay m.world l = ap (λ x. lay.name_in x l) table in
      elim (format.names l (m.world.cached (lay.map_page l)) lt (k.contents.well_formed.cached (lay.map_page l) (inl (l, lt, refl)))) [
        | inl none ↦ block_zero lay top sound format image l (name ∙ none) ∙ last_once (m.array l) _ _ (reads.cached_unmapped none) last
        | inr d ↦
            let p : ℕ = cached_name lay m.world l in
            let stands = (k.contents.named_data_fixed (cached_name lay m.world l) d).named l lt (record { content = image (lay.map_page l); possible = is (lay.map_page l); names = name }) in
            block_named lay top sound format image l (cached_name lay m.world l) d name ∙ stands.one _ (is _) ∙ (k.contents.fresh_data_first (cached_name lay m.world l) d).clean (clean _).0
            ∙ last_once (m.array l) _ _ (reads.cached_mapped (cached_name lay m.world l) d refl) last
      ]

-- A flush leaves no node and makes its pass, and a second flush does the same: then no page is a node, and nothing is queued.
pub second_flush_leaves : (lay : Layout) (top : ℕ) (sound : Bool) → Apart lay → (m n o : Moment) (ns : List Moment) → EngineInvariant lay top sound m → NoNode m
    → Pass lay m [] m.world.queue n → DeviceRun lay top n ns → NoNode (last_of n ns) → Pass lay (last_of n ns) [] (last_of n ns).world.queue o → NoNode o × (o.world.queue ≡ [])
second_flush_leaves lay top sound apart m n o ns k clean first run done second =
    let none = drained_twice lay top sound apart m n ns k clean first run in
    let same : o ≡ last_of n ns = subst (λ queue. Pass lay (last_of n ns) [] queue o) none second in
    ((λ a. (ap (λ x. x.world.dirty a) same ∙ (done a).0, ap (λ x. x.world.hung a) same ∙ (done a).1)), ap (λ x. x.world.queue) same ∙ none)
