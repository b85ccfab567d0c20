-- Where no Live edge begins at a count page, a pass leaves no release of it.
use Rattle.std.proofs.Common.{◌≡◌, ◌≢◌, ◌⊎◌, inl, inr, ◌<◌, ℕ, true, false, sym, ap, ◌∙◌, subst, List, [], ◌∷◌, ◌++◌, true≢false}
use Rattle.std.proofs.lemmas.Bool.{and_parts, false_from_ne_true}
use Rattle.order_model.specs.World.{Layout, Release, IsData}
use Rattle.engine_model.specs.Entries.{Apart}
use Rattle.engine_model.specs.Invariant.{Moment, known_at}
use Rattle.engine_model.specs.Pass.{Member}
use Rattle.order_model.specs.Paths.{Closes}
use Rattle.engine_model.specs.Releases.{IsBlocked}
use Rattle.engine_model.specs.SmallRuns.{in_state, with_release_out}
use Rattle.engine_model.specs.SmallSteps.{touched}
use Rattle.engine_model.proofs.Graphs.{begins_none}
use Rattle.engine_model.proofs.Passes.{append_none, append_one, member_push}
use Rattle.engine_model.proofs.Quiet.{some_edge}
use Rattle.engine_model.specs.SmallPass.{Applies, Clears, ClearsLast, ClearsUnborn, GivenUp, GivesUp, InRange, Leaves, NothingToClear, SmallPass, StaysThere, readied}
use Rattle.engine_model.proofs.AppliedFrames.{edge_by}
use Rattle.engine_model.proofs.StaysBlocked.{out_queue}
use Rattle.engine_model.proofs.Ways.{member_in, member_mid}

-- an edge that is new begins at the map page or at the print page
module _ (lay : Layout) (m n : Moment) (r : Release) (before after : List Release) (a b : ℕ) where
  abbrev New : Type 0
  New = (m.world.live a b ≡ true) ⊎ ((a ≡ lay.map_page r.block) ⊎ (a ≡ lay.print_page r.page))

  abbrev ready : Moment
  ready = in_state (readied lay r m.world) m

  ready_from : ready.world.live a b ≡ true → New
  ready_from = edge_by (λ w. w.live a b ≡ true → New) r.stage (lay.map_page r.block) (lay.count_page r.page) (touched (lay.count_page r.page) m.world)
      (λ h. elim (some_edge m.world (lay.map_page r.block) (lay.count_page r.page) a b h) [ inl was ↦ inl was | inr new ↦ inr (inl new.0) ]) (λ h. inl h) (λ h. inl h)

  clears_from : (count : ℕ) (c : Moment) → Clears lay r.page count ready c → c.world.live a b ≡ true → New
  clears_from count c (NothingToClear h e) l = ready_from (sym (ap (λ z. z.world.live a b) e) ∙ l)
  clears_from count c (ClearsUnborn d print z some born sets e) l = ready_from (sym (ap (λ z. z.world.live a b) e) ∙ l)
  clears_from count c (ClearsLast d print z some born sets e) l =
      elim (some_edge (touched (lay.print_page r.page) ready.world) (lay.print_page r.page) (lay.count_page r.page) a b (sym (ap (λ z. z.world.live a b) e) ∙ l)) [
        | inl was ↦ ready_from was
        | inr new ↦ inr (inr new.0)
      ]

  gives_from : (count : ℕ) (out : Moment) → GivesUp lay r.page count out n → n.world.live a b ≡ true → out.world.live a b ≡ true
  gives_from count out (StaysThere e) l = sym (ap (λ z. z.world.live a b) e) ∙ l
  gives_from count out (GivenUp z none e) l = (and_parts _ _ (sym (ap (λ z. z.world.live a b) e) ∙ l)).0

  edge_from : Applies lay m n r before after ⊎ Leaves lay m n r before after → n.world.live a b ≡ true → New
  edge_from (inl x) l = clears_from x.count x.cleared x.clears (gives_from x.count (with_release_out lay r.page x.content (before ++ after) x.pool x.cleared) x.gives_up l)
  edge_from (inr x) l = inl (sym (ap (λ z. z.world.live a b) x.is) ∙ l)

module _ (lay : Layout) (apart : Apart lay) (page : ℕ) where
  abbrev Open : Moment → Type 0
  Open m = (c : ℕ) → m.world.live page c ≡ false

  free_of : (m : Moment) (r : Release) → (r.block < lay.blocks) × IsData lay r.page → Open m → lay.count_page r.page ≡ page → IsBlocked lay (known_at lay m) m.world r → ⊥
  free_of m r range off e (inl z) = begins_none m.world.live (lay.map_page r.block) page (λ q. apart.map_count r.block r.page range.0 range.1 (q ∙ sym e)) off
      (subst (λ x. Closes m.world.live (lay.map_page r.block) x) e z.1)
  free_of m r range off e (inr f) = begins_none m.world.live (lay.print_page r.page) page (λ q. apart.count_print r.page r.page range.1 range.1 (e ∙ sym q)) off
      (subst (λ x. Closes m.world.live (lay.print_page r.page) x) e f.1)

  -- the page is the count page of a data page
  module _ (p : ℕ) (d : IsData lay p) (is : page ≡ lay.count_page p) where
    still_open : (m n : Moment) (r : Release) (before after : List Release) → (r.block < lay.blocks) × IsData lay r.page → Open m
        → Applies lay m n r before after ⊎ Leaves lay m n r before after → Open n
    still_open m n r before after range off x c = false_from_ne_true _ (λ l. elim (edge_from lay m n r before after page c x l) [
      | inl was ↦ true≢false (sym was ∙ off c)
      | inr new ↦ elim new [
        | inl q ↦ apart.map_count r.block p range.0 d (sym q ∙ is)
        | inr q ↦ apart.count_print p r.page d range.1 (sym is ∙ q)
      ]
    ])

    pub freed : (m n : Moment) (kept todo : List Release) → m.world.queue ≡ kept ++ todo → InRange lay (kept ++ todo) → Open m
        → ((r : Release) → Member r kept → lay.count_page r.page ≢ page) → SmallPass lay m kept todo n → (r : Release) → Member r n.world.queue → lay.count_page r.page ≢ page
    freed m n kept [] queue fits off none pass = λ r at. none r (subst (λ rs. Member r rs) (ap (λ z. z.world.queue) pass ∙ queue ∙ append_none kept) at)
    freed m n kept (x ∷ todo) queue fits off none (inl pass) = freed m n (kept ++ x ∷ []) todo (queue ∙ sym (append_one kept todo x))
        (subst (λ rs. InRange lay rs) (sym (append_one kept todo x)) fits) off
        (λ r at. elim (member_push r x kept at) [
          | inl was ↦ none r was
          | inr e ↦ subst (λ z. lay.count_page z.page ≢ page) (sym e) (λ q. free_of m x (fits x (member_mid x kept todo)) off q pass.0)
        ]) pass.1
    freed m n kept (x ∷ todo) queue fits off none (inr pass) =
        let range = fits x (member_mid x kept todo) in
        freed pass.0 n kept todo (out_queue lay apart m pass.0 x kept todo range.1 pass.1) (λ r at. fits r (member_in r x kept todo at))
        (still_open m pass.0 x kept todo range off pass.1) none pass.2
