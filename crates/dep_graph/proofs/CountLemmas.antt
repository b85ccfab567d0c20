-- How many pages are dirty, and how many are nodes, after each call of a graph; and the exact lists of a graph that a page entered.
use Rattle.std.proofs.Common.{◌≡◌, ◌⊎◌, inl, inr, ◌+◌, ◌-◌, ◌<◌, ℕ, Bool, true, false, not, ◌&&◌, ◌||◌, cond, filter, length, List, [], ◌∷◌, nat_lt, eqb, eqb-true, eq-eqb, refl, sym, ◌∙◌, ap, arith}
use Rattle.std.specs.Prelude.{if◌then◌else◌}
use Rattle.std.specs.List.{list_any}
use Rattle.std.proofs.lemmas.Bool.{and_from, cases_Bool, cases_eq, false_from_ne_true, not_from_false, or_cases, or_left, or_right, true≢false}
use Rattle.std.proofs.lemmas.Bool.Decides.{nat_tests}
use Rattle.dep_graph.specs.Kept.{hung_alone}
use Rattle.order_model.specs.Edges.{Edge, is_live}
use Rattle.dep_graph.specs.Calls.{Dropped}
use Rattle.dep_graph.specs.Lists.{GraphLists, IsGraph, dirty_in, entered, hung_in, is_node, live_in, node_count, waiter_count}
use Rattle.dep_graph.specs.Pages.{holds, IsRising, placed}
use Rattle.dep_graph.specs.Rising.{Leads, Rises}
use Rattle.dep_graph.proofs.GraphLemmas.{alone_is, alone_rises}
use Rattle.dep_graph.proofs.PageLemmas.{as_long, flip, leads_holds, longer_by_one, shorter_by_one}

first : (p : ℕ) (ps : List ℕ) → holds (p ∷ ps) p ≡ true
first p ps = or_left _ _ (eq-eqb p p refl)

-- two rising lists with the same pages are one
pub same_pages : (ps qs : List ℕ) → IsRising ps → IsRising qs → ((a : ℕ) → holds ps a ≡ holds qs a) → ps ≡ qs
unfolding Rises
same_pages [] [] up on same = refl
same_pages [] (q ∷ qs) up on same = absurd (true≢false (sym (first q qs) ∙ sym (same q)))
same_pages (p ∷ ps) [] up on same = absurd (true≢false (sym (first p ps) ∙ same p))
same_pages (p ∷ ps) (q ∷ qs) up on same =
    let head : p ≡ q = heads (or_cases (eqb p q) (holds ps q) (same q ∙ first q qs)) (or_cases (eqb q p) (holds qs p) (sym (same p) ∙ first p ps)) in
    let tail : ps ≡ qs = same_pages ps qs up.1 on.1 (λ a. tails head a (cases_Bool (eqb p a))) in
    ap (λ n. n ∷ ps) head ∙ ap (λ (l : List ℕ). q ∷ l) tail
  where
    heads : (eqb p q ≡ true) ⊎ (holds ps q ≡ true) → (eqb q p ≡ true) ⊎ (holds qs p ≡ true) → p ≡ q
    heads (inl e) k = eqb-true p q e
    heads (inr h) (inl e) = sym (eqb-true q p e)
    heads (inr h) (inr k) = absurd (let a = leads_holds p ps q up.0 h in let b = leads_holds q qs p on.0 k in omega (arith, a, b))

    none : (x : ℕ) (xs : List ℕ) (a : ℕ) → Leads (λ a b. a < b) x xs → x ≡ a → holds xs a ≡ false
    none x xs a led e = false_from_ne_true _ (λ h. let lt = leads_holds x xs a led h in omega (arith, lt, e))

    tails : p ≡ q → (a : ℕ) → (eqb p a ≡ true) ⊎ (eqb p a ≡ false) → holds ps a ≡ holds qs a
    tails head a (inl is) = none p ps a up.0 (eqb-true p a is) ∙ sym (none q qs a on.0 (sym head ∙ eqb-true p a is))
    tails head a (inr off) =
        let left : holds (p ∷ ps) a ≡ holds ps a = rw off refl in
        let off' : eqb q a ≡ false = ap (λ n. eqb n a) (sym head) ∙ off in
        let right : holds (q ∷ qs) a ≡ holds qs a = rw off' refl in
        sym left ∙ same a ∙ right

leads_placed : (x page : ℕ) (ps : List ℕ) → x < page → Leads (λ a b. a < b) x ps → Leads (λ a b. a < b) x (placed page ps)
unfolding Leads placed
leads_placed x page [] lt led = (lt, tt)
leads_placed x page (p ∷ ps) lt led = by (leads_placed x page ps lt led.1) (nat_lt p page) (eqb p page)
  where
    by : Leads (λ a b. a < b) x (placed page ps) → (b c : Bool) → Leads (λ a b. a < b) x (cond b (p ∷ placed page ps) (cond c (p ∷ ps) (page ∷ p ∷ ps)))
    by more true c = (led.0, more)
    by more false true = led
    by more false false = (lt, led)

leads_less : (x y : ℕ) (ps : List ℕ) → x < y → Leads (λ a b. a < b) y ps → Leads (λ a b. a < b) x ps
unfolding Leads
leads_less x y [] lt led = tt
leads_less x y (p ∷ ps) lt led = (let a = led.0 in omega (arith, lt, a), leads_less x y ps lt led.1)

pub rising_placed : (page : ℕ) (ps : List ℕ) → IsRising ps → IsRising (placed page ps)
unfolding Rises Leads placed
rising_placed page [] up = (tt, tt)
rising_placed page (p ∷ ps) up = by (rising_placed page ps up.1) (nat_lt p page) (eqb p page) refl refl
  where
    by : IsRising (placed page ps) → (b c : Bool) → nat_lt p page ≡ b → eqb p page ≡ c → IsRising (cond b (p ∷ placed page ps) (cond c (p ∷ ps) (page ∷ p ∷ ps)))
    by more true c e f = (leads_placed p page ps (grind (arith, nat_tests)) up.0, more)
    by more false true e f = up
    by more false false e f = let lt : page < p = below e f in ((lt, leads_less page p ps lt up.0), up)
      where
        below : nat_lt p page ≡ false → eqb p page ≡ false → page < p
        below e f = elim (cases_eq p page) [
          | inl is ↦ absurd (true≢false (sym (eq-eqb p page is) ∙ f))
          | inr ne ↦ elim (cases_Bool (nat_lt page p)) [
            | inl lt ↦ grind (arith, nat_tests)
            | inr off ↦ absurd (ne (grind (arith, nat_tests)))
          ]
        ]

pub holds_placed : (page : ℕ) (ps : List ℕ) (a : ℕ) → holds (placed page ps) a ≡ (holds ps a || eqb a page)
unfolding placed
holds_placed page [] a = ap (λ b. b || false) (flip page a) ∙ turn (eqb a page)
  where
    turn : (x : Bool) → (x || false) ≡ (false || x)
    turn x = grind arith
holds_placed page (p ∷ ps) a = by (holds_placed page ps a) (nat_lt p page) (eqb p page) refl
  where
    later : (e x h y : Bool) → x ≡ (h || y) → (e || x) ≡ ((e || h) || y)
    later e x h y q = grind arith

    there : (e h y : Bool) → (y ≡ true → e ≡ true) → (e || h) ≡ ((e || h) || y)
    there true h y f = refl
    there false true y f = refl
    there false false true f = absurd (true≢false (sym (f refl)))
    there false false false f = refl

    front : (x y : Bool) → (x || y) ≡ (y || x)
    front x y = grind arith

    by : holds (placed page ps) a ≡ (holds ps a || eqb a page) → (b c : Bool) → eqb p page ≡ c → holds (cond b (p ∷ placed page ps) (cond c (p ∷ ps) (page ∷ p ∷ ps))) a ≡ ((eqb p a || holds ps a) || eqb a page)
    by more true c e = later (eqb p a) _ (holds ps a) (eqb a page) more
    by more false true e = there (eqb p a) (holds ps a) (eqb a page) (λ y. eq-eqb p a (eqb-true p page e ∙ sym (eqb-true a page y)))
    by more false false e = ap (λ x. x || (eqb p a || holds ps a)) (flip page a) ∙ front (eqb a page) (eqb p a || holds ps a)

-- what is known of one page, at that page
pub at_page : (pages : List ℕ) (page : ℕ) (b : Bool) → holds pages page ≡ b → (a : ℕ) → eqb a page ≡ true → holds pages a ≡ b
at_page pages page b is a e = ap (holds pages) (eqb-true a page e) ∙ is

-- marks at a page: x and y are the marks of a page, and e says that it is this one
goes : (x y e : Bool) → (x && not (y || e)) ≡ ((x && not y) && not e)
goes x y e = grind arith

stays_off : (x y e : Bool) → (e ≡ true → x ≡ false) → (x && not (y || e)) ≡ (x && not y)
stays_off x y true f = rw (f refl) refl
stays_off x y false f = grind arith

comes : (x y e : Bool) → ((x || e) && not (y && not e)) ≡ ((x && not y) || e)
comes x y e = grind arith

comes_hung : (x y e : Bool) → (e ≡ true → x ≡ true) → (x && not (y && not e)) ≡ ((x && not y) || e)
comes_hung x y true f = rw (f refl) (one y)
  where
    one : (y : Bool) → (true && not (y && not true)) ≡ ((true && not y) || true)
    one y = grind arith
comes_hung x y false f = grind arith

goes_off : (x y e : Bool) → (e ≡ true → x ≡ false) → (x && not (y && not e)) ≡ (x && not y)
goes_off x y true f = rw (f refl) refl
goes_off x y false f = grind arith

pub in_already : (y e : Bool) → (e ≡ true → y ≡ true) → (y || e) ≡ y
in_already y true f = rw (f refl) refl
in_already y false f = grind arith

out_already : (y e : Bool) → (e ≡ true → y ≡ false) → (y && not e) ≡ y
out_already y true f = rw (f refl) refl
out_already y false f = grind arith

-- the numbers of a graph of which the lists are known
same_nodes : (d e u v : List ℕ) → d ≡ e → u ≡ v → length d + length (hung_alone d u) ≡ length e + length (hung_alone e v)
same_nodes d e u v dirty hung = rw (dirty, hung) refl

module _ (page : ℕ) (g h : GraphLists) (was : IsGraph g) (is : IsGraph h) where
  -- the hung pages that are not dirty, before and after
  abbrev alone : List ℕ
  alone = hung_alone g.dirty g.hung

  abbrev alone' : List ℕ
  alone' = hung_alone h.dirty h.hung

  up : IsRising alone
  up = alone_rises g.dirty g.hung was.hung_once

  up' : IsRising alone'
  up' = alone_rises h.dirty h.hung is.hung_once

  -- a page became dirty
  module _ (dirty : (a : ℕ) → dirty_in h a ≡ (dirty_in g a || eqb a page)) (hung : h.hung ≡ g.hung) where
    hung_same : (a : ℕ) → holds h.hung a ≡ holds g.hung a
    hung_same a = ap (λ (l : List ℕ). holds l a) hung

    again : dirty_in g page ≡ true → h.dirty ≡ g.dirty
    again on = same_pages h.dirty g.dirty is.dirty_once was.dirty_once (λ a. dirty a ∙ in_already _ _ (at_page g.dirty page true on a))

    alone_entered : (a : ℕ) → holds alone' a ≡ (holds g.hung a && not (holds g.dirty a || eqb a page))
    alone_entered a = alone_is h.dirty h.hung a ∙ rw (hung_same a, dirty a) refl

    pub entered_marked : length h.dirty ≡ (if dirty_in g page then length g.dirty else length g.dirty + 1)
    entered_marked = elim (cases_Bool (dirty_in g page)) [
      | inl on ↦ rw on (ap length (again on))
      | inr off ↦ rw off (longer_by_one g.dirty h.dirty page was.dirty_once is.dirty_once dirty off)
    ]

    pub entered_nodes : node_count h ≡ (if is_node g page then node_count g else node_count g + 1)
    entered_nodes = elim (cases_Bool (dirty_in g page)) [
      | inl on ↦ rw on (same_nodes h.dirty g.dirty h.hung g.hung (again on) hung)
      | inr off ↦
          let more : length h.dirty ≡ length g.dirty + 1 = longer_by_one g.dirty h.dirty page was.dirty_once is.dirty_once dirty off in
          elim (cases_Bool (hung_in g page)) [
            | inl there ↦
                let less : length alone ≡ length alone' + 1 = shorter_by_one alone alone' page up up'
                (λ a. alone_entered a ∙ goes (holds g.hung a) (holds g.dirty a) (eqb a page) ∙ ap (λ x. x && not (eqb a page)) (sym (alone_is g.dirty g.hung a)))
                (alone_is g.dirty g.hung page ∙ and_from _ _ there (not_from_false _ off)) in
                rw (off, there) (omega arith)
            | inr none ↦
                let same : length alone' ≡ length alone = as_long alone' alone up' up
                (λ a. alone_entered a ∙ stays_off (holds g.hung a) (holds g.dirty a) (eqb a page) (at_page g.hung page false none a) ∙ sym (alone_is g.dirty g.hung a)) in
                rw (off, none) (omega arith)
          ]
    ]

    pub entered_lists : h.edges ≡ g.edges → h.spare_nodes ≡ (if is_node g page then g.spare_nodes else g.spare_nodes - 1) → h.spare_edges ≡ g.spare_edges → h ≡ entered page g
    entered_lists edges nodes spare =
        build (same_pages h.dirty (placed page g.dirty) is.dirty_once (rising_placed page g.dirty was.dirty_once) (λ a. dirty a ∙ sym (holds_placed page g.dirty a))) hung edges nodes spare
      where
        lists : List ℕ → List ℕ → List Edge → ℕ → ℕ → GraphLists
        lists d u e n s = record { dirty = d; hung = u; edges = e; spare_nodes = n; spare_edges = s }

        build : {d d' : List ℕ} {u u' : List ℕ} {e e' : List Edge} {n n' s s' : ℕ} → d ≡ d' → u ≡ u' → e ≡ e' → n ≡ n' → s ≡ s' → lists d u e n s ≡ lists d' u' e' n' s'
        build d u e n s = rw (d, u, e, n, s) refl

  -- a dirty page became hung
  module _ (on : dirty_in g page ≡ true) (dirty : (a : ℕ) → dirty_in h a ≡ (dirty_in g a && not (eqb a page))) (hung : (a : ℕ) → hung_in h a ≡ (hung_in g a || eqb a page)) where
    pub wrote_marked : length h.dirty + 1 ≡ length g.dirty
    wrote_marked = sym (shorter_by_one g.dirty h.dirty page was.dirty_once is.dirty_once dirty on)

    pub wrote_nodes : node_count h ≡ node_count g
    wrote_nodes =
        let less : length h.dirty + 1 ≡ length g.dirty = wrote_marked in
        let more : length alone' ≡ length alone + 1 = longer_by_one alone alone' page up up'
        (λ a. alone_is h.dirty h.hung a ∙ rw (hung a, dirty a) (comes (holds g.hung a) (holds g.dirty a) (eqb a page)) ∙ ap (λ x. x || eqb a page) (sym (alone_is g.dirty g.hung a)))
        (alone_is g.dirty g.hung page ∙ off) in
        omega (arith, less, more)
      where
        off : (holds g.hung page && not (holds g.dirty page)) ≡ false
        off = rw on (never (holds g.hung page))
          where
            never : (x : Bool) → (x && not true) ≡ false
            never x = grind arith

  -- a page lost its dirty mark
  module _ (dirty : (a : ℕ) → dirty_in h a ≡ (dirty_in g a && not (eqb a page))) (hung : h.hung ≡ g.hung) where
    hung_kept : (a : ℕ) → holds h.hung a ≡ holds g.hung a
    hung_kept a = ap (λ (l : List ℕ). holds l a) hung

    unmarked : dirty_in g page ≡ false → h.dirty ≡ g.dirty
    unmarked off = same_pages h.dirty g.dirty is.dirty_once was.dirty_once (λ a. dirty a ∙ out_already _ _ (at_page g.dirty page false off a))

    alone_dropped : (a : ℕ) → holds alone' a ≡ (holds g.hung a && not (holds g.dirty a && not (eqb a page)))
    alone_dropped a = alone_is h.dirty h.hung a ∙ rw (hung_kept a, dirty a) refl

    pub dropped_marked : length h.dirty ≡ (if dirty_in g page then length g.dirty - 1 else length g.dirty)
    dropped_marked = elim (cases_Bool (dirty_in g page)) [
      | inl on ↦ let less = shorter_by_one g.dirty h.dirty page was.dirty_once is.dirty_once dirty on in rw on (omega (arith, less))
      | inr off ↦ rw off (ap length (unmarked off))
    ]

    pub dropped_nodes : node_count h ≡ (if dirty_in g page && not (hung_in g page) then node_count g - 1 else node_count g)
    dropped_nodes = elim (cases_Bool (dirty_in g page)) [
      | inr off ↦ rw off (same_nodes h.dirty g.dirty h.hung g.hung (unmarked off) hung)
      | inl on ↦
          let less : length g.dirty ≡ length h.dirty + 1 = shorter_by_one g.dirty h.dirty page was.dirty_once is.dirty_once dirty on in
          elim (cases_Bool (hung_in g page)) [
            | inl there ↦
                let more : length alone' ≡ length alone + 1 = longer_by_one alone alone' page up up'
                (λ a. alone_dropped a ∙ comes_hung (holds g.hung a) (holds g.dirty a) (eqb a page) (at_page g.hung page true there a) ∙ ap (λ x. x || eqb a page) (sym (alone_is g.dirty g.hung a)))
                (alone_is g.dirty g.hung page ∙ rw (there, on) refl) in
                rw (on, there) (omega (arith, less, more))
            | inr none ↦
                let same : length alone' ≡ length alone = as_long alone' alone up' up
                (λ a. alone_dropped a ∙ goes_off (holds g.hung a) (holds g.dirty a) (eqb a page) (at_page g.hung page false none a) ∙ sym (alone_is g.dirty g.hung a)) in
                rw (on, none) (omega (arith, less, same))
          ]
    ]

-- a page waits for another's write where a Live edge is counted
none_wait : (g : GraphLists) (a : ℕ) → ((b : ℕ) → live_in g a b ≡ false) → waiter_count g a ≡ 0
none_wait g a none = by g.edges (λ b. none b)
  where
    apart : (p q x : Bool) → ((p && (true && q)) || x) ≡ false → (p && q) ≡ false
    apart false q x e = refl
    apart true false x e = refl
    apart true true x e = absurd (true≢false e)

    later : (x y : Bool) → (x || y) ≡ false → y ≡ false
    later x false h = refl
    later x true h = absurd (true≢false (sym (or_right x true refl) ∙ h))

    by : (edges : List Edge) → ((b : ℕ) → list_any (λ (e : Edge). eqb e.before a && (eqb e.after b && is_live e.kind)) edges ≡ false) → length (filter (λ (e : Edge). eqb e.before a && is_live e.kind) edges) ≡ 0
    by [] off = refl
    by (e ∷ es) off =
        let here = apart (eqb e.before a) (is_live e.kind) _ (rw (eq-eqb e.after e.after refl) at (off e.after)) in
        rw here (by es (λ b. later (eqb e.before a && (eqb e.after b && is_live e.kind)) _ (off b)))

-- nothing changes where a page is dropped that is not dirty
pub not_dirty : (page : ℕ) (g : GraphLists) → IsGraph g → dirty_in g page ≡ false → Dropped page g g
not_dirty page g graph off = record {
  dirty = λ a. sym (out_already _ _ (at_page g.dirty page false off a));
  hung = refl;
  live = λ a b. sym (out_already (live_in g a b) (eqb a page) (λ e. clean a b (at_page g.dirty page false off a e)));
  barred = λ a b. refl;
  waiters = λ a. elim (cases_Bool (eqb a page)) [
    | inl e ↦ rw e (none_wait g a (λ b. clean a b (at_page g.dirty page false off a e)))
    | inr ne ↦ rw ne refl
  ];
  spare_nodes = refl;
  spare_edges = refl;
  graph = graph;
  nodes = rw off refl;
  marked = rw off refl;
}
  where
    clean : (a b : ℕ) → dirty_in g a ≡ false → live_in g a b ≡ false
    clean a b none = false_from_ne_true _ (λ on. true≢false (sym (graph.live_ends a b on).0 ∙ none))
