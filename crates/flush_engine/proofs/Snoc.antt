-- Lists of pages with one more at the end.
use Rattle.std.proofs.Common.{◌≡◌, ◌<◌, ℕ, Bool, true, false, ◌||◌, List, [], ◌∷◌, ◌++◌, map, eqb, eq-eqb, refl, ap, arith}
use Rattle.std.proofs.lemmas.Bool.{or_left, or_right}
use Rattle.dep_graph.specs.Pages.{holds, IsRising}
use Rattle.dep_graph.specs.Rising.{Leads, Rises}

pub any_snoc : (pages : List ℕ) (page a : ℕ) → holds (pages ++ page ∷ []) a ≡ (holds pages a || eqb page a)
any_snoc [] page a = end (eqb page a)
  where
    end : (x : Bool) → (x || false) ≡ (false || x)
    end x = grind arith
any_snoc (p ∷ pages) page a = step (eqb p a) _ _ _ (any_snoc pages page a)
  where
    step : (e x h y : Bool) → x ≡ (h || y) → (e || x) ≡ ((e || h) || y)
    step e x h y p = grind arith

leads_snoc : (x : ℕ) (pages : List ℕ) (page : ℕ) → Leads (λ a b. a < b) x pages → x < page → Leads (λ a b. a < b) x (pages ++ page ∷ [])
unfolding Leads
leads_snoc x [] page led lt = (lt, tt)
leads_snoc x (p ∷ pages) page led lt = (led.0, leads_snoc x pages page led.1 lt)

pub rises_snoc : (pages : List ℕ) (page : ℕ) → IsRising pages → ((a : ℕ) → holds pages a ≡ true → a < page) → IsRising (pages ++ page ∷ [])
unfolding Rises Leads
rises_snoc [] page up below = (tt, tt)
rises_snoc (p ∷ pages) page up below = (leads_snoc p pages page up.0 (below p (or_left _ _ (eq-eqb p p refl))), rises_snoc pages page up.1 (λ a h. below a (or_right _ _ h)))

pub map_snoc : {X : Type 0} (f : ℕ → X) (pages : List ℕ) (page : ℕ) → map f (pages ++ page ∷ []) ≡ map f pages ++ f page ∷ []
map_snoc f [] page = refl
map_snoc f (p ∷ pages) page = ap (λ l. f p ∷ l) (map_snoc f pages page)
