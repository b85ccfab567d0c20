-- Parts of a pass, one after another.
use Rattle.std.proofs.Common.{arith, ◌≡◌, inl, inr, ◌+◌, ◌*◌, ◌≤◌, ℕ, Bool, true, false, not, ◌&&◌, ◌||◌, cond, refl, sym, ap, ◌∙◌, subst, List, [], ◌++◌, map, take, drop, Option, None, eqb, eq-eqb, ne_eqb, eq-zero-or-pos}
use Rattle.std.proofs.lemmas.List.{length-append}
use Rattle.std.proofs.lemmas.List.Folds.{list_any-append}
use Rattle.page_device.specs.Meaning.{Meaning}
use Rattle.page_layout.specs.Shape.{ShapeView}
use Rattle.dep_graph.specs.Pages.{holds}
use Rattle.finger_table.specs.Index.{PrintsView, print_at}
use Rattle.order_model.specs.World.{Layout, World}
use Rattle.engine_model.specs.Entries.{cached_count, cached_print}
use Rattle.engine_model.specs.Invariant.{Moment}
use Rattle.engine_model.specs.SmallPass.{SmallPass}
use Rattle.store_core.specs.declared.Core.{Core}
use Rattle.store_core.specs.Layout.{lay_of}
use Rattle.store_core.specs.Passing.{Forgets, Frees, PassFrame, was_freed}
use Rattle.store_core.specs.PassParts.{PartFrom, PassPart}
use Rattle.store_core.specs.Views.{plain_release}
use Rattle.store_core.proofs.Owing.{holds_then}
use Rattle.store_core.proofs.QueueParts.{leaves_then}
use Rattle.store_core.proofs.Spending.{spends_more, spends_then}

-- what goes with pages that are forgotten
gone_both : {A : Type 0} (f g : Bool) (o : Option A) → cond g None (cond f None o) ≡ cond (f || g) None o
gone_both true true o = refl
gone_both true false o = refl
gone_both false true o = refl
gone_both false false o = refl

holds_both : (f g : List ℕ) (p : ℕ) → holds (f ++ g) p ≡ (holds f p || holds g p)
holds_both f g p = list_any-append (λ x. eqb x p) f g

pub forgets_none : (x : PrintsView) → Forgets [] x x
forgets_none x = record { prints = λ p. refl; ready = λ own q h. h }

pub forgets_then : (f g : List ℕ) (x y z : PrintsView) → Forgets f x y → Forgets g y z → Forgets (f ++ g) x z
forgets_then f g x y z a b = record {
  prints = λ p. b.prints p ∙ ap (cond (holds g p) None) (a.prints p) ∙ gone_both (holds f p) (holds g p) _ ∙ ap (λ (t : Bool). cond t None (print_at x p)) (sym (holds_both f g p));
  ready = λ own q h. b.ready own q (a.ready own q h);
}

-- pages that are freed
freed_both : (a b c : ℕ) → b ≤ a → c ≤ b → ((not (eqb a 0) && eqb b 0) || (not (eqb b 0) && eqb c 0)) ≡ (not (eqb a 0) && eqb c 0)
freed_both a b c ba cb = elim (eq-zero-or-pos b) [
  | inl z ↦ rw (eq-eqb b 0 z, eq-eqb c 0 (omega (arith, z, cb))) (first (not (eqb a 0)))
  | inr pos ↦ rw (ne_eqb b 0 (λ e. omega (arith, e, pos)), ne_eqb a 0 (λ e. omega (arith, e, pos, ba))) refl
]
  where
    first : (x : Bool) → ((x && true) || (false && true)) ≡ (x && true)
    first true = refl
    first false = refl

pub frees_none : (lay : Layout) (w : World) → Frees lay [] w w
frees_none lay w = record {
  freed = λ p is. none (eqb (cached_count lay w p) 0);
  live = omega arith;
  lower = λ p is. omega arith;
  prints = λ p is. refl;
}
  where
    none : (b : Bool) → false ≡ (not b && b)
    none true = refl
    none false = refl

pub frees_then : (lay : Layout) (f g : List ℕ) (u v w : World) → Frees lay f u v → Frees lay g v w → Frees lay (f ++ g) u w
frees_then lay f g u v w x y = record {
  freed = λ p is. holds_both f g p ∙ ap (λ (b : Bool). b || holds g p) (x.freed p is) ∙ ap (λ (b : Bool). was_freed lay u v p || b) (y.freed p is)
      ∙ freed_both (cached_count lay u p) (cached_count lay v p) (cached_count lay w p) (x.lower p is) (y.lower p is);
  live = let first = x.live in let then = y.live in let both = length-append f g in omega (arith, first, then, both);
  lower = λ p is. let first = x.lower p is in let then = y.lower p is in omega (arith, first, then);
  prints = λ p is. y.prints p is ∙ ap (cond (holds g p) None) (x.prints p is) ∙ gone_both (holds f p) (holds g p) _ ∙ ap (λ (t : Bool). cond t None (cached_print lay u p)) (sym (holds_both f g p));
}

-- what is left of a core
pub frame_then : (k l : ℕ) (a b c : Core) → PassFrame k a b → PassFrame l b c → PassFrame (k + l) a c
frame_then k l a b c x y = record {
  shape = y.shape ∙ x.shape;
  limit = y.limit ∙ x.limit;
  left = let first = x.left in let then = y.left in omega (arith, first, then);
  holds = holds_then a b c x.holds y.holds;
  fewer = λ q. let first = x.fewer q in let then = y.fewer q in omega (arith, first, then);
  held = λ q some none.
      let first = x.fewer q in
      let then = y.fewer q in
      let moves = y.holds.holds q in
      y.held q some (omega (arith, first, none)) ∙ x.held q (omega (arith, first, then, none, moves, some)) none;
  spends = spends_more (2 * k + 2 * l) (2 * k + 2 * l) (k + l) (2 * (k + l)) (2 * (k + l)) (k + l) a c (omega arith) (omega arith) (omega arith) (spends_then (2 * k) (2 * k) k (2 * l) (2 * l) l a b c x.spends y.spends);
}

-- the laws
module _ (d : Meaning) (f t u : ℕ) (g h : List ℕ) (a b c : Core) (shape : b.shape ≡ a.shape) where
  pub from_then : (m : Moment) (x : PartFrom d m f t g a b) → PartFrom d x.n t u h b c → PartFrom d m f u (g ++ h) a c
  from_then m x y = record {
    n = y.n;
    is = y.is;
    array = y.array ∙ x.array;
    pass = λ end p. x.pass end (subst (λ (s : ShapeView). SmallPass (lay_of s) x.n (map plain_release (take t b.ledger.queue.releases)) (map plain_release (drop t b.ledger.queue.releases)) end) shape
        (y.pass end (subst (λ (s : ShapeView). SmallPass (lay_of s) y.n (map plain_release (take u c.ledger.queue.releases)) (map plain_release (drop u c.ledger.queue.releases)) end) (sym shape) p)));
    frees = frees_then (lay_of a.shape) g h m.world x.n.world y.n.world x.frees (subst (λ (s : ShapeView). Frees (lay_of s) h x.n.world y.n.world) shape y.frees);
  }

pub part_then : (f t u k l : ℕ) (g h : List ℕ) (a b c : Core) (x y z : PrintsView) → PassPart f t k g a b x y → PassPart t u l h b c y z → PassPart f u (k + l) (g ++ h) a c x z
part_then f t u k l g h a b c x y z p q = record {
  stands = λ sound d array s. q.stands sound d array (p.stands sound d array s);
  frame = frame_then k l a b c p.frame q.frame;
  order = leaves_then f t u a.ledger.queue.releases b.ledger.queue.releases c.ledger.queue.releases p.order q.order;
  forgets = forgets_then g h x y z p.forgets q.forgets;
  laws = λ d m is. let first = p.laws d m is in from_then d f t u g h a b c p.frame.shape m first (q.laws d first.n first.is);
}
