use Rattle.std.proofs.Common.{ℕ, List, ◌∷◌, ◌∙◌, ap, subst}
use Rattle.order_model.specs.Pool.{Told, after_fixed, after_take, after_tried, after_written, after_zeroed}
use Rattle.order_model.specs.World.{Layout}
use Rattle.page_layout.specs.Shape.{ShapeView}
use Rattle.page_alloc.specs.Calls.{PoolCall, Take, Zeroed, CountTried, CountWritten, Fixed, after_call, told_by}
use Rattle.page_alloc.specs.Pool.{IsTold, PoolView, told_of}
use Rattle.page_alloc.proofs.PoolLemmas.{same_pool}
use Rattle.page_alloc.proofs.laws.calls_tell.Goals as goal

-- what is told by a page's own past, and by what was told before
told_more : (shape : ShapeView) (told : ℕ → Told) (old later : PoolView) (change : Told → ℕ → Told) → IsTold shape told old → IsTold old.shape (λ p. change (told_of old p) p) later
    → IsTold shape (λ p. change (told p) p) later
told_more shape told old later change before after =
    let next : IsTold shape (λ p. change (told_of old p) p) later = subst (λ (s : ShapeView). IsTold s (λ p. change (told_of old p) p) later) before.same_shape after in
    record {
      same_shape = next.same_shape;
      each = λ p first last. next.each p first last ∙ ap (λ t. change t p) (before.each p first last);
      exact = next.exact ∙ same_pool shape (λ p. change (told p) p) (λ p. change (told_of old p) p) (λ p first last. ap (λ t. change t p) (before.each p first last));
    }

more : (shape : ShapeView) (lay : Layout) (calls : List PoolCall) (call : PoolCall) (old later : PoolView) → IsTold shape (told_by lay calls) old → IsTold old.shape (after_call lay call (told_of old)) later
    → IsTold shape (told_by lay (call ∷ calls)) later
more shape lay calls (Take p) old later = told_more shape (told_by lay calls) old later (λ t q. after_take p (λ _. t) q)
more shape lay calls (Zeroed p) old later = told_more shape (told_by lay calls) old later (λ t q. after_zeroed p (λ _. t) q)
more shape lay calls (CountTried page) old later = told_more shape (told_by lay calls) old later (λ t q. after_tried lay page (λ _. t) q)
more shape lay calls (CountWritten page) old later = told_more shape (told_by lay calls) old later (λ t q. after_written lay page (λ _. t) q)
more shape lay calls Fixed old later = told_more shape (told_by lay calls) old later (λ t q. after_fixed (λ _. t) q)

pub returns : goal.returns
returns c = more
