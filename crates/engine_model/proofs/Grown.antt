-- A touched page, a raised count and an added edge are edits that bring what they are to bring.
use Rattle.std.proofs.Common.{◌≡◌, inl, ℕ, arith, sym, ap, ◌∙◌}
use Rattle.order_model.specs.World.{Layout, World, queued}
use Rattle.engine_model.specs.Counts.{CountsInvariant}
use Rattle.engine_model.specs.Edits.{Edits, Grown}
use Rattle.engine_model.proofs.Edits.{edits_keep}
use Rattle.engine_model.proofs.Views.{names_by}

pub grown_edits : (lay : Layout) (top : ℕ) (w v : World) → CountsInvariant lay top w → Grown lay top w v → Edits lay top w v
grown_edits lay top w v old x = record {
  rest = x.rest;
  kinds = x.kinds;
  acyclic = x.acyclic;
  name_gained = λ l p lt d h. inl (sym (x.names l lt) ∙ h);
  name_lost = λ l p lt d may h. inl (x.names l lt ∙ h);
  print_gained = λ p print d h. inl (sym (x.prints p d) ∙ h);
  print_lost = λ p print d may h. inl (x.prints p d ∙ h);
  enough = λ p d.
      let was = (old.count_balance p d).enough in
      let names = names_by lay w v x.names p in
      let queue : queued v.queue p ≡ queued w.queue p = ap (λ rs. queued rs p) x.queue in
      let more = (x.counts p d).0 in
      omega arith;
  in_range = λ p d. (x.counts p d).1;
  print_counted = λ p print d h. let pos = old.print_needs_count p print d (sym (x.prints p d) ∙ h) in let more = (x.counts p d).0 in omega arith;
  zero_kept = λ l p z. inl (rw x.queue z);
  one_kept = λ l p z. inl (rw x.queue z);
  zero_dirty = λ l p lt z. x.rest.dirty_kept _ (old.lost_name_owes_release.dirty l p lt (rw x.queue at z));
  one_hung = λ l p lt z. x.rest.hung _ ∙ old.lost_name_owes_release.hung l p lt (rw x.queue at z);
  queue_in_range = λ l p stage z. old.lost_name_owes_release.in_range l p stage (rw x.queue at z);
}

pub grown_keeps : (lay : Layout) (top : ℕ) (w v : World) → CountsInvariant lay top w → Grown lay top w v → CountsInvariant lay top v
grown_keeps lay top w v old x = edits_keep lay top w v old (grown_edits lay top w v old x)
