-- Edits that bring what they are to bring keep the invariant whole.
use Rattle.std.proofs.Common.{◌≡◌, ◌<◌, ℕ, Bool, sym, ap, ◌∙◌, []}
use Rattle.order_model.specs.World.{Agree, Layout, IsData}
use Rattle.engine_model.specs.Entries.{cached_count, cached_name, cached_print}
use Rattle.order_model.specs.declared.Slot.TheVariants.{Name, Print}
use Rattle.order_model.specs.declared.Slot.{Slot}
use Rattle.engine_model.specs.Births.{BirthKnown, IsSlot, Leads, cached_value, has_print}
use Rattle.engine_model.specs.Pool.{PoolKnows}
use Rattle.engine_model.specs.Invariant.{EngineInvariant, Moment, ToldBirths, ToldPool}
use Rattle.engine_model.specs.Edits.{CacheOnly, ContentEdits, Edits}
use Rattle.engine_model.proofs.Edits.{edits_keep}
use Rattle.engine_model.proofs.EditContents.{edit_contents}
use Rattle.engine_model.proofs.Births.{edited_births}
use Rattle.engine_model.proofs.Views.{newest_count_same}

module _ (lay : Layout) (m n : Moment) (rest : CacheOnly lay m.world n.world) where
  pub told_pool_knows : ToldPool lay m n → (q : ℕ) → IsData lay q → PoolKnows lay m.world (m.pool q) q → PoolKnows lay n.world (n.pool q) q
  told_pool_knows t q d old = record {
    zero = t.zero q d;
    above = t.above q d;
    possible = λ h c x. old.possible (sym (t.tried q d) ∙ h) c (rest.possible _ c x);
    newest = λ h. newest_count_same lay m.world n.world q (rest.newest _) ∙ old.newest (sym (t.newest q d) ∙ h);
  }

  pub told_births_know : ToldBirths lay m n → (slot : Slot) → IsSlot lay slot → BirthKnown lay m.world m.calls slot → BirthKnown lay n.world n.calls slot
  told_births_know t slot is old = rw t.calls (edited_births lay m.world n.world m.calls t.edits slot old rest t.dirty (t.leads slot is))

pub edits_keep_all : (lay : Layout) (top : ℕ) (sound : Bool) (m n : Moment) → EngineInvariant lay top sound m → Edits lay top m.world n.world → ContentEdits lay sound m.array n.array m.world n.world
    → ToldBirths lay m n → ToldPool lay m n → EngineInvariant lay top sound n
edits_keep_all lay top sound m n k e c births pool = record {
  counts = edits_keep lay top m.world n.world k.counts e;
  contents = edit_contents lay top sound m.array n.array m.world n.world k.counts k.contents c;
  births = λ slot is. told_births_know lay m n c.rest births slot is (k.births slot is);
  pool_knows_counts = λ q d. told_pool_knows lay m n c.rest pool q d (k.pool_knows_counts q d);
}

-- where no name and no print changes, birth_marks is told nothing
pub nothing_told : (lay : Layout) (m n : Moment) → n.calls ≡ m.calls → ((l : ℕ) → l < lay.blocks → cached_name lay n.world l ≡ cached_name lay m.world l)
    → ((q : ℕ) → IsData lay q → cached_print lay n.world q ≡ cached_print lay m.world q) → ToldBirths lay m n
nothing_told lay m n calls names prints = record { edits = []; calls = calls; dirty = tt; leads = leads }
  where
    leads : (slot : Slot) → IsSlot lay slot → Leads lay slot [] (cached_value lay m.world slot) (cached_value lay n.world slot)
    leads (Name l) lt = sym (names l lt)
    leads (Print q) d = ap has_print (sym (prints q d))

-- where no count changes, the pool is told nothing
pub pool_untold : (lay : Layout) (top : ℕ) (sound : Bool) (m n : Moment) → EngineInvariant lay top sound m → Agree n.pool m.pool
    → ((q : ℕ) → IsData lay q → cached_count lay n.world q ≡ cached_count lay m.world q) → ToldPool lay m n
pool_untold lay top sound m n k same counts = record {
  zero = λ q d h. counts q d ∙ (k.pool_knows_counts q d).zero (sym (ap (λ t. t.zero) (same q)) ∙ h);
  above = λ q d h. ap (λ t. t.zero) (same q) ∙ (k.pool_knows_counts q d).above (sym (counts q d) ∙ h);
  tried = λ q d. ap (λ t. t.tried) (same q);
  newest = λ q d. ap (λ t. t.newest) (same q);
}
