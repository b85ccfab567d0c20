use Rattle.std.proofs.Common.{sym, subst, ℕ}
use Rattle.page_layout.specs.Shape.{ShapeView}
use Rattle.flush_engine.specs.View.{EngineView}
use Rattle.store_core.specs.declared.Core.{Core}
use Rattle.store_core.specs.declared.ledger.Ledger.{Ledger}
use Rattle.store_core.specs.Orderly.{IsOrderlyBut}
use Rattle.store_core.specs.Whole.{IsWhole}
use Rattle.store_core.proofs.Core.turn_done.Goals as goal

abbrev with_engine : (shape : ShapeView) (ledger : Ledger) (e : EngineView) → IsWhole shape e ledger → Core
with_engine shape ledger e w = record { shape = shape; engine = e; ledger = ledger; whole = w }

pub returns-clause-orderly : goal.returns-clause-orderly
returns-clause-orderly c p o = subst (λ (e : EngineView). (v : IsWhole c.args.self.now.shape e c.args.self.now.ledger) → IsOrderlyBut p (with_engine c.args.self.now.shape c.args.self.now.ledger e v))
    (sym c.turn_done.ensures.older) (λ v. record { ordered = o.ordered; looked = o.looked; formed = o.formed }) _
