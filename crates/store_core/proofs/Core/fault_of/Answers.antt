use Rattle.std.proofs.Common.{◌≡◌, ◌∙◌, sym, ap, subst, Option, IfNone, IfSome, true}
use Rattle.page_device.specs.Block.{Block, zero_block}
use Rattle.page_device.specs.declared.error.Damage.{Damage}
use Rattle.page_layout.specs.Formed.{is_formed}
use Rattle.page_cache.specs.View.{CacheView, content_in}
use Rattle.store_core.specs.Damaged.{IsFirstMalformed}
use Rattle.store_core.specs.Views.{held_or, page_in}
use Rattle.store_core.proofs.Looked.{fault_named, fault_none}
use Rattle.store_core.proofs.Core.fault_of.Goals as goal

-- what is looked at is the page that is there
seen : (c : goal.After-table_fault) → c.in-Some.content.now ≡ page_in c.args.self.now c.args.page
seen c = sym (ap (λ (o : Option Block). held_or o zero_block) (ap (λ (k : CacheView). content_in k c.args.page) (sym c.cache_seen.ensures) ∙ c.in-Some.ensures))

pub returns-in-Some-clause-fault : goal.returns-in-Some-clause-fault
returns-in-Some-clause-fault c = subst (λ (b : Block). IfSome c.table_fault.result (λ (damage : Damage). (damage.page ≡ c.args.page) × IsFirstMalformed c.args.self.now.shape c.args.page b damage.entry)) (seen c)
    (fault_named c.args.self.now.shape c.args.page c.in-Some.content.now c.requires.table c.table_fault.result c.table_fault.ensures.fault)

pub returns-in-Some-clause-none : goal.returns-in-Some-clause-none
returns-in-Some-clause-none c = subst (λ (b : Block). IfNone c.table_fault.result (is_formed c.args.self.now.shape c.args.page b ≡ true)) (seen c)
    (fault_none c.args.self.now.shape c.args.page c.in-Some.content.now c.requires.table (λ t is. c.pages_are_tested.ensures.page c.args.self.now.shape t c.args.page c.in-Some.content.now is) c.table_fault.result c.table_fault.ensures.none)
