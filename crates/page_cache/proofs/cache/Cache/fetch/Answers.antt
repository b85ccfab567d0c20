use Rattle.page_cache.proofs.EntryLemmas.{absent_in}
use Rattle.page_cache.proofs.cache.Cache.fetch.Goals as goal

pub returns-in-Err-clause-there : goal.returns-in-Err-clause-there
returns-in-Err-clause-there g c h = let none = absent_in _ _ c.args.page _ c.contains_key.ensures c.if-contains_key.false c.self.view_is in absurd (cc)

pub returns-in-Err-read-clause-there : goal.returns-in-Err-read-clause-there
returns-in-Err-read-clause-there g c h = let none = absent_in _ _ c.args.page _ c.contains_key.ensures c.if-contains_key.false c.self.view_is in absurd (cc)

pub returns-in-Ok-bring_in-clause-there : goal.returns-in-Ok-bring_in-clause-there
returns-in-Ok-bring_in-clause-there g c h = let none = absent_in _ _ c.args.page _ c.contains_key.ensures c.if-contains_key.false c.self.view_is in absurd (cc)

pub returns-in-Ok-bring_in-clause-answer : goal.returns-in-Ok-bring_in-clause-answer
returns-in-Ok-bring_in-clause-answer g c = let none = absent_in _ _ c.args.page _ c.contains_key.ensures c.if-contains_key.false c.self.view_is in rw none

pub returns-in-Err-bring_in-clause-there : goal.returns-in-Err-bring_in-clause-there
returns-in-Err-bring_in-clause-there g c h = let none = absent_in _ _ c.args.page _ c.contains_key.ensures c.if-contains_key.false c.self.view_is in absurd (cc)
