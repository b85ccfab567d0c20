use Rattle.page_cache.proofs.EntryLemmas.{unmarked}
use Rattle.page_cache.specs.Entries.{entry_at}
use Rattle.page_cache.proofs.laws.absent_is_unmarked.Goals as goal

pub returns : goal.returns
returns c = λ b q h. unmarked (entry_at b.pages q) h
