use Rattle.store_core.proofs.Opens.{clean_after_opens, clean_before_opens, data_opens, fewer_open, none_to_data}
use Rattle.store_core.proofs.orderly.edges_open.Goals as goal

pub returns-clause-none_to_data : goal.returns-clause-none_to_data
returns-clause-none_to_data c = none_to_data

pub returns-clause-from_data : goal.returns-clause-from_data
returns-clause-from_data c = data_opens

pub returns-clause-clean_before : goal.returns-clause-clean_before
returns-clause-clean_before c = clean_before_opens

pub returns-clause-clean_after : goal.returns-clause-clean_after
returns-clause-clean_after c = clean_after_opens

pub returns-clause-fewer : goal.returns-clause-fewer
returns-clause-fewer c = fewer_open
