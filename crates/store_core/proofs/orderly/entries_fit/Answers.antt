use Rattle.store_core.proofs.Opens.{count_fits, name_fits, print_fits}
use Rattle.store_core.proofs.orderly.entries_fit.Goals as goal

pub returns-clause-name : goal.returns-clause-name
returns-clause-name c = name_fits

pub returns-clause-count : goal.returns-clause-count
returns-clause-count c = count_fits

pub returns-clause-print : goal.returns-clause-print
returns-clause-print c = print_fits
