use Rattle.dedup_writer.proofs.Numbers.{shape_told, stat_told, stored_told}
use Rattle.dedup_writer.proofs.laws.store_stat.Goals as goal

pub returns-clause-shape : goal.returns-clause-shape
returns-clause-shape c = λ mode core d a sf was. shape_told mode core d a sf was

pub returns-clause-numbers : goal.returns-clause-numbers
returns-clause-numbers c = λ mode core d a sf was. stat_told mode core d a sf was

pub returns-clause-counted : goal.returns-clause-counted
returns-clause-counted c = λ mode core d a sf was counted. stored_told mode core d a sf was counted
