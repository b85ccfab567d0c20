use Rattle.store_core.proofs.MomentStands.{moment_stands, stands_moment}
use Rattle.store_core.proofs.laws.moments_stand.Goals as goal

pub returns-clause-moment : goal.returns-clause-moment
returns-clause-moment c = stands_moment

pub returns-clause-stands : goal.returns-clause-stands
returns-clause-stands c = moment_stands
