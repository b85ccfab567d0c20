use Rattle.std.proofs.Common.{◌∙◌, sym, ap, Ok}
use Rattle.store_core.proofs.Looked.{looked_damaged}
use Rattle.store_core.proofs.Quieted.{quiet_back}
use Rattle.store_core.specs.Quiet.{none}
use Rattle.store_core.proofs.Core.fetch_table.Goals as goal

pub returns-in-Err-clause-looked : goal.returns-in-Err-clause-looked
returns-in-Err-clause-looked g c = looked_damaged c.args.page c.in-Err.damage _ c.args.self.now c.fetch.new.self _ c.in-Ok.ensures.quiet.rest.shape (sym c.if-not-read.false ∙ c.in-Ok.ensures.answer) c.in-Ok.ensures.there
    (c.in-Ok.ensures.newest (ap Ok c.if-not-read.false)) c.in-Err.ensures.err.0 c.in-Err.ensures.err.1 c.in-Err.ensures.gone

pub returns-in-Err-clause-quiet : goal.returns-in-Err-clause-quiet
returns-in-Err-clause-quiet g c = quiet_back none _ _ _ c.fetch.new.self _ c.in-Ok.ensures.quiet c.in-Err.ensures.back
