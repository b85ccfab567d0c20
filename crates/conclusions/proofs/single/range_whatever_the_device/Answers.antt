use Rattle.std.proofs.Common.{subst, arith, refl}
use Rattle.trace_text.specs.declared.command.Command.TheVariants.{Read}
use Rattle.array_model.specs.Replies.{FitsWith}
use Rattle.array_model.specs.Turns.{Asked, FitsAskedWith}
use Rattle.dedup_writer.specs.Core.{shape_in}
use Rattle.session.specs.Answers.{at, ReadsLast, rules_of, no_policies}
use Rattle.conclusions.proofs.Turns.{only_of, is_read_four, asked_is}
use Rattle.conclusions.proofs.single.range_whatever_the_device.Goals as goal

pub returns : goal.returns
unfolding FitsWith
returns g c =
    let done = c.command.ensures.done in
    let store = c.args.store.now in
    let m = at store (g.D.Device.seen c.args.device.now) in
    let only = only_of _ (Read 4) c.parse.result is_read_four refl c.parse.ensures.only in
    let asked = asked_is (shape_in store) _ (Read 4) only done.asked done.asks in
    let fits = subst (λ (a : Asked). FitsAskedWith (ReadsLast m) (rules_of store) no_policies a c.command.result) asked done.does.fits in
    fits.1 (omega (arith, c.requires.blocks))
