use Rattle.flush_tests.proofs.tests.rig.edit.Goals as goal

pub returns : goal.returns
returns g c = c.touched_is_whole.ensures.fits c.args.engine.now _ c.args.page c.numbered.result c.requires.held (λ off. c.requires.room) c.requires.within c.requires.fits
