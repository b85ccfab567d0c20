use Rattle.std.proofs.Common.{◌-◌, arith, ap, ◌++◌, length, replicate, ◌∙◌, length-append}
use Rattle.std.proofs.lemmas.List.{length-replicate}
use Rattle.page_device.specs.Memory.{lost_call, entries_of, LogView}
use Rattle.page_device.proofs.States.{lost_gap}
use Rattle.page_device.proofs.log.Log.lose.Goals as goal

pub returns-clause-some : goal.returns-clause-some
returns-clause-some c =
    let more = c.saturating_add-self-inside.result - c.self.inside.lost in (
      more,
      lost_gap (entries_of c.self.inside.entries.items c.self.inside.lost_before.items) c.self.inside.lost c.saturating_add-self-inside.result (omega arith)
          ∙ ap (λ (v : LogView). v.all ++ replicate more lost_call) c.self.view_is,
    )

pub returns-clause-one : goal.returns-clause-one
returns-clause-one c =
    let front = entries_of c.self.inside.entries.items c.self.inside.lost_before.items in
    let was = ap (λ (v : LogView). length v.all) c.self.view_is in
    omega (
      arith,
      was,
      length-append front (replicate c.self.inside.lost lost_call),
      length-replicate c.self.inside.lost lost_call,
      length-append front (replicate c.saturating_add-self-inside.result lost_call),
      length-replicate c.saturating_add-self-inside.result lost_call,
    )
