use Rattle.std.proofs.Common.{◌∙◌, ap, List, ◌++◌, [], ◌∷◌}
use Rattle.std.proofs.lemmas.List.{append-nil}
use Rattle.page_device.specs.declared.device.LogEntry.{LogEntry}
use Rattle.page_device.specs.Memory.{entries_of, LogView}
use Rattle.page_device.proofs.States.{entries_of-last}
use Rattle.page_device.proofs.log.Log.keep.Goals as goal

pub returns-clause-all : goal.returns-clause-all
returns-clause-all c =
    append-nil (entries_of c.push_reserved.new.self.items c.push_reserved-2.new.self.items)
    ∙ ap (λ (l : List LogEntry). entries_of l c.push_reserved-2.new.self.items) c.push_reserved.ensures.items
    ∙ ap (entries_of (c.self.inside.entries.items ++ c.args.entry ∷ [])) c.push_reserved-2.ensures.items
    ∙ entries_of-last c.self.inside.entries.items c.self.inside.lost_before.items c.args.entry c.self.inside.lost c.self.invariant
    ∙ ap (λ (l : List LogEntry). l ++ c.args.entry ∷ []) (ap (λ (v : LogView). v.all) c.self.view_is)
