use Rattle.std.proofs.Common.{◌≡◌, ℕ, List, [], refl, ap, ◌∙◌}
use Rattle.std.proofs.lemmas.List.{append-nil}
use Rattle.page_device.specs.declared.device.LogEntry.{LogEntry}
use Rattle.page_device.specs.Memory.{entries_of}
use Rattle.page_device.proofs.log.Log.new.Goals as goal

none : (lost : List ℕ) → entries_of [] lost ≡ []
unfolding entries_of
none lost = refl

pub returns-clause-all : goal.returns-clause-all
returns-clause-all c =
    append-nil (entries_of c.new.result.items c.new-2.result.items) ∙ ap (λ (l : List LogEntry). entries_of l c.new-2.result.items) c.new.ensures.items ∙ none c.new-2.result.items
