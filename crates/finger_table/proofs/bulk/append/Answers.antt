use Rattle.std.proofs.Common.{◌<◌, ◌++◌, ◌∷◌, [], ℕ, List, length, sym, ◌∙◌, ap, arith}
use Rattle.finger_table.proofs.ListFunctions.{list_at_index, list_at_set, list_at_other}
use Rattle.finger_table.proofs.bulk.append.Goals as goal

pub returns-in-Ok-clause-here : goal.returns-in-Ok-clause-here
returns-in-Ok-clause-here c =
    let within : c.args.list < length c.args.lists.now.items = omega (arith, c.args.lists.now.ok.0) in
    list_at_set c.args.lists.now.items c.args.list c.push.new.self within ∙ c.in-Ok.ensures.items ∙ ap (λ (l : List ℕ). l ++ c.args.p ∷ []) (sym (list_at_index c.args.lists.now.items c.args.list c.index_mut.result.now within c.index_mut.ensures.value))

pub returns-in-Ok-clause-others : goal.returns-in-Ok-clause-others
returns-in-Ok-clause-others c = λ k ne. list_at_other c.args.lists.now.items c.args.list k c.push.new.self ne

pub returns-in-Err-clause-others : goal.returns-in-Err-clause-others
returns-in-Err-clause-others c = λ k ne. list_at_other c.args.lists.now.items c.args.list k c.push.new.self ne
