use Rattle.std.proofs.Common.{ap, sym, ◌∙◌, ◌≡◌, false}
use Rattle.std.specs.Map.{keys_of}
use Rattle.page_cache.specs.Recent.{RecentView, has}
use Rattle.page_cache.proofs.RecentLemmas.{keys-put, keys-dropped, has_take, has_front}
use Rattle.page_cache.proofs.recent.Recent.bring.Goals as goal
use Rattle.page_cache.proofs.recent.Recent.bring.Goals.{in-Ok-Some, in-Ok-None, in-Err}

pub returns-clause-pages : goal.returns-clause-pages
returns-clause-pages c =
    let absent : has (keys_of c.self.inside.pages.entries) c.args.page ≡ false = ap (λ (v : RecentView). has v.pages c.args.page) c.self.view_is ∙ c.requires in
    elim c.match-push.branch [
      | in-Ok-Some w ↦ rw (w.result-is, ← c.self.view_is) (keys-put c.self.inside.pages c.args.page absent c.len.ensures.valid c.push.new.self w.in-Ok-Some.ensures.entries)
      | in-Ok-None w ↦ rw (w.result-is, ← c.self.view_is) (keys-put c.self.inside.pages c.args.page absent c.len.ensures.valid c.push.new.self w.in-Ok-None.ensures.entries)
      | in-Err w ↦ rw w.result-is tt
    ]

pub returns-clause-front : goal.returns-clause-front
returns-clause-front c =
    let absent : has (keys_of c.self.inside.pages.entries) c.args.page ≡ false = ap (λ (v : RecentView). has v.pages c.args.page) c.self.view_is ∙ c.requires in
    elim c.match-push.branch [
      | in-Ok-Some w ↦ rw (w.result-is, keys-put c.self.inside.pages c.args.page absent c.len.ensures.valid c.push.new.self w.in-Ok-Some.ensures.entries) (has_front _ _ _ c.len.ensures.valid.2)
      | in-Ok-None w ↦ rw (w.result-is, keys-put c.self.inside.pages c.args.page absent c.len.ensures.valid c.push.new.self w.in-Ok-None.ensures.entries) (has_front _ _ _ c.len.ensures.valid.2)
      | in-Err w ↦ rw w.result-is tt
    ]

pub returns-clause-others : goal.returns-clause-others
returns-clause-others c =
    let absent : has (keys_of c.self.inside.pages.entries) c.args.page ≡ false = ap (λ (v : RecentView). has v.pages c.args.page) c.self.view_is ∙ c.requires in
    elim c.match-push.branch [
      | in-Ok-Some w ↦ rw (w.result-is, ← c.self.view_is, keys-put c.self.inside.pages c.args.page absent c.len.ensures.valid c.push.new.self w.in-Ok-Some.ensures.entries) (λ q. has_take _ _ q)
      | in-Ok-None w ↦ rw (w.result-is, ← c.self.view_is, keys-put c.self.inside.pages c.args.page absent c.len.ensures.valid c.push.new.self w.in-Ok-None.ensures.entries) (λ q. has_take _ _ q)
      | in-Err w ↦ rw w.result-is tt
    ]

pub returns-clause-dropped : goal.returns-clause-dropped
returns-clause-dropped c =
    let absent : has (keys_of c.self.inside.pages.entries) c.args.page ≡ false = ap (λ (v : RecentView). has v.pages c.args.page) c.self.view_is ∙ c.requires in
    elim c.match-push.branch [
      | in-Ok-Some w ↦ rw (w.result-is, ← c.self.view_is) (keys-dropped c.self.inside.pages c.args.page absent c.len.ensures.valid c.push.new.self w.in-Ok-Some.ensures.entries _ (sym w.in-Ok-Some.field-0-is ∙ w.in-Ok-Some.ensures.old))
      | in-Ok-None w ↦ rw (w.result-is, ← c.self.view_is) (keys-dropped c.self.inside.pages c.args.page absent c.len.ensures.valid c.push.new.self w.in-Ok-None.ensures.entries _ (sym w.in-Ok-None.field-0-is ∙ w.in-Ok-None.ensures.old))
      | in-Err w ↦ rw w.result-is tt
    ]
