-- For how long each dirty page was dirty, and how often it was edited since.
use Rattle.std.specs.Prelude.{ℕ, ◌+◌, cond, eqb, nat_lt, min, List, [], ◌∷◌}
use Rattle.flush_engine.specs.declared.tallies.Tally.{Tally}

abbrev pub page_of : Tally → ℕ
page_of t = t.page

-- one turn longer; the last number stands still
abbrev pub older : Tally → Tally
older t = record t { age = min (t.age + 1) 18446744073709551615 }

-- one edit more; the last number stands still
abbrev pub with_edit : Tally → Tally
with_edit t = record t { edits = min (t.edits + 1) 4294967295 }

abbrev pub first_edit : ℕ → Tally
first_edit page = record { page = page; age = 0; edits = 1 }

-- one edit of a page is counted, and it comes in where it is not there
unfoldable pub counted : ℕ → List Tally → List Tally
counted page [] = first_edit page ∷ []
counted page (t ∷ ts) = cond (nat_lt t.page page) (t ∷ counted page ts) (cond (eqb t.page page) (with_edit t ∷ ts) (first_edit page ∷ t ∷ ts))

-- all but this page
unfoldable pub left_out : ℕ → List Tally → List Tally
left_out page [] = []
left_out page (t ∷ ts) = cond (nat_lt t.page page) (t ∷ left_out page ts) (cond (eqb t.page page) ts (t ∷ ts))

-- the tally of a page, and no age and no edit where it is not there
unfoldable pub tally_of : ℕ → List Tally → Tally
tally_of page [] = record { page = page; age = 0; edits = 0 }
tally_of page (t ∷ ts) = cond (eqb t.page page) t (tally_of page ts)
