-- The rows that clap finds for tokens: one for each token, in turn.
use Rattle.std.proofs.Common.{◌≡◌, ◌∙◌, ap, sym, refl, true≢false, append_assoc, ℕ, Bool, true, false, ◌||◌, List, [], ◌∷◌, ◌++◌, Some, None, codes, cond, bytes_eq}
use Rattle.std.specs.Prelude.{⊤, fold, find, option_and_then, slice_get}
use Rattle.clap.specs.Words.{Row, Rule, first_of, new_rule}
use Rattle.clap.specs.Simple.{filled, with_index}
use Rattle.clap.specs.Walk.{at_row, has_row, used, with_values, without, more_values, reading_by}
use Rattle.clap.specs.declared.builder.value_parser.Reading.{Reading}
use Rattle.clap.specs.declared.parser.matches.ValueSource.TheVariants.{CommandLine}
use Rattle.cli_words.specs.Command.{option_rule}
use Rattle.cli_words.specs.Names.{Text, text_of, option_text}
use Rattle.cli_words.specs.Scan.{IsPlain, IsTidy, has_come, marked}
use Rattle.cli_words.specs.Tokens.{Token, argument_of, value_of, plain, joined, apart}
use Rattle.cli_words.proofs.TokenLemmas.{has_come-marked, value_in}
use Rattle.cli_words.specs.declared.names.Argument.{Argument}
use Rattle.cli_words.specs.declared.names.Argument.TheVariants.{Positional, Named}
use Rattle.cli_words.specs.declared.names.OptionName.{OptionName}
use Rattle.cli_words.specs.declared.names.OptionName.TheVariants.{Blocks, Pages, Cache, Policy, Seed, Count}
use Rattle.cli_words.specs.declared.scan.Came.{Came}

-- the rule of an argument as it is built
abbrev pub rule_at : Argument → Rule
rule_at Positional = with_index 1 (filled (new_rule (codes "action")))
rule_at (Named Blocks) = filled (option_rule (codes "blocks"))
rule_at (Named Pages) = filled (option_rule (codes "pages"))
rule_at (Named Cache) = filled (option_rule (codes "cache"))
rule_at (Named Policy) = filled (option_rule (codes "policy"))
rule_at (Named Seed) = filled (option_rule (codes "seed"))
rule_at (Named Count) = filled (option_rule (codes "count"))

abbrev pub with_token : List Row → Token → List Row
with_token rows t = used (rule_at (argument_of t)) (value_of t ∷ []) rows

-- no argument comes twice, and the action comes at position 1
abbrev pub Fits : List Token → List Row → ℕ → Type 0
Fits [] rows n = ⊤
Fits (plain w ∷ ts) rows n = IsPlain w × (n ≡ 1) × (has_row (codes "action") rows ≡ false) × Fits ts (with_token rows (plain w)) 2
Fits (joined o v ∷ ts) rows n = (has_row (option_text o) rows ≡ false) × Fits ts (with_token rows (joined o v)) n
Fits (apart o v ∷ ts) rows n = IsPlain v × (has_row (option_text o) rows ≡ false) × Fits ts (with_token rows (apart o v)) n

abbrev pub row_at : Argument → Text → Row
row_at a v = record { id = text_of a; values = v ∷ []; count = None; source = Some CommandLine; reading = reading_by (rule_at a) }

abbrev token_row : Token → Row
token_row t = row_at (argument_of t) (value_of t)

-- ---- an argument that has no row yet gets the last one

at_row-head : (b rest : Bool) (r : Row) (rs missing there : List Row) (change : Row → List Row) → (b || rest) ≡ false
    → (rest ≡ false → there ≡ rs ++ missing) → cond b (change r ++ rs) (r ∷ there) ≡ r ∷ (rs ++ missing)
at_row-head true rest r rs missing there change e go = absurd (true≢false e)
at_row-head false rest r rs missing there change e go = ap (λ l. r ∷ l) (go e)

at_row-fresh : (id : Text) (change : Row → List Row) (missing rows : List Row) → has_row id rows ≡ false → at_row id change missing rows ≡ rows ++ missing
at_row-fresh id change missing [] h = refl
at_row-fresh id change missing (r ∷ rs) h =
    at_row-head (bytes_eq r.id id) (has_row id rs) r rs missing (at_row id change missing rs) change h (at_row-fresh id change missing rs)

append_none : (rows : List Row) → rows ++ [] ≡ rows
append_none [] = refl
append_none (r ∷ rs) = ap (λ l. r ∷ l) (append_none rs)

set-fresh : (id : Text) (how : Reading) (v : Text) (rows : List Row) → has_row id rows ≡ false
    → with_values id how CommandLine (v ∷ []) (without id rows) ≡ rows ++ record { id = id; values = v ∷ []; count = None; source = Some CommandLine; reading = how } ∷ []
set-fresh id how v rows h =
    ap (with_values id how CommandLine (v ∷ [])) (at_row-fresh id (λ _. []) [] rows h ∙ append_none rows) ∙ at_row-fresh id (more_values CommandLine (v ∷ [])) _ rows h

used-fresh : (a : Argument) (v : Text) (rows : List Row) → has_row (text_of a) rows ≡ false → used (rule_at a) (v ∷ []) rows ≡ rows ++ row_at a v ∷ []
used-fresh Positional v rows h = set-fresh _ _ v rows h
used-fresh (Named Blocks) v rows h = set-fresh _ _ v rows h
used-fresh (Named Pages) v rows h = set-fresh _ _ v rows h
used-fresh (Named Cache) v rows h = set-fresh _ _ v rows h
used-fresh (Named Policy) v rows h = set-fresh _ _ v rows h
used-fresh (Named Seed) v rows h = set-fresh _ _ v rows h
used-fresh (Named Count) v rows h = set-fresh _ _ v rows h

-- ---- tidy tokens fit

-- what came so far are the arguments that have rows
abbrev Agrees : Came → List Row → Type 0
Agrees came rows = (a : Argument) → has_row (text_of a) rows ≡ has_come came a

has_row-last : (id : Text) (r : Row) (rows : List Row) → has_row id (rows ++ r ∷ []) ≡ (bytes_eq r.id id || has_row id rows)
has_row-last id r [] = refl
has_row-last id r (x ∷ rows) = ap (λ b. bytes_eq x.id id || b) (has_row-last id r rows) ∙ swap_or (bytes_eq x.id id) (bytes_eq r.id id) (has_row id rows)
  where
    swap_or : (x y z : Bool) → (x || (y || z)) ≡ (y || (x || z))
    swap_or true true z = refl
    swap_or true false z = refl
    swap_or false y z = refl

agrees_next : (came : Came) (a : Argument) (v : Text) (rows : List Row) → Agrees came rows → has_come came a ≡ false
    → Agrees (marked came a) (used (rule_at a) (v ∷ []) rows)
agrees_next came a v rows agrees fresh b =
    ap (has_row (text_of b)) (used-fresh a v rows (agrees a ∙ fresh)) ∙ has_row-last (text_of b) (row_at a v) rows
    ∙ ap (λ h. bytes_eq (text_of a) (text_of b) || h) (agrees b) ∙ sym (has_come-marked came a b)

stays_first : (came : Came) (o : OptionName) (n : ℕ) → (came.action ≡ false → n ≡ 1) → (marked came (Named o)).action ≡ false → n ≡ 1
stays_first came Blocks n h = h
stays_first came Pages n h = h
stays_first came Cache n h = h
stays_first came Policy n h = h
stays_first came Seed n h = h
stays_first came Count n h = h

pub tidy_fits : (ts : List Token) (came : Came) (rows : List Row) (n : ℕ) → Agrees came rows → (came.action ≡ false → n ≡ 1) → IsTidy came ts → Fits ts rows n
tidy_fits [] came rows n agrees first tidy = tt
tidy_fits (plain w ∷ ts) came rows n agrees first tidy = (
  tidy.0,
  first tidy.1,
  agrees Positional ∙ tidy.1,
  tidy_fits ts (marked came Positional) (with_token rows (plain w)) 2 (agrees_next came Positional w rows agrees tidy.1) (λ e. absurd (true≢false e)) tidy.2,
)
tidy_fits (joined o v ∷ ts) came rows n agrees first tidy = (
  agrees (Named o) ∙ tidy.0,
  tidy_fits ts (marked came (Named o)) (with_token rows (joined o v)) n (agrees_next came (Named o) v rows agrees tidy.0) (stays_first came o n first) tidy.1,
)
tidy_fits (apart o v ∷ ts) came rows n agrees first tidy = (
  tidy.0,
  agrees (Named o) ∙ tidy.1,
  tidy_fits ts (marked came (Named o)) (with_token rows (apart o v)) n (agrees_next came (Named o) v rows agrees tidy.1) (stays_first came o n first) tidy.2,
)

-- ---- what clap finds for an argument is the first value that the tokens give it

abbrev rows_of_all : List Token → List Row
rows_of_all [] = []
rows_of_all (t ∷ ts) = token_row t ∷ rows_of_all ts

push_all : (t : Token) (ts : List Token) (rows : List Row) → (rows ++ token_row t ∷ []) ++ rows_of_all ts ≡ rows ++ rows_of_all (t ∷ ts)
push_all t ts rows = append_assoc rows (token_row t ∷ []) (rows_of_all ts)

rows_in_turn : (ts : List Token) (rows : List Row) (n : ℕ) → Fits ts rows n → fold with_token rows ts ≡ rows ++ rows_of_all ts
rows_in_turn [] rows n f = sym (append_none rows)
rows_in_turn (plain w ∷ ts) rows n f =
    rows_in_turn ts (with_token rows (plain w)) 2 f.3
    ∙ ap (λ l. l ++ rows_of_all ts) (used-fresh Positional w rows f.2) ∙ push_all (plain w) ts rows
rows_in_turn (joined o v ∷ ts) rows n f =
    rows_in_turn ts (with_token rows (joined o v)) n f.1
    ∙ ap (λ l. l ++ rows_of_all ts) (used-fresh (Named o) v rows f.0) ∙ push_all (joined o v) ts rows
rows_in_turn (apart o v ∷ ts) rows n f =
    rows_in_turn ts (with_token rows (apart o v)) n f.2
    ∙ ap (λ l. l ++ rows_of_all ts) (used-fresh (Named o) v rows f.1) ∙ push_all (apart o v) ts rows

first_of_all : (a : Argument) (ts : List Token) → first_of (text_of a) (rows_of_all ts) ≡ value_in a ts
first_of_all a [] = refl
first_of_all a (t ∷ ts) = go (bytes_eq (text_of (argument_of t)) (text_of a)) (first_of_all a ts)
  where
    go : (b : Bool) → first_of (text_of a) (rows_of_all ts) ≡ value_in a ts
        → option_and_then (λ (r : Row). slice_get r.values 0) (cond b (Some (token_row t)) (find (λ r. bytes_eq r.id (text_of a)) (rows_of_all ts))) ≡ cond b (Some (value_of t)) (value_in a ts)
    go true e = refl
    go false e = e

pub value_found : (a : Argument) (ts : List Token) → Fits ts [] 1 → first_of (text_of a) (fold with_token [] ts) ≡ value_in a ts
value_found a ts f = ap (first_of (text_of a)) (rows_in_turn ts [] 1 f) ∙ first_of_all a ts
