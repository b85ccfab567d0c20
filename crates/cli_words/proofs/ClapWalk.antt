-- The walk of clap over the words of tokens: it takes them, and finds their values in turn.
use Rattle.std.proofs.Common.{◌≡◌, ◌∙◌, ap, ap₂, sym, refl, subst, ℕ, Bool, true, false, ◌||◌, List, [], ◌∷◌, ◌++◌, Option, Some, None, cond, bytes_eq, option_to_list}
use Rattle.std.specs.Prelude.{⊤, fold, is_some, option_and_then}
use Rattle.std.specs.Option.{option_map_or}
use Rattle.clap.specs.Words.{Row, Rule, built, Kinds, first_of, first_value, found_of, rows_of}
use Rattle.clap.specs.declared.parser.matches.ArgMatches.{ArgMatches}
use Rattle.clap.proofs.WalkLemmas.{first_value-rows}
use Rattle.clap.specs.Simple.{Shape, names_of, entered, matches_of}
use Rattle.clap.specs.Walk.{Held, Walk, Waiting, Step, idle, option, trailing, value, has_row, settled_rows, used, walked, after_step, plain_word, long_or_other, short_or_plain, subcommand_or_other, with_default, default_rows, reading_by, is_empty, settled, finished}
use Rattle.clap.specs.Lexer.{long_of, short_of, long_of_rest, short_of_rest, strip_byte}
use Rattle.clap.specs.Faults.{settle_fault, turn_fault, walk_fault, other_fault, flag_word_fault, bundle_fault, step_fault, default_fault, defaults_fault, given_default_fault, entered_fault, check_fault, fault_of}
use Rattle.clap.specs.Kinds.{or_else}
use Rattle.cli_words.specs.Command.{tool}
use Rattle.cli_words.specs.Found.{FindsValues}
use Rattle.cli_words.specs.Names.{Text, text_of, option_text}
use Rattle.cli_words.specs.Scan.{IsPlain, IsTidy, has_come, none_came}
use Rattle.cli_words.specs.Tokens.{Token, spelling, plain, joined, apart}
use Rattle.cli_words.specs.declared.names.Argument.{Argument}
use Rattle.cli_words.specs.declared.names.Argument.TheVariants.{Positional, Named}
use Rattle.cli_words.specs.declared.names.OptionName.{OptionName}
use Rattle.cli_words.specs.declared.names.OptionName.TheVariants.{Blocks, Pages, Cache, Policy, Seed, Count}
use Rattle.cli_words.proofs.ClapRows.{Fits, rule_at, tidy_fits, value_found, with_token}
use Rattle.cli_words.proofs.TokenLemmas.{value_in, values_in-tidy}

abbrev top : Shape
top = (built tool).top

abbrev pend_of : Option (Argument × Text) → Option (Text × List Text)
pend_of None = None
pend_of (Some p) = Some (text_of p.0, p.1 ∷ [])

abbrev held_at : List Row → Option (Argument × Text) → Held
held_at rows p = record { rows = rows; pending = pend_of p; skip = 0 }

abbrev walk_at : List Row → Option (Argument × Text) → ℕ → Walk
walk_at rows p n = record { held = held_at rows p; waiting = idle; position = n; is_trailing = false; stopped = None }

abbrev rows_at : List Row → Option (Argument × Text) → List Row
rows_at rows p = settled_rows top.rules (pend_of p) rows

-- a name with its value
walked-joined : (o : OptionName) (v : Text) (rows : List Row) (p : Option (Argument × Text)) (n : ℕ)
    → walked top.rules (names_of (built tool)) (walk_at rows p n) (45 ∷ 45 ∷ (option_text o ++ 61 ∷ v))
    ≡ walk_at (used (rule_at (Named o)) (v ∷ []) (rows_at rows p)) None n
unfolding walked
walked-joined Blocks v rows p n = refl
walked-joined Pages v rows p n = refl
walked-joined Cache v rows p n = refl
walked-joined Policy v rows p n = refl
walked-joined Seed v rows p n = refl
walked-joined Count v rows p n = refl

abbrev step : Walk → Text → Walk
step w t = walked top.rules (names_of (built tool)) w t

-- ---- a word that begins, and with no hyphen

no_dashes : (w : Text) → IsPlain w → bytes_eq w (45 ∷ 45 ∷ []) ≡ false
no_dashes [] is = absurd is
no_dashes (x ∷ xs) is = rw is refl

no_long : (w : Text) → IsPlain w → long_of w ≡ None
no_long [] is = absurd is
no_long (x ∷ xs) is = ap (λ b. option_and_then long_of_rest (option_and_then (strip_byte 45) (cond b (Some xs) None))) is

no_short : (w : Text) → IsPlain w → short_of w ≡ None
no_short [] is = absurd is
no_short (x ∷ xs) is = ap (λ b. option_and_then short_of_rest (cond b (Some xs) None)) is

met_plain : (waiting : Waiting) (n : ℕ) (w : Text) (h : Held) → IsPlain w
    → subcommand_or_other top.rules None waiting n w h ≡ plain_word top.rules waiting w h
met_plain waiting n w h is =
    ap (λ b. cond b (h, trailing n) (long_or_other top.rules waiting w (long_of w) h)) (no_dashes w is)
    ∙ ap (λ o. long_or_other top.rules waiting w o h) (no_long w is)
    ∙ ap (λ o. short_or_plain top.rules waiting w o h) (no_short w is)

-- the walk after an option's name: it waits for the value
abbrev waits_at : List Row → Argument → ℕ → Walk
waits_at rows i n = record { held = record { rows = rows; pending = Some (text_of i, []); skip = 0 }; waiting = option (text_of i); position = n; is_trailing = false; stopped = None }

walked-name : (o : OptionName) (rows : List Row) (p : Option (Argument × Text)) (n : ℕ)
    → step (walk_at rows p n) (45 ∷ 45 ∷ option_text o) ≡ waits_at (rows_at rows p) (Named o) n
unfolding walked
walked-name Blocks rows p n = refl
walked-name Pages rows p n = refl
walked-name Cache rows p n = refl
walked-name Policy rows p n = refl
walked-name Seed rows p n = refl
walked-name Count rows p n = refl

plain_value : (o : OptionName) (w : Text) (rows : List Row) (n : ℕ) (met : Held × Step)
    → met ≡ plain_word top.rules (option (option_text o)) w (waits_at rows (Named o) n).held
    → after_step top.rules w (waits_at rows (Named o) n) met.0 met.1 ≡ walk_at rows (Some (Named o, w)) n
plain_value Blocks w rows n met e = ap (λ (m : Held × Step). after_step top.rules w (waits_at rows (Named Blocks) n) m.0 m.1) e
plain_value Pages w rows n met e = ap (λ (m : Held × Step). after_step top.rules w (waits_at rows (Named Pages) n) m.0 m.1) e
plain_value Cache w rows n met e = ap (λ (m : Held × Step). after_step top.rules w (waits_at rows (Named Cache) n) m.0 m.1) e
plain_value Policy w rows n met e = ap (λ (m : Held × Step). after_step top.rules w (waits_at rows (Named Policy) n) m.0 m.1) e
plain_value Seed w rows n met e = ap (λ (m : Held × Step). after_step top.rules w (waits_at rows (Named Seed) n) m.0 m.1) e
plain_value Count w rows n met e = ap (λ (m : Held × Step). after_step top.rules w (waits_at rows (Named Count) n) m.0 m.1) e

walked-value : (o : OptionName) (w : Text) (rows : List Row) (n : ℕ) → IsPlain w
    → step (waits_at rows (Named o) n) w ≡ walk_at rows (Some (Named o, w)) n
unfolding walked
walked-value o w rows n is = plain_value o w rows n _ (met_plain (option (option_text o)) n w (waits_at rows (Named o) n).held is)

-- the action
to_action : (w : Text) (rows : List Row) (p : Option (Argument × Text))
    → after_step top.rules w (walk_at rows p 1) (held_at rows p) value ≡ walk_at (rows_at rows p) (Some (Positional, w)) 2
to_action w rows None = refl
to_action w rows (Some (Positional, v)) = refl
to_action w rows (Some (Named Blocks, v)) = refl
to_action w rows (Some (Named Pages, v)) = refl
to_action w rows (Some (Named Cache, v)) = refl
to_action w rows (Some (Named Policy, v)) = refl
to_action w rows (Some (Named Seed, v)) = refl
to_action w rows (Some (Named Count, v)) = refl

walked-plain : (w : Text) (rows : List Row) (p : Option (Argument × Text)) → IsPlain w
    → step (walk_at rows p 1) w ≡ walk_at (rows_at rows p) (Some (Positional, w)) 2
unfolding walked
walked-plain w rows p is =
    ap (λ (m : Held × Step). after_step top.rules w (walk_at rows p 1) m.0 m.1) (met_plain idle 1 w (held_at rows p) is)
    ∙ to_action w rows p

-- ---- faults

abbrev HeldFits : List Row → Option (Argument × Text) → Type 0
HeldFits rows None = ⊤
HeldFits rows (Some p) = has_row (text_of p.0) rows ≡ false

-- what waits is used without a fault
settles : (rows : List Row) (p : Option (Argument × Text)) → HeldFits rows p → settle_fault top.rules false (held_at rows p) ≡ []
settles rows None h = refl
settles rows (Some (Positional, v)) h = rw h refl
settles rows (Some (Named Blocks, v)) h = rw h refl
settles rows (Some (Named Pages, v)) h = rw h refl
settles rows (Some (Named Cache, v)) h = rw h refl
settles rows (Some (Named Policy, v)) h = rw h refl
settles rows (Some (Named Seed, v)) h = rw h refl
settles rows (Some (Named Count, v)) h = rw h refl

abbrev turn : Walk → Text → Kinds
turn w t = turn_fault top (names_of (built tool)) w t

turn-joined : (o : OptionName) (v : Text) (rows : List Row) (p : Option (Argument × Text)) (n : ℕ) → settle_fault top.rules false (held_at rows p) ≡ []
    → has_row (option_text o) (rows_at rows p) ≡ false
    → turn (walk_at rows p n) (45 ∷ 45 ∷ (option_text o ++ 61 ∷ v)) ≡ []
turn-joined Blocks v rows p n s h = rw (s, h) refl
turn-joined Pages v rows p n s h = rw (s, h) refl
turn-joined Cache v rows p n s h = rw (s, h) refl
turn-joined Policy v rows p n s h = rw (s, h) refl
turn-joined Seed v rows p n s h = rw (s, h) refl
turn-joined Count v rows p n s h = rw (s, h) refl

turn-name : (o : OptionName) (rows : List Row) (p : Option (Argument × Text)) (n : ℕ) → settle_fault top.rules false (held_at rows p) ≡ []
    → turn (walk_at rows p n) (45 ∷ 45 ∷ option_text o) ≡ []
turn-name Blocks rows p n s = rw s refl
turn-name Pages rows p n s = rw s refl
turn-name Cache rows p n s = rw s refl
turn-name Policy rows p n s = rw s refl
turn-name Seed rows p n s = rw s refl
turn-name Count rows p n s = rw s refl

plain_fault : (w : Text) (h : Held) → IsPlain w → other_fault top None w h ≡ []
plain_fault w h is =
    ap (λ b. cond b [] (flag_word_fault top.rules false (long_of w) w h)) (no_dashes w is)
    ∙ ap (λ o. flag_word_fault top.rules false o w h) (no_long w is)
    ∙ ap (λ o. option_map_or (λ flags. bundle_fault top.rules false flags h) o []) (no_short w is)

value_step : (o : OptionName) (w : Text) (rows : List Row) (n : ℕ) (met : Held × Step)
    → met ≡ plain_word top.rules (option (option_text o)) w (waits_at rows (Named o) n).held
    → step_fault top n met.0 met.1 ≡ []
value_step o w rows n met e = ap (λ (m : Held × Step). step_fault top n m.0 m.1) e

turn-value : (o : OptionName) (w : Text) (rows : List Row) (n : ℕ) → IsPlain w
    → turn (waits_at rows (Named o) n) w ≡ []
turn-value o w rows n is =
    let h = (waits_at rows (Named o) n).held in
    ap₂ or_else (plain_fault w h is) (value_step o w rows n _ (met_plain (option (option_text o)) n w h is))

action_step : (rows : List Row) (p : Option (Argument × Text)) → settle_fault top.rules false (held_at rows p) ≡ [] → step_fault top 1 (held_at rows p) value ≡ []
action_step rows None s = s
action_step rows (Some (Positional, v)) s = s
action_step rows (Some (Named Blocks, v)) s = s
action_step rows (Some (Named Pages, v)) s = s
action_step rows (Some (Named Cache, v)) s = s
action_step rows (Some (Named Policy, v)) s = s
action_step rows (Some (Named Seed, v)) s = s
action_step rows (Some (Named Count, v)) s = s

turn-plain : (w : Text) (rows : List Row) (p : Option (Argument × Text)) → IsPlain w
    → settle_fault top.rules false (held_at rows p) ≡ [] → turn (walk_at rows p 1) w ≡ []
turn-plain w rows p is s =
    ap₂ or_else (plain_fault w (held_at rows p) is)
    (ap (λ (m : Held × Step). step_fault top 1 m.0 m.1) (met_plain idle 1 w (held_at rows p) is) ∙ action_step rows p s)

-- ---- all the words

abbrev End : Type 0
End = List Row × (Option (Argument × Text) × ℕ)

abbrev end_of : List Token → List Row → Option (Argument × Text) → ℕ → End
end_of [] rows p n = (rows, (p, n))
end_of (plain w ∷ ts) rows p n = end_of ts (rows_at rows p) (Some (Positional, w)) 2
end_of (joined o v ∷ ts) rows p n = end_of ts (used (rule_at (Named o)) (v ∷ []) (rows_at rows p)) None n
end_of (apart o v ∷ ts) rows p n = end_of ts (rows_at rows p) (Some (Named o, v)) n

used_at : (i : Argument) (v : Text) (rows : List Row) → rows_at rows (Some (i, v)) ≡ used (rule_at i) (v ∷ []) rows
used_at Positional v rows = refl
used_at (Named Blocks) v rows = refl
used_at (Named Pages) v rows = refl
used_at (Named Cache) v rows = refl
used_at (Named Policy) v rows = refl
used_at (Named Seed) v rows = refl
used_at (Named Count) v rows = refl

-- no word is at fault
clean : (ts : List Token) (rows : List Row) (p : Option (Argument × Text)) (n : ℕ) → HeldFits rows p → Fits ts (rows_at rows p) n
    → walk_fault top (names_of (built tool)) (walk_at rows p n) (spelling ts) ≡ []
unfolding walk_fault
clean [] rows p n h f = refl
clean (plain w ∷ ts) rows p n h f =
    subst (λ k. walk_fault top (names_of (built tool)) (walk_at rows p k) (spelling (plain w ∷ ts)) ≡ []) (sym f.1)
    (ap₂ or_else (turn-plain w rows p f.0 (settles rows p h))
    (ap (λ walk. walk_fault top (names_of (built tool)) walk (spelling ts)) (walked-plain w rows p f.0)
    ∙ clean ts (rows_at rows p) (Some (Positional, w)) 2 f.2 (subst (λ r. Fits ts r 2) (sym (used_at Positional w (rows_at rows p))) f.3)))
clean (joined o v ∷ ts) rows p n h f =
    ap₂ or_else (turn-joined o v rows p n (settles rows p h) f.0)
    (ap (λ walk. walk_fault top (names_of (built tool)) walk (spelling ts)) (walked-joined o v rows p n)
    ∙ clean ts (used (rule_at (Named o)) (v ∷ []) (rows_at rows p)) None n tt f.1)
clean (apart o v ∷ ts) rows p n h f =
    ap₂ or_else (turn-name o rows p n (settles rows p h))
    (ap (λ walk. walk_fault top (names_of (built tool)) walk (v ∷ spelling ts)) (walked-name o rows p n)
    ∙ ap₂ or_else (turn-value o v (rows_at rows p) n f.0)
    (ap (λ walk. walk_fault top (names_of (built tool)) walk (spelling ts)) (walked-value o v (rows_at rows p) n f.0)
    ∙ clean ts (rows_at rows p) (Some (Named o, v)) n f.1 (subst (λ r. Fits ts r n) (sym (used_at (Named o) v (rows_at rows p))) f.2)))

abbrev walk_end : End → Walk
walk_end e = walk_at e.0 e.1.0 e.1.1

-- where the walk ends
walks : (ts : List Token) (rows : List Row) (p : Option (Argument × Text)) (n : ℕ) → Fits ts (rows_at rows p) n
    → fold step (walk_at rows p n) (spelling ts) ≡ walk_end (end_of ts rows p n)
walks [] rows p n f = refl
walks (plain w ∷ ts) rows p n f =
    subst (λ k. fold step (walk_at rows p k) (spelling (plain w ∷ ts)) ≡ walk_end (end_of ts (rows_at rows p) (Some (Positional, w)) 2)) (sym f.1)
    (ap (λ walk. fold step walk (spelling ts)) (walked-plain w rows p f.0)
    ∙ walks ts (rows_at rows p) (Some (Positional, w)) 2 (subst (λ r. Fits ts r 2) (sym (used_at Positional w (rows_at rows p))) f.3))
walks (joined o v ∷ ts) rows p n f =
    ap (λ walk. fold step walk (spelling ts)) (walked-joined o v rows p n)
    ∙ walks ts (used (rule_at (Named o)) (v ∷ []) (rows_at rows p)) None n f.1
walks (apart o v ∷ ts) rows p n f =
    ap (λ walk. fold step (step walk v) (spelling ts)) (walked-name o rows p n)
    ∙ ap (λ walk. fold step walk (spelling ts)) (walked-value o v (rows_at rows p) n f.0)
    ∙ walks ts (rows_at rows p) (Some (Named o, v)) n (subst (λ r. Fits ts r n) (sym (used_at (Named o) v (rows_at rows p))) f.2)

-- what waits at the end has no row yet
end_fits : (ts : List Token) (rows : List Row) (p : Option (Argument × Text)) (n : ℕ) → HeldFits rows p → Fits ts (rows_at rows p) n
    → HeldFits (end_of ts rows p n).0 (end_of ts rows p n).1.0
end_fits [] rows p n h f = h
end_fits (plain w ∷ ts) rows p n h f =
    end_fits ts (rows_at rows p) (Some (Positional, w)) 2 f.2 (subst (λ r. Fits ts r 2) (sym (used_at Positional w (rows_at rows p))) f.3)
end_fits (joined o v ∷ ts) rows p n h f = end_fits ts (used (rule_at (Named o)) (v ∷ []) (rows_at rows p)) None n tt f.1
end_fits (apart o v ∷ ts) rows p n h f =
    end_fits ts (rows_at rows p) (Some (Named o, v)) n f.1 (subst (λ r. Fits ts r n) (sym (used_at (Named o) v (rows_at rows p))) f.2)

-- the rows at the end are those of the tokens in turn
end_rows : (ts : List Token) (rows : List Row) (p : Option (Argument × Text)) (n : ℕ)
    → rows_at (end_of ts rows p n).0 (end_of ts rows p n).1.0 ≡ fold with_token (rows_at rows p) ts
end_rows [] rows p n = refl
end_rows (plain w ∷ ts) rows p n =
    end_rows ts (rows_at rows p) (Some (Positional, w)) 2 ∙ ap (λ r. fold with_token r ts) (used_at Positional w (rows_at rows p))
end_rows (joined o v ∷ ts) rows p n = end_rows ts (used (rule_at (Named o)) (v ∷ []) (rows_at rows p)) None n
end_rows (apart o v ∷ ts) rows p n =
    end_rows ts (rows_at rows p) (Some (Named o, v)) n ∙ ap (λ r. fold with_token r ts) (used_at (Named o) v (rows_at rows p))

-- ---- after the words

no_default : (rows : List Row) (a : Rule) → a.defaults ≡ [] → with_default rows a ≡ rows
no_default rows a e = ap (λ d. cond (has_row a.id rows) rows (default_rows a.id (reading_by a) d rows)) e ∙ both (has_row a.id rows)
  where
    both : (b : Bool) → cond b rows rows ≡ rows
    both true = refl
    both false = refl

no_default_fault : (rows : List Row) (a : Rule) → a.defaults ≡ [] → default_fault rows a ≡ []
no_default_fault rows a e = ap (λ d. cond (has_row a.id rows || is_empty d) [] (given_default_fault a d)) e ∙ both (has_row a.id rows)
  where
    both : (b : Bool) → cond (b || true) [] (given_default_fault a []) ≡ []
    both true = refl
    both false = refl

abbrev NoDefaults : List Rule → Type 0
NoDefaults [] = ⊤
NoDefaults (a ∷ rest) = (a.defaults ≡ []) × NoDefaults rest

same_rows : (rest : List Rule) (rows : List Row) → NoDefaults rest → fold with_default rows rest ≡ rows
same_rows [] rows h = refl
same_rows (a ∷ rest) rows h = ap (λ r. fold with_default r rest) (no_default rows a h.0) ∙ same_rows rest rows h.1

same_faults : (rest : List Rule) (rows : List Row) → NoDefaults rest → defaults_fault rows rest ≡ []
unfolding defaults_fault
same_faults [] rows h = refl
same_faults (a ∷ rest) rows h = ap₂ or_else (no_default_fault rows a h.0) (ap (λ r. defaults_fault r rest) (no_default rows a h.0) ∙ same_faults rest rows h.1)

top_plain : NoDefaults top.rules
top_plain = (refl, (refl, (refl, (refl, (refl, (refl, (refl, tt)))))))

ends_clean : (rows : List Row) (p : Option (Argument × Text)) (n : ℕ) → HeldFits rows p
    → (or_else (settle_fault top.rules false (held_at rows p)) (or_else (defaults_fault (rows_at rows p) top.rules) []) ≡ [])
ends_clean rows p n h = ap₂ or_else (settles rows p h) (ap (λ k. or_else k []) (same_faults top.rules (rows_at rows p) top_plain))

-- clap takes the words of tokens that fit
pub takes_tokens : (ts : List Token) → Fits ts [] 1 → fault_of tool (spelling ts) ≡ []
takes_tokens ts f =
    let e = end_of ts [] None 1 in
    let walk_is : fold step (walk_at [] None 1) (spelling ts) ≡ walk_end e = walks ts [] None 1 f in
    ap₂ or_else (clean ts [] None 1 tt f)
    (ap (λ (w : Walk). or_else (entered_fault (built tool) w.stopped)
    (or_else (settle_fault top.rules false w.held) (or_else (defaults_fault (settled top.rules w.held).rows top.rules)
    (check_fault top (finished top.rules w.held) (is_some (entered (built tool) w.stopped)))))) walk_is
    ∙ ends_clean e.0 e.1.0 e.1.1 (end_fits ts [] None 1 tt f))

-- and its matches are the values in turn
pub rows_of_tokens : (ts : List Token) → Fits ts [] 1 → matches_of tool (spelling ts) ≡ fold with_token [] ts
rows_of_tokens ts f =
    let e = end_of ts [] None 1 in
    ap (λ (w : Walk). finished top.rules w.held) (walks ts [] None 1 f)
    ∙ same_rows top.rules (rows_at e.0 e.1.0) top_plain
    ∙ end_rows ts [] None 1

-- what clap finds for an argument is the first value that the tokens give it
found_for : (m : ArgMatches) (words : List Text) (ts : List Token) → rows_of (found_of m) ≡ matches_of tool words → words ≡ spelling ts → Fits ts [] 1
    → (a : Argument) → first_value (found_of m) (text_of a) ≡ value_in a ts
found_for m words ts rows is fits a =
    let all : rows_of (found_of m) ≡ fold with_token [] ts = rows ∙ ap (matches_of tool) is ∙ rows_of_tokens ts fits in
    first_value-rows (found_of m) (text_of a) ∙ ap (λ (l : List Row). first_of (text_of a) l) all ∙ value_found a ts fits

none_agrees : (a : Argument) → has_row (text_of a) [] ≡ has_come none_came a
none_agrees Positional = refl
none_agrees (Named Blocks) = refl
none_agrees (Named Pages) = refl
none_agrees (Named Cache) = refl
none_agrees (Named Policy) = refl
none_agrees (Named Seed) = refl
none_agrees (Named Count) = refl

pub fits_from_start : (ts : List Token) → IsTidy none_came ts → Fits ts [] 1
fits_from_start ts tidy = tidy_fits ts none_came [] 1 none_agrees (λ _. refl) tidy

pub finds_values : (m : ArgMatches) (words : List Text) → rows_of (found_of m) ≡ matches_of tool words → FindsValues words m
finds_values m words rows ts is tidy a =
    values_in-tidy ts none_came a tidy ∙ ap (λ (o : Option Text). option_to_list o) (sym (found_for m words ts rows is (fits_from_start ts tidy) a))
