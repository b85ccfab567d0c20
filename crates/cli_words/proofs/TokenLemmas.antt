-- What tidy tokens give each argument, and which tokens are tidy.
use Rattle.std.proofs.Common.{◌≡◌, ◌∙◌, ap, sym, refl, subst, true≢false, Bool, true, false, ◌||◌, List, [], ◌∷◌, Some, None, cond, bytes_eq, option_to_list}
use Rattle.std.specs.Prelude.{⊤, Option}
use Rattle.cli_words.specs.Names.{Text, text_of}
use Rattle.cli_words.specs.Scan.{IsPlain, IsTidy, has_come, marked, none_came}
use Rattle.cli_words.specs.Tokens.{Token, argument_of, value_of, values_in, plain, joined, apart}
use Rattle.cli_words.specs.declared.names.Argument.{Argument}
use Rattle.cli_words.specs.declared.names.Argument.TheVariants.{Positional, Named}
use Rattle.cli_words.specs.declared.names.OptionName.TheVariants.{Blocks, Pages, Cache, Policy, Seed, Count}
use Rattle.cli_words.specs.declared.scan.Came.{Came}

pub has_come-marked : (came : Came) (a b : Argument) → has_come (marked came a) b ≡ (bytes_eq (text_of a) (text_of b) || has_come came b)
has_come-marked came Positional Positional = refl
has_come-marked came Positional (Named Blocks) = refl
has_come-marked came (Named Blocks) (Named Blocks) = refl
has_come-marked came (Named Pages) (Named Pages) = refl
has_come-marked came (Named Cache) (Named Cache) = refl
has_come-marked came (Named Policy) (Named Policy) = refl
has_come-marked came (Named Seed) (Named Seed) = refl
has_come-marked came (Named Count) (Named Count) = refl
has_come-marked came _ _ = refl

-- an argument is told by its name
same_argument : (a b : Argument) → bytes_eq (text_of a) (text_of b) ≡ true → a ≡ b
same_argument Positional Positional e = refl
same_argument Positional (Named Blocks) e = absurd cc
same_argument (Named Blocks) (Named Blocks) e = refl
same_argument (Named Pages) (Named Pages) e = refl
same_argument (Named Cache) (Named Cache) e = refl
same_argument (Named Policy) (Named Policy) e = refl
same_argument (Named Seed) (Named Seed) e = refl
same_argument (Named Count) (Named Count) e = refl
same_argument _ _ e = absurd cc

same_name : (a : Argument) → bytes_eq (text_of a) (text_of a) ≡ true
same_name Positional = refl
same_name (Named Blocks) = refl
same_name (Named Pages) = refl
same_name (Named Cache) = refl
same_name (Named Policy) = refl
same_name (Named Seed) = refl
same_name (Named Count) = refl

or_true : (b : Bool) → (b || true) ≡ true
or_true true = refl
or_true false = refl

-- ---- tidy tokens give each argument one value at most

tidy_rest : (t : Token) (ts : List Token) (came : Came) → IsTidy came (t ∷ ts) → (has_come came (argument_of t) ≡ false) × IsTidy (marked came (argument_of t)) ts
tidy_rest (plain w) ts came tidy = (tidy.1, tidy.2)
tidy_rest (joined o v) ts came tidy = (tidy.0, tidy.1)
tidy_rest (apart o v) ts came tidy = (tidy.1, tidy.2)

-- what came before gets none
none_left : (ts : List Token) (came : Came) (a : Argument) → has_come came a ≡ true → IsTidy came ts → values_in a ts ≡ []
none_left [] came a come tidy = refl
none_left (t ∷ ts) came a come tidy =
    go (bytes_eq (text_of (argument_of t)) (text_of a)) refl
    (none_left ts (marked came (argument_of t)) a
    (has_come-marked came (argument_of t) a ∙ ap (λ h. bytes_eq (text_of (argument_of t)) (text_of a) || h) come ∙ or_true _)
    (tidy_rest t ts came tidy).1)
  where
    go : (b : Bool) → bytes_eq (text_of (argument_of t)) (text_of a) ≡ b → values_in a ts ≡ [] → cond b (value_of t ∷ values_in a ts) (values_in a ts) ≡ []
    go true same rest = absurd (true≢false (sym come ∙ sym (ap (has_come came) (same_argument (argument_of t) a same)) ∙ (tidy_rest t ts came tidy).0))
    go false other rest = rest

-- the value of the first token with this argument
abbrev pub value_in : Argument → List Token → Option Text
value_in a [] = None
value_in a (t ∷ ts) = cond (bytes_eq (text_of (argument_of t)) (text_of a)) (Some (value_of t)) (value_in a ts)

pub values_in-tidy : (ts : List Token) (came : Came) (a : Argument) → IsTidy came ts → values_in a ts ≡ option_to_list (value_in a ts)
values_in-tidy [] came a tidy = refl
values_in-tidy (t ∷ ts) came a tidy =
    go (bytes_eq (text_of (argument_of t)) (text_of a)) refl (values_in-tidy ts (marked came (argument_of t)) a (tidy_rest t ts came tidy).1)
  where
    go : (b : Bool) → bytes_eq (text_of (argument_of t)) (text_of a) ≡ b → values_in a ts ≡ option_to_list (value_in a ts)
        → cond b (value_of t ∷ values_in a ts) (values_in a ts) ≡ option_to_list (cond b (Some (value_of t)) (value_in a ts))
    go true same rest =
        ap (λ vs. value_of t ∷ vs) (none_left ts (marked came (argument_of t)) a
        (has_come-marked came (argument_of t) a ∙ ap (λ h. h || has_come came a) same) (tidy_rest t ts came tidy).1)
    go false other rest = rest

-- ---- tokens that give each argument one plain value at most are tidy

-- no value, or one that begins with no hyphen
abbrev pub IsOnePlain : List Text → Type 0
IsOnePlain [] = ⊤
IsOnePlain (v ∷ []) = IsPlain v
IsOnePlain (v ∷ w ∷ vs) = ⊥

abbrev MayCome : Came → Argument → List Text → Type 0
MayCome came a values = (has_come came a ≡ true → values ≡ []) × IsOnePlain values

first_plain : (v : Text) (vs : List Text) → IsOnePlain (v ∷ vs) → IsPlain v × (vs ≡ [])
first_plain v [] one = (one, refl)
first_plain v (w ∷ vs) one = absurd one

abbrev AllMayCome : Came → List Token → Type 0
AllMayCome came ts = (a : Argument) → MayCome came a (values_in a ts)

head_value : (t : Token) (ts : List Token) (came : Came) → AllMayCome came (t ∷ ts)
    → MayCome came (argument_of t) (value_of t ∷ values_in (argument_of t) ts)
head_value t ts came may =
    subst (λ b. MayCome came (argument_of t) (cond b (value_of t ∷ values_in (argument_of t) ts) (values_in (argument_of t) ts)))
    (same_name (argument_of t)) (may (argument_of t))

head_fresh : (t : Token) (ts : List Token) (came : Came) → AllMayCome came (t ∷ ts) → has_come came (argument_of t) ≡ false
head_fresh t ts came may = go (has_come came (argument_of t)) refl
  where
    go : (b : Bool) → has_come came (argument_of t) ≡ b → b ≡ false
    go true come = let none = (head_value t ts came may).0 come in absurd cc
    go false come = refl

head_plain : (t : Token) (ts : List Token) (came : Came) → AllMayCome came (t ∷ ts) → IsPlain (value_of t) × (values_in (argument_of t) ts ≡ [])
head_plain t ts came may = first_plain (value_of t) (values_in (argument_of t) ts) (head_value t ts came may).1

rest_may : (t : Token) (ts : List Token) (came : Came) → AllMayCome came (t ∷ ts) → AllMayCome (marked came (argument_of t)) ts
rest_may t ts came may a = go (bytes_eq (text_of (argument_of t)) (text_of a)) refl
  where
    go : (b : Bool) → bytes_eq (text_of (argument_of t)) (text_of a) ≡ b → MayCome (marked came (argument_of t)) a (values_in a ts)
    go true same =
        let none : values_in a ts ≡ [] = subst (λ x. values_in x ts ≡ []) (same_argument (argument_of t) a same) (head_plain t ts came may).1 in
        (λ come. none, subst IsOnePlain (sym none) tt)
    go false other =
        let there : MayCome came a (values_in a ts) = subst (λ b. MayCome came a (cond b (value_of t ∷ values_in a ts) (values_in a ts))) other (may a) in
        (λ come. there.0 (sym (has_come-marked came (argument_of t) a ∙ ap (λ h. h || has_come came a) other) ∙ come), there.1)

tidy_from : (ts : List Token) (came : Came) → AllMayCome came ts → IsTidy came ts
tidy_from [] came may = tt
tidy_from (plain w ∷ ts) came may =
    ((head_plain (plain w) ts came may).0, head_fresh (plain w) ts came may, tidy_from ts (marked came Positional) (rest_may (plain w) ts came may))
tidy_from (joined o v ∷ ts) came may =
    (head_fresh (joined o v) ts came may, tidy_from ts (marked came (Named o)) (rest_may (joined o v) ts came may))
tidy_from (apart o v ∷ ts) came may =
    ((head_plain (apart o v) ts came may).0, head_fresh (apart o v) ts came may, tidy_from ts (marked came (Named o)) (rest_may (apart o v) ts came may))

pub tidy_from_values : (ts : List Token) → ((a : Argument) → IsOnePlain (values_in a ts)) → IsTidy none_came ts
tidy_from_values ts one = tidy_from ts none_came (λ a. (λ come. absurd (true≢false (sym come ∙ fresh a)), one a))
  where
    fresh : (a : Argument) → has_come none_came a ≡ false
    fresh Positional = refl
    fresh (Named Blocks) = refl
    fresh (Named Pages) = refl
    fresh (Named Cache) = refl
    fresh (Named Policy) = refl
    fresh (Named Seed) = refl
    fresh (Named Count) = refl
