-- Words by their first characters: names and the words of their values take turns, and no argument comes twice.
use Rattle.std.specs.Prelude.{◌≡◌, ◌==◌, ⊤, ℕ, Bool, true, false, not, List, [], ◌∷◌, Option, Some, None, cond, is_some}
use Rattle.std.specs.Option.{option_map_or}
use Rattle.std.specs.List.{before_first, position}
use Rattle.cli_words.specs.Names.{Text, option_with_text}
use Rattle.cli_words.specs.Tokens.{Token, spelling, plain, joined, apart}
use Rattle.cli_words.specs.declared.names.Argument.{Argument}
use Rattle.cli_words.specs.declared.names.Argument.TheVariants.{Positional, Named}
use Rattle.cli_words.specs.declared.names.OptionName.{OptionName}
use Rattle.cli_words.specs.declared.names.OptionName.TheVariants.{Blocks, Pages, Cache, Policy, Seed, Count}
use Rattle.cli_words.specs.declared.scan.Came.{Came}
use Rattle.cli_words.specs.declared.scan.Scan.{Scan}
use Rattle.cli_words.specs.declared.scan.WordKind.{WordKind}
use Rattle.cli_words.specs.declared.scan.WordKind.TheVariants.{Plain, Name, NameAndValue, Strange}

abbrev pub is_equals : ℕ → Bool
is_equals c = c == 61

abbrev pub named_kind : Option OptionName → Bool → WordKind
named_kind None has_value = Strange
named_kind (Some o) true = NameAndValue o
named_kind (Some o) false = Name o

-- what follows two hyphens
abbrev pub body_kind : Text → WordKind
body_kind body = named_kind (option_with_text (before_first is_equals body)) (is_some (position is_equals body))

-- what follows one hyphen
abbrev pub hyphen_kind : Text → WordKind
hyphen_kind [] = Strange
hyphen_kind (c ∷ cs) = cond (c == 45) (body_kind cs) Strange

abbrev pub kind_of : Text → WordKind
kind_of [] = Strange
kind_of (c ∷ cs) = cond (c == 45) (hyphen_kind cs) Plain

-- it begins, and not with a hyphen
abbrev pub IsPlain : Text → Type 0
IsPlain [] = ⊥
IsPlain (c ∷ cs) = (c == 45) ≡ false

-- whether an argument came
abbrev pub has_come : Came → Argument → Bool
has_come came Positional = came.action
has_come came (Named Blocks) = came.blocks
has_come came (Named Pages) = came.pages
has_come came (Named Cache) = came.cache
has_come came (Named Policy) = came.policy
has_come came (Named Seed) = came.seed
has_come came (Named Count) = came.count

abbrev pub marked : Came → Argument → Came
marked came Positional = record came { action = true }
marked came (Named Blocks) = record came { blocks = true }
marked came (Named Pages) = record came { pages = true }
marked came (Named Cache) = record came { cache = true }
marked came (Named Policy) = record came { policy = true }
marked came (Named Seed) = record came { seed = true }
marked came (Named Count) = record came { count = true }

abbrev pub none_came : Came
none_came = record { action = false; blocks = false; pages = false; cache = false; policy = false; seed = false; count = false }

-- after the value of the option that came last
abbrev pub after_value : Scan → WordKind → Option Scan
after_value s Plain = Some (record { came = s.came; waits = false })
after_value s (Name o) = None
after_value s (NameAndValue o) = None
after_value s Strange = None

-- after an argument, which must not have come before
abbrev pub after_argument : Scan → Argument → Bool → Option Scan
after_argument s a waits = cond (has_come s.came a) None (Some (record { came = marked s.came a; waits = waits }))

abbrev pub after_kind : Scan → WordKind → Option Scan
after_kind s Plain = after_argument s Positional false
after_kind s (Name o) = after_argument s (Named o) true
after_kind s (NameAndValue o) = after_argument s (Named o) false
after_kind s Strange = None

-- after one more word
abbrev pub after : Scan → Text → Option Scan
after s w = cond s.waits (after_value s (kind_of w)) (after_kind s (kind_of w))

-- whether the words may come after what was read, and end the line
abbrev pub ends_well : Scan → List Text → Bool
ends_well s [] = not s.waits
ends_well s (w ∷ ws) = option_map_or (λ next. ends_well next ws) (after s w) false

-- No plain word begins with a hyphen, nor does a value in a word of its own, and none of these is empty; each argument
-- comes once at most, and not where it came before.
abbrev pub IsTidy : Came → List Token → Type 0
IsTidy came [] = ⊤
IsTidy came (plain w ∷ ts) = IsPlain w × (has_come came Positional ≡ false) × IsTidy (marked came Positional) ts
IsTidy came (joined o v ∷ ts) = (has_come came (Named o) ≡ false) × IsTidy (marked came (Named o)) ts
IsTidy came (apart o v ∷ ts) = IsPlain v × (has_come came (Named o) ≡ false) × IsTidy (marked came (Named o)) ts

-- the words are those of tidy tokens
pub record TidyTokens (came : Came) (words : List Text) : Type 0 where
  pub tokens : List Token
  pub spelled : words ≡ spelling tokens
  pub tidy : IsTidy came tokens

-- Names and the words of their values take turns, every other word that begins with a hyphen is `--name=VALUE`, and no
-- argument comes twice.
abbrev pub AreTidy : List Text → Type 0
AreTidy words = TidyTokens none_came words
