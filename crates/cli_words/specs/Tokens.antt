-- The words of a command line as tokens: what each word, or a name and the word after it, stands for.
use Rattle.std.specs.Prelude.{List, [], ◌∷◌, ◌++◌, cond}
use Rattle.std.specs.Str.{bytes_eq}
use Rattle.cli_words.specs.Names.{Text, text_of, option_text}
use Rattle.cli_words.specs.declared.names.Argument.{Argument}
use Rattle.cli_words.specs.declared.names.Argument.TheVariants.{Positional, Named}
use Rattle.cli_words.specs.declared.names.OptionName.{OptionName}

-- a word that is no part of an option; `--name=VALUE`; `--name` and the word VALUE
pub data Token : Type 0 where
  plain : Text → Token
  joined : OptionName → Text → Token
  apart : OptionName → Text → Token

-- `--name`
abbrev pub dashed : OptionName → Text
dashed o = 45 ∷ 45 ∷ option_text o

-- `--name=VALUE`
abbrev pub dashed_value : OptionName → Text → Text
dashed_value o v = 45 ∷ 45 ∷ (option_text o ++ 61 ∷ v)

-- the words that tokens stand for
abbrev pub spelling : List Token → List Text
spelling [] = []
spelling (plain w ∷ ts) = w ∷ spelling ts
spelling (joined o v ∷ ts) = dashed_value o v ∷ spelling ts
spelling (apart o v ∷ ts) = dashed o ∷ v ∷ spelling ts

abbrev pub argument_of : Token → Argument
argument_of (plain w) = Positional
argument_of (joined o v) = Named o
argument_of (apart o v) = Named o

abbrev pub value_of : Token → Text
value_of (plain w) = w
value_of (joined o v) = v
value_of (apart o v) = v

-- the values that tokens give an argument, in turn; arguments are told apart by their names
abbrev pub values_in : Argument → List Token → List Text
values_in a [] = []
values_in a (t ∷ ts) = cond (bytes_eq (text_of (argument_of t)) (text_of a)) (value_of t ∷ values_in a ts) (values_in a ts)
