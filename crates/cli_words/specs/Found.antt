-- The values that were found for the arguments.
use Rattle.std.specs.Prelude.{◌≡◌, List, option_to_list}
use Rattle.clap.specs.Words.{first_value, found_of}
use Rattle.clap.specs.declared.parser.matches.ArgMatches.{ArgMatches}
use Rattle.cli_words.specs.Names.{Text, text_of}
use Rattle.cli_words.specs.Scan.{IsTidy, none_came}
use Rattle.cli_words.specs.Tokens.{Token, spelling, values_in}
use Rattle.cli_words.specs.declared.names.Argument.{Argument}

-- the value of an argument in what `clap` found, if any
abbrev pub values_found : ArgMatches → Argument → List Text
values_found m a = option_to_list (first_value (found_of m) (text_of a))

-- whatever tidy tokens have these words, what was found for each argument is what they give it
abbrev pub FindsValues : List Text → ArgMatches → Type 0
FindsValues words m = (ts : List Token) → words ≡ spelling ts → IsTidy none_came ts → (a : Argument) → values_in a ts ≡ values_found m a
