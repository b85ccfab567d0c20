use Rattle.std.proofs.Common.{arith, ap, codes, sym}
use Rattle.std.proofs.lemmas.Slice.Eq.{text_from_reads}
use Rattle.cli_words.specs.Names.{option_with_text}
use Rattle.cli_words.proofs.names.OptionName.with_text.Goals as goal

pub returns-in-blocks : goal.returns-in-blocks
returns-in-blocks c =
    sym (ap option_with_text (text_from_reads c.args.text.now (codes "blocks") (omega arith)
    (omega arith, (omega arith, (omega arith, (omega arith, (omega arith, (omega arith, tt))))))))

pub returns-in-policy : goal.returns-in-policy
returns-in-policy c =
    sym (ap option_with_text (text_from_reads c.args.text.now (codes "policy") (omega arith)
    (omega arith, (omega arith, (omega arith, (omega arith, (omega arith, (omega arith, tt))))))))
