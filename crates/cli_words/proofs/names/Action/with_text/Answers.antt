use Rattle.std.proofs.Common.{arith, ap, codes, sym}
use Rattle.std.proofs.lemmas.Slice.Eq.{text_from_reads}
use Rattle.cli_words.specs.Names.{action_with_text}
use Rattle.cli_words.proofs.names.Action.with_text.Goals as goal

pub returns-in-format : goal.returns-in-format
returns-in-format c =
    sym (ap action_with_text (text_from_reads c.args.text.now (codes "format") (omega arith)
    (omega arith, (omega arith, (omega arith, (omega arith, (omega arith, (omega arith, tt))))))))

pub returns-in-vtrace : goal.returns-in-vtrace
returns-in-vtrace c =
    sym (ap action_with_text (text_from_reads c.args.text.now (codes "vtrace") (omega arith)
    (omega arith, (omega arith, (omega arith, (omega arith, (omega arith, (omega arith, tt))))))))

pub returns-in-upgrade : goal.returns-in-upgrade
returns-in-upgrade c =
    sym (ap action_with_text (text_from_reads c.args.text.now (codes "upgrade") (omega arith)
    (omega arith, (omega arith, (omega arith, (omega arith, (omega arith, (omega arith, (omega arith, tt)))))))))
