use Rattle.std.proofs.Common.{append_assoc}
use Rattle.trace_text.specs.Texts.{reply_words}
use Rattle.trace_text.proofs.replies.put_scan.Goals as goal

pub returns-clause-text : goal.returns-clause-text
unfolding reply_words
returns-clause-text c = rw (c.put_with-3.ensures.text, c.put_with-2.ensures.text, c.put_with.ensures.text) (simp append_assoc)
