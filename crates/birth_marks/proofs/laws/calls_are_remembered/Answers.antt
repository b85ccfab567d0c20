use Rattle.birth_marks.proofs.CallLemmas.{changed_remembered, fixed_remembered, nothing_remembered, same_remembered, tried_remembered, unborn_remembered, written_remembered}
use Rattle.birth_marks.proofs.laws.calls_are_remembered.Goals as goal

pub returns : goal.returns
returns c = record {
  nothing = nothing_remembered;
  same = same_remembered;
  changed = λ place b c calls slot at from to is on k. changed_remembered place b c calls is slot at from to on k;
  tried = λ place b c calls at is k. tried_remembered place b c calls is at k;
  written = λ place b c calls at is k. written_remembered place b c calls is at k;
  fixed = fixed_remembered;
  unborn = λ place b calls slot value is. unborn_remembered place b calls is slot value;
}
