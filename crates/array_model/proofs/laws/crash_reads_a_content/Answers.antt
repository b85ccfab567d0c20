use Rattle.std.proofs.Common.{⊎_elim, take}
use Rattle.array_model.specs.Images.{block_of}
use Rattle.array_model.specs.Turns.{array_after_works, ended_works, work_at, work_writes, content_list}
use Rattle.array_model.proofs.CrashLemmas.{among_front, among_behind, is_content}
use Rattle.array_model.proofs.laws.crash_reads_a_content.Goals as goal

pub returns : goal.returns
returns c = λ mode rules a start works k image survives left block lt.
    let now = array_after_works mode rules a (take (ended_works mode rules k works) works) in
    let written = work_writes now (work_at mode rules k works) block in
    let content = block_of image block in
    ⊎_elim
    (λ allowed. among_front content (now.lists block) (content_list written) allowed)
    (λ is. among_behind content (now.lists block) (content_list written) (is_content written content is))
    ((survives k image left).reads block lt)
