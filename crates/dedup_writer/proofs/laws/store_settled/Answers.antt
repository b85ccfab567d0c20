use Rattle.dedup_writer.proofs.Numbers.{only_image, reads_last}
use Rattle.dedup_writer.proofs.laws.store_settled.Goals as goal

pub returns-clause-image : goal.returns-clause-image
returns-clause-image c = λ core d was image is. only_image d.state image was.rest is

pub returns-clause-reads : goal.returns-clause-reads
returns-clause-reads c = λ mode core d a sf was block lt. reads_last mode core d a sf was block lt
