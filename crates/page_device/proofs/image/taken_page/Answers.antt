use Rattle.page_device.proofs.Rebuilds.{takes_none, takes_one, barrier_takes_none}
use Rattle.page_device.proofs.image.taken_page.Goals as goal

pub returns-in-Refused : goal.returns-in-Refused
returns-in-Refused c = takes_none c.args.entry.now c.in-Write.page c.in-Write.from c.in-Write.end c.in-Write.is c.in-Refused.is

pub returns-in-Done : goal.returns-in-Done
returns-in-Done c = takes_one c.args.entry.now c.in-Write.page c.in-Write.from c.in-Write.end c.in-Write.is c.in-Done.is

pub returns-in-Flush : goal.returns-in-Flush
returns-in-Flush c = barrier_takes_none c.args.entry.now c.in-Flush.end c.in-Flush.is
