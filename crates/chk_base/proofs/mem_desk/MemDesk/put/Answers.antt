use Rattle.chk_base.proofs.Files.{put_stays_there}
use Rattle.chk_base.proofs.mem_desk.MemDesk.put.Goals as goal

pub invariant_of-self-2 : goal.invariant_of-self-2
invariant_of-self-2 c = rw c.in_ok-put.ensures.ok (put_stays_there _ _ _ _ c.self.invariant)
