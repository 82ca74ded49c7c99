use Rattle.chk_base.proofs.Files.{put_is_there}
use Rattle.chk_base.proofs.mem_desk.MemDeskDesk.begin.Goals as goal

pub invariant_of-self-2 : goal.invariant_of-self-2
invariant_of-self-2 c = rw (c.in_ok-put.ensures.ok, c.in_ok-current.ensures, c.in_ok-name.ensures) (put_is_there _ _ _)
