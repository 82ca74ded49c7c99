use Rattle.chk_base.proofs.Files.{piece_stays_there}
use Rattle.chk_base.proofs.mem_desk.MemDeskDesk.append.Goals as goal

pub invariant_of-self-then-not-is_to_fail : goal.invariant_of-self-then-not-is_to_fail
invariant_of-self-then-not-is_to_fail c = rw c.in_ok-append-in-Some.ensures.ok (piece_stays_there _ _ _ _ c.self.invariant)
