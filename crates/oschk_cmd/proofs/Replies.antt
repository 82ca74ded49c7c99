-- Lemmas on statuses.
use Rattle.std.proofs.Common.{◌≡◌, Bool, true, false, if◌then◌else◌, Err, refl}
use Rattle.report.specs.declared.reports.WriteFault as faults
use Rattle.oschk_cmd.specs.declared.reply.Reply.{Reply}
use Rattle.oschk_cmd.specs.declared.status.Status.{Status}
use Rattle.oschk_cmd.specs.declared.status.Status.TheVariants.{WriteFault}
use Rattle.oschk_cmd.specs.Replies.{is_fault, reply_status, status_after}

picked : (b : Bool) (x y : Status) → b ≡ true → x ≡ (if b then x else y)
picked true x y is = refl
picked false x y is = absurd cc

other : (b : Bool) (x y : Status) → b ≡ false → y ≡ (if b then x else y)
other true x y is = absurd cc
other false x y is = refl

-- a fault keeps its status
pub fault_status : (answer : Reply) (e : faults.WriteFault) → is_fault answer ≡ true → reply_status answer ≡ status_after answer (Err e)
fault_status answer e is = picked (is_fault answer) (reply_status answer) WriteFault is

-- what else can't be written ends in a write fault
pub write_status : (answer : Reply) (e : faults.WriteFault) → is_fault answer ≡ false → WriteFault ≡ status_after answer (Err e)
write_status answer e is = other (is_fault answer) (reply_status answer) WriteFault is
