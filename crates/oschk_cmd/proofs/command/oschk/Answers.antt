use Rattle.std.proofs.Common.{inl, inr, refl}
use Rattle.oschk_cmd.proofs.Checked.{are_checked}
use Rattle.oschk_cmd.proofs.Verdicts.{bad_end, failed_end, good_end, none_end, read_end, refused_end, rose_end, undecided_end, usage_end}
use Rattle.oschk_cmd.proofs.command.oschk.Goals as goal

pub returns-in-Ok-clause-answered : goal.returns-in-Ok-clause-answered
returns-in-Ok-clause-answered g c = inl (record { answer = c.in-Ok.reply; cause = c.in-Ok.ensures.reply; told = c.write_reply.ensures })

pub returns-in-Ok-clause-good : goal.returns-in-Ok-clause-good
returns-in-Ok-clause-good g c = good_end _ _ _ _ _ _ (record { answer = c.in-Ok.reply; cause = c.in-Ok.ensures.reply; told = c.write_reply.ensures })

pub returns-in-Ok-clause-fails : goal.returns-in-Ok-clause-fails
returns-in-Ok-clause-fails g c = failed_end _ _ _ _ _ _ (record { answer = c.in-Ok.reply; cause = c.in-Ok.ensures.reply; told = c.write_reply.ensures })

pub returns-in-Ok-clause-undecided : goal.returns-in-Ok-clause-undecided
returns-in-Ok-clause-undecided g c = undecided_end _ _ _ _ _ _ (record { answer = c.in-Ok.reply; cause = c.in-Ok.ensures.reply; told = c.write_reply.ensures })

pub returns-in-Ok-clause-not_permitted : goal.returns-in-Ok-clause-not_permitted
returns-in-Ok-clause-not_permitted g c = bad_end _ _ _ _ _ _ (record { answer = c.in-Ok.reply; cause = c.in-Ok.ensures.reply; told = c.write_reply.ensures })

pub returns-in-Ok-clause-refused : goal.returns-in-Ok-clause-refused
returns-in-Ok-clause-refused g c = refused_end _ _ _ _ _ _ (record { answer = c.in-Ok.reply; cause = c.in-Ok.ensures.reply; told = c.write_reply.ensures })

pub returns-in-Ok-clause-usage : goal.returns-in-Ok-clause-usage
returns-in-Ok-clause-usage g c = usage_end _ _ _ _ _ _ (record { answer = c.in-Ok.reply; cause = c.in-Ok.ensures.reply; told = c.write_reply.ensures })

pub returns-in-Ok-clause-read_fault : goal.returns-in-Ok-clause-read_fault
returns-in-Ok-clause-read_fault g c = read_end _ _ _ _ _ _ (record { answer = c.in-Ok.reply; cause = c.in-Ok.ensures.reply; told = c.write_reply.ensures })

pub returns-in-Ok-clause-always_usage : goal.returns-in-Ok-clause-always_usage
returns-in-Ok-clause-always_usage g c none = none_end _ _ _ _ c.write_reply.ensures (c.in-Ok.ensures.none none)

pub returns-in-Ok-clause-write_fault : goal.returns-in-Ok-clause-write_fault
returns-in-Ok-clause-write_fault g c is = inl (rose_end _ _ _ _ c.write_reply.ensures is)

pub returns-in-Err-clause-answered : goal.returns-in-Err-clause-answered
returns-in-Err-clause-answered g c = inr (record { cause = c.in-Err.ensures.unwritten; nothing = refl; status = refl })

pub returns-in-Err-clause-always_usage : goal.returns-in-Err-clause-always_usage
returns-in-Err-clause-always_usage g c none = let u = c.in-Err.ensures.unwritten in absurd (none u.what u.is)

pub returns-in-Ok-clause-accepted : goal.returns-in-Ok-clause-accepted
returns-in-Ok-clause-accepted g c = are_checked c.entities_have_names.ensures c.certificates_are_good.ensures _ _ _

pub returns-in-Err-clause-accepted : goal.returns-in-Err-clause-accepted
returns-in-Err-clause-accepted g c = are_checked c.entities_have_names.ensures c.certificates_are_good.ensures _ _ _
