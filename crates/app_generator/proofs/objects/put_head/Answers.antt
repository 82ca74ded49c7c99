use Rattle.app_generator.proofs.Appending.{puts_then}
use Rattle.app_generator.proofs.objects.put_head.Goals as goal

pub returns : goal.returns
returns c = puts_then (puts_then (puts_then (puts_then c.in_ok-put.ensures c.in_ok-put_number.ensures) c.in_ok-put-2.ensures) c.in_ok-put_number-2.ensures) c.put-3.ensures
