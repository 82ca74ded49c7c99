use Rattle.app_generator.proofs.Appending.{puts_then}
use Rattle.app_generator.proofs.objects.put_object.Goals as goal

pub returns : goal.returns
returns c = puts_then (puts_then (puts_then (puts_then c.in_ok-put_head.ensures c.in_ok-put_start.ensures) c.in_ok-put.ensures) c.in_ok-put_resource.ensures) c.put-2.ensures
