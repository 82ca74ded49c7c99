use Rattle.proof_check.proofs.Refusals.{cert_from, model_length}
use Rattle.proof_check.proofs.cert.read_cert.Goals as goal

pub returns-in-Ok-clause-model : goal.returns-in-Ok-clause-model
returns-in-Ok-clause-model c =
    let bytes = c.as_bytes-bytes.result.now in
    model_length bytes c.cert_of.result (cert_from bytes c.in-Ok.parts c.cert_of.result c.in-Ok.ensures.whole c.cert_of.ensures)
