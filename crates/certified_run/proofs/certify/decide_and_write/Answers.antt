use Rattle.std.proofs.Common.{[], ap, subst, ◌∙◌}
use Rattle.std.proofs.lemmas.Result.{err_from_is_err_and}
use Rattle.cert_text.specs.CertificateText.{ending_of}
use Rattle.certified_run.proofs.Certifying.{begun_still, cut, done, encodes_of, front_alone, front_cut}
use Rattle.certified_run.proofs.certify.decide_and_write.Goals as goal
use Rattle.certified_run.specs.Certified.{IsEvidence}
use Rattle.certified_run.specs.Names.{ArePoints, texts_of}

pub returns-in_err-write_front-clause-certified : goal.returns-in_err-write_front-clause-certified
returns-in_err-write_front-clause-certified g c =
    let p = err_from_is_err_and c.from_residual-in_err-write_front.result c.from_residual-in_err-write_front.ensures.1 in
    let e = c.in_ok-encoded.encoded in
    let has = c.in_ok-encoded.ensures in
    let encodes = encodes_of c.args.app.now c.args.code.now c.args.bounds e.encoding e.stack.labels e.stack.program.depth has.entities has.depicts has.shape has.depth (subst ArePoints c.items.ensures c.in_ok-labels.ensures.points) in
    let told = c.in_ok-labels.ensures.texts ∙ ap (texts_of c.args.app.now) c.items.ensures in
    rw (p.1, p.2)
    (front_cut c.args.app.now c.args.code.now c.args.bounds e.encoding e.stack.labels c.in_ok-labels.labels told encodes
    (g.D.Desk.state c.args.desk.now) (g.D.Desk.state c.write_front.new.desk) _ c.in_err-write_front.ensures)

pub returns-in_err-verdict-clause-certified : goal.returns-in_err-verdict-clause-certified
returns-in_err-verdict-clause-certified g c =
    let p = err_from_is_err_and c.from_residual-in_err-verdict.result c.from_residual-in_err-verdict.ensures.1 in
    let e = c.in_ok-encoded.encoded in
    let has = c.in_ok-encoded.ensures in
    let encodes = encodes_of c.args.app.now c.args.code.now c.args.bounds e.encoding e.stack.labels e.stack.program.depth has.entities has.depicts has.shape has.depth (subst ArePoints c.items.ensures c.in_ok-labels.ensures.points) in
    let told = c.in_ok-labels.ensures.texts ∙ ap (texts_of c.args.app.now) c.items.ensures in
    let begun = begun_still (g.D.Desk.state c.args.desk.now) (g.D.Desk.state c.write_front.new.desk) c.in_ok-write_front.ensures.current c.requires.begun in
    let appends = c.pieces_in_turn.ensures.follows (g.D.Desk.state c.args.desk.now) (g.D.Desk.state c.write_front.new.desk) (g.D.Desk.state c.write_front.new.desk) _ _ _ c.requires.begun c.in_ok-write_front.ensures (c.pieces_in_turn.ensures.refuses (g.D.Desk.state c.write_front.new.desk) [] begun) in
    rw (p.1, p.2)
    (front_cut c.args.app.now c.args.code.now c.args.bounds e.encoding e.stack.labels c.in_ok-labels.labels told encodes
    (g.D.Desk.state c.args.desk.now) (g.D.Desk.state c.write_front.new.desk) _ (front_alone c.args.bounds e.encoding c.in_ok-labels.labels (g.D.Desk.state c.args.desk.now) (g.D.Desk.state c.write_front.new.desk) _ appends))

pub returns-in_err-write_rest-clause-certified : goal.returns-in_err-write_rest-clause-certified
returns-in_err-write_rest-clause-certified g c =
    let p = err_from_is_err_and c.from_residual-in_err-write_rest.result c.from_residual-in_err-write_rest.ensures.1 in
    let e = c.in_ok-encoded.encoded in
    let has = c.in_ok-encoded.ensures in
    let encodes = encodes_of c.args.app.now c.args.code.now c.args.bounds e.encoding e.stack.labels e.stack.program.depth has.entities has.depicts has.shape has.depth (subst ArePoints c.items.ensures c.in_ok-labels.ensures.points) in
    let told = c.in_ok-labels.ensures.texts ∙ ap (texts_of c.args.app.now) c.items.ensures in
    let evidence : IsEvidence c.args.app.now c.args.code.now c.args.bounds e.encoding e.stack.labels c.in_ok-verdict.field-0.lines c.in_ok-verdict.field-0.verdict =
    record { encodes = encodes; derived = c.in_ok-verdict.ensures.log; decided = c.in_ok-verdict.ensures.decided } in
    let appends = c.pieces_in_turn.ensures.follows (g.D.Desk.state c.args.desk.now) (g.D.Desk.state c.write_front.new.desk) (g.D.Desk.state c.write_rest.new.desk) _ _ _ c.requires.begun c.in_ok-write_front.ensures c.in_err-write_rest.ensures in
    let means = c.in_ok-verdict.ensures.means c.args.app.now c.args.code.now c.args.bounds.turns c.args.bounds.arrivals c.requires.order has.depicts in
    rw (p.1, p.2)
    (cut c.front_and_rest_are_whole.ensures c.args.app.now c.args.code.now c.args.bounds e.encoding e.stack.labels c.in_ok-labels.labels told
    c.log.result.now c.in_ok-verdict.field-0.lines c.log.ensures (ending_of c.ending.result) c.in_ok-verdict.field-0.verdict c.ending.ensures evidence
    (g.D.Desk.state c.args.desk.now) (g.D.Desk.state c.write_rest.new.desk) _ means appends)

pub returns-clause-certified : goal.returns-clause-certified
returns-clause-certified g c =
    let e = c.in_ok-encoded.encoded in
    let has = c.in_ok-encoded.ensures in
    let encodes = encodes_of c.args.app.now c.args.code.now c.args.bounds e.encoding e.stack.labels e.stack.program.depth has.entities has.depicts has.shape has.depth (subst ArePoints c.items.ensures c.in_ok-labels.ensures.points) in
    let told = c.in_ok-labels.ensures.texts ∙ ap (texts_of c.args.app.now) c.items.ensures in
    let evidence : IsEvidence c.args.app.now c.args.code.now c.args.bounds e.encoding e.stack.labels c.in_ok-verdict.field-0.lines c.in_ok-verdict.field-0.verdict =
    record { encodes = encodes; derived = c.in_ok-verdict.ensures.log; decided = c.in_ok-verdict.ensures.decided } in
    let appends = c.pieces_in_turn.ensures.follows (g.D.Desk.state c.args.desk.now) (g.D.Desk.state c.write_front.new.desk) (g.D.Desk.state c.write_rest.new.desk) _ _ _ c.requires.begun c.in_ok-write_front.ensures c.in_ok-write_rest.ensures in
    done c.front_and_rest_are_whole.ensures c.args.app.now c.args.code.now c.args.bounds e.encoding e.stack.labels c.in_ok-labels.labels told
    c.log.result.now c.in_ok-verdict.field-0.lines c.log.ensures (ending_of c.ending.result) c.in_ok-verdict.field-0.verdict c.ending.ensures evidence
    (g.D.Desk.state c.args.desk.now) (g.D.Desk.state c.write_rest.new.desk) appends

pub returns-clause-means : goal.returns-clause-means
returns-clause-means g c =
    c.in_ok-verdict.ensures.means c.args.app.now c.args.code.now c.args.bounds.turns c.args.bounds.arrivals c.requires.order c.in_ok-encoded.ensures.depicts
