use Rattle.std.proofs.Common.{◌≡◌, ◌+◌, refl, sym, ap, ◌∙◌, List, subst}
use Rattle.std.proofs.lemmas.Option.{slice_get_read}
use Rattle.std.proofs.lemmas.Slice.Eq.{bytes_eq-Decides}
use Rattle.application.specs.declared.app.Routine.{Routine}
use Rattle.replay.proofs.Names.{NoneNamed, nobody, one_more}
use Rattle.replay.proofs.schedule.routine_of.Goals as goal

pub returns-then-eq-clause-found : goal.returns-then-eq-clause-found
returns-then-eq-clause-found c =
    let named : c.as_bytes.result.now ≡ c.index-routines-i.result.name = c.as_bytes.ensures ∙ ap (λ (r : Routine). r.name) (sym c.index-routines-i.is) in
    record {
      at = c.loop-i.i;
      routine = c.index-routines-i.result;
      «is» =
          rw (← c.items-routines.ensures)
          (slice_get_read c.items-routines.result.now _ c.loop-i.i c.index-routines-i.result refl c.loop-i-test.true c.index-routines-i.is);
      number = ap (λ n. n + c.loop-i.i) c.len.ensures;
      same = sym ((bytes_eq-Decides c.as_bytes.result.now c.args.name.now).0 (sym c.eq.ensures ∙ c.if-eq.true)) ∙ named;
    }

pub returns-clause-none : goal.returns-clause-none
returns-clause-none c =
    nobody
    c.args.app.now
    c.args.name.now
    c.loop-i.i
    (rw (← c.items-routines.ensures) c.loop-i-test.false)
    (subst (λ (rs : List Routine). NoneNamed rs c.loop-i.i c.args.name.now) c.items-routines.ensures c.loop-i.invariant)

pub loop-i-preserved : goal.loop-i-preserved
loop-i-preserved c =
    let named : c.as_bytes.result.now ≡ c.index-routines-i.result.name = c.as_bytes.ensures ∙ ap (λ (r : Routine). r.name) (sym c.index-routines-i.is) in
    one_more
    c.items-routines.result.now
    c.loop-i.i
    c.args.name.now
    c.index-routines-i.result
    (slice_get_read c.items-routines.result.now _ c.loop-i.i c.index-routines-i.result refl c.loop-i-test.true c.index-routines-i.is)
    (λ same.
    let equal = (bytes_eq-Decides c.as_bytes.result.now c.args.name.now).1 (named ∙ sym same) in
    cc (equal, c.eq.ensures, c.if-eq.false))
    c.loop-i.invariant
