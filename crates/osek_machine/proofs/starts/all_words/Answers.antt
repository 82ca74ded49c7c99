use Rattle.osek_machine.proofs.starts.all_words.Goals as goal
use Rattle.osek_machine.proofs.StartWords.{words_more}

pub loop-entity-preserved : goal.loop-entity-preserved
loop-entity-preserved c =
    words_more _ _ c.args.code.now.globals _ c.items-entities.result.now c.loop-entity.entity-index c.entity-item.result c.loop-entity-test.true c.entity-item.is c.items-in-loop-entity.ensures c.loop-entity.invariant c.in_ok-add_words-2.ensures
