use Rattle.command_words.proofs.asked.run_in.Goals as goal

pub returns-in_default-clause-none : goal.returns-in_default-clause-none
returns-in_default-clause-none c run is = c.in_default.ensures.none run.oil run.c run.cert is.names
