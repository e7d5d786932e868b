use Rattle.device_top.specs.Calls.{call}
use Rattle.device_top.proofs.Ending.{ending, refusals}
use Rattle.device_top.proofs.Promised.{promised}
use Rattle.device_top.proofs.top.run_device.Goals as goal

pub returns-clause-promises : goal.returns-clause-promises
returns-clause-promises g c = λ device told.
    promised (call g.P.Depot g.K.Sink c.args.words.now (g.D.Disk.state c.args.disk.now) (g.D.Disk.state c.run_words.new.disk) c.args.depot.now c.run_words.new.depot
    c.args.out.now c.run_words.new.out c.run_words.result.0) device told
    (record {
      chain = c.parts_are_chains.ensures.chain;
      few = c.parts_are_chains.ensures.few;
      texts = c.parts_are_chains.ensures.texts;
      truths = c.verdicts_are_the_truth.ensures;
      store_read = c.stores_are_read_back.ensures.parts;
    })
    c.run_words.ensures.ends

pub returns-clause-crashes : goal.returns-clause-crashes
returns-clause-crashes g c = record { install = c.run_words.ensures.survives }

pub returns-clause-ending : goal.returns-clause-ending
returns-clause-ending g c =
    ending (call g.P.Depot g.K.Sink c.args.words.now (g.D.Disk.state c.args.disk.now) (g.D.Disk.state c.run_words.new.disk) c.args.depot.now c.run_words.new.depot
    c.args.out.now c.run_words.new.out c.run_words.result.0) c.run_words.ensures.ends

pub returns-clause-refusals : goal.returns-clause-refusals
returns-clause-refusals g c =
    refusals (call g.P.Depot g.K.Sink c.args.words.now (g.D.Disk.state c.args.disk.now) (g.D.Disk.state c.run_words.new.disk) c.args.depot.now c.run_words.new.depot
    c.args.out.now c.run_words.new.out c.run_words.result.0) c.run_words.ensures.ends
