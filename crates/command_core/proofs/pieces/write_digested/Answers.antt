use Rattle.std.proofs.Common.{rules}
use Rattle.command_core.specs.Digested.{concatenated}
use Rattle.command_core.proofs.Outputs.{put-digested, left-digested}
use Rattle.command_core.proofs.pieces.write_digested.Goals as goal

pub returns-clause-ok : goal.returns-clause-ok
returns-clause-ok g c = put-digested _ _ _ c.args.name.now (concatenated c.args.pieces.now) c.join_mut-written.result.0 _ c.append_all.result (search rules) (search rules) c.append_all.ensures.ok

pub returns-clause-err : goal.returns-clause-err
returns-clause-err g c = left-digested _ _ _ c.args.name.now (concatenated c.args.pieces.now) c.join_mut-written.result.0 _ c.append_all.result (search rules) (search rules) c.append_all.ensures.err
