use Rattle.std.specs.Int.{w8, to_be_bytes}
use Rattle.part_text.specs.PartText.{planes_text, stage_text}
use Rattle.part_text.proofs.Loops.{wrote-then}
use Rattle.part_text.proofs.text.put_stage.Goals as goal

pub returns-clause-text : goal.returns-clause-text
unfolding stage_text
returns-clause-text g c =
    wrote-then g.O.Output.given c.args.out.now c.put_u8.new.out c.put_planes.new.out (to_be_bytes w8 c.args.stage.now.seed) (planes_text c.args.stage.now.planes)
    c.in_ok-put_u8.ensures c.in_ok-put_planes.ensures.text
