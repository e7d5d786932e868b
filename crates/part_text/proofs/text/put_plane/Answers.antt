use Rattle.std.proofs.Common.{get_or}
use Rattle.part_text.proofs.Words.{wrote-word}
use Rattle.part_text.proofs.text.put_plane.Goals as goal

pub loop-i-preserved : goal.loop-i-preserved
loop-i-preserved g c =
    wrote-word g.O.Output.given c.args.out.now c.loop-i.out c.put.new.self c.loop-i.i (get_or c.args.planes.now.columns c.args.plane 0) c.word-word.result
    c.to_be_bytes.result c.loop-i.invariant c.word-word.ensures.value c.to_be_bytes.ensures c.in_ok-put.ensures
