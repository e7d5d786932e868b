use Rattle.piece_core.proofs.Growing.{put_one}
use Rattle.piece_core.proofs.texts.put_at.Goals as goal

pub returns-clause-longer : goal.returns-clause-longer
returns-clause-longer c =
    put_one c.args.texts.now c.args.place c.index-texts-place.result c.extend_from_slice.new.self c.args.more.now c.requires
    c.in_ok-extend_from_slice.ensures.items
