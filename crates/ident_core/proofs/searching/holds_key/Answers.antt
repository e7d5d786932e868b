use Rattle.std.proofs.Common.{◌∙◌}
use Rattle.ident_core.proofs.Sets.{has_key-from_place}
use Rattle.ident_core.proofs.searching.holds_key.Goals as goal

pub returns : goal.returns
returns c = c.is_some.ensures ∙ has_key-from_place c.args.keys.now c.args.key.now c.place_of_key.result c.place_of_key.ensures.some c.place_of_key.ensures.none
