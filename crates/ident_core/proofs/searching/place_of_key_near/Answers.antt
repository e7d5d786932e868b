use Rattle.std.proofs.Common.{◌∙◌, Some, refl, sym, ap, length}
use Rattle.std.proofs.lemmas.Option.{slice_get_read}
use Rattle.ident_core.proofs.Sets.{bytes_same}
use Rattle.ident_core.proofs.searching.place_of_key_near.Goals as goal

pub returns-in-Some-clause-some : goal.returns-in-Some-clause-some
returns-in-Some-clause-some c =
    let there = c.in-Some.there.now in
    slice_get_read c.args.keys.now (length c.args.keys.now) c.args.guess there refl c.in-Some.ensures.lookup.3.0 c.in-Some.ensures.lookup.1
    ∙ ap Some (bytes_same there c.args.key.now (sym c.eq.ensures ∙ c.if-eq.true))
