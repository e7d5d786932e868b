use Rattle.std.proofs.Common.{◌∙◌, refl, sym, length}
use Rattle.std.proofs.lemmas.Option.{slice_get_read}
use Rattle.ident_core.proofs.Ranges.{logs_ascend, one_covers}
use Rattle.ident_core.proofs.Sets.{bytes_same}
use Rattle.ident_core.proofs.searching.covers_near.Goals as goal

pub returns-in-Some : goal.returns-in-Some
returns-in-Some c =
    let r = c.in-Some.range.now in
    c.holds_time.ensures
    ∙ sym (one_covers c.args.ranges.now c.args.s.now r c.args.guess (logs_ascend c.args.ranges.now c.requires.sorted)
    (slice_get_read c.args.ranges.now (length c.args.ranges.now) c.args.guess r refl c.in-Some.ensures.lookup.3.0 c.in-Some.ensures.lookup.1)
    (bytes_same r.log c.args.s.now.log (sym c.eq.ensures ∙ c.if-eq.true)))
