use Rattle.std.proofs.Common.{◌≡◌, Some, pos, ap, sym, ◌∙◌, w32, w16, w8, arith, refl}
use Rattle.std.proofs.lemmas.Int.{to_z-of_z, to_z_pos, ints}
use Rattle.jiff_core.specs.Calendar.{days_from_civil, IsDate}
use Rattle.jiff_core.specs.Date.{IsYmd, epoch_day}
use Rattle.jiff.proofs.SpanFacts.{signed_arith}
use Rattle.der_core.proofs.TimeLaws.{day_number-is, epoch_day-is}
use Rattle.der_core.proofs.moment.day_of.Goals as goal

pub returns-in-Ok : goal.returns-in-Ok
returns-in-Ok c =
    let year = to_z_pos w16 c.args.year (omega arith) in
    let month = to_z_pos w8 c.args.month (omega arith) in
    let day = to_z_pos w8 c.args.day (omega arith) in
    let ymd : IsYmd (pos c.args.year) (pos c.args.month) (pos c.args.day) c.in-Ok.date = simp (year, month, day) at c.in-Ok.ensures.value in
    let is : IsDate (pos c.args.year) (pos c.args.month) (pos c.args.day) = simp (year, month, day) at (c.in-Ok.ensures.succeeds.0 refl) in
    let value : c.to_unix_epoch_day.result ≡ days_from_civil (pos c.args.year) c.args.month c.args.day =
    c.to_unix_epoch_day.ensures.value ∙ ap epoch_day c.to_plain.ensures ∙ epoch_day-is c.args.year c.args.month c.args.day c.in-Ok.date ymd in
    let bits = to_z-of_z w32 c.to_unix_epoch_day.result (omega (arith, ints, signed_arith, c.to_unix_epoch_day.ensures.bound)) in
    ap Some (bits ∙ value) ∙ sym (day_number-is c.args.year c.args.month c.args.day is)
