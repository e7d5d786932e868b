use Rattle.std.proofs.Common.{refl}
use Rattle.stage_core.proofs.passing.four_by_rows.Goals as goal

pub returns : goal.returns
returns g c =
    rw (
      c.is_row_false_positive.ensures c.args.a.now,
      c.is_row_false_positive-2.ensures c.args.b.now,
      c.is_row_false_positive-3.ensures c.args.c.now,
      c.is_row_false_positive-4.ensures c.args.d.now,
      c.four_rows-rows.ensures,
      c.starts.ensures.value,
    ) refl
