use Rattle.ribbon_core.proofs.ColumnSums.{sum_over_columns}
use Rattle.ribbon_core.proofs.laws.sum_is_over_columns.Goals as goal

pub returns : goal.returns
returns c width e Z lt = sum_over_columns width e.start e.coeff Z lt
