use Rattle.std.proofs.Common.{arith}
use Rattle.serde_json.specs.View.{view}
use Rattle.gather_core.proofs.Pages.{page_of-other}
use Rattle.gather_core.proofs.Bound.{entries-numbered}
use Rattle.gather_core.proofs.page.read_page.Goals as goal

pub returns-in_default-clause-exact : goal.returns-in_default-clause-exact
returns-in_default-clause-exact c = λ not. page_of-other c.args.bytes.now c.in_default.ensures.cases.0

pub listed_in-requires : goal.listed_in-requires
listed_in-requires c = entries-numbered c.in-Ok.text.now (view c.in_ok-value.value) c.in_ok-value.ensures (first_of (omega arith, grind (arith, c.in-Ok.ensures.cases), omega (arith, c.in-Ok.ensures.cases), omega (arith, c.in-Ok.ensures)))
