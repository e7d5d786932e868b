use Rattle.std.proofs.Common.{Some, List, ap, ◌∙◌}
use Rattle.serde_json.specs.View.{view, items_view}
use Rattle.serde_json.specs.declared.value.Value.{Value}
use Rattle.gather_core.proofs.Bound.{few-items}
use Rattle.gather_core.proofs.page.listed_in.Goals as goal

pub entries_in-requires : goal.entries_in-requires
entries_in-requires c =
    few-items c.deref.result.now (view c.args.value.now) (ap (λ (vs : List Value). Some (items_view vs)) c.deref.ensures.value ∙ c.in-Some.ensures) c.requires
