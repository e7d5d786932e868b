use Rattle.std.specs.declared.cmp.Ordering.{Ordering}
use Rattle.std.specs.List.{slice_get}
use Rattle.std.specs.List.Sorted.{IsStrictlySortedBy}
use Rattle.std.specs.Prelude.{IfSome, IsNone}
use Rattle.std.proofs.Common.{◌≡◌, ℕ, Option, Some, sym, subst}
use Rattle.ident_core.specs.declared.identity.Identity.{Identity}
use Rattle.ident_core.proofs.Keys.{code_cmp, code_cmp_is, code_exact, code_total, searched_some, searched_none, has_none}
use Rattle.ident_core.proofs.searching.place_of.Goals as goal

pub returns-clause-some : goal.returns-clause-some
returns-clause-some c =
    subst (λ (o : Option ℕ). IfSome o (λ i. slice_get c.args.ids.now i ≡ Some c.args.id.now)) (sym c.ok.ensures.value)
    (searched_some code_cmp code_total code_exact c.args.ids.now c.args.id.now c.binary_search.result c.binary_search.ensures.bound c.binary_search.ensures.position)

pub returns-clause-none : goal.returns-clause-none
returns-clause-none c = λ e.
    has_none c.args.ids.now c.args.id.now
    (searched_none code_cmp code_total code_exact c.args.ids.now c.args.id.now c.binary_search.result
    (subst (λ (f : Identity → Identity → Ordering). IsStrictlySortedBy f c.args.ids.now) (sym code_cmp_is) c.requires.sorted) c.binary_search.ensures.position
    (subst (λ (o : Option ℕ). IsNone o) c.ok.ensures.value e))
