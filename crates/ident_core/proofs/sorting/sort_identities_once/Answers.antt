use Rattle.std.proofs.Common.{subst}
use Rattle.ident_core.specs.Among.{IsSetOf}
use Rattle.ident_core.specs.Order.{identity_cmp}
use Rattle.ident_core.proofs.Sets.{identity_exact, identity_total, set_is}
use Rattle.ident_core.proofs.Keys.{code_cmp_is, code_exact}
use Rattle.ident_core.proofs.sorting.sort_identities_once.Goals as goal

pub sort_once-requires : goal.sort_once-requires
sort_once-requires c = record { exact = code_exact }

pub returns : goal.returns
returns c = let xs = c.args.ids.now.items in set_is identity_cmp identity_total identity_exact xs _ (subst (λ f. IsSetOf f xs c.sort_once.new.items.items) code_cmp_is c.sort_once.ensures)
