use Rattle.std.specs.List.Sorted.{IsStrictlySortedBy}
use Rattle.std.proofs.Common.{sym, subst}
use Rattle.ident_core.specs.Order.{octets_cmp}
use Rattle.ident_core.proofs.Sets.{key_set_ascends}
use Rattle.publication_core.proofs.left_out.Issuers.new.Goals as goal

pub invariant_of-result : goal.invariant_of-result
invariant_of-result c = subst (IsStrictlySortedBy octets_cmp) (sym c.sort_keys_once.ensures) (key_set_ascends c.extend_from_slice.new.self.items)
