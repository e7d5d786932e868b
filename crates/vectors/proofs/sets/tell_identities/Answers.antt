use Rattle.std.specs.List.Sorted.{IsStrictlySortedBy}
use Rattle.std.proofs.Common.{◌∙◌, sym, subst}
use Rattle.ident_core.specs.Order.{identity_cmp}
use Rattle.ident_core.proofs.Sets.{identities_are}
use Rattle.vectors.proofs.sets.tell_identities.Goals as goal

pub place_of-place-requires : goal.place_of-place-requires
place_of-place-requires c = record {
  sorted = subst (IsStrictlySortedBy identity_cmp) (sym (c.deref.ensures.value ∙ c.sort_identities_once.ensures)) (identities_are c.loop-pair.ids.items).ascends;
}
