use Rattle.std.proofs.lemmas.Cmp.{nat_list_cmp_total}
use Rattle.std.proofs.lemmas.Map.Lookups.{exact_bytes}
use Rattle.ident_core.specs.Order.{octets_cmp}
use Rattle.ident_core.proofs.Sets.{set_is}
use Rattle.ident_core.proofs.sorting.sort_keys_once.Goals as goal

pub sort_once-requires : goal.sort_once-requires
sort_once-requires c = record { exact = exact_bytes }

pub returns : goal.returns
returns c = set_is octets_cmp nat_list_cmp_total exact_bytes c.args.keys.now.items _ c.sort_once.ensures
