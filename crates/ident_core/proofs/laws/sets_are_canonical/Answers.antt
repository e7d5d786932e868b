use Rattle.std.proofs.lemmas.Cmp.{nat_list_cmp_total}
use Rattle.std.proofs.lemmas.Map.Lookups.{exact_bytes}
use Rattle.ident_core.specs.Order.{identity_cmp, octets_cmp}
use Rattle.ident_core.proofs.Sets.{identity_exact, identity_total, set_exactly}
use Rattle.ident_core.proofs.laws.sets_are_canonical.Goals as goal

pub returns-clause-identities : goal.returns-clause-identities
returns-clause-identities c = λ xs s. set_exactly identity_cmp identity_total identity_exact xs s

pub returns-clause-keys : goal.returns-clause-keys
returns-clause-keys c = λ xs s. set_exactly octets_cmp nat_list_cmp_total exact_bytes xs s
