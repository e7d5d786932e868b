use Rattle.std.proofs.Common.{◌∙◌, ap, arith}
use Rattle.std.proofs.lemmas.List.{take_all}
use Rattle.std.proofs.lemmas.List.Sorted.{All-permutation}
use Rattle.ident_core.specs.Sets.{has_key}
use Rattle.universe_core.specs.Marking.{IsListed}
use Rattle.universe_core.proofs.IssuerRuns.{same_listed}
use Rattle.universe_core.proofs.listing.sorted.Goals as goal

pub returns-clause-same : goal.returns-clause-same
returns-clause-same c = λ x. same_listed c.loop-serial.out.items c.sort_unstable_by.new.self.items c.sort_unstable_by.ensures.permutation x ∙ ap (λ ks. has_key ks x) (c.loop-serial.invariant.serials ∙ take_all c.loop-serial.serial-index c.args.serials.now (let t = c.loop-serial-test.false in omega arith))

pub returns-clause-keys : goal.returns-clause-keys
returns-clause-keys c = All-permutation IsListed c.loop-serial.out.items c.sort_unstable_by.new.self.items c.sort_unstable_by.ensures.permutation c.loop-serial.invariant.keys
