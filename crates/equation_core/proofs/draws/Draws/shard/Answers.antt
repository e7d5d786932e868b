use Rattle.std.proofs.Common.{◌<◌, ◌^◌, ℕ, sym, subst}
use Rattle.equation_core.proofs.Cutting.{parted}
use Rattle.equation_core.proofs.draws.Draws.shard.Goals as goal

pub returns-clause-below : goal.returns-clause-below
returns-clause-below c =
    subst (λ (n : ℕ). n < 2 ^ c.args.shift) (sym c.first_bits_of.ensures) (parted c.octet.result c.args.shift c.octet.type_inv)
