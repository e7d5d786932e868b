use Rattle.std.proofs.Common.{◌<◌, ◌^◌, ℕ, sym, subst, arith}
use Rattle.equation_core.proofs.Cutting.{parted}
use Rattle.equation_core.proofs.known.KnownEquationHash.shard.Goals as goal

pub returns-in-Some-clause-below : goal.returns-in-Some-clause-below
returns-in-Some-clause-below c =
    subst (λ (n : ℕ). n < 2 ^ c.args.shift) (sym c.first_bits_of.ensures) (parted c.in-Some.octet c.args.shift (omega arith))
