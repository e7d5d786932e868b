use Rattle.std.proofs.Common.{◌∙◌, sym, ap, ◌&&◌}
use Rattle.std.specs.Str.{bytes_eq}
use Rattle.ident_core.proofs.Serials.{serial_eq}
use Rattle.ident_core.proofs.identity.is_same.Goals as goal

pub returns-then-eq : goal.returns-then-eq
returns-then-eq c =
    c.eq-then-eq.ensures ∙ serial_eq c.args.x.now.serial c.args.y.now.serial
    ∙ ap (λ b. b && bytes_eq c.args.x.now.serial c.args.y.now.serial) (sym c.if-eq.true ∙ c.eq.ensures)
