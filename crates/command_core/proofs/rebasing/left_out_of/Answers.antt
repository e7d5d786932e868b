use Rattle.std.proofs.Common.{sym, ap, ◌∙◌}
use Rattle.place_core.specs.Cuts.{without}
use Rattle.ident_core.specs.Sets.{key_set}
use Rattle.publication_core.proofs.Cuts.{without_set}
use Rattle.command_core.specs.Rebasings.{cut_without}
use Rattle.command_core.proofs.rebasing.left_out_of.Goals as goal

pub returns-in_ok-new-in-Issuers : goal.returns-in_ok-new-in-Issuers
returns-in_ok-new-in-Issuers c =
    ap without (c.in_ok-new-in-Issuers.ensures ∙ ap key_set c.as_slice.ensures.value) ∙ without_set _ ∙ sym (ap cut_without c.in-Issuers.is)
