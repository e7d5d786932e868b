use Rattle.std.proofs.Common.{◌∙◌, ap}
use Rattle.gather_core.specs.declared.fault.PageFault.TheVariants as faults
use Rattle.gather_core.specs.Pages.{there}
use Rattle.gather_core.proofs.Pages.{json_of-text}
use Rattle.gather_core.proofs.page.parse.Goals as goal

pub returns-in-Ok : goal.returns-in-Ok
returns-in-Ok c = json_of-text c.args.text.now c.requires ∙ ap (there faults.Json) c.in-Ok.ensures.ok
