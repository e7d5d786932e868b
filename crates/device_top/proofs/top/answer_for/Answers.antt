use Rattle.std.proofs.Common.{◌≡◌, inr, refl, sym, ◌∙◌, subst}
use Rattle.outside_core.specs.Reads.{WhichFailed}
use Rattle.word_core.specs.declared.device.InstallPart.{InstallPart}
use Rattle.word_core.specs.declared.device.DeviceCommand.TheVariants as commands
use Rattle.device_top.specs.Outcomes.{keeps}
use Rattle.reply_core.specs.Replies.{usage}
use Rattle.device_top.specs.Crashes.{Survives}
use Rattle.device_top.proofs.Quiet.{uncalled}
use Rattle.device_top.proofs.top.answer_for.Goals as goal

pub returns-in-Usage-clause-answers : goal.returns-in-Usage-clause-answers
returns-in-Usage-clause-answers g c =
    rw c.in-Usage.is (inr (keeps usage, refl, c.usage.ensures, uncalled (g.D.Disk.state c.args.disk.now)))

same_asked : (one other : InstallPart) → commands.Install one ≡ commands.Install other → one ≡ other
same_asked one other is = cc

pub returns-in-Install-clause-survives : goal.returns-in-Install-clause-survives
returns-in-Install-clause-survives g c = λ i is.
    subst (λ (j : InstallPart). Survives (g.P.Depot.files c.args.depot.now) (WhichFailed g.P.Depot c.args.depot.now c.answer_install.new.depot) j.part
    (g.D.Disk.state c.args.disk.now) (g.D.Disk.state c.answer_install.new.disk))
    (same_asked c.in-Install.asked i (sym c.in-Install.is ∙ is)) c.answer_install.ensures.survives
