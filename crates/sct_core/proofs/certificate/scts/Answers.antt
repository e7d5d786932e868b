use Rattle.std.proofs.Common.{◌∙◌}
use Rattle.sct_core.proofs.SightingLaws.{sightings-found, sightings-read, malformed-read, none-read, bad-read, has_list-read}
use Rattle.sct_core.proofs.certificate.scts.Goals as goal

pub returns-clause-found : goal.returns-clause-found
returns-clause-found c = sightings-found c.args.cert.now c.read_scts.result c.read_scts.ensures

pub returns-clause-only : goal.returns-clause-only
returns-clause-only c = λ seen has. c.read_scts.ensures ∙ sightings-read seen c.args.cert.now has

pub returns-clause-listed : goal.returns-clause-listed
returns-clause-listed c = λ all has. c.read_scts.ensures ∙ has_list-read all c.args.cert.now has

pub returns-clause-malformed : goal.returns-clause-malformed
returns-clause-malformed c = λ h. c.read_scts.ensures ∙ malformed-read c.args.cert.now h

pub returns-clause-none : goal.returns-clause-none
returns-clause-none c = λ h. c.read_scts.ensures ∙ none-read c.args.cert.now h

pub returns-clause-bad : goal.returns-clause-bad
returns-clause-bad c = λ h. c.read_scts.ensures ∙ bad-read c.args.cert.now h
