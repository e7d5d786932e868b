use Rattle.octets_core.proofs.key.first_eight.Goals as goal

pub returns-clause-octets : goal.returns-clause-octets
returns-clause-octets c = c.fits-octets
