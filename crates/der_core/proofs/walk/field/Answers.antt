use Rattle.der_core.proofs.WalkLaws.{walks-found, walks-none}
use Rattle.der_core.proofs.walk.field.Goals as goal

pub returns-clause-found : goal.returns-clause-found
returns-clause-found c = walks-found c.args.tag c.args.fields.now c.first_field.new.fields c.first_field.result c.first_field.ensures

pub returns-clause-none : goal.returns-clause-none
returns-clause-none c = walks-none c.args.tag c.args.fields.now c.first_field.new.fields c.first_field.result c.first_field.ensures
