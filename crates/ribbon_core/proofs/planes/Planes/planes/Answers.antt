use Rattle.std.proofs.Common.{sym}
use Rattle.ribbon_core.proofs.Solved.{length-kept, columns_padded}
use Rattle.ribbon_core.proofs.planes.Planes.planes.Goals as goal

pub returns-clause-count : goal.returns-clause-count
returns-clause-count c = rw (← c.self.view_is, c.deref.ensures) (sym (length-kept c.self.inside.kept.value.starts c.self.inside.kept.value.planes c.self.inside.kept.value.words.items))

pub returns-clause-padding : goal.returns-clause-padding
returns-clause-padding c = rw (← c.self.view_is) (columns_padded c.self.inside.kept.value.starts c.self.inside.kept.value.planes c.self.inside.kept.value.words.items c.self.invariant)
