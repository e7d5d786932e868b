use Rattle.slot_core.proofs.slots.Slots.replace.Goals as goal

pub returns-in_err-switch-clause-any_moment : goal.returns-in_err-switch-clause-any_moment
returns-in_err-switch-clause-any_moment g c = rw (← c.self.view_is) (λ held slots. c.switch.ensures.any_moment held slots.attached)

pub returns-clause-any_moment : goal.returns-clause-any_moment
returns-clause-any_moment g c = rw (← c.self.view_is) (λ held slots. c.switch.ensures.any_moment held slots.attached)
