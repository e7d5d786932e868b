use Rattle.std.proofs.Common.{◌≡◌, ◌∷◌, [], ◌++◌, None, length, refl, sym, ap, subst, ◌∙◌, arith}
use Rattle.store_core.specs.Chain.{IsStore, refusal_of}
use Rattle.store_core.proofs.Growing.{taken-room, taken-store}
use Rattle.store_core.proofs.store.Store.install.Goals as goal

pub unwrap-requires : goal.unwrap-requires
unwrap-requires c =
    let room = taken-room c.args.self.now c.args.part (sym c.refusal.ensures ∙ c.in_default.is) in
    c.push.ensures.succeeds (omega (arith, room, ap length c.self.view_is, c.self.invariant.1))

pub invariant_of-self : goal.invariant_of-self
invariant_of-self c =
    let none : refusal_of c.self.inside.parts.items c.args.part ≡ None = ap (λ l. refusal_of l c.args.part) c.self.view_is ∙ sym c.refusal.ensures ∙ c.in_default.is in
    let longer : c.push.new.self.items ≡ c.self.inside.parts.items ++ c.args.part ∷ [] = c.push.ensures.items ∙ rw c.unwrap.ensures refl in
    (subst IsStore (sym longer) (taken-store c.self.inside.parts.items c.args.part c.self.invariant.0 none), omega (arith, c.push.ensures.capacity, c.self.invariant.1))
