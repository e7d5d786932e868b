use Rattle.std.proofs.Common.{◌≡◌, map, take, Bor}
use Rattle.ident_core.specs.declared.identity.Identity.{Identity}
use Rattle.card_core.specs.Leaf.{flagged}
use Rattle.stage_core.proofs.rows.flagged_members.Given as goal

abbrev pub invariant-loop-i : goal.invariant-loop-i
invariant-loop-i l = map (λ (key : Bor Identity). key.now) l.keys.items ≡ flagged (take l.i l.universe) (take l.i l.flags)
