use Rattle.std.proofs.Common.{◌++◌, ◌∷◌, [], ℕ, List, map, ap, ◌∙◌, Bor}
use Rattle.std.proofs.lemmas.List.{map-append}
use Rattle.ident_core.specs.declared.identity.Identity.{Identity}
use Rattle.stage_core.proofs.Flags.{taken_at, left_at, flagged_all}
use Rattle.stage_core.proofs.rows.flagged_members.Goals as goal
use Rattle.stage_core.proofs.rows.flagged_members.Goals.{then-flag+in_ok-push, else-flag}

pub loop-i-preserved : goal.loop-i-preserved
loop-i-preserved c =
    let now = λ (key : Bor Identity). key.now in
    let xs : List Identity = c.args.universe.now in
    let fs = c.args.flags.now in
    let i : ℕ = c.loop-i.i in
    elim c.if-flag.branch [
      | then-flag+in_ok-push w ↦
          rw w.keys-is (ap (map now) w.in_ok-push.ensures.items ∙ map-append now c.loop-i.keys.items _
          ∙ ap (λ (l : List Identity). l ++ (w.index-universe-i.result ∷ [])) c.loop-i.invariant
          ∙ taken_at xs fs i w.index-universe-i.result c.requires c.loop-i-test.true w.index-universe-i.is w.if-flag.true)
      | else-flag w ↦ rw w.keys-is (c.loop-i.invariant ∙ left_at xs fs i c.requires c.loop-i-test.true w.if-flag.false)
    ]

pub returns : goal.returns
returns c = c.loop-i.invariant ∙ flagged_all c.args.universe.now c.args.flags.now c.loop-i.i c.loop-i-test.false
