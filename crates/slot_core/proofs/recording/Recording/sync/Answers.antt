use Rattle.std.proofs.Common.{List, [], ◌∷◌, ap, ◌∙◌}
use Rattle.std.proofs.lemmas.List.{map-append}
use Rattle.slot_core.specs.Steps.{content}
use Rattle.slot_core.proofs.StepLaws.{content-sync}
use Rattle.slot_core.specs.Changes.{step_of, steps_of}
use Rattle.slot_core.specs.declared.recording.Change.{Change}
use Rattle.slot_core.specs.declared.recording.Change.TheVariants as change
use Rattle.slot_core.proofs.recording.Recording.sync.Goals as goal

pub invariant_of-self-2 : goal.invariant_of-self-2
invariant_of-self-2 c =
    let before : List Change = c.self.inside.changes.items in
    ap (λ (l : List Change). content [] (steps_of l)) c.in_ok-push.ensures.items
    ∙ ap (content []) (map-append step_of before (change.Sync ∷ []))
    ∙ content-sync [] (steps_of before)
    ∙ c.self.invariant
