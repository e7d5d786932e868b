use Rattle.std.proofs.Common.{◌≡◌, List, ℕ, [], ◌∷◌, ap, sym, ◌∙◌, rules}
use Rattle.std.proofs.lemmas.List.{map-append}
use Rattle.slot_core.specs.Steps.{content, overwritten}
use Rattle.slot_core.proofs.StepLaws.{content-write}
use Rattle.slot_core.specs.Changes.{step_of, steps_of}
use Rattle.slot_core.specs.declared.recording.Change.{Change}
use Rattle.slot_core.specs.declared.recording.Change.TheVariants as change
use Rattle.slot_core.proofs.recording.Recording.write.Goals as goal

pub invariant_of-self-2 : goal.invariant_of-self-2
invariant_of-self-2 c =
    let held : c.in_ok-piece.piece.items ≡ c.args.bytes.now = search rules in
    let before : List Change = c.self.inside.changes.items in
    ap (λ (l : List Change). content [] (steps_of l)) c.in_ok-push.ensures.items
    ∙ ap (content []) (map-append step_of before (change.Write c.args.at c.in_ok-piece.piece ∷ []))
    ∙ content-write [] (steps_of before) c.args.at c.in_ok-piece.piece.items
    ∙ ap (λ (q : List ℕ). overwritten c.args.at q (content [] (steps_of before))) held
    ∙ ap (overwritten c.args.at c.args.bytes.now) (c.self.invariant ∙ sym c.deref.ensures.value)
    ∙ sym c.in_ok-next.ensures
