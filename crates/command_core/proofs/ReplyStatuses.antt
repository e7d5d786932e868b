-- Which status an answer has that isn't want of memory.
use Rattle.std.proofs.Common.{◌≡◌, ◌||◌, ℕ, Bool, List, Option, true, false, inl, inr, refl, sym, subst}
use Rattle.std.specs.Prelude.{IsTrue}
use Rattle.std.proofs.lemmas.Bool.{false≢true}
use Rattle.outside_core.specs.Files.{Files}
use Rattle.word_core.specs.declared.command.Command.{Command}
use Rattle.command_core.specs.ReplyFields.{ReplyFields}
use Rattle.command_core.specs.Replies.{IsReply}
use Rattle.command_core.specs.Statuses.{is_one_of, unsaid, of_replies}
use Rattle.command_core.proofs.Makings.{or_right, outcome_status}

-- done, or of a fault other than want of memory
either : (done memory other write usage : Bool) → (done || (memory || other)) ≡ true → (write || (memory || false)) ≡ false → (done || (usage || other)) ≡ true
either true memory other write usage h not = refl
either false true other true usage h not = absurd (false≢true (sym not))
either false true other false usage h not = absurd (false≢true (sym not))
either false false other write usage h not = or_right usage other h

pub status_of_reply : (c : Command) (told : Option Files) (failed : Option (List ℕ) → Type 0) (reply : ReplyFields) → IsReply c told failed reply
    → is_one_of unsaid reply.status ≡ false → IsTrue (is_one_of of_replies reply.status)
status_of_reply c told failed reply (inputs, read, inl (none, is), says) h = subst (λ (r : ReplyFields). IsTrue (is_one_of of_replies r.status)) (sym is) refl
status_of_reply c told failed reply (inputs, read, inr (o, m, is), says) h =
    subst (λ (r : ReplyFields). IsTrue (is_one_of of_replies r.status)) (sym is)
    (either _ _ _ _ _ (outcome_status o) (subst (λ (r : ReplyFields). is_one_of unsaid r.status ≡ false) is h))
