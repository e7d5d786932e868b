-- What one step more leaves of a disk in memory.
use Rattle.std.proofs.Common.{◌≡◌, ◌⊎◌, inl, inr, ⊎_elim, ℕ, ◌+◌, ◌≤◌, List, [], ◌∷◌, ◌++◌, length, take, drop, refl, sym, ap, ◌∙◌, subst, arith}
use Rattle.std.proofs.Common.{length-append, append_assoc}
use Rattle.std.proofs.lemmas.List.{take_all, take-append-le, take_at, drop_at}
use Rattle.std.proofs.lemmas.Bool.{cases_lt}
use Rattle.slot_core.specs.Disk.{Images, After, Torn, Written, Elapses, none, piece}
use Rattle.slot_core.specs.Steps.{Step, Write, Sync, overwritten, content, images, images_of, images_since, recorded_state}
use Rattle.slot_core.specs.Lawful.{front, length-front, Torn-overwritten, content-image, now_counts_of}

pub overwritten-range : (at : ℕ) (bytes old : List ℕ) → piece at (length bytes) (overwritten at bytes old) ≡ bytes
overwritten-range at bytes old =
    let rest = drop (at + length bytes) old in
    ap (λ (l : List ℕ). take (length bytes) (drop at l)) (append_assoc (front at old) bytes rest)
    ∙ ap (take (length bytes)) (drop_at (front at old) (bytes ++ rest) at (length-front at old))
    ∙ take_at bytes rest (length bytes) refl

pub Written-overwritten : (at : ℕ) (bytes old : List ℕ) → Written at bytes old (overwritten at bytes old)
Written-overwritten at bytes old = record { range = overwritten-range at bytes old; torn = Torn-overwritten at bytes old }

-- one step more
pub content-write : (bytes : List ℕ) (steps : List Step) (at : ℕ) (p : List ℕ) → content bytes (steps ++ Write at p ∷ []) ≡ overwritten at p (content bytes steps)
content-write bytes [] at p = refl
content-write bytes (Write a q ∷ steps) at p = content-write (overwritten a q bytes) steps at p
content-write bytes (Sync ∷ steps) at p = content-write bytes steps at p

pub content-sync : (bytes : List ℕ) (steps : List Step) → content bytes (steps ++ Sync ∷ []) ≡ content bytes steps
content-sync bytes [] = refl
content-sync bytes (Write a q ∷ steps) = content-sync (overwritten a q bytes) steps
content-sync bytes (Sync ∷ steps) = content-sync bytes steps

images-write : (bytes : List ℕ) (before : Images) (steps : List Step) (at : ℕ) (p : List ℕ)
    → images bytes before (steps ++ Write at p ∷ []) ≡ After (Torn at (length p)) (images bytes before steps)
images-write bytes before [] at p = refl
images-write bytes before (Write a q ∷ steps) at p = images-write (overwritten a q bytes) (After (Torn a (length q)) before) steps at p
images-write bytes before (Sync ∷ steps) at p = images-write bytes (λ image. image ≡ bytes) steps at p

images-sync : (bytes : List ℕ) (before : Images) (steps : List Step) → images bytes before (steps ++ Sync ∷ []) ≡ (λ image. image ≡ content bytes steps)
images-sync bytes before [] = refl
images-sync bytes before (Write a q ∷ steps) = images-sync (overwritten a q bytes) (After (Torn a (length q)) before) steps
images-sync bytes before (Sync ∷ steps) = images-sync bytes (λ image. image ≡ bytes) steps

-- a step more, and the images since
since-keeps : (steps : List Step) (s : Step) (t : ℕ) (bytes : List ℕ) → images_since steps t bytes → images_since (steps ++ s ∷ []) t bytes
since-keeps steps s t bytes (k, low, high, is) =
    (k, low, omega (arith, length-append steps (s ∷ [])), subst (λ (l : List Step). images_of l bytes) (sym (take-append-le k steps (s ∷ []) high)) is)

since-joins : (steps : List Step) (s : Step) (t : ℕ) (bytes : List ℕ) → images_since (steps ++ s ∷ []) t bytes → images_since steps t bytes ⊎ images_of (steps ++ s ∷ []) bytes
since-joins steps s t bytes (k, low, high, is) = elim (cases_lt (length steps) k) [
  | inr few ↦ inl (k, low, few, subst (λ (l : List Step). images_of l bytes) (take-append-le k steps (s ∷ []) few) is)
  | inl all ↦ inr (subst (λ (l : List Step). images_of l bytes) (take_all k (steps ++ s ∷ []) (omega (arith, length-append steps (s ∷ [])))) is)
]

pub elapses-write : (steps : List Step) (at : ℕ) (p : List ℕ) (old new : ℕ)
    → Elapses (recorded_state steps old) (recorded_state (steps ++ Write at p ∷ []) new) (After (Torn at (length p)) (images_of steps))
elapses-write steps at p old new = record {
  later = omega (arith, length-append steps (Write at p ∷ []));
  keeps = λ t image le past. since-keeps steps (Write at p) t image past;
  joins = λ t image le since. ⊎_elim (λ past. inl past) (λ now. inr (subst (λ (i : Images). i image) (images-write [] (λ i. i ≡ []) steps at p) now)) (since-joins steps (Write at p) t image since);
}

pub elapses-sync : (steps : List Step) (old new : ℕ) → Elapses (recorded_state steps old) (recorded_state (steps ++ Sync ∷ []) new) none
elapses-sync steps old new = record {
  later = omega (arith, length-append steps (Sync ∷ []));
  keeps = λ t image le past. since-keeps steps Sync t image past;
  joins = λ t image le since.
      inl (⊎_elim (λ past. past) (λ now. earlier t image le (subst (λ (i : Images). i image) (images-sync [] (λ i. i ≡ []) steps) now)) (since-joins steps Sync t image since));
}
  where
    earlier : (t : ℕ) (image : List ℕ) → t ≤ length steps → image ≡ content [] steps → images_since steps t image
    earlier t image le is = now_counts_of steps t image le (subst (images_of steps) (sym is) (content-image [] (λ i. i ≡ []) steps refl))

pub images-after-write : (steps : List Step) (at : ℕ) (p : List ℕ) (image : List ℕ) → images_of (steps ++ Write at p ∷ []) image → After (Torn at (length p)) (images_of steps) image
images-after-write steps at p image now = subst (λ (i : Images). i image) (images-write [] (λ i. i ≡ []) steps at p) now

pub images-after-sync : (steps : List Step) (image : List ℕ) → images_of (steps ++ Sync ∷ []) image → image ≡ content [] steps
images-after-sync steps image now = subst (λ (i : Images). i image) (images-sync [] (λ i. i ≡ []) steps) now
