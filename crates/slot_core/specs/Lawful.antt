-- That a disk in memory keeps the laws of disks.
use Rattle.std.proofs.Common.{◌≡◌, ⊎_elim, ℕ, ◌+◌, ◌-◌, ◌<◌, ◌≤◌, List, [], ◌∷◌, ◌++◌, length}
use Rattle.std.proofs.Common.{take, drop, replicate, get_or, refl, sym, ap, ◌∙◌, subst, arith, Some}
use Rattle.std.proofs.Common.{length-append, length-take, length-drop}
use Rattle.std.proofs.lemmas.List.{length-replicate, take_all, get_or_append_left, get_or-take, get_or-drop}
use Rattle.std.proofs.Math.Seq.{get_or-append_right}
use Rattle.slot_core.specs.Disk.{Images, After, Torn, IsLawful}
use Rattle.slot_core.specs.Steps.{Step, Write, Sync, overwritten, content, images, images_of, images_since, recorded_state}

-- what lies in front of the written bytes
abbrev pub front : ℕ → List ℕ → List ℕ
front at old = take at old ++ replicate (at - length old) 0

pub length-front : (at : ℕ) (old : List ℕ) → length (front at old) ≡ at
length-front at old =
    omega (
      arith,
      length-append (take at old) (replicate (at - length old) 0),
      length-take at old,
      length-replicate {A = ℕ} (at - length old) 0,
    )

length-overwritten : (at : ℕ) (bytes old : List ℕ)
    → length (overwritten at bytes old) ≡ at + length bytes + (length old - (at + length bytes))
length-overwritten at bytes old =
    omega (
      arith,
      length-front at old,
      length-append (front at old) bytes,
      length-append (front at old ++ bytes) (drop (at + length bytes) old),
      length-drop (at + length bytes) old,
    )

overwritten-before : (at : ℕ) (bytes old : List ℕ) (k : ℕ) → k < length old → k < at
    → get_or (overwritten at bytes old) k 0 ≡ get_or old k 0
overwritten-before at bytes old k here before =
    let rest = drop (at + length bytes) old in
    let a : k < length (take at old) = omega (arith, length-take at old) in
    let b : k < length (front at old) = omega (arith, length-front at old) in
    let c : k < length (front at old ++ bytes) = omega (arith, length-append (front at old) bytes) in
    get_or_append_left (front at old ++ bytes) rest 0 k c
    ∙ get_or_append_left (front at old) bytes 0 k b
    ∙ get_or_append_left (take at old) (replicate (at - length old) 0) 0 k a
    ∙ get_or-take at old k 0 before

overwritten-behind : (at : ℕ) (bytes old : List ℕ) (k : ℕ) → at + length bytes ≤ k → get_or (overwritten at bytes old) k 0 ≡ get_or old k 0
overwritten-behind at bytes old k behind =
    let end = at + length bytes in
    let long : length (front at old ++ bytes) ≡ end = omega (arith, length-append (front at old) bytes, length-front at old) in
    let same : end + (k - length (front at old ++ bytes)) ≡ k = omega (arith, long) in
    get_or-append_right (front at old ++ bytes) (drop end old) k 0 (omega (arith, long))
    ∙ get_or-drop end old (k - length (front at old ++ bytes)) 0
    ∙ ap (λ (j : ℕ). get_or old j 0) same

pub Torn-overwritten : (at : ℕ) (bytes old : List ℕ) → Torn at (length bytes) old (overwritten at bytes old)
Torn-overwritten at bytes old = record {
  no_shorter = omega (arith, length-overwritten at bytes old);
  elsewhere = λ k here where_. ⊎_elim (overwritten-before at bytes old k here) (overwritten-behind at bytes old k) where_;
}

-- what reads give is an image
pub content-image : (bytes : List ℕ) (before : Images) (steps : List Step) → before bytes → images bytes before steps (content bytes steps)
content-image bytes before [] is = is
content-image bytes before (Write a q ∷ steps) is =
    content-image (overwritten a q bytes) (After (Torn a (length q)) before) steps (bytes, is, Torn-overwritten a q bytes)
content-image bytes before (Sync ∷ steps) is = content-image bytes (λ image. image ≡ bytes) steps refl

pub told_is_image_of : (steps : List Step) (bytes : List ℕ) → Some (content [] steps) ≡ Some bytes → images_of steps bytes
told_is_image_of steps bytes told =
    let same : content [] steps ≡ bytes = cc in
    subst (images_of steps) same (content-image [] (λ image. image ≡ []) steps refl)

pub now_counts_of : (steps : List Step) (t : ℕ) (bytes : List ℕ) → t ≤ length steps → images_of steps bytes → images_since steps t bytes
now_counts_of steps t bytes le is =
    (length steps, le, omega arith, subst (λ (l : List Step). images_of l bytes) (sym (take_all (length steps) steps (omega arith))) is)

now_alone_of : (steps : List Step) (bytes : List ℕ) → images_since steps (length steps) bytes → images_of steps bytes
now_alone_of steps bytes (k, low, high, is) = subst (λ (l : List Step). images_of l bytes) (take_all k steps low) is

pub lawful_by : (steps : List Step) (faults : ℕ) → IsLawful (recorded_state steps faults)
lawful_by steps faults = record {
  told_is_image = λ bytes told. told_is_image_of steps bytes told;
  now_counts = λ t image le now. now_counts_of steps t image le now;
  now_alone = λ image now. now_alone_of steps image now;
}
