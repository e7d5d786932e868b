-- Files that are read in order from a feed: what was taken of them.
use Rattle.std.proofs.Common.{◌≡◌, ℕ, zero, suc, ◌+◌, ◌≤◌, ◌<◌, ◌^◌, ◌-◌, List, [], ◌++◌, length, take, drop, Option, Some, None}
use Rattle.std.proofs.Common.{refl, sym, ap, subst, ◌∙◌, arith, inl, inr, length-append}
use Rattle.std.specs.Prelude.{IfSome}
use Rattle.std.specs.FinMap.{get}
use Rattle.std.proofs.lemmas.List.{append-nil, take-append-drop, take_all, length-take}
use Rattle.outside_core.specs.Files.{Files}
use Rattle.outside_core.specs.Feeding.{Offers}
use Rattle.outside_core.proofs.Feeding.{taken-more}
use Rattle.input_core.specs.Inputs.{IsHeld, WhereHeld, IsRead}

-- ---- what is held

pub where_held : (told : Option Files) (name : List ℕ) (P : List ℕ → Type 0) → IsHeld told name P → WhereHeld told name P
where_held None name P h = tt
where_held (Some files) name P (file, there, p) = rw there p

-- the bytes of a file that begins with these: all of it where files are told
pub record Begins (told : Option Files) (failed : Option (List ℕ) → Type 0) (name b : List ℕ) : Type 0 where
  pub bytes : List ℕ
  pub read : IsRead told failed name (Some bytes)
  pub rest : List ℕ
  pub is : bytes ≡ b ++ rest

begins : (told : Option Files) (failed : Option (List ℕ) → Type 0) (name b : List ℕ) → IsHeld told name (λ file. b ≡ take (length b) file) → Begins told failed name b
begins None failed name b held = record { bytes = b; read = tt; rest = []; is = sym (append-nil b) }
begins (Some files) failed name b (file, there, same) = record {
  bytes = file;
  read = there;
  rest = drop (length b) file;
  is = sym (ap (λ (l : List ℕ). l ++ drop (length b) file) same ∙ take-append-drop (length b) file);
}

-- ---- what was taken

-- these bytes were taken of a file, up to this place
pub record AreTaken (told : Option Files) (name bytes : List ℕ) (at : ℕ) : Type 0 where
  pub place : length bytes ≡ at
  pub front : WhereHeld told name (λ file. bytes ≡ take at file)

nothing_in : (held : Option (List ℕ)) (at : ℕ) → at ≡ 0 → IfSome held (λ file. [] ≡ take at file)
nothing_in None at none = tt
nothing_in (Some file) at none = rw none refl

nothing_of : (told : Option Files) (name : List ℕ) (at : ℕ) → at ≡ 0 → WhereHeld told name (λ file. [] ≡ take at file)
nothing_of None name at none = tt
nothing_of (Some files) name at none = nothing_in (get files name) at none

pub none_taken : (told : Option Files) (name : List ℕ) (at : ℕ) → at ≡ 0 → AreTaken told name [] at
none_taken told name at none = record { place = sym none; front = nothing_of told name at none }

-- what a file holds up to the end of the next bytes
held_front : (told : Option Files) (name b w : List ℕ) (at n to : ℕ) → AreTaken told name b at → Offers told name at w → n ≤ length w → to ≡ at + n
    → IsHeld told name (λ file. b ++ take n w ≡ take to file)
held_front None name b w at n to t offers le is = tt
held_front (Some files) name b w at n to t offers le is =
    let (file, there, window, ends) = offers files refl in
    (file, there, ap (λ (l : List ℕ). l ++ take n w) (rw there at t.front) ∙ taken-more file at w n le window ∙ ap (λ (i : ℕ). take i file) (sym is))

-- the next bytes of the piece behind those that were taken
pub taken-next : (told : Option Files) (name old new w : List ℕ) (at n to : ℕ) → AreTaken told name old at → Offers told name at w → n ≤ length w → to ≡ at + n → new ≡ old ++ take n w
    → AreTaken told name new to × IsHeld told name (λ file. new ≡ take to file)
taken-next told name old new w at n to t offers le is grown =
    let held = held_front told name old w at n to t offers le is in
    let size : length (old ++ take n w) ≡ to = omega (arith, length-append old (take n w), length-take n w, t.place, le, is) in
    rw grown (record { place = size; front = where_held told name (λ file. old ++ take n w ≡ take to file) held }, held)

-- a file that begins with the piece behind those that were taken
pub begins-so : (told : Option Files) (failed : Option (List ℕ) → Type 0) (name b w : List ℕ) (at : ℕ) → AreTaken told name b at → Offers told name at w → Begins told failed name (b ++ w)
begins-so told failed name b w at t offers =
    let all : take (length w) w ≡ w = take_all (length w) w (omega arith) in
    let more = taken-next told name b (b ++ w) w at (length w) (at + length w) t offers (omega arith) refl (ap (λ (l : List ℕ). b ++ l) (sym all)) in
    begins told failed name (b ++ w) (subst (λ (i : ℕ). IsHeld told name (λ file. b ++ w ≡ take i file)) (sym more.0.place) more.1)

-- all of the file was taken
pub taken-whole : (told : Option Files) (name bytes : List ℕ) (at : ℕ) → AreTaken told name bytes at → Offers told name at [] → at < 2 ^ 64 - 1 → IsHeld told name (λ file. bytes ≡ file)
taken-whole None name bytes at t offers few = tt
taken-whole (Some files) name bytes at t offers few =
    let (file, there, window, ends) = offers files refl in
    let front : bytes ≡ take at file = rw there at t.front in
    let size : length file ≤ at = elim (ends.0 refl) [ inl over ↦ over | inr last ↦ absurd (omega (arith, last, few)) ] in
    (file, there, front ∙ take_all at file size)

pub taken-all : (told : Option Files) (name bytes : List ℕ) (at most : ℕ) → AreTaken told name bytes at → Offers told name at [] → at < 2 ^ 64 - 1 → at ≤ most
    → IsHeld told name (λ file. bytes ≡ take most file)
taken-all None name bytes at most t offers few le = tt
taken-all (Some files) name bytes at most t offers few le =
    let (file, there, is) = taken-whole (Some files) name bytes at t offers few in
    (file, there, is ∙ sym (take_all most file (omega (arith, le, t.place, ap (λ (l : List ℕ). length l) is))))

pub positive : (n : ℕ) → (n ≡ 0 → ⊥) → 0 < n
positive zero some = absurd (some refl)
positive (suc n) some = omega arith

-- what a feed offers, as the bytes that are buffered
pub offers_there : (told now : Option Files) (name there v w : List ℕ) (at : ℕ) → now ≡ told → there ≡ name → v ≡ w → Offers now there at w → Offers told name at v
offers_there told now name there v w at same is buffered offers =
    subst (λ (t : Option Files). Offers t name at v) same (subst (λ (n : List ℕ). Offers now n at v) is (subst (λ (l : List ℕ). Offers now there at l) (sym buffered) offers))
