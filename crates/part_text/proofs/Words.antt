-- What a loop over the words of a plane has written once it has written one word more.
use Rattle.std.proofs.Common.{◌≡◌, ℕ, ◌+◌, ◌*◌, ◌/◌, ◌%◌, ◌^◌, List, subst, ap, ◌∙◌, sym}
use Rattle.std.specs.Int.{w64, to_be_bytes}
use Rattle.part_text.specs.Output.{Wrote}
use Rattle.part_text.specs.PlaneBytes.{bytes_of_columns}
use Rattle.part_text.proofs.Loops.{wrote-then}
use Rattle.part_text.proofs.PlaneBytes.{bytes-more}

pub wrote-word : {O : Type 0} (given : O → List ℕ → Type 0) (a b c : O) (i Z word : ℕ) (text : List ℕ) → Wrote given a b (bytes_of_columns i Z) → word ≡ Z / 2 ^ (64 * i) % 2 ^ 64
    → text ≡ to_be_bytes w64 word → Wrote given b c text → Wrote given a c (bytes_of_columns (i + 1) Z)
wrote-word given a b c i Z word text so_far is spelled one =
    subst (λ (t : List ℕ). Wrote given a c t) (sym (bytes-more i Z))
    (wrote-then given a b c (bytes_of_columns i Z) (to_be_bytes w64 (Z / 2 ^ (64 * i) % 2 ^ 64)) so_far
    (subst (λ (t : List ℕ). Wrote given b c t) (spelled ∙ ap (to_be_bytes w64) is) one))
