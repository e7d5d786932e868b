-- Files that are taken into memory.
use Rattle.std.proofs.Common.{◌≡◌, ℕ, ◌<◌, ◌^◌, Vec, Global, List, length, take, Option, Some, None, ap, ◌∙◌, arith}
use Rattle.std.specs.Prelude.{IfOk, Result, Ok, Err}
use Rattle.std.proofs.lemmas.List.{take_all, length-take}
use Rattle.outside_core.specs.Files.{Files}
use Rattle.input_core.specs.declared.input.InputFault.{InputFault}
use Rattle.input_core.specs.Inputs.{IsHeld}

whole-front : (bytes file : List ℕ) → length bytes < 2 ^ 64 → bytes ≡ take (2 ^ 64) file → bytes ≡ file
whole-front bytes file few is = is ∙ take_all (2 ^ 64) file (omega (arith, few, ap (λ (l : List ℕ). length l) is, length-take (2 ^ 64) file))

held-whole : (told : Option Files) (name bytes : List ℕ) → length bytes < 2 ^ 64 → IsHeld told name (λ file. bytes ≡ take (2 ^ 64) file) → IsHeld told name (λ file. bytes ≡ file)
held-whole None name bytes few held = tt
held-whole (Some files) name bytes few (file, there, is) = (file, there, whole-front bytes file few is)

-- no vector has more bytes than can be counted
pub all_of : (told : Option Files) (name : List ℕ) (r : Result (Vec ℕ Global) InputFault) → IfOk r (λ bytes. IsHeld told name (λ file. bytes.items ≡ take (2 ^ 64) file))
    → IfOk r (λ bytes. IsHeld told name (λ file. bytes.items ≡ file))
all_of told name (Ok v) held = held-whole told name v.items (omega (arith, v.small, v.ok)) held
all_of told name (Err e) held = tt
