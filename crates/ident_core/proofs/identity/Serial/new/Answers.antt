use Rattle.std.proofs.Common.{◌≡◌, ℕ, ◌-◌, ◌≤◌, List, ◌++◌, length, drop, replicate, refl, ap, ◌∙◌, arith}
use Rattle.std.proofs.lemmas.List.{drop_at, length-append, length-replicate, drop-replicate}
use Rattle.ident_core.specs.SerialFields.{IsSerial}
use Rattle.ident_core.proofs.identity.Serial.new.Goals as goal

-- octets over the front of zeros
padded : (octets front zeros : List ℕ) → zeros ≡ replicate 32 0 → front ≡ octets → 1 ≤ length octets → length octets ≤ 32 → IsSerial (length octets) (front ++ drop (length octets) zeros)
padded octets front zeros z e some few =
    let tail : drop (length octets) zeros ≡ replicate (32 - length octets) 0 = rw z (drop-replicate (length octets) 32 0) in
    let len : length (drop (length octets) zeros) ≡ 32 - length octets = rw tail (length-replicate (32 - length octets) 0) in
    record {
      some = some;
      few = few;
      whole = omega (arith, length-append front (drop (length octets) zeros), ap length e, len);
      padding = drop_at front (drop (length octets) zeros) (length octets) (ap length e) ∙ tail;
    }

pub invariant_of-result : goal.invariant_of-result
invariant_of-result c =
    padded c.args.octets.now c.copy_from_slice.new.self _ refl c.copy_from_slice.ensures.after (omega (arith, c.if-len-eq0.false)) c.if-len-gt-MAX_SERIAL.false
