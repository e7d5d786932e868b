use Rattle.std.proofs.Common.{◌≡◌, ℕ, List, length, refl, sym, ap, ◌∙◌, arith}
use Rattle.equation_core.proofs.Messages.{identity-is}
use Rattle.equation_core.proofs.message.put_identity.Goals as goal

pub returns : goal.returns
returns c =
    let issuer : c.copy_from_slice.new.self ≡ c.args.id.now.issuer = c.copy_from_slice.ensures.after ∙ c.bytes.ensures.value in
    let serial : c.copy_from_slice-2.new.self ≡ c.args.id.now.serial = c.copy_from_slice-2.ensures.after ∙ c.bytes-serial.ensures.value in
    let width : length c.bytes-serial.result.now ≡ length c.args.id.now.serial = ap (λ (l : List ℕ). length l) c.bytes-serial.ensures.value in
    identity-is c.args.message.now c.copy_from_slice.new.self c.copy_from_slice-2.new.self c.args.at _ (length c.bytes-serial.result.now)
    (ap (λ (l : List ℕ). length l) issuer ∙ c.bytes.ensures.len) (omega arith) c.requires _ (length c.args.id.now.serial) (ap (λ (l : List ℕ). length l) (sym serial))
    ∙ rw (issuer, serial, width) refl
