use Rattle.std.proofs.Common.{refl, ◌∙◌}
use Rattle.std.proofs.lemmas.Result.{err_from_is_err_and}
use Rattle.ledger_core.proofs.Steps.{item-from_birth}
use Rattle.ledger_core.proofs.decode.item_of.Goals as goal

pub returns-in_err-birth : goal.returns-in_err-birth
returns-in_err-birth c =
    let p = err_from_is_err_and c.from_residual-in_err-birth.result c.from_residual-in_err-birth.ensures.1 in
    let front = item-from_birth c.args.version c.args.parts c.args.previous.now c.args.cursor.now c.issuer_of.new.cursor c.read_u8.new.cursor c.serial_of.new.cursor _ _ _
    c.in_ok-issuer.ensures c.in_ok-width.ensures.exact c.in_ok-serial.ensures in
    let same = c.in_ok-serial.ensures.1 ∙ c.in_ok-width.ensures.exact.1 ∙ c.in_ok-issuer.ensures.1 in
    rw (p.1, p.2) (rw (front, c.in_err-birth.ensures.exact.0) refl, c.in_err-birth.ensures.exact.1 ∙ same)

pub returns-in_err-last : goal.returns-in_err-last
returns-in_err-last c =
    let p = err_from_is_err_and c.from_residual-in_err-last.result c.from_residual-in_err-last.ensures.1 in
    let front = item-from_birth c.args.version c.args.parts c.args.previous.now c.args.cursor.now c.issuer_of.new.cursor c.read_u8.new.cursor c.serial_of.new.cursor _ _ _
    c.in_ok-issuer.ensures c.in_ok-width.ensures.exact c.in_ok-serial.ensures in
    let same = c.in_ok-birth.ensures.exact.1 ∙ c.in_ok-serial.ensures.1 ∙ c.in_ok-width.ensures.exact.1 ∙ c.in_ok-issuer.ensures.1 in
    let last = rw c.in_ok-birth.ensures.exact.1 at c.in_err-last.ensures.0 in
    rw (p.1, p.2) (rw (front, c.in_ok-birth.ensures.exact.0, last) refl, c.in_err-last.ensures.1 ∙ same)

pub returns-in_err-until : goal.returns-in_err-until
returns-in_err-until c =
    let p = err_from_is_err_and c.from_residual-in_err-until.result c.from_residual-in_err-until.ensures.1 in
    let front = item-from_birth c.args.version c.args.parts c.args.previous.now c.args.cursor.now c.issuer_of.new.cursor c.read_u8.new.cursor c.serial_of.new.cursor _ _ _
    c.in_ok-issuer.ensures c.in_ok-width.ensures.exact c.in_ok-serial.ensures in
    let same = c.in_ok-birth.ensures.exact.1 ∙ c.in_ok-serial.ensures.1 ∙ c.in_ok-width.ensures.exact.1 ∙ c.in_ok-issuer.ensures.1 in
    let last = rw c.in_ok-birth.ensures.exact.1 at c.in_ok-last.ensures.0 in
    let until = rw (c.in_ok-last.ensures.1 ∙ c.in_ok-birth.ensures.exact.1) at c.in_err-until.ensures.0 in
    rw (p.1, p.2) (rw (front, c.in_ok-birth.ensures.exact.0, last, until) refl, c.in_err-until.ensures.1 ∙ c.in_ok-last.ensures.1 ∙ same)

pub returns : goal.returns
returns c =
    let front = item-from_birth c.args.version c.args.parts c.args.previous.now c.args.cursor.now c.issuer_of.new.cursor c.read_u8.new.cursor c.serial_of.new.cursor _ _ _
    c.in_ok-issuer.ensures c.in_ok-width.ensures.exact c.in_ok-serial.ensures in
    let same = c.in_ok-birth.ensures.exact.1 ∙ c.in_ok-serial.ensures.1 ∙ c.in_ok-width.ensures.exact.1 ∙ c.in_ok-issuer.ensures.1 in
    let last = rw c.in_ok-birth.ensures.exact.1 at c.in_ok-last.ensures.0 in
    let until = rw (c.in_ok-last.ensures.1 ∙ c.in_ok-birth.ensures.exact.1) at c.in_ok-until.ensures.0 in
    (rw (front, c.in_ok-birth.ensures.exact.0, last, until) refl, c.in_ok-until.ensures.1 ∙ c.in_ok-last.ensures.1 ∙ same)
