use Rattle.std.proofs.Common.{◌≡◌, ◌∙◌, length, take, ap, arith}
use Rattle.std.specs.Int.{w64, from_be_bytes}
use Rattle.std.proofs.lemmas.List.{length-take}
use Rattle.view_core.proofs.Keys.{stands_front, eight}
use Rattle.view_core.proofs.reading.first_eight_at.Goals as goal

pub returns-in-None-clause-value : goal.returns-in-None-clause-value
returns-in-None-clause-value c = λ key len s.
    absurd (let none = c.in-None.ensures.there (take 8 key) (omega (arith, len, length-take 8 key)) (omega arith) (stands_front c.args.bytes.now c.args.at key s) in cc)

pub returns-in-Some-clause-value : goal.returns-in-Some-clause-value
returns-in-Some-clause-value c = λ key len s.
    let wide : length (take 8 key) ≡ 8 = omega (arith, len, length-take 8 key) in
    c.from_be_bytes.ensures ∙ ap (from_be_bytes w64) (c.in-Some.ensures.text (take 8 key) wide (stands_front c.args.bytes.now c.args.at key s)) ∙ eight (take 8 key) wide

pub returns-in-Some-clause-octets : goal.returns-in-Some-clause-octets
returns-in-Some-clause-octets c = λ i. omega (arith, c.type_inv.bytes i)

pub returns-in-None-clause-octets : goal.returns-in-None-clause-octets
returns-in-None-clause-octets c = λ i. omega (arith, c.type_inv.bytes i)
