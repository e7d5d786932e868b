use Rattle.std.proofs.Common.{◌≡◌, ◌∙◌, ℕ, List, length, sym, ap}
use Rattle.std.specs.Ordering.{nat_cmp}
use Rattle.std.specs.Cmp.Lexicographic.{slice_cmp}
use Rattle.ident_core.proofs.Sets.{bytes_same}
use Rattle.view_core.proofs.Keys.{stands_octets, stands_all, decided, equals_itself}
use Rattle.view_core.proofs.reading.order_at.Goals as goal

pub returns-then-first-second : goal.returns-then-first-second
returns-then-first-second c = λ key len s.
    let other : List ℕ = c.bytes.result.now in
    let same = c.bytes.ensures.value in
    let wide : length other ≡ 32 = ap length same ∙ c.bytes.ensures.len in
    c.cmp.ensures
    ∙ decided key other c.first_eight_at-first.result c.first_eight_at-second.result (len ∙ sym wide)
    (stands_octets c.args.bytes.now c.args.at key c.first_eight_at-first.ensures.octets s) c.first_eight_at-second.ensures.octets
    (c.first_eight_at-first.ensures.value key len s) (c.first_eight_at-second.ensures.value other wide (stands_all other)) c.if-first-second.true
    ∙ ap (slice_cmp nat_cmp key) same

pub returns-then-eq : goal.returns-then-eq
returns-then-eq c = λ key len s.
    let read = sym (c.key_at-key.ensures key len s) in
    let same = bytes_same c.key_at-key.result c.args.other.now (sym c.eq.ensures ∙ c.if-eq.true) in
    sym (ap (λ (k : List ℕ). slice_cmp nat_cmp k c.args.other.now) (read ∙ same) ∙ equals_itself c.args.other.now)
