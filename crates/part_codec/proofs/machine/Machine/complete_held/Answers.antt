use Rattle.std.proofs.Common.{true, ◌++◌, refl, subst, ◌∙◌, arith}
use Rattle.part_codec.specs.Remaining.{Seen}
use Rattle.part_codec.specs.Scanning.{Stands}
use Rattle.part_codec.proofs.MachineStands.{stands-fills, whole-full, settled-same, moved-from, ok-map, err-map}
use Rattle.part_codec.proofs.machine.Machine.complete_held.Goals as goal

pub returns-clause-ok : goal.returns-clause-ok
returns-clause-ok c =
    let m = c.args.self.now in
    let n = c.hold.new.self in
    let h = c.hold.ensures in
    let t = c.args.rest.now in
    ok-map c.complete.result (λ f s b st.
    let st2 = stands-fills m n s b t _ st (λ i. omega (arith, c.type_inv.rest i)) h.stays.field h.stays.kept h.stays.at h.passed h.filled refl h.held in
    subst (λ (q : Seen). Stands c.complete.new.self q (b ++ t)) (settled-same true m n s (b ++ t) h.stays.field h.stays.kept h.stays.at)
    (f s (b ++ t) st2.opens (whole-full n s (b ++ t) st2 (rw (h.stays.field, h.stays.kept) (h.passed ∙ c.requires.passed)) (rw h.stays.field (h.filled ∙ c.requires.len))))) c.complete.ensures.ok

pub returns-clause-moved : goal.returns-clause-moved
returns-clause-moved c =
    let m = c.args.self.now in
    let n = c.hold.new.self in
    let h = c.hold.ensures in
    let t = c.args.rest.now in
    ok-map c.complete.result (λ f s b st.
    let st2 = stands-fills m n s b t _ st (λ i. omega (arith, c.type_inv.rest i)) h.stays.field h.stays.kept h.stays.at h.passed h.filled refl h.held in
    moved-from true m n c.complete.new.self (b ++ t) h.stays.field h.stays.kept h.stays.at (f s (b ++ t) st2.opens (whole-full n s (b ++ t) st2 (rw (h.stays.field, h.stays.kept) (h.passed
    ∙ c.requires.passed)) (rw h.stays.field (h.filled ∙ c.requires.len))))) c.complete.ensures.moved

pub returns-clause-err : goal.returns-clause-err
returns-clause-err c =
    let m = c.args.self.now in
    let n = c.hold.new.self in
    let h = c.hold.ensures in
    let t = c.args.rest.now in
    err-map _ _ c.complete.result (λ e f s b x st.
    let st2 = stands-fills m n s b t _ st (λ i. omega (arith, c.type_inv.rest i)) h.stays.field h.stays.kept h.stays.at h.passed h.filled refl h.held in
    f s (b ++ t) x st2.opens (whole-full n s (b ++ t) st2 (rw (h.stays.field, h.stays.kept) (h.passed ∙ c.requires.passed)) (rw h.stays.field (h.filled ∙ c.requires.len)))) c.complete.ensures.err
