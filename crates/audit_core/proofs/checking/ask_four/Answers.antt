use Rattle.std.proofs.Common.{◌≡◌, ◌∙◌, ◌+◌, List, map, slice_index_or, sym, ap, refl}
use Rattle.ledger_core.specs.LedgerFields.{part_fields}
use Rattle.card_core.specs.declared.verdict.Verdict.{Verdict}
use Rattle.audit_core.specs.Checking.{listing}
use Rattle.audit_core.specs.Fours.{agreement_at}
use Rattle.audit_core.proofs.Fours.{agreed}
use Rattle.audit_core.proofs.checking.ask_four.Goals as goal

pub returns : goal.returns
returns c =
    let parts = map (λ s. s.part) c.args.store.now in
    let of = agreement_at parts (listing c.args.ledger.now (part_fields c.args.part.now)) c.args.entries.now in
    let said = c.parts_say_of_four.ensures in
    let a_is : c.agreement_on.result ≡ of c.args.at = c.agreement_on.ensures
    ∙ agreed c.args.store.now c.told_at-a.result c.inquiry_of.result _ c.inquiry_of.ensures (ap (λ (l : List Verdict). slice_index_or l 0 _) said) ∙ sym (c.told_at-a.ensures parts) in
    let b_is : c.agreement_on-2.result ≡ of (c.args.at + 1) = c.agreement_on-2.ensures
    ∙ agreed c.args.store.now c.told_at-b.result c.inquiry_of-2.result _ c.inquiry_of-2.ensures (ap (λ (l : List Verdict). slice_index_or l 1 _) said) ∙ sym (c.told_at-b.ensures parts) in
    let c_is : c.agreement_on-3.result ≡ of (c.args.at + 2) = c.agreement_on-3.ensures
    ∙ agreed c.args.store.now c.told_at-c.result c.inquiry_of-3.result _ c.inquiry_of-3.ensures (ap (λ (l : List Verdict). slice_index_or l 2 _) said) ∙ sym (c.told_at-c.ensures parts) in
    let d_is : c.agreement_on-4.result ≡ of (c.args.at + 3) = c.agreement_on-4.ensures
    ∙ agreed c.args.store.now c.told_at-d.result c.inquiry_of-4.result _ c.inquiry_of-4.ensures (ap (λ (l : List Verdict). slice_index_or l 3 _) said) ∙ sym (c.told_at-d.ensures parts) in
    rw (a_is, b_is, c_is, d_is) refl
