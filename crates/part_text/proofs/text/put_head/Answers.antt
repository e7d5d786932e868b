use Rattle.std.proofs.Common.{length, ℕ, List, ap, subst, ◌∙◌, rules}
use Rattle.std.specs.Prelude.{codes, flat_map, All}
use Rattle.std.specs.Int.{w8, w16, w64, to_be_bytes}
use Rattle.ident_core.specs.declared.range.Range.{Range}
use Rattle.ident_core.specs.RangeText.{range_text, RangeFits}
use Rattle.part_text.specs.Output.{Wrote}
use Rattle.part_text.specs.PartText.{head_text, kind_number}
use Rattle.ident_core.proofs.RangeTexts.{ranges-fit}
use Rattle.part_text.proofs.Loops.{wrote-seven}
use Rattle.part_text.proofs.text.put_head.Goals as goal

pub returns-clause-text : goal.returns-clause-text
unfolding head_text
returns-clause-text g c =
    let h = c.args.head.now in
    let given = g.O.Output.given in
    wrote-seven given c.args.out.now c.put.new.self c.put_u8.new.out c.put_u8-2.new.out c.put-2.new.self c.put-3.new.self c.put-4.new.self c.put_ranges.new.out
    (codes "CLUBCARD") (to_be_bytes w8 c.args.version) (to_be_bytes w8 (kind_number h.kind)) (to_be_bytes w64 h.epoch) h.parent (to_be_bytes w16 (length h.ranges)) (flat_map range_text h.ranges)
    c.in_ok-put.ensures
    c.in_ok-put_u8.ensures
    (subst (λ (n : ℕ). Wrote given c.put_u8.new.out c.put_u8-2.new.out (to_be_bytes w8 n)) (c.kind_byte.ensures ∙ ap kind_number c.kind.ensures) c.in_ok-put_u8-2.ensures)
    (subst (λ (t : List ℕ). Wrote given c.put_u8-2.new.out c.put-2.new.self t) (c.to_be_bytes.ensures ∙ ap (to_be_bytes w64) c.epoch.ensures) c.in_ok-put-2.ensures)
    (subst (λ (t : List ℕ). Wrote given c.put-2.new.self c.put-3.new.self t) (c.bytes.ensures.value ∙ c.parent.ensures) c.in_ok-put-3.ensures)
    (subst (λ (t : List ℕ). Wrote given c.put-3.new.self c.put-4.new.self t)
    (c.to_be_bytes-2.ensures ∙ ap (λ (rs : List Range). to_be_bytes w16 (length rs)) c.ranges-ranges.ensures.value) c.in_ok-put-4.ensures)
    (subst (λ (rs : List Range). Wrote given c.put-4.new.self c.put_ranges.new.out (flat_map range_text rs)) c.ranges-ranges.ensures.value c.in_ok-put_ranges.ensures.text)

pub returns-clause-fits : goal.returns-clause-fits
returns-clause-fits g c = record {
  facts = c.ranges-ranges.ensures.facts;
  epoch = search rules;
  parent = rw (← c.parent.ensures) c.bytes.ensures.len;
  ranges = ranges-fit c.args.head.now.ranges c.ranges-ranges.ensures.facts.ranges.ascending
      (subst (λ (rs : List Range). All RangeFits rs) c.ranges-ranges.ensures.value c.in_ok-put_ranges.ensures.fits);
}
