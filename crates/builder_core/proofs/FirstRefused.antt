-- Only one group is the first that is refused, and then there are no blocks of all groups.
use Rattle.std.proofs.Common.{◌≡◌, ℕ, not, List, [], ◌∷◌, ◌++◌, map, drop, get_or, sym, ap, ◌∙◌, subst}
use Rattle.equation_core.specs.Rows.{Rows}
use Rattle.card_core.specs.declared.block.Block.{Block}
use Rattle.card_core.specs.Leaf.{flagged}
use Rattle.card_core.specs.Filter.{IsBlockRefused}
use Rattle.card_core.proofs.ShardLaws.{filter_refused_once}
use Rattle.card_core.proofs.FilterLaws.{refused_no_block}
use Rattle.universe_core.specs.Groups.{GroupFields}
use Rattle.builder_core.specs.declared.format.Format.{Format}
use Rattle.builder_core.specs.Building.{shift_in, AreGroupBlocks, IsGroupBlock}
use Rattle.builder_core.specs.Laws.{RefusedHasNoBlocks, OneIsFirstRefused}

module _ (format : Format) (rows : Rows) where
  abbrev IsRefusedAt : GroupFields → ℕ → Type 0
  IsRefusedAt g stage = IsBlockRefused rows (shift_in format g) g.universe g.revoked stage

  abbrev HasBlock : GroupFields → Type 0
  HasBlock g = (b : Block) × IsGroupBlock format rows g b

  no_block : (g : GroupFields) (stage : ℕ) → IsRefusedAt g stage → HasBlock g → ⊥
  no_block g stage r h = refused_no_block rows (shift_in format g) g.issuer g.universe g.revoked stage h.0 r h.1

  block_at : (xs : List GroupFields) (g : GroupFields) (ys : List GroupFields) (bs : List Block) → AreGroupBlocks format rows (xs ++ (g ∷ ys)) bs → HasBlock g
  block_at [] g ys [] a = absurd a
  block_at [] g ys (b ∷ bs) a = (b, a.0)
  block_at (x ∷ xs) g ys [] a = absurd a
  block_at (x ∷ xs) g ys (b ∷ bs) a = block_at xs g ys bs a.1

  first_block : (g : GroupFields) (gs : List GroupFields) (bs : List Block) → AreGroupBlocks format rows (g ∷ gs) bs → HasBlock g
  first_block g gs bs a = block_at [] g gs bs a

  heads : (g h : GroupFields) (gs hs : List GroupFields) → g ∷ gs ≡ h ∷ hs → g ≡ h
  heads g h gs hs e = ap (λ l. get_or l 0 g) e

  first_same : (xs ys : List GroupFields) (g h : GroupFields) (gs hs : List GroupFields) (cs ds : List Block) (s t : ℕ) → xs ++ (g ∷ gs) ≡ ys ++ (h ∷ hs)
      → AreGroupBlocks format rows xs cs → AreGroupBlocks format rows ys ds → IsRefusedAt g s → IsRefusedAt h t → g ≡ h
  first_same [] [] g h gs hs cs ds s t e a b p q = heads g h gs hs e
  first_same [] (y ∷ ys) g h gs hs cs ds s t e a b p q = absurd (no_block g s p (subst HasBlock (sym (heads g y gs (ys ++ (h ∷ hs)) e)) (first_block y ys ds b)))
  first_same (x ∷ xs) [] g h gs hs cs ds s t e a b p q = absurd (no_block h t q (subst HasBlock (heads x h (xs ++ (g ∷ gs)) hs e) (first_block x xs cs a)))
  first_same (x ∷ xs) (y ∷ ys) g h gs hs [] ds s t e a b p q = absurd a
  first_same (x ∷ xs) (y ∷ ys) g h gs hs (c ∷ cs) [] s t e a b p q = absurd b
  first_same (x ∷ xs) (y ∷ ys) g h gs hs (c ∷ cs) (d ∷ ds) s t e a b p q = first_same xs ys g h gs hs cs ds s t (ap (drop 1) e) a.1 b.1 p q

pub refused_no_blocks : RefusedHasNoBlocks
refused_no_blocks format rows groups issuer stage blocks r a =
    let all = subst (λ (gs : List GroupFields). AreGroupBlocks format rows gs blocks) r.whole a in
    no_block format rows r.group stage r.refused (block_at format rows r.before r.group r.after blocks all)

pub first_refused_once : OneIsFirstRefused
first_refused_once format rows groups issuer other_issuer stage other_stage p q =
    let same = first_same format rows p.before q.before p.group q.group p.after q.after p.blocks q.blocks stage other_stage (sym p.whole ∙ q.whole) p.built q.built p.refused q.refused in
    let moved = subst (λ (g : GroupFields). IsRefusedAt format rows g stage) same p.refused in (
      sym p.named ∙ ap (λ (g : GroupFields). g.issuer) same ∙ q.named,
      filter_refused_once rows (shift_in format q.group) (flagged q.group.universe q.group.revoked) (flagged q.group.universe (map not q.group.revoked))
          stage other_stage moved q.refused,
    )
